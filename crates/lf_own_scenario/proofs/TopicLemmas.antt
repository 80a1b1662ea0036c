-- The topics of a promise, by what the promise is.
use Rattle.std.proofs.Common.{◌≡◌, ◌⊎◌, ℕ, zero, suc, ◌+◌, ◌<◌, ◌≤◌, List, [], ◌∷◌, ◌++◌, length, length-append, refl, sym, ap, ◌∙◌, map, take, inl, inr, arith}
use Rattle.std.proofs.lemmas.List.{take_more}
use Rattle.std.specs.Prelude.{Option, get_or}
use Rattle.std.specs.List.{flat_map}
use Rattle.lf_rules.specs.Terms.{Term}
use Rattle.lf_rules.specs.declared.topic.Topic.{Topic}
use Rattle.lf_rule_machine.specs.declared.fact.Fact.{Fact as Told}
use Rattle.lf_promises.specs.declared.promise.Many.{Many}
use Rattle.lf_promises.specs.declared.promise.Promise.{Promise, fold-roll-Promise}
use Rattle.lf_promises.specs.declared.promise.Promise.TheVariants.{rolls-All, rolls-Any, rolls-Always, rolls-Ever, rolls-Nodes, rolls-Down, rolls-At, rolls-One}
use Rattle.lf_promises.specs.declared.promise.Promise.TheVariants as promises
use Rattle.lf_promises.specs.declared.promise.Promise.TheOpen.{Promise-F}
use Rattle.lf_own_scenario.specs.Topics.{topics_step, topics_in, count_topics, count_all}

flat-of : {X : Type 0} (f : X → List Topic) (xs : List X) → flat_map (λ ts. ts) (map f xs) ≡ flat_map f xs
flat-of f [] = refl
flat-of f (x ∷ xs) = ap (λ ts. f x ++ ts) (flat-of f xs)

pub topics-All : (parts : List Promise) → topics_in (promises.All parts) ≡ flat_map topics_in parts
topics-All parts =
    ap topics_in (sym (rolls-All parts)) ∙ fold-roll-Promise (List Topic) topics_step (Promise-F.All parts) ∙ flat-of topics_in parts

pub topics-Any : (parts : List Promise) → topics_in (promises.Any parts) ≡ flat_map topics_in parts
topics-Any parts =
    ap topics_in (sym (rolls-Any parts)) ∙ fold-roll-Promise (List Topic) topics_step (Promise-F.Any parts) ∙ flat-of topics_in parts

pub topics-Always : (parts : List Promise) → topics_in (promises.Always parts) ≡ flat_map topics_in parts
topics-Always parts =
    ap topics_in (sym (rolls-Always parts)) ∙ fold-roll-Promise (List Topic) topics_step (Promise-F.Always parts) ∙ flat-of topics_in parts

pub topics-Ever : (parts : List Promise) → topics_in (promises.Ever parts) ≡ flat_map topics_in parts
topics-Ever parts =
    ap topics_in (sym (rolls-Ever parts)) ∙ fold-roll-Promise (List Topic) topics_step (Promise-F.Ever parts) ∙ flat-of topics_in parts

pub topics-Nodes : (many : Many) (fact : Told) (of : Option Term) → topics_in (promises.Nodes many fact of) ≡ []
topics-Nodes many fact of =
    ap topics_in (sym (rolls-Nodes many fact of)) ∙ fold-roll-Promise (List Topic) topics_step (Promise-F.Nodes many fact of)

pub topics-Down : (n : ℕ) → topics_in (promises.Down n) ≡ []
topics-Down n = ap topics_in (sym (rolls-Down n)) ∙ fold-roll-Promise (List Topic) topics_step (Promise-F.Down n)

pub topics-At : (n : ℕ) (fact : Told) → topics_in (promises.At n fact) ≡ []
topics-At n fact = ap topics_in (sym (rolls-At n fact)) ∙ fold-roll-Promise (List Topic) topics_step (Promise-F.At n fact)

pub topics-One : (topic : Topic) → topics_in (promises.One topic) ≡ topic ∷ []
topics-One topic = ap topics_in (sym (rolls-One topic)) ∙ fold-roll-Promise (List Topic) topics_step (Promise-F.One topic)

-- of a promise with parts
pub topics-parts : (p : Promise) (parts : List Promise)
    → (p ≡ promises.All parts) ⊎ ((p ≡ promises.Any parts) ⊎ ((p ≡ promises.Always parts) ⊎ (p ≡ promises.Ever parts)))
    → topics_in p ≡ flat_map topics_in parts
topics-parts p parts (inl is) = ap topics_in is ∙ topics-All parts
topics-parts p parts (inr (inl is)) = ap topics_in is ∙ topics-Any parts
topics-parts p parts (inr (inr (inl is))) = ap topics_in is ∙ topics-Always parts
topics-parts p parts (inr (inr (inr is))) = ap topics_in is ∙ topics-Ever parts

-- of one that has none
pub topics-none : (p : Promise)
    → ((many : Many) × (fact : Told) × (of : Option Term) × (p ≡ promises.Nodes many fact of))
    ⊎ (((n : ℕ) × (p ≡ promises.Down n)) ⊎ ((n : ℕ) × (fact : Told) × (p ≡ promises.At n fact)))
    → topics_in p ≡ []
topics-none p (inl found) = ap topics_in found.3 ∙ topics-Nodes found.0 found.1 found.2
topics-none p (inr (inl found)) = ap topics_in found.1 ∙ topics-Down found.0
topics-none p (inr (inr found)) = ap topics_in found.2 ∙ topics-At found.0 found.1

pub count-more : (parts : List Promise) (p : Promise) → count_all (parts ++ p ∷ []) ≡ count_all parts + count_topics p
count-more [] p = length-append (topics_in p) [] ∙ omega arith
count-more (x ∷ xs) p =
    omega (
      arith,
      length-append (topics_in x) (flat_map topics_in (xs ++ p ∷ [])),
      length-append (topics_in x) (flat_map topics_in xs),
      count-more xs p,
    )

count-taken : (parts : List Promise) (k : ℕ) → count_all (take k parts) ≤ count_all parts
count-taken parts zero = omega arith
count-taken [] (suc k) = omega arith
count-taken (x ∷ xs) (suc k) =
    omega (
      arith,
      length-append (topics_in x) (flat_map topics_in (take k xs)),
      length-append (topics_in x) (flat_map topics_in xs),
      count-taken xs k,
    )

-- parts in turn, as a loop takes them
module _ (parts : List Promise) (i : ℕ) (part : Promise) (there : i < length parts) (is : part ≡ get_or parts i part) where
  pub taken : take (i + 1) parts ≡ take i parts ++ part ∷ []
  taken = take_more parts i part there ∙ ap (λ x. take i parts ++ x ∷ []) (sym is)

  pub count-on : count_all (take (i + 1) parts) ≡ count_all (take i parts) + count_topics part
  count-on = ap count_all taken ∙ count-more (take i parts) part

  pub count-within : count_all (take i parts) + count_topics part ≤ count_all parts
  count-within = omega (arith, count-on, count-taken parts (i + 1))
