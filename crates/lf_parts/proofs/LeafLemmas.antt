-- The leaves of a promise, by what the promise is.
use Rattle.std.proofs.Common.{◌≡◌, ◌⊎◌, ℕ, List, [], ◌∷◌, ◌++◌, Option, length, append-nil, refl, sym, ap, ◌∙◌, map, inl, inr}
use Rattle.std.specs.List.{flat_map}
use Rattle.lf_rules.specs.Terms.{Term}
use Rattle.lf_rules.specs.declared.topic.Topic.{Topic}
use Rattle.lf_rule_machine.specs.declared.fact.Fact.{Fact}
use Rattle.lf_promises.specs.declared.promise.Many.{Many}
use Rattle.lf_promises.specs.declared.promise.Promise.{Promise, fold-roll-Promise}
use Rattle.lf_promises.specs.declared.promise.Promise.TheVariants.{rolls-All, rolls-Any, rolls-Always, rolls-Ever, rolls-Nodes, rolls-Down, rolls-At, rolls-One}
use Rattle.lf_promises.specs.declared.promise.Promise.TheVariants as promises
use Rattle.lf_promises.specs.declared.promise.Promise.TheOpen.{Promise-F}
use Rattle.lf_parts.specs.declared.leaf.Leaf.{Leaf}
use Rattle.lf_parts.specs.declared.leaf.Leaf.TheVariants as kinds
use Rattle.lf_parts.specs.Leaves.{leaves_step, leaves}

flat-of : {X : Type 0} (f : X → List Leaf) (xs : List X) → flat_map (λ ys. ys) (map f xs) ≡ flat_map f xs
flat-of f [] = refl
flat-of f (x ∷ xs) = ap (λ ys. f x ++ ys) (flat-of f xs)

pub leaves-All : (parts : List Promise) → leaves (promises.All parts) ≡ flat_map leaves parts
leaves-All parts =
    ap leaves (sym (rolls-All parts)) ∙ fold-roll-Promise (List Leaf) leaves_step (Promise-F.All parts) ∙ flat-of leaves parts

pub leaves-Any : (parts : List Promise) → leaves (promises.Any parts) ≡ flat_map leaves parts
leaves-Any parts =
    ap leaves (sym (rolls-Any parts)) ∙ fold-roll-Promise (List Leaf) leaves_step (Promise-F.Any parts) ∙ flat-of leaves parts

pub leaves-Always : (parts : List Promise) → leaves (promises.Always parts) ≡ flat_map leaves parts
leaves-Always parts =
    ap leaves (sym (rolls-Always parts)) ∙ fold-roll-Promise (List Leaf) leaves_step (Promise-F.Always parts) ∙ flat-of leaves parts

pub leaves-Ever : (parts : List Promise) → leaves (promises.Ever parts) ≡ flat_map leaves parts
leaves-Ever parts =
    ap leaves (sym (rolls-Ever parts)) ∙ fold-roll-Promise (List Leaf) leaves_step (Promise-F.Ever parts) ∙ flat-of leaves parts

pub leaves-Nodes : (many : Many) (fact : Fact) (of : Option Term) → leaves (promises.Nodes many fact of) ≡ kinds.Nodes many fact of ∷ []
leaves-Nodes many fact of =
    ap leaves (sym (rolls-Nodes many fact of)) ∙ fold-roll-Promise (List Leaf) leaves_step (Promise-F.Nodes many fact of)

pub leaves-Down : (n : ℕ) → leaves (promises.Down n) ≡ []
leaves-Down n = ap leaves (sym (rolls-Down n)) ∙ fold-roll-Promise (List Leaf) leaves_step (Promise-F.Down n)

pub leaves-At : (n : ℕ) (fact : Fact) → leaves (promises.At n fact) ≡ kinds.At n fact ∷ []
leaves-At n fact = ap leaves (sym (rolls-At n fact)) ∙ fold-roll-Promise (List Leaf) leaves_step (Promise-F.At n fact)

pub leaves-One : (topic : Topic) → leaves (promises.One topic) ≡ kinds.One topic ∷ []
leaves-One topic = ap leaves (sym (rolls-One topic)) ∙ fold-roll-Promise (List Leaf) leaves_step (Promise-F.One topic)

-- of a promise with parts
pub leaves-parts : (p : Promise) (parts : List Promise)
    → (p ≡ promises.All parts) ⊎ ((p ≡ promises.Any parts) ⊎ ((p ≡ promises.Always parts) ⊎ (p ≡ promises.Ever parts)))
    → leaves p ≡ flat_map leaves parts
leaves-parts p parts (inl is) = ap leaves is ∙ leaves-All parts
leaves-parts p parts (inr (inl is)) = ap leaves is ∙ leaves-Any parts
leaves-parts p parts (inr (inr (inl is))) = ap leaves is ∙ leaves-Always parts
leaves-parts p parts (inr (inr (inr is))) = ap leaves is ∙ leaves-Ever parts

-- of one all of whose parts have been gone through
pub leaves-seen : (p : Promise) (parts seen rest : List Promise)
    → (p ≡ promises.All parts) ⊎ ((p ≡ promises.Any parts) ⊎ ((p ≡ promises.Always parts) ⊎ (p ≡ promises.Ever parts)))
    → seen ++ rest ≡ parts → length rest ≡ 0 → flat_map leaves seen ≡ leaves p
leaves-seen p parts seen [] is whole none =
    let same : seen ≡ parts = sym (append-nil seen) ∙ whole in
    ap (flat_map leaves) same ∙ sym (leaves-parts p parts is)
leaves-seen p parts seen (x ∷ xs) is whole none = absurd cc
