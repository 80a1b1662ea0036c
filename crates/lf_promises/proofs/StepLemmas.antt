-- Each number of steps that is enough reads the same promise.
use Rattle.std.proofs.Common.{◌≡◌, ℕ, zero, suc, ◌+◌, ◌<◌, ◌≤◌, Bool, true, false, List, [], ◌∷◌, ◌++◌, length}
use Rattle.std.proofs.Common.{codes, Option, Some, None, refl, sym, ap, ◌∙◌, arith}
use Rattle.std.specs.Prelude.{if◌then◌else◌, nat_lt}
use Rattle.std.specs.Str.{bytes_eq}
use Rattle.std.proofs.lemmas.Option.{none-some}
use Rattle.lf_rules.specs.declared.expr.Leaf.TheVariants as leaves
use Rattle.lf_rules.specs.Terms as terms
use Rattle.lf_rules.specs.Terms.{Term}
use Rattle.lf_grammar.specs.declared.sign.Sign.{Sign}
use Rattle.lf_grammar.specs.declared.sign.Sign.TheVariants as signs
use Rattle.lf_grammar.specs.declared.token.Token.{Token}
use Rattle.lf_grammar.specs.declared.token.Token.TheVariants as tokens
use Rattle.lf_grammar.specs.Places.{Context}
use Rattle.lf_grammar.specs.Typing.{◌>>=◌, as_set}
use Rattle.lf_grammar.specs.Fronts.{behind_word, behind_sign, same_sign}
use Rattle.lf_grammar.specs.Expressions.{cases_of, first_operand, first_sum}
use Rattle.lf_rules.specs.declared.definition.Definition.{Definition}
use Rattle.lf_promises.specs.declared.fronts.Time.{Time}
use Rattle.lf_promises.specs.declared.fronts.Time.TheVariants as times
use Rattle.lf_promises.specs.declared.reading.Joint.{Joint}
use Rattle.lf_promises.specs.declared.reading.Joint.TheVariants as joints
use Rattle.lf_promises.specs.declared.promise.Many.{Many}
use Rattle.lf_promises.specs.declared.promise.Many.TheVariants as manys
use Rattle.lf_promises.specs.declared.promise.Promise.{Promise}
use Rattle.lf_promises.specs.Fronts.{Found, found, behind_time, behind_many, behind_at_most_one, behind_one_value, first_node, first_named, first_fact}
use Rattle.lf_promises.specs.Fronts.{fact_of, opposite}
use Rattle.lf_promises.specs.Units.{set_of, first_group, first_nodes, first_down, first_at, first_shown, first_unit}
use Rattle.lf_promises.specs.Units.{asking, sized, truth_by, first_value, first_key, first_guard, topic_in, first_one}
use Rattle.lf_promises.specs.Promises.{Next, Joined, Part, More, Whole, Round, Timed, behind_joint, of_parts, at_times, read, depth_of, steps}
use Rattle.lf_grammar.proofs.Laws.{operand-shorter, sum-shorter}

-- ---- what stands before a step

abbrev value_or : {A : Type 0} → A → Option A → A
value_or a None = a
value_or a (Some x) = x

some-same : {A : Type 0} {a b : A} → Some a ≡ Some b → a ≡ b
some-same {a = a} e = ap (value_or a) e

step-inv : {A B : Type 0} {y : B} (o : Option A) (next : A → Option B) → (o >>= next) ≡ Some y → (x : A) × (o ≡ Some x) × (next x ≡ Some y)
step-inv None next e = absurd (none-some _ e)
step-inv (Some x) next e = (x, refl, e)

-- one way or the other, by whether something is there
cases-go : {A B G : Type 0} {y : B} (o : Option A) (absent : Option B) (present : A → Option B) → cases_of o absent present ≡ Some y
    → (o ≡ None → absent ≡ Some y → G) → ((x : A) → o ≡ Some x → present x ≡ Some y → G) → G
cases-go None absent present e none some = none refl e
cases-go (Some x) absent present e none some = some x refl e

sign-shorter : {rest : List Token} (wanted : Sign) (ts : List Token) → behind_sign wanted ts ≡ Some rest → length rest + 1 ≡ length ts
sign-shorter wanted [] e = absurd (none-some _ e)
sign-shorter wanted (tokens.Number n ∷ ts) e = absurd (none-some _ e)
sign-shorter wanted (tokens.Word word ∷ ts) e = absurd (none-some _ e)
sign-shorter {rest = rest} wanted (tokens.Sign sign ∷ ts) e = go (same_sign sign wanted) e
  where
    go : (so : Bool) → (if so then Some ts else None) ≡ Some rest → length rest + 1 ≡ suc (length ts)
    go true f = rw (sym (some-same f)) (omega arith)
    go false f = absurd (none-some _ f)

word-shorter : {rest : List Token} (wanted : List ℕ) (ts : List Token) → behind_word wanted ts ≡ Some rest → length rest + 1 ≡ length ts
word-shorter wanted [] e = absurd (none-some _ e)
word-shorter wanted (tokens.Number n ∷ ts) e = absurd (none-some _ e)
word-shorter wanted (tokens.Sign sign ∷ ts) e = absurd (none-some _ e)
word-shorter {rest = rest} wanted (tokens.Word word ∷ ts) e = go (bytes_eq word wanted) e
  where
    go : (so : Bool) → (if so then Some ts else None) ≡ Some rest → length rest + 1 ≡ suc (length ts)
    go true f = rw (sym (some-same f)) (omega arith)
    go false f = absurd (none-some _ f)

-- two steps are the same, where they go on alike
step-same : {A B : Type 0} {o p : Option A} {f g : A → Option B} → o ≡ p → ((x : A) → p ≡ Some x → f x ≡ g x) → (o >>= f) ≡ (p >>= g)
step-same {A} {B} {o} {p} {f} {g} e h = ap (λ o. o >>= f) e ∙ go p h
  where
    go : (q : Option A) → ((x : A) → q ≡ Some x → f x ≡ g x) → (q >>= f) ≡ (q >>= g)
    go None k = refl
    go (Some x) k = k x refl

cases-same : {A B : Type 0} (o : Option A) {a b : Option B} {f g : A → Option B} → (o ≡ None → a ≡ b) → ((x : A) → o ≡ Some x → f x ≡ g x)
    → cases_of o a f ≡ cases_of o b g
cases-same None none some = none refl
cases-same (Some x) none some = some x refl

-- ---- what is left is no longer

module _ {A : Type 0} {x : Found A} where
  rest-found : (a : A) (rest : List Token) → found a rest ≡ Some x → length x.rest ≤ length rest
  rest-found a rest e = rw (sym (some-same e)) (omega arith)

joint-shorter : {rest : List Token} (joint : Joint) (ts : List Token) → behind_joint joint ts ≡ Some rest → length rest + 1 ≡ length ts
unfolding behind_joint
joint-shorter joints.Or ts e = word-shorter (codes "or") ts e
joint-shorter joints.And ts e = word-shorter (codes "and") ts e

time-shorter : {x : Found Time} (ts : List Token) → behind_time ts ≡ Some x → length x.rest + 1 ≤ length ts
unfolding behind_time
time-shorter ts e =
    cases-go (behind_word (codes "always") ts) (behind_word (codes "ever") ts >>= λ after. found times.Ever after) (λ after. found times.Always after) e
    (λ none f. let i = step-inv (behind_word (codes "ever") ts) (λ after. found times.Ever after) f in
    omega (arith, word-shorter (codes "ever") ts i.1, rest-found times.Ever i.0 i.2))
    (λ after is f. omega (arith, word-shorter (codes "always") ts is, rest-found times.Always after f))

at-most-shorter : {rest : List Token} (ts : List Token) → behind_at_most_one ts ≡ Some rest → length rest ≤ length ts
unfolding behind_at_most_one
at-most-shorter ts e =
    let i = step-inv (behind_word (codes "at") ts) (λ most. behind_word (codes "most") most >>= λ single. behind_word (codes "one") single) e in
    let j = step-inv (behind_word (codes "most") i.0) (λ single. behind_word (codes "one") single) i.2 in
    omega (arith, word-shorter (codes "at") ts i.1, word-shorter (codes "most") i.0 j.1, word-shorter (codes "one") j.0 j.2)

many-shorter : {x : Found Many} (ts : List Token) → behind_many ts ≡ Some x → length x.rest ≤ length ts
unfolding behind_many
many-shorter ts e =
    cases-go (behind_word (codes "each") ts)
    (cases_of (behind_word (codes "no") ts)
    (cases_of (behind_word (codes "some") ts)
    (behind_at_most_one ts >>= λ after. found manys.AtMostOne after)
    (λ after. found manys.Some after))
    (λ after. found manys.No after))
    (λ after. found manys.Each after) e
    (λ none f. cases-go (behind_word (codes "no") ts)
    (cases_of (behind_word (codes "some") ts)
    (behind_at_most_one ts >>= λ after. found manys.AtMostOne after)
    (λ after. found manys.Some after))
    (λ after. found manys.No after) f
    (λ none g. cases-go (behind_word (codes "some") ts)
    (behind_at_most_one ts >>= λ after. found manys.AtMostOne after)
    (λ after. found manys.Some after) g
    (λ none h. let i = step-inv (behind_at_most_one ts) (λ after. found manys.AtMostOne after) h in
    omega (arith, at-most-shorter ts i.1, rest-found manys.AtMostOne i.0 i.2))
    (λ after is h. omega (arith, word-shorter (codes "some") ts is, rest-found manys.Some after h)))
    (λ after is g. omega (arith, word-shorter (codes "no") ts is, rest-found manys.No after g)))
    (λ after is f. omega (arith, word-shorter (codes "each") ts is, rest-found manys.Each after f))

one-value-shorter : {rest : List Token} (ts : List Token) → behind_one_value ts ≡ Some rest → length rest ≤ length ts
unfolding behind_one_value
one-value-shorter ts e =
    let i = step-inv (behind_word (codes "one") ts) (λ after. behind_word (codes "value") after) e in
    omega (arith, word-shorter (codes "one") ts i.1, word-shorter (codes "value") i.0 i.2)

node-shorter : {x : Found ℕ} (ts : List Token) → first_node ts ≡ Some x → length x.rest ≤ length ts
unfolding first_node
node-shorter [] e = absurd (none-some _ e)
node-shorter (tokens.Word word ∷ ts) e = absurd (none-some _ e)
node-shorter (tokens.Sign sign ∷ ts) e = absurd (none-some _ e)
node-shorter {x = x} (tokens.Number n ∷ ts) e = go (nat_lt n 8) e
  where
    go : (so : Bool) → (if so then found n ts else None) ≡ Some x → length x.rest ≤ suc (length ts)
    go true f = omega (arith, rest-found n ts f)
    go false f = absurd (none-some _ f)

module _ (d : Definition) where
  named-shorter : (ts : List Token) → {x : Found _} → first_named d ts ≡ Some x → length x.rest ≤ length ts
  unfolding first_named
  named-shorter [] e = absurd (none-some _ e)
  named-shorter (tokens.Number n ∷ ts) e = absurd (none-some _ e)
  named-shorter (tokens.Sign sign ∷ ts) e = absurd (none-some _ e)
  named-shorter (tokens.Word word ∷ ts) e =
      let i = step-inv (fact_of d word) (λ fact. found fact ts) e in omega (arith, rest-found i.0 ts i.2)

  fact-shorter : (ts : List Token) → {x : Found _} → first_fact d ts ≡ Some x → length x.rest ≤ length ts
  unfolding first_fact
  fact-shorter ts e =
      cases-go (behind_word (codes "not") ts) (first_named d ts) (λ after. first_named d after >>= λ x. found (opposite x.value) x.rest) e
      (λ none f. named-shorter ts f)
      (λ after is f. let i = step-inv (first_named d after) (λ x. found (opposite x.value) x.rest) f in
      omega (arith, word-shorter (codes "not") ts is, named-shorter after i.1, rest-found (opposite i.0.value) i.0.rest i.2))

module _ (at : Context) where
  group-shorter : (ts : List Token) → {x : Found (Option Term)} → first_group at ts ≡ Some x → length x.rest ≤ length ts
  unfolding first_group
  group-shorter ts e =
      cases-go (behind_word (codes "of") ts) (found None ts)
      (λ after. first_sum at after >>= λ x. as_set x.said >>= λ a. set_of a >>= λ set. found (Some set) x.rest) e
      (λ none f. rest-found None ts f)
      (λ after is f.
      let i = step-inv (first_sum at after) (λ x. as_set x.said >>= λ a. set_of a >>= λ set. found (Some set) x.rest) f in
      let j = step-inv (as_set i.0.said) (λ a. set_of a >>= λ set. found (Some set) i.0.rest) i.2 in
      let k = step-inv (set_of j.0) (λ set. found (Some set) i.0.rest) j.2 in
      omega (arith, word-shorter (codes "of") ts is, sum-shorter at after i.0 i.1, rest-found (Some k.0) i.0.rest k.2))

  nodes-shorter : (many : Many) (ts : List Token) (x : Found Promise) → first_nodes at many ts ≡ Some x → length x.rest ≤ length ts
  unfolding first_nodes
  nodes-shorter many ts x e =
      let i = step-inv (first_fact at.definition ts) _ e in
      let j = step-inv (first_group at i.0.rest) _ i.2 in
      omega (arith, fact-shorter at.definition ts i.1, group-shorter i.0.rest j.1, rest-found _ j.0.rest j.2)

  down-shorter : (ts : List Token) (x : Found Promise) → first_down ts ≡ Some x → length x.rest ≤ length ts
  unfolding first_down
  down-shorter ts x e = let i = step-inv (first_node ts) _ e in omega (arith, node-shorter ts i.1, rest-found _ i.0.rest i.2)

  at-shorter : (ts : List Token) (x : Found Promise) → first_at at ts ≡ Some x → length x.rest ≤ length ts
  unfolding first_at
  at-shorter ts x e =
      let i = step-inv (first_fact at.definition ts) _ e in
      let j = step-inv (behind_word (codes "at") i.0.rest) _ i.2 in
      let k = step-inv (first_node j.0) _ j.2 in
      omega (arith, fact-shorter at.definition ts i.1, word-shorter (codes "at") i.0.rest j.1, node-shorter j.0 k.1, rest-found _ k.0.rest k.2)

  shown-shorter : (ts : List Token) (x : Found Promise) → first_shown at ts ≡ Some x → length x.rest ≤ length ts
  unfolding first_shown
  shown-shorter ts x e =
      cases-go (behind_many ts) (cases_of (behind_word (codes "down") ts) (first_at at ts) (λ after. first_down after)) (λ y. first_nodes at y.value y.rest) e
      (λ none f. cases-go (behind_word (codes "down") ts) (first_at at ts) (λ after. first_down after) f
      (λ none g. at-shorter ts x g)
      (λ after is g. omega (arith, word-shorter (codes "down") ts is, down-shorter after x g)))
      (λ y is f. omega (arith, many-shorter ts is, nodes-shorter y.value y.rest x f))

  value-shorter : (ts : List Token) → {x : Found Term} → first_value at ts ≡ Some x → length x.rest ≤ length ts
  unfolding first_value
  value-shorter ts e =
      let i = step-inv (first_operand at ts) (λ x. sized x.said.term >>= λ term. found term x.rest) e in
      let j = step-inv (sized i.0.said.term) (λ term. found term i.0.rest) i.2 in
      omega (arith, operand-shorter at ts i.0 i.1, rest-found j.0 i.0.rest j.2)

  key-shorter : (ts : List Token) → {x : Found Term} → first_key at ts ≡ Some x → length x.rest ≤ length ts
  unfolding first_key
  key-shorter ts e =
      cases-go (behind_word (codes "per") ts) (found (terms.Leaf (leaves.Number 0)) ts) (λ after. first_value at after) e
      (λ none f. rest-found (terms.Leaf (leaves.Number 0)) ts f)
      (λ after is f. omega (arith, word-shorter (codes "per") ts is, value-shorter after f))

  guard-shorter : (ts : List Token) → {x : Found Term} → first_guard at ts ≡ Some x → length x.rest ≤ length ts
  unfolding first_guard
  guard-shorter ts e =
      cases-go (behind_word (codes "where") ts) (found (terms.Leaf (leaves.Truth true)) ts)
      (λ after. first_operand at after >>= λ x. truth_by x.said.sort x.said.term >>= λ term. found term x.rest) e
      (λ none f. rest-found (terms.Leaf (leaves.Truth true)) ts f)
      (λ after is f.
      let i = step-inv (first_operand at after) (λ x. truth_by x.said.sort x.said.term >>= λ term. found term x.rest) f in
      let j = step-inv (truth_by i.0.said.sort i.0.said.term) (λ term. found term i.0.rest) i.2 in
      omega (arith, word-shorter (codes "where") ts is, operand-shorter at after i.0 i.1, rest-found j.0 i.0.rest j.2))

  topic-shorter : (ts : List Token) (x : Found Promise) → topic_in at ts ≡ Some x → length x.rest ≤ length ts
  unfolding topic_in
  topic-shorter ts x e =
      let i = step-inv (first_value at ts) _ e in
      let j = step-inv (first_key at i.0.rest) _ i.2 in
      let k = step-inv (first_guard at j.0.rest) _ j.2 in
      omega (arith, value-shorter ts i.1, key-shorter i.0.rest j.1, guard-shorter j.0.rest k.1, rest-found _ k.0.rest k.2)

one-shorter : (at : Context) (timed : Bool) (ts : List Token) (x : Found Promise) → first_one at timed ts ≡ Some x → length x.rest ≤ length ts
one-shorter at true ts x e = absurd (none-some _ e)
one-shorter at false ts x e =
    let i = step-inv (behind_word (codes "of") ts) (λ after. topic_in (asking at) after) e in
    omega (arith, word-shorter (codes "of") ts i.1, topic-shorter (asking at) i.0 x i.2)

module _ (at : Context) where
  unit-shorter : (timed : Bool) (ts : List Token) (x : Found Promise) → first_unit at timed ts ≡ Some x → length x.rest ≤ length ts
  unfolding first_unit
  unit-shorter timed ts x e =
      cases-go (behind_one_value ts) (first_shown at ts) (λ after. first_one at timed after) e
      (λ none f. shown-shorter at ts x f)
      (λ after is f. omega (arith, one-value-shorter ts is, one-shorter at timed after x f))

  promise-shorter : (n : ℕ) (timed : Bool) (next : Next) (ts : List Token) (x : Found Promise) → read at n timed next ts ≡ Some x
      → length x.rest ≤ length ts
  unfolding read
  promise-shorter zero timed next ts x e = absurd (none-some _ e)
  promise-shorter (suc n) timed (Joined joint) ts x e =
      let i = step-inv (read at n timed (Part joint) ts) _ e in
      cases-go (behind_joint joint i.0.rest) (found i.0.value i.0.rest) (λ after. read at n timed (More joint (i.0.value ∷ [])) after) i.2
      (λ none f. omega (arith, promise-shorter n timed (Part joint) ts i.0 i.1, rest-found i.0.value i.0.rest f))
      (λ after is f. omega (
        arith,
        promise-shorter n timed (Part joint) ts i.0 i.1,
        joint-shorter joint i.0.rest is,
        promise-shorter n timed (More joint (i.0.value ∷ [])) after x f,
      ))
  promise-shorter (suc n) timed (Part joints.Or) ts x e = promise-shorter n timed (Joined joints.And) ts x e
  promise-shorter (suc n) timed (Part joints.And) ts x e = promise-shorter n timed Whole ts x e
  promise-shorter (suc n) timed (More joint parts) ts x e =
      let i = step-inv (read at n timed (Part joint) ts) _ e in
      cases-go (behind_joint joint i.0.rest) (found (of_parts joint (parts ++ i.0.value ∷ [])) i.0.rest)
      (λ after. read at n timed (More joint (parts ++ i.0.value ∷ [])) after) i.2
      (λ none f. omega (arith, promise-shorter n timed (Part joint) ts i.0 i.1, rest-found (of_parts joint (parts ++ i.0.value ∷ [])) i.0.rest f))
      (λ after is f. omega (
        arith,
        promise-shorter n timed (Part joint) ts i.0 i.1,
        joint-shorter joint i.0.rest is,
        promise-shorter n timed (More joint (parts ++ i.0.value ∷ [])) after x f,
      ))
  promise-shorter (suc n) timed Whole ts x e =
      cases-go (behind_sign signs.OpenRound ts)
      (cases_of (behind_time ts) (first_unit at timed ts) (λ y. read at n timed (Timed y.value) y.rest)) (λ after. read at n timed Round after) e
      (λ none f. cases-go (behind_time ts) (first_unit at timed ts) (λ y. read at n timed (Timed y.value) y.rest) f
      (λ none g. unit-shorter timed ts x g)
      (λ y is g. omega (arith, time-shorter ts is, promise-shorter n timed (Timed y.value) y.rest x g)))
      (λ after is f. omega (arith, sign-shorter signs.OpenRound ts is, promise-shorter n timed Round after x f))
  promise-shorter (suc n) timed Round ts x e =
      let i = step-inv (read at n timed (Joined joints.Or) ts) _ e in
      let j = step-inv (behind_sign signs.CloseRound i.0.rest) _ i.2 in
      omega (arith, promise-shorter n timed (Joined joints.Or) ts i.0 i.1, sign-shorter signs.CloseRound i.0.rest j.1, rest-found i.0.value j.0 j.2)
  promise-shorter (suc n) true (Timed time) ts x e = absurd (none-some _ e)
  promise-shorter (suc n) false (Timed time) ts x e =
      let i = step-inv (read at n true Whole ts) _ e in
      omega (arith, promise-shorter n true Whole ts i.0 i.1, rest-found (at_times time i.0.value) i.0.rest i.2)

  -- ---- steps that are enough

  depth-low : (joint : Joint) → 2 ≤ depth_of joint
  depth-low joints.Or = omega arith
  depth-low joints.And = omega arith

  depth-high : (joint : Joint) → depth_of joint ≤ 4
  depth-high joints.Or = omega arith
  depth-high joints.And = omega arith

  one-more : (n : ℕ) (timed : Bool) (next : Next) (ts : List Token) → steps next ts < n → read at (suc n) timed next ts ≡ read at n timed next ts
  unfolding read
  one-more zero timed next ts h = absurd (omega (arith, h))
  one-more (suc n) timed (Joined joint) ts h =
      step-same (one-more n timed (Part joint) ts (omega (arith, h)))
      (λ x is. cases-same (behind_joint joint x.rest) (λ none. refl)
      (λ after joins. one-more n timed (More joint (x.value ∷ [])) after
      (omega (arith, h, depth-high joint, promise-shorter n timed (Part joint) ts x is, joint-shorter joint x.rest joins))))
  one-more (suc n) timed (Part joints.Or) ts h = one-more n timed (Joined joints.And) ts (omega (arith, h))
  one-more (suc n) timed (Part joints.And) ts h = one-more n timed Whole ts (omega (arith, h))
  one-more (suc n) timed (More joint parts) ts h =
      step-same (one-more n timed (Part joint) ts (omega (arith, h)))
      (λ x is. cases-same (behind_joint joint x.rest) (λ none. refl)
      (λ after joins. one-more n timed (More joint (parts ++ x.value ∷ [])) after
      (omega (arith, h, depth-high joint, promise-shorter n timed (Part joint) ts x is, joint-shorter joint x.rest joins))))
  one-more (suc n) timed Whole ts h =
      cases-same (behind_sign signs.OpenRound ts)
      (λ none. cases-same (behind_time ts) (λ none. refl)
      (λ x is. one-more n timed (Timed x.value) x.rest (omega (arith, h, time-shorter ts is))))
      (λ after is. one-more n timed Round after (omega (arith, h, sign-shorter signs.OpenRound ts is)))
  one-more (suc n) timed Round ts h = step-same (one-more n timed (Joined joints.Or) ts (omega (arith, h))) (λ x is. refl)
  one-more (suc n) true (Timed time) ts h = refl
  one-more (suc n) false (Timed time) ts h = step-same (one-more n true Whole ts (omega (arith, h))) (λ x is. refl)

  many-more : (k n : ℕ) (timed : Bool) (next : Next) (ts : List Token) → steps next ts < n → read at (k + n) timed next ts ≡ read at n timed next ts
  many-more zero n timed next ts h = let none : zero + n ≡ n = omega arith in ap (λ m. read at m timed next ts) none
  many-more (suc k) n timed next ts h =
      let one : suc k + n ≡ suc (k + n) = omega arith in
      ap (λ m. read at m timed next ts) one ∙ one-more (k + n) timed next ts (omega (arith, h)) ∙ many-more k n timed next ts h

  -- each number of steps that is enough reads the same promise
  pub promise-same : (m n : ℕ) (timed : Bool) (next : Next) (ts : List Token) → steps next ts < m → steps next ts < n
      → read at m timed next ts ≡ read at n timed next ts
  promise-same m n timed next ts g h =
      let turned : n + m ≡ m + n = omega arith in
      sym (many-more n m timed next ts g) ∙ ap (λ k. read at k timed next ts) turned ∙ many-more m n timed next ts h
