-- The sets that are marked to miss, by their paths.
use mathlib.Core.Logic.{∥∥₁_elim}
use Rattle.std.proofs.Math.Nat.{ℕ_set}
use Rattle.std.proofs.Common.{◌≡◌, ◌≢◌, ℕ, zero, suc, ◌+◌, ◌<◌, ◌≤◌, List, [], ◌∷◌, ◌++◌, take, length, get_or, refl, sym, ap, ◌∙◌, subst}
use Rattle.std.proofs.Common.{arith, inl, inr, map, IsSome, is_some, take_all, Vec, Global}
use Rattle.std.specs.Prelude.{◌↔◌, Option, None, Some}
use Rattle.std.specs.Option.{option_map}
use Rattle.std.specs.List.{Contains}
use Rattle.std.proofs.lemmas.Bool.{cases_lt}
use Rattle.std.proofs.lemmas.List.{map_more, map_push, get_or-map, length-map}
use Rattle.std.proofs.lemmas.List.Elements.{Contains-get_or}
use Rattle.std.proofs.lemmas.Option.{same_Some}
use Rattle.lf_faults.specs.declared.fault.Parts.{Parts}
use Rattle.lf_faults.specs.declared.spec.Bounds.{Bounds}
use Rattle.lf_sim.specs.Runs.{World}
use Rattle.lf_outcome.specs.declared.formula.Formula.{Formula}
use Rattle.lf_list.proofs.Laws.{none-in, Contains-first, Contains-more, cases_in, each-in}
use Rattle.lf_marks.specs.Counting.{AreThose, IsApart}
use Rattle.lf_marks.specs.Steps.{Mark, Marking}
use Rattle.lf_marks.specs.Steps as mark
use Rattle.lf_certificate.specs.Closed.{IsClosed, MissesAt}
use Rattle.lf_certificate.specs.States.{State}
use Rattle.lf_certificate.specs.Tasks.{Task, task_at}
use Rattle.lf_certificate.proofs.Laws.{stands_once}
use Rattle.lf_book.specs.Finished.{AreDifferent}

-- the set that a path leads to
abbrev pub set_at : Marking → List ℕ → Option (List Parts)
set_at at path = option_map (λ (t : Task). t.faults) (task_at at path)

task_by : (o : Option Task) (faults : List Parts) → option_map (λ (t : Task). t.faults) o ≡ Some faults → (t : Task) × (o ≡ Some t) × (t.faults ≡ faults)
task_by None faults e = absurd cc
task_by (Some t) faults e = (t, refl, same_Some t.faults faults e)

-- each path of a list leads to the set at its place in another
abbrev AreLed : Marking → List (List ℕ) → List (List Parts) → Type 0
AreLed at [] [] = Unit {0}
AreLed at [] (x ∷ xs) = ⊥
AreLed at (p ∷ ps) [] = ⊥
AreLed at (p ∷ ps) (x ∷ xs) = (set_at at p ≡ Some x) × AreLed at ps xs

module _ (at : Marking) where
  led-from_map : (ps : List (List ℕ)) (xs : List (List Parts)) → map (set_at at) ps ≡ map (λ (x : List Parts). Some x) xs → AreLed at ps xs
  led-from_map [] [] e = tt
  led-from_map [] (x ∷ xs) e = absurd cc
  led-from_map (p ∷ ps) [] e = absurd cc
  led-from_map (p ∷ ps) (x ∷ xs) e = (
    let first : set_at at p ≡ Some x = cc in first,
    led-from_map ps xs (let rest : map (set_at at) ps ≡ map (λ (x : List Parts). Some x) xs = cc in rest),
  )

  led-back : (ps : List (List ℕ)) (xs : List (List Parts)) → AreLed at ps xs → (x : List Parts) → Contains xs x
      → (p : List ℕ) × Contains ps p × (set_at at p ≡ Some x)
  led-back [] [] led x h = absurd (none-in x h)
  led-back [] (y ∷ ys) led x h = absurd led
  led-back (p ∷ ps) [] led x h = absurd led
  led-back (p ∷ ps) (y ∷ ys) led x h = elim (cases_in y ys x h) [
    | inl same ↦ (p, Contains-first p ps, led.0 ∙ ap (λ (z : List Parts). Some z) same)
    | inr later ↦ let back = led-back ps ys led.1 x later in (back.0, Contains-more p ps back.0 back.1, back.2)
  ]

  led-to : (ps : List (List ℕ)) (xs : List (List Parts)) → AreLed at ps xs → (p : List ℕ) → Contains ps p
      → (x : List Parts) × Contains xs x × (set_at at p ≡ Some x)
  led-to [] [] led p h = absurd (none-in p h)
  led-to [] (y ∷ ys) led p h = absurd led
  led-to (q ∷ qs) [] led p h = absurd led
  led-to (q ∷ qs) (y ∷ ys) led p h = elim (cases_in q qs p h) [
    | inl same ↦ (y, Contains-first y ys, ap (set_at at) (sym same) ∙ led.0)
    | inr later ↦ let to = led-to qs ys led.1 p later in (to.0, Contains-more y ys to.0 to.1, to.2)
  ]

  -- different paths lead to different sets
  abbrev IsOnce : List (List ℕ) → Type 0
  IsOnce ps = (p q : List ℕ) (x : List Parts) → Contains ps p → Contains ps q → set_at at p ≡ Some x → set_at at q ≡ Some x → p ≡ q

  different_first : (x : List Parts) (xs : List (List Parts)) → (Contains xs x → ⊥) → AreDifferent xs → AreDifferent (x ∷ xs)
  different_first x xs none different zero zero d in_i in_j same = refl
  different_first x xs none different zero (suc j) d in_i in_j same =
      absurd (none (subst (Contains xs) (sym same) (Contains-get_or xs j d (omega (arith, in_j)))))
  different_first x xs none different (suc i) zero d in_i in_j same =
      absurd (none (subst (Contains xs) same (Contains-get_or xs i d (omega (arith, in_i)))))
  different_first x xs none different (suc i) (suc j) d in_i in_j same =
      ap suc (different i j d (omega (arith, in_i)) (omega (arith, in_j)) same)

  none_different : AreDifferent []
  none_different i j d in_i in_j same = absurd (omega (arith, in_i))

  led-different : (ps : List (List ℕ)) (xs : List (List Parts)) → AreLed at ps xs → IsApart ps → IsOnce ps → AreDifferent xs
  led-different [] [] led apart one = none_different
  led-different [] (y ∷ ys) led apart one = absurd led
  led-different (p ∷ ps) [] led apart one = absurd led
  led-different (p ∷ ps) (y ∷ ys) led apart one =
      different_first y ys
      (λ h.
      let back = led-back ps ys led.1 y h in
      each-in (λ q. p ≢ q) ps apart.0 back.0 back.1
      (one p back.0 y (Contains-first p ps) (Contains-more p ps back.0 back.1) led.0 back.2))
      (led-different ps ys led.1 apart.1 (λ q r x h k. one q r x (Contains-more p ps q h) (Contains-more p ps r k)))

module _ {Local Note Fact : Type 0} (w : World Local Note Fact) (b : Bounds) (formula : Formula Fact) (most : ℕ) (s : State) where
  -- what misses stands on the level
  misses_level : IsClosed w b formula most s → (p : List ℕ) → s.marks p ≡ Some mark.Misses → length p ≡ s.level
  misses_level closed p is = elim (cases_lt (length p) s.level) [
    | inl above ↦ absurd (closed.branches p mark.Misses is above)
    | inr low ↦
        let deep = closed.shape.deep p (ap is_some is) in
        elim (cases_lt s.level (length p)) [
          | inr high ↦ omega (arith, low, high)
          | inl beneath ↦
              let waits : s.marks p ≡ Some mark.Waiting = closed.shape.waits p (ap is_some is) (omega (arith, deep, beneath)) in
              absurd (let never : Some mark.Misses ≡ Some mark.Waiting = sym is ∙ waits in cc)
        ]
  ]

  module _ (closed : ∥ IsClosed w b formula most s ∥₁) (ps : List (List ℕ)) (sets : List (List Parts))
      (those : AreThose (λ p. (s.marks p ≡ Some mark.Misses) × (length p ≡ s.level)) ps)
      (led : map (set_at s.marks) ps ≡ map (λ (x : List Parts). Some x) sets) where
    once : IsClosed w b formula most s → IsOnce s.marks ps
    once c p q x in_p in_q to_p to_q =
        let t = task_by (task_at s.marks p) x to_p in
        let u = task_by (task_at s.marks q) x to_q in
        stands_once w b formula most s p q t.0 u.0 c (ap is_some (those.only p in_p).0) (ap is_some (those.only q in_q).0) t.1 u.1
        (t.2 ∙ sym u.2)

    -- no set comes twice,
    pub missing_different : AreDifferent sets
    missing_different i j d in_i in_j same =
        ∥∥₁_elim closed (ℕ_set i j)
        (λ c. led-different s.marks ps sets (led-from_map s.marks ps sets led) those.apart (once c) i j d in_i in_j same)

    -- and they are those that are marked to miss
    pub missing_each : (faults : List Parts) → Contains sets faults ↔ MissesAt s.marks faults
    missing_each faults = (
      λ h.
          let back = led-back s.marks ps sets (led-from_map s.marks ps sets led) faults h in
          let t = task_by (task_at s.marks back.0) faults back.2 in
          record { path = back.0; task = t.0; misses = (those.only back.0 back.1).0; leads = t.1; same = t.2 },
      λ m.
          let level : length m.path ≡ s.level = ∥∥₁_elim closed (ℕ_set (length m.path) s.level) (λ c. misses_level c m.path m.misses) in
          let to = led-to s.marks ps sets (led-from_map s.marks ps sets led) m.path (those.all m.path (m.misses, level)) in
          let is : Some m.task.faults ≡ Some to.0 = sym (ap (option_map (λ (t : Task). t.faults)) m.leads) ∙ to.2 in
          subst (Contains sets) (sym (same_Some m.task.faults to.0 is) ∙ m.same) to.1,
    )

-- one path more
pub led-more : (at : Marking) (ps : List (List ℕ)) (sets : List (List Parts)) (i : ℕ) (p : List ℕ) (t : Task) → i < length ps → p ≡ get_or ps i p
    → map (set_at at) (take i ps) ≡ map (λ (x : List Parts). Some x) sets → task_at at p ≡ Some t
    → map (set_at at) (take (i + 1) ps) ≡ map (λ (x : List Parts). Some x) (sets ++ t.faults ∷ [])
led-more at ps sets i p t few here led leads =
    let last : set_at at (get_or ps i p) ≡ Some t.faults = ap (set_at at) (sym here) ∙ ap (option_map (λ (u : Task). u.faults)) leads in
    map_more (set_at at) ps i p few ∙ ap (λ l. l ++ set_at at (get_or ps i p) ∷ []) led
    ∙ ap (λ o. map (λ (x : List Parts). Some x) sets ++ o ∷ []) last
    ∙ sym (map_push (λ (x : List Parts). Some x) sets t.faults)

-- the paths of a list
abbrev pub items_of : List (Vec ℕ Global) → List (List ℕ)
items_of paths = map (λ (v : Vec ℕ Global). v.items) paths

pub item_is : (paths : List (Vec ℕ Global)) (i : ℕ) (v : Vec ℕ Global) → i < length paths → v ≡ get_or paths i v → get_or (items_of paths) i v.items ≡ v.items
item_is paths i v few here = get_or-map (λ (u : Vec ℕ Global). u.items) paths i v v.items few ∙ ap (λ (u : Vec ℕ Global). u.items) (sym here)

pub few_items : (paths : List (Vec ℕ Global)) (i : ℕ) → i < length paths → i < length (items_of paths)
few_items paths i few = omega (arith, few, length-map paths (λ (u : Vec ℕ Global). u.items))

pub item_stands : (at : Marking) (level : ℕ) (paths lent : List (Vec ℕ Global)) (i : ℕ) (v : Vec ℕ Global) → lent ≡ paths
    → AreThose (λ p. (at p ≡ Some mark.Misses) × (length p ≡ level)) (items_of paths) → i < length lent → v ≡ get_or lent i v → IsSome (at v.items)
item_stands at level paths lent i v same those few here =
    let among : Contains (items_of lent) v.items =
    subst (Contains (items_of lent)) (item_is lent i v few here) (Contains-get_or (items_of lent) i v.items (few_items lent i few)) in
    ap is_some (those.only v.items (subst (λ ps. Contains (items_of ps) v.items) same among)).0

pub led-whole : (at : Marking) (paths lent : List (Vec ℕ Global)) (i : ℕ) (sets : List (List Parts)) → lent ≡ paths → length lent ≤ i
    → map (set_at at) (take i (items_of lent)) ≡ map (λ (x : List Parts). Some x) sets
    → map (set_at at) (items_of paths) ≡ map (λ (x : List Parts). Some x) sets
led-whole at paths lent i sets same end led =
    let all : take i (items_of lent) ≡ items_of lent =
    take_all i (items_of lent) (omega (arith, end, length-map lent (λ (u : Vec ℕ Global). u.items))) in
    ap (λ ps. map (set_at at) (items_of ps)) (sym same) ∙ ap (map (set_at at)) (sym all) ∙ led
