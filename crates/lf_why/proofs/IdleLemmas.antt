-- Nodes that do nothing stay as they start, and are up where others are.
use Rattle.std.proofs.Common.{◌≡◌, ◌↔◌, ℕ, zero, suc, ◌+◌, ◌<◌, ◌≤◌, ◌&&◌, ◌||◌, ◌==◌, Bool, true, false, not, List, [], ◌∷◌, map, min, refl, sym, ap, subst, ◌∙◌, add-one}
use Rattle.std.proofs.Common.{arith}
use Rattle.std.specs.Prelude.{Option, None, Some, if◌then◌else◌}
use Rattle.std.specs.List.{flat_map, list_all, list_any, range_with_len}
use Rattle.std.proofs.lemmas.Bool.{eq-eqb, eqb-true}
use Rattle.std.proofs.lemmas.List.Folds.{list_all-append, list_all-map, list_any-append}
use Rattle.lf_list.proofs.Laws.{none-in}
use Rattle.lf_outcome.specs.declared.formula.Formula.{Formula}
use Rattle.lf_outcome.specs.declared.formula.Formula.TheVariants as kind
use Rattle.lf_outcome.specs.Entries.{IsUpAt, NoTwoDiffer}
use Rattle.lf_outcome.specs.Truth.{agree, is_down, is_shown, is_single, reaches, truth}
use Rattle.lf_outcome.specs.Unfolding.{joined, later, steps, unfold_at}
use Rattle.lf_outcome.proofs.Laws.{plain-unfolded, unfold-All, unfold-Any, unfold-Down, unfold-One, unfold-Over, unfold-Shows, unfolded-plain}
use Rattle.lf_sim.specs.declared.entry.Entry.{Entry}
use Rattle.lf_sim.specs.Runs.{World, is_up, view}
use Rattle.lf_sim.proofs.Laws.{before_step-awake, did-down, did-up, did-zero, IsRunning-up, up-IsRunning}
use Rattle.lf_why.specs.Idle.{begun, begun_agree, both_agree, idle_world}
use Rattle.lf_why.proofs.Below.{each, every}

module _ {State Note Fact : Type 0} (w : World State Note Fact) (n : ℕ) where
  abbrev idle_view : ℕ → State
  idle_view = view (idle_world w) [] n

  goes_on : (t : ℕ) (up : Bool) → is_up (idle_world w) [] n (t + 1) ≡ up → idle_view (t + 1) ≡ idle_view t
  goes_on t true is = ap (λ done. done.state) (did-up (idle_world w) [] n t is) ∙ before_step-awake (idle_world w) [] n (t + 1) (idle_view t) refl
  goes_on t false is = ap (λ done. done.state) (did-down (idle_world w) [] n t is)

  pub idle_stays : (t : ℕ) → idle_view t ≡ w.rules.start n
  idle_stays zero = ap (λ done. done.state) (did-zero (idle_world w) [] n)
  idle_stays (suc t) = ap idle_view (sym (add-one t)) ∙ goes_on t (is_up (idle_world w) [] n (t + 1)) refl ∙ idle_stays t

  pub idle_up : (t : ℕ) → is_up w [] n t ≡ is_up (idle_world w) [] n t
  unfolding is_up
  idle_up t = refl

  -- up at some step, it is up at step 1
  pub idle_first : (t : ℕ) → is_up (idle_world w) [] n t ≡ true → is_up w [] n 1 ≡ true
  idle_first t up =
      let runs = IsRunning-up (idle_world w) [] n t up in
      let begins = runs.first in
      let ends = runs.last in
      up-IsRunning w [] n 1 (record {
        node = runs.node;
        first = omega arith;
        last = omega (arith, begins, ends);
        crashes = λ s early crashed. none-in _ crashed;
        pauses = λ s early within paused. none-in _ paused;
      })

agree-then : (e f : Entry) → agree e f ≡ true → e.key ≡ f.key → e.value ≡ f.value
agree-then e f h same = eqb-true e.value f.value (subst (λ b. (not b || (e.value == f.value)) ≡ true) (eq-eqb e.key f.key same) h)

by_test : (a b : Bool) → (a ≡ true → b ≡ true) → (not a || b) ≡ true
by_test true b h = h refl
by_test false b h = refl

agree-from : (e f : Entry) → (e.key ≡ f.key → e.value ≡ f.value) → agree e f ≡ true
agree-from e f h = by_test (e.key == f.key) (e.value == f.value) (λ same. eq-eqb e.value f.value (h (eqb-true e.key f.key same)))

some-if : (b : Bool) (o : Option Entry) (e : Entry) → (if b then o else None) ≡ Some e → (b ≡ true) × (o ≡ Some e)
some-if true o e is = (refl, is)
some-if false o e is = absurd cc

iff : (a b : Bool) → (a ≡ true → b ≡ true) → (b ≡ true → a ≡ true) → a ≡ b
iff true b to from = sym (to refl)
iff false true to from = from refl
iff false false to from = refl

-- of so many nodes, what is entered is what their starts enter
module _ {State Note Fact : Type 0} (w : World State Note Fact) (nodes last topic few : ℕ) (is_few : few ≡ min nodes w.rules.nodes) where
  abbrev pub starts : Bool
  starts = list_all (λ n. list_all (begun_agree w topic n) (range_with_len 0 few)) (range_with_len 0 few)

  abbrev Single : Type 0
  Single = NoTwoDiffer (idle_world w) [] nodes last topic

  begun-at : (n t : ℕ) (e : Entry) → is_up (idle_world w) [] n t ≡ true → w.rules.entry n (view (idle_world w) [] n t) topic ≡ Some e
      → begun w topic n ≡ Some e
  begun-at n t e up is =
      ap (λ b. if b then w.rules.entry n (w.rules.start n) topic else None) (idle_first w n t up)
      ∙ ap (λ v. w.rules.entry n v topic) (sym (idle_stays w n t)) ∙ is

  is_below : (n t : ℕ) → n < nodes → is_up (idle_world w) [] n t ≡ true → n < few
  is_below n t within up = let node = (IsRunning-up (idle_world w) [] n t up).node in omega (arith, is_few, within, node)

  starts-then : starts ≡ true → Single
  starts-then h n m t u e f here there is_e is_f =
      let row = each (λ k. list_all (begun_agree w topic k) (range_with_len 0 few)) few h n (is_below n t here.node here.up) in
      let both = each (begun_agree w topic n) few row m (is_below m u there.node there.up) in
      agree-then e f (sym (ap (λ o. both_agree o (begun w topic m)) (begun-at n t e here.up is_e) ∙ ap (both_agree (Some e)) (begun-at m u f there.up is_f))
      ∙ both)

  module _ (some : 1 ≤ last) (h : Single) where
    at-first : (n : ℕ) → n < few → is_up w [] n 1 ≡ true → IsUpAt (idle_world w) [] nodes last topic n 1
    at-first n below up = record {
      node = omega (arith, is_few, below);
      first = omega arith;
      within = some;
      up = sym (idle_up w n 1) ∙ up;
    }

    pair : (n m : ℕ) → n < few → m < few → (o p : Option Entry) → begun w topic n ≡ o → begun w topic m ≡ p → both_agree o p ≡ true
    pair n m in_n in_m (Some e) (Some f) is_e is_f =
        let one = some-if (is_up w [] n 1) (w.rules.entry n (w.rules.start n) topic) e is_e in
        let other = some-if (is_up w [] m 1) (w.rules.entry m (w.rules.start m) topic) f is_f in
        agree-from e f (h n m 1 1 e f (at-first n in_n one.0) (at-first m in_m other.0) (ap (λ v. w.rules.entry n v topic) (idle_stays w n 1) ∙ one.1)
        (ap (λ v. w.rules.entry m v topic) (idle_stays w m 1) ∙ other.1))
    pair n m in_n in_m (Some e) None is_e is_f = refl
    pair n m in_n in_m None p is_e is_f = refl

    starts-from : starts ≡ true
    starts-from =
        every (λ k. list_all (begun_agree w topic k) (range_with_len 0 few)) few (λ n in_n.
        every (begun_agree w topic n) few (λ m in_m. pair n m in_n in_m (begun w topic n) (begun w topic m) refl refl))

  pub starts_are : 1 ≤ last → (is_single (idle_world w) [] nodes last topic ≡ true) ↔ Single → starts ≡ is_single (idle_world w) [] nodes last topic
  starts_are some law =
      iff starts (is_single (idle_world w) [] nodes last topic) (λ h. law.1 (starts-then h)) (λ h. starts-from some (law.0 h))

pub some_step : (t : ℕ) → (t ≡ 0 → ⊥) → 1 ≤ t
some_step zero e = absurd (e refl)
some_step (suc t) e = omega arith

list_any-map : {X Y : Type 0} (p : X → Bool) (h : Y → X) (ys : List Y) → list_any p (map h ys) ≡ list_any (λ y. p (h y)) ys
list_any-map p h [] = refl
list_any-map p h (y ∷ ys) = ap (λ b. p (h y) || b) (list_any-map p h ys)

-- the promise in that world, by the kinds of formulas, where the law of the kinds is known
module _ {State Note Fact : Type 0} (w : World State Note Fact) where
  abbrev pub kept : Formula Fact → Bool
  kept = reaches (idle_world w) []

  -- what the formula says where its steps are counted from the step k
  abbrev pub kept_at : ℕ → Formula Fact → Bool
  kept_at k f = kept (unfold_at f k)

  -- the parts, as they are unfolded
  abbrev pub parts_at : ℕ → List (Formula Fact) → List (Formula Fact)
  parts_at k parts = map (λ part. unfold_at part k) parts

  abbrev pub parts_over : ℕ → ℕ → ℕ → List (Formula Fact) → List (Formula Fact)
  parts_over k first last parts = flat_map (λ t. parts_at (later k t) parts) (steps first last)

  pub kept_first : (f : Formula Fact) (b : Bool) → b ≡ kept_at 0 f → b ≡ kept f
  kept_first f b h =
      h ∙ ap (truth (is_down (idle_world w) []) (is_shown (idle_world w) []) (is_single (idle_world w) []))
      (unfolded-plain (unfold_at f 0) (plain-unfolded f 0))

  all-over : (k : ℕ) (parts : List (Formula Fact)) (ts : List ℕ)
      → list_all kept (flat_map (λ t. parts_at (later k t) parts) ts) ≡ list_all (λ t. list_all (kept_at (later k t)) parts) ts
  all-over k parts [] = refl
  all-over k parts (t ∷ ts) =
      let here = parts_at (later k t) parts in
      let rest = flat_map (λ u. parts_at (later k u) parts) ts in
      list_all-append kept here rest ∙ ap (λ b. b && list_all kept rest) (list_all-map kept (λ part. unfold_at part (later k t)) parts)
      ∙ ap (λ b. list_all (kept_at (later k t)) parts && b) (all-over k parts ts)

  any-over : (k : ℕ) (parts : List (Formula Fact)) (ts : List ℕ)
      → list_any kept (flat_map (λ t. parts_at (later k t) parts) ts) ≡ list_any (λ t. list_any (kept_at (later k t)) parts) ts
  any-over k parts [] = refl
  any-over k parts (t ∷ ts) =
      let here = parts_at (later k t) parts in
      let rest = flat_map (λ u. parts_at (later k u) parts) ts in
      list_any-append kept here rest ∙ ap (λ b. b || list_any kept rest) (list_any-map kept (λ part. unfold_at part (later k t)) parts)
      ∙ ap (λ b. list_any (kept_at (later k t)) parts || b) (any-over k parts ts)

  module _ (f : Formula Fact) (k : ℕ) (parts xs : List (Formula Fact)) (b : Bool) where
    pub kept_all : kept (kind.All (parts_at k parts)) ≡ list_all kept (parts_at k parts) → f ≡ kind.All parts → xs ≡ parts
        → b ≡ list_all (kept_at k) xs → b ≡ kept_at k f
    kept_all law is read h =
        h ∙ ap (list_all (kept_at k)) read ∙ sym (list_all-map kept (λ part. unfold_at part k) parts) ∙ sym law
        ∙ sym (ap kept (ap (λ (g : Formula Fact). unfold_at g k) is ∙ unfold-All parts k))

    pub kept_any : kept (kind.Any (parts_at k parts)) ≡ list_any kept (parts_at k parts) → f ≡ kind.Any parts → xs ≡ parts
        → b ≡ list_any (kept_at k) xs → b ≡ kept_at k f
    kept_any law is read h =
        h ∙ ap (list_any (kept_at k)) read ∙ sym (list_any-map kept (λ part. unfold_at part k) parts) ∙ sym law
        ∙ sym (ap kept (ap (λ (g : Formula Fact). unfold_at g k) is ∙ unfold-Any parts k))

    module _ (every : Bool) (first last : ℕ) (is : f ≡ kind.Over every first last parts) (read : xs ≡ parts) where
      abbrev over : List (Formula Fact)
      over = parts_over k first last parts

      unfolds : unfold_at f k ≡ joined every over
      unfolds = ap (λ (g : Formula Fact). unfold_at g k) is ∙ unfold-Over every first last parts k

      pub kept_every : every ≡ true → kept (kind.All over) ≡ list_all kept over
          → b ≡ list_all (λ t. list_all (kept_at (later k t)) xs) (steps first last) → b ≡ kept_at k f
      kept_every so law h =
          h ∙ ap (λ fs. list_all (λ t. list_all (kept_at (later k t)) fs) (steps first last)) read
          ∙ sym (all-over k parts (steps first last)) ∙ sym law ∙ sym (ap kept (unfolds ∙ ap (λ c. joined c over) so))

      pub kept_some : every ≡ false → kept (kind.Any over) ≡ list_any kept over
          → b ≡ list_any (λ t. list_any (kept_at (later k t)) xs) (steps first last) → b ≡ kept_at k f
      kept_some so law h =
          h ∙ ap (λ fs. list_any (λ t. list_any (kept_at (later k t)) fs) (steps first last)) read
          ∙ sym (any-over k parts (steps first last)) ∙ sym law ∙ sym (ap kept (unfolds ∙ ap (λ c. joined c over) so))

  module _ (f : Formula Fact) (k n s t : ℕ) (at : t ≡ later k s) where
    pub kept_down : (up : Bool) → kept (kind.Down n t) ≡ not (is_up (idle_world w) [] n t) → f ≡ kind.Down n s
        → up ≡ is_up w [] n t → not up ≡ kept_at k f
    kept_down up law is runs =
        ap not (runs ∙ idle_up w n t) ∙ sym law
        ∙ sym (ap kept (ap (λ (g : Formula Fact). unfold_at g k) is ∙ unfold-Down n s k ∙ ap (kind.Down n) (sym at)))

    module _ (fact : Fact) (up : Bool)
        (law : kept (kind.Shows n t fact) ≡ (is_up (idle_world w) [] n t && w.rules.shows n (view (idle_world w) [] n t) fact))
        (is : f ≡ kind.Shows n s fact) (runs : up ≡ is_up w [] n t) where
      says : kept (kind.Shows n t fact) ≡ kept_at k f
      says = sym (ap kept (ap (λ (g : Formula Fact). unfold_at g k) is ∙ unfold-Shows n s fact k ∙ ap (λ u. kind.Shows n u fact) (sym at)))

      pub kept_shown : (shown : Bool) (start : State) → up ≡ true → start ≡ w.rules.start n → shown ≡ w.rules.shows n start fact
          → shown ≡ kept_at k f
      kept_shown shown start on begins shows =
          shows ∙ ap (λ s. w.rules.shows n s fact) (begins ∙ sym (idle_stays w n t))
          ∙ ap (λ b. b && w.rules.shows n (view (idle_world w) [] n t) fact) (sym on ∙ runs ∙ idle_up w n t) ∙ sym law ∙ says

      pub kept_off : up ≡ false → false ≡ kept_at k f
      kept_off off =
          ap (λ b. b && w.rules.shows n (view (idle_world w) [] n t) fact) (sym off ∙ runs ∙ idle_up w n t) ∙ sym law ∙ says

  pub kept_one : (f : Formula Fact) (k nodes last topic : ℕ) (b : Bool)
      → kept (kind.One nodes last topic) ≡ is_single (idle_world w) [] nodes last topic
      → f ≡ kind.One nodes last topic → b ≡ is_single (idle_world w) [] nodes last topic → b ≡ kept_at k f
  kept_one f k nodes last topic b law is h =
      h ∙ sym law ∙ sym (ap kept (ap (λ (g : Formula Fact). unfold_at g k) is ∙ unfold-One nodes last topic k))
