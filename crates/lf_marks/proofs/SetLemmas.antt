-- What places tell after a write.
use Rattle.std.proofs.Common.{◌≡◌, ◌≢◌, ℕ, zero, suc, ◌+◌, ◌<◌, ◌≤◌, refl, sym, ap, ◌∙◌, arith, cond, Option, Some, None, List, [], ◌∷◌, ◌++◌, length, get_or}
use Rattle.std.proofs.Common.{slice_set, inl, inr}
use Rattle.std.specs.List.{slice_get}
use Rattle.std.proofs.lemmas.Bool.{cases_eq, cases_lt, cond-true, cond-false, eq-eqb, ne_eqb}
use Rattle.std.specs.Prelude.{◌==◌}
use Rattle.std.proofs.lemmas.Option.{slice_get_read, slice_get_past}
use Rattle.lf_marks.specs.Steps.{Mark}
use Rattle.lf_marks.specs.Steps as mark
use Rattle.lf_marks.specs.declared.set.State.TheVariants as state
use Rattle.lf_marks.specs.Arena.{look, spot_of, mark_in, first_in, taken_in}
use Rattle.lf_marks.specs.Walks.{Spot, IsRemarked, IsWidened, IsGrownBy, width}
use Rattle.lf_marks.specs.declared.set.Set.{Set}
use Rattle.lf_marks.specs.declared.set.State.{State}

pub slice_get-set_same : {X : Type 0} (xs : List X) (i : ℕ) (x : X) → i < length xs → slice_get (slice_set xs i x) i ≡ Some x
slice_get-set_same [] i x h = absurd (omega (arith, h))
slice_get-set_same (y ∷ ys) zero x h = refl
slice_get-set_same (y ∷ ys) (suc i) x h = slice_get-set_same ys i x (omega (arith, h))

pub slice_get-set_other : {X : Type 0} (xs : List X) (i j : ℕ) (x : X) → j ≢ i → slice_get (slice_set xs i x) j ≡ slice_get xs j
slice_get-set_other [] i j x h = refl
slice_get-set_other (y ∷ ys) zero zero x h = absurd (h refl)
slice_get-set_other (y ∷ ys) zero (suc j) x h = refl
slice_get-set_other (y ∷ ys) (suc i) zero x h = refl
slice_get-set_other (y ∷ ys) (suc i) (suc j) x h = slice_get-set_other ys i j x (λ e. h (ap suc e))

pub slice_get-push_last : {X : Type 0} (xs : List X) (x : X) → slice_get (xs ++ x ∷ []) (length xs) ≡ Some x
slice_get-push_last [] x = refl
slice_get-push_last (y ∷ ys) x = slice_get-push_last ys x

pub slice_get-push_other : {X : Type 0} (xs : List X) (x : X) (j : ℕ) → j ≢ length xs → slice_get (xs ++ x ∷ []) j ≡ slice_get xs j
slice_get-push_other [] x zero h = absurd (h refl)
slice_get-push_other [] x (suc j) h = refl
slice_get-push_other (y ∷ ys) x zero h = refl
slice_get-push_other (y ∷ ys) x (suc j) h = slice_get-push_other ys x j (λ e. h (ap suc e))

-- a write of a set
pub put-same : (sets : List Set) (x : ℕ) (t : Set) → x < length sets → look (slice_set sets x t) x ≡ spot_of (Some t)
put-same sets x t few = ap spot_of (slice_get-set_same sets x t few)

pub put-other : (sets : List Set) (x : ℕ) (t : Set) (y : ℕ) → y ≢ x → look (slice_set sets x t) y ≡ look sets y
put-other sets x t y other = ap spot_of (slice_get-set_other sets x y t other)

pub read-is : (sets : List Set) (x : ℕ) (s : Set) → x < length sets → s ≡ get_or sets x s → look sets x ≡ spot_of (Some s)
read-is sets x s few read = ap spot_of (slice_get_read sets (length sets) x s refl few read)

-- a part of what places tell that a write leaves as it was
through : {A : Type 0} (f : Spot → A) (sets : List Set) (x : ℕ) (t : Set) → f (look (slice_set sets x t) x) ≡ f (look sets x)
    → (y : ℕ) → f (look (slice_set sets x t) y) ≡ f (look sets y)
through f sets x t e y = elim (cases_eq y x) [
  | inl same ↦ ap (λ z. f (look (slice_set sets x t) z)) same ∙ e ∙ ap (λ z. f (look sets z)) (sym same)
  | inr other ↦ ap f (put-other sets x t y other)
]

-- a write of a state
pub remarked-put : (sets : List Set) (x : ℕ) (s : Set) (st : State) → x < length sets → s ≡ get_or sets x s
    → (look sets x).first ≡ first_in st → (look sets x).taken ≡ taken_in st
    → IsRemarked (look sets) (look (slice_set sets x (record s { state = st }))) x (mark_in st)
remarked-put sets x s st few read first taken =
    let t : Set = record s { state = st } in
    let here : look (slice_set sets x t) x ≡ spot_of (Some t) = put-same sets x t few in
    let was : look sets x ≡ spot_of (Some s) = read-is sets x s few read in record {
      parents = through (λ p. p.parent) sets x t (ap (λ (p : Spot). p.parent) here ∙ ap (λ (p : Spot). p.parent) (sym was));
      kids = through (λ p. p.kid) sets x t (ap (λ (p : Spot). p.kid) here ∙ ap (λ (p : Spot). p.kid) (sym was));
      depths = through (λ p. p.depth) sets x t (ap (λ (p : Spot). p.depth) here ∙ ap (λ (p : Spot). p.depth) (sym was));
      firsts = through (λ p. p.first) sets x t (ap (λ (p : Spot). p.first) here ∙ sym first);
      takens = through (λ p. p.taken) sets x t (ap (λ (p : Spot). p.taken) here ∙ sym taken);
      is = ap (λ (p : Spot). p.mark) here;
      others = λ y other. ap (λ (p : Spot). p.mark) (put-other sets x t y other);
    }

-- past the end no set stands
pub look-past : (sets : List Set) (x : ℕ) → length sets ≤ x → look sets x ≡ spot_of None
look-past sets x far = ap spot_of (slice_get_past sets x far)

-- so a place with kids is within
pub wide-within : (sets : List Set) (x : ℕ) → (look sets x).taken < width (look sets x) → x < length sets
wide-within sets x more = elim (cases_lt x (length sets)) [
  | inl few ↦ few
  | inr far ↦ let e = look-past sets x far in let never : ⊥ = omega (arith, more, ap width e, ap (λ (s : Spot). s.taken) e) in absurd never
]

-- of an open or a claimed set no kid was taken
pub claimed-kids : (t : ℕ) (o : Option Set) → (spot_of o).mark ≡ Some (mark.Claimed t) → ((spot_of o).first ≡ 0) × ((spot_of o).taken ≡ 0)
claimed-kids t None h = absurd cc
claimed-kids t (Some s) h = of_state s.state h
  where
    of_state : (st : State) → Some (mark_in st) ≡ Some (mark.Claimed t) → (first_in st ≡ 0) × (taken_in st ≡ 0)
    of_state state.Open h = (refl, refl)
    of_state (state.Claimed u) h = (refl, refl)
    of_state state.Misses h = (refl, refl)
    of_state state.Reaches h = (refl, refl)
    of_state (state.Branch b) h = absurd cc

pub open-kids : (o : Option Set) → (spot_of o).mark ≡ Some mark.Open → ((spot_of o).first ≡ 0) × ((spot_of o).taken ≡ 0)
open-kids None h = absurd cc
open-kids (Some s) h = of_state s.state h
  where
    of_state : (st : State) → Some (mark_in st) ≡ Some mark.Open → (first_in st ≡ 0) × (taken_in st ≡ 0)
    of_state state.Open h = (refl, refl)
    of_state (state.Claimed u) h = (refl, refl)
    of_state state.Misses h = (refl, refl)
    of_state state.Reaches h = (refl, refl)
    of_state (state.Branch b) h = absurd cc

-- one more kid at the end, after its branch was widened
pub grown-by : (old wide : List Set) (x t kid depth : ℕ) → IsWidened (look old) (look wide) x (length old) → length wide ≡ length old → x < length old
    → kid ≡ (look old x).taken → depth ≡ (look old x).depth + 1
    → (0 < (look old x).taken → (look old x).first + (look old x).taken ≡ length old)
    → IsGrownBy (look old) (look (wide ++ (record { parent = x; kid = kid; depth = depth; state = state.Claimed t }) ∷ [])) (length old) x t
grown-by old wide x t kid depth w long within kid_is depth_is last =
    let k : Set = record { parent = x; kid = kid; depth = depth; state = state.Claimed t } in
    let here : look (wide ++ k ∷ []) x ≡ look wide x = ap spot_of (slice_get-push_other wide k x
    (λ e. let never : ⊥ = omega (arith, e, within, long) in never)) in
    let first : (look (wide ++ k ∷ []) x).first ≡ cond ((look old x).taken == 0) (length old) (look old x).first =
    ap (λ (p : Spot). p.first) here ∙ ap (λ (p : Spot). p.first) w.grown in record {
      others = λ y other apart. ap spot_of (slice_get-push_other wide k y (λ e. apart (e ∙ long))) ∙ w.others y other;
      same = λ some. first ∙ cond-false ((look old x).taken == 0) (length old) (look old x).first
          (ne_eqb (look old x).taken 0 (λ e. let never : ⊥ = omega (arith, e, some) in never));
      place = elim (cases_eq (look old x).taken 0) [
        | inl none ↦ omega (arith, none, first, cond-true ((look old x).taken == 0) (length old) (look old x).first (eq-eqb (look old x).taken 0 none))
        | inr some ↦ omega (
          arith,
          first,
          cond-false ((look old x).taken == 0) (length old) (look old x).first (ne_eqb (look old x).taken 0 some),
          last (omega (arith, some)),
        )
      ];
      grown = here ∙ w.grown ∙ ap (λ f. widened (look old x) f) (sym first);
      kid = ap (look (wide ++ k ∷ [])) (sym long) ∙ ap spot_of (slice_get-push_last wide k)
          ∙ ap (λ i. told x i depth t) kid_is ∙ ap (λ d. told x (look old x).taken d t) depth_is;
    }
  where
    widened : Spot → ℕ → Spot
    widened p f = record p { first = f; taken = p.taken + 1 }

    told : ℕ → ℕ → ℕ → ℕ → Spot
    told p i d t = record { parent = p; kid = i; depth = d; first = 0; taken = 0; mark = Some (mark.Claimed t) }
