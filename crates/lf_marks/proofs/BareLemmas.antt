-- The nodes of kids, until the tree of nodes is made.
use Rattle.std.proofs.Common.{◌≡◌, ℕ, ◌+◌, ◌<◌, refl, sym, ap, ◌∙◌, arith, List, [], ◌∷◌, ◌++◌, length, get_or, slice_set, inl, inr, Some}
use Rattle.std.specs.List.{slice_get}
use Rattle.std.proofs.lemmas.Bool.{cases_eq}
use Rattle.std.proofs.lemmas.Option.{slice_get_read}
use Rattle.lf_tree.specs.declared.tree.Node.{Node}
use Rattle.lf_tree.specs.declared.tree.Node.TheVariants as node
use Rattle.lf_marks.specs.Arena.{look, spot_of, taken_in}
use Rattle.lf_marks.specs.Building.{AreBare, kids_in, kids_of}
use Rattle.lf_marks.specs.Walks.{Spot}
use Rattle.lf_marks.specs.declared.set.Set.{Set}
use Rattle.lf_marks.specs.declared.set.State.{State}
use Rattle.lf_marks.specs.declared.set.State.TheVariants as state
use Rattle.lf_marks.proofs.SetLemmas.{slice_get-set_same, slice_get-set_other, slice_get-push_last, slice_get-push_other, put-same, put-other, look-past}

-- how many kids were taken is how many nodes there are
taken-kids : (st : State) → taken_in st ≡ length (kids_in st)
taken-kids state.Open = refl
taken-kids (state.Claimed t) = refl
taken-kids state.Misses = refl
taken-kids state.Reaches = refl
taken-kids (state.Branch b) = refl

-- a set without kids stands in place of another
pub bare-put : (sets : List Set) (x : ℕ) (s : Set) (st : State) → x < length sets → taken_in st ≡ 0 → AreBare sets
    → AreBare (slice_set sets x (record s { state = st }))
bare-put sets x s st few none bare y i taken = elim (cases_eq y x) [
  | inl same ↦
      let t : Set = record s { state = st } in
      let never : ⊥ = omega (
        arith,
        taken,
        ap (λ z. (look (slice_set sets x t) z).taken) same,
        ap (λ (p : Spot). p.taken) (put-same sets x t few),
        none,
      ) in absurd never
  | inr other ↦
      let t : Set = record s { state = st } in
      ap (λ o. slice_get (kids_of o) i) (slice_get-set_other sets x y t other)
      ∙ bare y i (omega (arith, taken, ap (λ (p : Spot). p.taken) (put-other sets x t y other)))
]

-- one more kid of a set was taken
pub bare-widened : (sets : List Set) (x : ℕ) (s : Set) (st : State) → x < length sets → s ≡ get_or sets x s
    → kids_in st ≡ kids_in s.state ++ node.Reaches ∷ [] → AreBare sets → AreBare (slice_set sets x (record s { state = st }))
bare-widened sets x s st few read more bare y i taken = elim (cases_eq y x) [
  | inl same ↦
      let t : Set = record s { state = st } in
      let here : slice_get sets x ≡ Some s = slice_get_read sets (length sets) x s refl few read in
      let count : (look (slice_set sets x t) y).taken ≡ length (kids_in s.state ++ node.Reaches ∷ []) =
      ap (λ z. (look (slice_set sets x t) z).taken) same ∙ ap (λ (p : Spot). p.taken) (put-same sets x t few) ∙ taken-kids st ∙ ap length more in
      ap (λ z. slice_get (kids_of (slice_get (slice_set sets x t) z)) i) same
      ∙ ap (λ o. slice_get (kids_of o) i) (slice_get-set_same sets x t few) ∙ ap (λ ks. slice_get ks i) more
      ∙ elim (cases_eq i (length (kids_in s.state))) [
        | inl last ↦ ap (slice_get (kids_in s.state ++ node.Reaches ∷ [])) last ∙ slice_get-push_last (kids_in s.state) node.Reaches
        | inr before ↦ slice_get-push_other (kids_in s.state) node.Reaches i before
            ∙ ap (λ o. slice_get (kids_of o) i) (sym here)
            ∙ bare x i (omega (
              arith,
              taken,
              count,
              before,
              ap (λ (p : Spot). p.taken) (ap spot_of here),
              taken-kids s.state,
              pushed (kids_in s.state),
            ))
      ]
  | inr other ↦
      let t : Set = record s { state = st } in
      ap (λ o. slice_get (kids_of o) i) (slice_get-set_other sets x y t other)
      ∙ bare y i (omega (arith, taken, ap (λ (p : Spot). p.taken) (put-other sets x t y other)))
]
  where
    pushed : (ks : List Node) → length (ks ++ node.Reaches ∷ []) ≡ length ks + 1
    pushed [] = refl
    pushed (k ∷ ks) = omega (arith, pushed ks)

-- no set was taken
pub bare-none : AreBare []
bare-none x i taken =
    let never : ⊥ = omega (arith, taken, ap (λ (p : Spot). p.taken) (look-past [] x (omega arith))) in absurd never

-- one more set was taken
pub bare-pushed : (sets : List Set) (k : Set) → taken_in k.state ≡ 0 → AreBare sets → AreBare (sets ++ k ∷ [])
bare-pushed sets k none bare y i taken = elim (cases_eq y (length sets)) [
  | inl last ↦
      let never : ⊥ = omega (
        arith,
        taken,
        ap (λ z. (look (sets ++ k ∷ []) z).taken) last,
        ap (λ o. (spot_of o).taken) (slice_get-push_last sets k),
        none,
      ) in absurd never
  | inr before ↦
      ap (λ o. slice_get (kids_of o) i) (slice_get-push_other sets k y before)
      ∙ bare y i (omega (arith, taken, ap (λ o. (spot_of o).taken) (slice_get-push_other sets k y before)))
]
