-- The set that the next claim takes.
use Rattle.std.proofs.Common.{◌≡◌, ℕ, ◌+◌, ◌-◌, ◌<◌, refl, sym, ap, ◌∙◌, arith, Some, List, length, drop, get_or, inl, inr}
use Rattle.std.proofs.lemmas.Bool.{cases_lt}
use Rattle.std.proofs.lemmas.Option.{same_Some, slice_get-get_or, slice_get_within}
use Rattle.std.specs.List.{slice_get}
use Rattle.lf_marks.specs.Arena.{look, marks_of, IsState}
use Rattle.lf_marks.specs.Marks.{IsNextKid, LeadsToLast}
use Rattle.lf_marks.specs.Steps.{kid_of}
use Rattle.lf_marks.specs.Steps as mark
use Rattle.lf_marks.specs.declared.claim.Claim.{Claim}
use Rattle.lf_marks.specs.declared.set.Set.{Set}
use Rattle.lf_marks.proofs.WalkLemmas.{marked-led}
use Rattle.lf_marks.proofs.GrowLemmas.{kid-open}
use Rattle.lf_marks.proofs.StateLemmas.{again-was, last-some, next-high, next-more, queue-head}

-- what is read at a place of a list
read-at : (xs : List ℕ) (i x : ℕ) → slice_get xs i ≡ Some x → x ≡ get_or xs i x
read-at xs i x is = same_Some x (get_or xs i x) (sym is ∙ slice_get-get_or xs i x (slice_get_within xs i x is))

-- the path of a kid
pub kid-path : (p front : List ℕ) (kid taken : ℕ) → p ≡ kid_of front kid → kid ≡ taken → p ≡ kid_of front taken
kid-path p front kid taken is same = is ∙ ap (kid_of front) same

module _ (level start : ℕ) (sets : List Set) (queue next back : List ℕ) (at : ℕ) (claims : List Claim) (untaken waiting answered : ℕ)
    (s : IsState level start sets (drop at queue) next back claims untaken waiting answered) (p : List ℕ) where
  back-open : 0 < length back → LeadsToLast sets back p → marks_of sets start p ≡ Some mark.Open
  back-open some led =
      let x = get_or back (length back - 1) 0 in
      let is : slice_get back (length back - 1) ≡ Some x = slice_get-get_or back (length back - 1) 0 (omega (arith, some)) in
      let there = last-some back x (length back) some refl (read-at back (length back - 1) x is) in
      marked-led (look sets) start 0 p x (led ∙ is)
      ∙ again-was level start sets (drop at queue) next back claims untaken waiting answered s x there

  next-open : IsNextKid sets queue at p → marks_of sets start p ≡ Some mark.Open
  next-open it =
      let x = it.parent in
      let head = queue-head queue at x (slice_get_within queue at x it.first) (read-at queue at x it.first) in
      let high = next-high level start sets (drop at queue) next back claims untaken waiting answered s x (drop (at + 1) queue) head in
      let more = next-more level start sets (drop at queue) next back claims untaken waiting answered s x (drop (at + 1) queue) head in
      ap (marks_of sets start) it.whole ∙ kid-open level start (length sets) (look sets) x high more it.front it.led

  -- is open
  pub ready-next : (0 < length back → LeadsToLast sets back p) → (length back ≡ 0 → IsNextKid sets queue at p) → marks_of sets start p ≡ Some mark.Open
  ready-next again kid = elim (cases_lt 0 (length back)) [
    | inl some ↦ back-open some (again some)
    | inr none ↦ next-open (kid (omega (arith, none)))
  ]
