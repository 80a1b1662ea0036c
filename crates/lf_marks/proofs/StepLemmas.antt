-- How deep a set stands, and how many kids stand beneath the sets above it.
use Rattle.std.proofs.Common.{◌≡◌, ℕ, ◌<◌, ◌≤◌, sym, ap, subst, arith, Some, List, [], ◌∷◌, ◌++◌, length, inl, inr, IsSome, is_some}
use Rattle.std.proofs.lemmas.Bool.{cases_lt}
use Rattle.std.proofs.lemmas.List.{append-nil, append_assoc}
use Rattle.lf_marks.specs.Arena.{look, marks_of, IsState}
use Rattle.lf_marks.specs.Steps.{Mark, Marking, kid_of, kids_beneath, kids_at, kids_above, IsShape}
use Rattle.lf_marks.specs.Steps as mark
use Rattle.lf_marks.specs.declared.claim.Claim.{Claim}
use Rattle.lf_marks.specs.declared.set.Set.{Set}
use Rattle.lf_marks.proofs.ShapeLemmas.{shape-is}

-- a set stands beneath one that has it as a kid
abbrev HasParents : Marking → Type 0
HasParents at = (p : List ℕ) (i : ℕ) → IsSome (at (kid_of p i)) → (m : Mark) × (at p ≡ Some m) × (i < kids_beneath m)

front-some : (at : Marking) → HasParents at → (p r : List ℕ) → IsSome (at (p ++ r)) → IsSome (at p)
front-some at h p [] some = subst (λ q. IsSome (at q)) (append-nil p) some
front-some at h p (j ∷ r) some =
    let u = h p j (front-some at h (kid_of p j) r (subst (λ q. IsSome (at q)) (sym (append_assoc p (j ∷ []) r)) some)) in
    ap is_some u.1

pub few-above : (at : Marking) → HasParents at → (p : List ℕ) → IsSome (at p) → length p ≤ kids_above at p
few-above at h [] some = omega arith
few-above at h (i ∷ path) some =
    let u = h [] i (front-some at h (i ∷ []) path some) in
    let kids : kids_at (at []) ≡ kids_beneath u.0 = ap kids_at u.1 in
    omega (arith, kids, u.2, few-above (λ q. at (i ∷ q)) (λ p j. h (i ∷ p) j) path some)

-- an open set stands on the level
open-deep : (level : ℕ) (at : Marking) → IsShape level at → (p : List ℕ) → at p ≡ Some mark.Open → level ≤ length p
open-deep level at s p is = elim (cases_lt (length p) level) [
  | inl high ↦ absurd (s.above p mark.Open is high)
  | inr low ↦ low
]

-- so that at least as many kids stand beneath those above it
pub open-few : (level start : ℕ) (sets : List Set) (queue next back : List ℕ) (claims : List Claim) (untaken waiting answered : ℕ)
    → IsState level start sets queue next back claims untaken waiting answered → (p : List ℕ) → marks_of sets start p ≡ Some mark.Open
    → level ≤ kids_above (marks_of sets start) p
open-few level start sets queue next back claims untaken waiting answered s p is =
    let shape = shape-is level start (length sets) (look sets) s.sound queue next back claims s.listed in
    omega (arith, open-deep level (marks_of sets start) shape p is, few-above (marks_of sets start) shape.parents p (ap is_some is))
