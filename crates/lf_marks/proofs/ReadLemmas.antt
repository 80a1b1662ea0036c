-- What is read at a path.
use Rattle.std.proofs.Common.{◌≡◌, ◌≢◌, ℕ, ◌<◌, refl, sym, ap, ◌∙◌, Some, None, List, length, get_or}
use Rattle.lf_faults.specs.declared.fault.Parts.{Parts}
use Rattle.std.proofs.Common.{Box, Global}
use Rattle.lf_marks.specs.Steps.{Mark}
use Rattle.lf_marks.specs.Steps as mark
use Rattle.lf_marks.specs.Arena.{look, mark_in, marks_of}
use Rattle.lf_marks.specs.declared.set.Branch.{Branch}
use Rattle.lf_marks.specs.declared.set.Set.{Set}
use Rattle.lf_marks.specs.declared.set.State.{State}
use Rattle.lf_marks.specs.declared.set.State.TheVariants as state
use Rattle.lf_marks.specs.Walks.{Spot, led_from}
use Rattle.lf_marks.proofs.WalkLemmas.{marked-led}
use Rattle.lf_marks.proofs.SetLemmas.{read-is}
use Rattle.lf_marks.proofs.ShapeLemmas.{Stands, placed, opened, waits, stands}

-- the mark where a path leads
pub told : (sets : List Set) (start : ℕ) (p : List ℕ) (x : ℕ) (s : Set) → Some x ≡ led_from (look sets) 0 p → x < length sets → s ≡ get_or sets x s
    → marks_of sets start p ≡ Some (mark_in s.state)
told sets start p x s led few read =
    marked-led (look sets) start 0 p x (sym led) ∙ ap (λ (z : Spot). z.mark) (read-is sets x s few read)

is_placed : (sets : List Set) (start : ℕ) (p : List ℕ) (m : Mark) → m ≢ mark.Open → m ≢ mark.Waiting → Stands (look sets) start 0 p m
    → None ≡ led_from (look sets) 0 p → ⊥
is_placed sets start p m a b (placed y led is) none = let never : None ≡ Some y = none ∙ led in absurd cc
is_placed sets start p m a b (opened front i y whole led far more high is) none = a is
is_placed sets start p m a b (waits front i y whole led far more low is) none = b is

-- where it leads to no place, no set is claimed or answered
pub no-place : (sets : List Set) (start : ℕ) (p : List ℕ) (m : Mark) → m ≢ mark.Open → m ≢ mark.Waiting → None ≡ led_from (look sets) 0 p
    → marks_of sets start p ≢ Some m
no-place sets start p m a b none h = is_placed sets start p m a b (stands (look sets) start 0 p m h) none

pub mark-claimed : (t : ℕ) (st : State) → Some (mark_in st) ≡ Some (mark.Claimed t) → st ≡ state.Claimed t
mark-claimed t state.Open h = absurd cc
mark-claimed t (state.Claimed u) h = let same : u ≡ t = cc in ap (λ v. state.Claimed v) same
mark-claimed t state.Misses h = absurd cc
mark-claimed t state.Reaches h = absurd cc
mark-claimed t (state.Branch b) h = absurd cc

pub mark-branch : (reach : List ℕ) (edges : List Parts) (st : State) → Some (mark_in st) ≡ Some (mark.Branch reach edges)
    → (b : Box Branch Global) × (st ≡ state.Branch b)
mark-branch reach edges state.Open h = absurd cc
mark-branch reach edges (state.Claimed u) h = absurd cc
mark-branch reach edges state.Misses h = absurd cc
mark-branch reach edges state.Reaches h = absurd cc
mark-branch reach edges (state.Branch b) h = (b, refl)
