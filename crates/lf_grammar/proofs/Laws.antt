-- What crates above may cite of this one beside its contracts: what is read is of its sort where it stands, and how much is left.
use Rattle.std.proofs.Common.{◌≡◌, suc, ◌≤◌, List, length, Some}
use Rattle.lf_rules.specs.Sorts.{tree_sort}
use Rattle.lf_grammar.specs.declared.token.Token.{Token}
use Rattle.lf_grammar.specs.declared.level.Level.TheVariants as levels
use Rattle.lf_grammar.specs.Expressions.{Found, All, Denied, first_truth, first_operand, first_sum, steps}
use Rattle.lf_grammar.specs.Places.{Context}
use Rattle.lf_grammar.specs.Typing.{Said, as_set}
use Rattle.lf_grammar.proofs.Rests.{shorter}
use Rattle.lf_grammar.proofs.Sorted.{fits}
use Rattle.lf_grammar.proofs.Typings.{fit-set}

-- a value of any sort is of the sort with which it is read
pub truth-sorted : (at : Context) (ts : List Token) (x : Found) → first_truth at ts ≡ Some x
    → tree_sort at.definition at.scope at.within x.said.term ≡ Some x.said.sort
unfolding first_truth
truth-sorted at ts x e = (fits at (suc (steps (All levels.Or) ts)) (All levels.Or) ts x tt e).sort.is

-- and so is an operand of `and` and `or`
pub operand-sorted : (at : Context) (ts : List Token) (x : Found) → first_operand at ts ≡ Some x
    → tree_sort at.definition at.scope at.within x.said.term ≡ Some x.said.sort
unfolding first_operand
operand-sorted at ts x e = (fits at (suc (steps Denied ts)) Denied ts x tt e).sort.is

-- and so is a sum
pub sum-sorted : (at : Context) (ts : List Token) (x : Found) → first_sum at ts ≡ Some x
    → tree_sort at.definition at.scope at.within x.said.term ≡ Some x.said.sort
unfolding first_sum
sum-sorted at ts x e = (fits at (suc (steps (All levels.Sum) ts)) (All levels.Sum) ts x tt e).sort.is

-- what is of its sort still is where a number is made a set
pub set-sorted : (at : Context) (a c : Said) → tree_sort at.definition at.scope at.within a.term ≡ Some a.sort → as_set a ≡ Some c
    → tree_sort at.definition at.scope at.within c.term ≡ Some c.sort
set-sorted at a c is e = (fit-set {at = at} a.sort (record { is = is }) e).sort.is

-- what is left behind a sum is no longer than what was there
pub sum-shorter : (at : Context) (ts : List Token) (x : Found) → first_sum at ts ≡ Some x → length x.rest ≤ length ts
unfolding first_sum
sum-shorter at ts x e = shorter at (suc (steps (All levels.Sum) ts)) (All levels.Sum) ts x e

-- and so it is behind an operand
pub operand-shorter : (at : Context) (ts : List Token) (x : Found) → first_operand at ts ≡ Some x → length x.rest ≤ length ts
unfolding first_operand
operand-shorter at ts x e = shorter at (suc (steps Denied ts)) Denied ts x e
