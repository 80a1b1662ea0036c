-- What crates above may cite of this one beside its contracts.
use Rattle.std.proofs.Common.{◌≡◌, ℕ, List, [], sym, ap, ◌∙◌, subst}
use Rattle.std.specs.Prelude.{Option, None, Some, MatchOption}
use Rattle.lf_cone.specs.Cones.{IsSharp}
use Rattle.lf_cone.proofs.Laws.{sharp_one}
use Rattle.lf_faults.specs.declared.fault.Parts.{Parts}
use Rattle.lf_faults.specs.declared.spec.Bounds.{Bounds}
use Rattle.lf_outcome.specs.declared.formula.Formula.{Formula}
use Rattle.lf_sim.specs.Runs.{World}
use Rattle.lf_trace.specs.Words.{Words}
use Rattle.lf_tree.specs.declared.tree.Tree.{Tree}
use Rattle.lf_why.specs.Answers.{IsWhy}
use Rattle.lf_why.specs.Rests.{TellsNone, none_lines}
use Rattle.lf_why.specs.Sets.{reasons}

by_answer : (answer : Option (List Parts)) (IsNone : List ℕ → Type 0) (f : List Parts → List ℕ)
    → ((one other : List ℕ) → IsNone one → IsNone other → one ≡ other) → (one other : List ℕ)
    → MatchOption answer (IsNone one) (λ set. one ≡ f set) → MatchOption answer (IsNone other) (λ set. other ≡ f set) → one ≡ other
by_answer None IsNone f unique one other a b = unique one other a b
by_answer (Some set) IsNone f unique one other a b = a ∙ sym b

nones_one : {S N F : Type 0} (w : World S N F) (b : Bounds) (formula : Formula F) (tree : Tree) (one other : List ℕ) → TellsNone w b formula tree one
    → TellsNone w b formula tree other → one ≡ other
nones_one w b formula tree one other x y =
    let both : Some x.1.0 ≡ Some y.1.0 = sym x.1.1 ∙ y.1.1 in
    let points : x.1.0 ≡ y.1.0 = cc in
    let reach = sharp_one w [] y.1.0 x.0 y.0 (subst (λ ps. IsSharp w [] ps x.0) points x.1.2) y.1.2 in
    x.2 ∙ ap (none_lines w b formula tree) reach ∙ sym y.2

-- what is told of a tree is one
pub why_one : {S N F : Type 0} (words : Words S N) (w : World S N F) (b : Bounds) (formula : Formula F) (tree : Tree) (one other : List ℕ)
    → IsWhy words w b formula tree one → IsWhy words w b formula tree other → one ≡ other
why_one words w b formula tree one other x y =
    by_answer tree.answer (TellsNone w b formula tree) (reasons words w formula) (nones_one w b formula tree) one other x y
