-- What a finished book has.
use mathlib.Core.Logic.{∥∥₁_elim, ∥∥₁_map, ∥∥₁_prop}
use Rattle.std.proofs.Common.{◌≡◌, ℕ, refl, true, false, List, inl, inr, is_some}
use Rattle.std.proofs.Math.Nat.{ℕ_set}
use Rattle.std.specs.Prelude.{◌↔◌, Option, Some}
use Rattle.std.specs.List.{Contains}
use Rattle.lf_faults.specs.declared.fault.Parts.{Parts}
use Rattle.lf_faults.specs.declared.spec.Bounds.{Bounds}
use Rattle.lf_sim.specs.Runs.{World}
use Rattle.lf_outcome.specs.declared.formula.Formula.{Formula}
use Rattle.lf_tree.specs.declared.tree.Node.{Node}
use Rattle.lf_certificate.specs.Accepted.{IsBounded}
use Rattle.lf_certificate.specs.Grown.{IsTreeOf}
use Rattle.lf_marks.specs.Steps as mark
use Rattle.lf_marks.specs.Nodes as nodes
use Rattle.lf_certificate.specs.Closed.{IsClosed, IsFirstMissing, MissesAt}
use Rattle.lf_certificate.specs.Events.{IsDone, FindsAnswer, FindsNone}
use Rattle.lf_certificate.specs.Levels.{AreAscending, AreAllLeast}
use Rattle.lf_certificate.specs.States.{State}
use Rattle.lf_certificate.proofs.Laws.{finds_tree, finds_least}
use Rattle.lf_book.proofs.AgainLemmas.{tree-again, all-least-again}
use Rattle.lf_book.proofs.StateLemmas.{none-misses, some-misses}

module _ {Local Note Fact : Type 0} (w : World Local Note Fact) (b : Bounds) (formula : Formula Fact) (most : ℕ) (s : State)
    (closed : ∥ IsClosed w b formula most s ∥₁) (finished : s.finished ≡ true) where
  -- no set is open or claimed,
  pub ended_ready : (p : List ℕ) → s.marks p ≡ Some mark.Open → ⊥
  ended_ready p is = ∥∥₁_elim closed (λ x y. absurd x) (λ c. (c.ended finished).done.none p is)

  pub ended_free : (t : ℕ) (p : List ℕ) → s.marks p ≡ Some (mark.Claimed t) → ⊥
  ended_free t p is = ∥∥₁_elim closed (λ x y. absurd x) (λ c. (c.ended finished).done.free t p is)

  ended_done : IsDone s.marks
  ended_done = record { none = ended_ready; free = ended_free }

  -- the first that misses tells how it ended,
  pub ended_answer : (answer : Option (List Parts)) → ∥ IsFirstMissing s.marks answer ∥₁ → is_some answer ≡ true → FindsAnswer s s
  ended_answer answer first some = record {
    done = ended_done;
    missing = some-misses w b formula most s closed answer first some;
    ends = record { level = refl; next = refl; finished = finished; marks = λ q. refl };
  }

  pub ended_none : (answer : Option (List Parts)) → ∥ IsFirstMissing s.marks answer ∥₁ → is_some answer ≡ false → FindsNone b s s
  ended_none answer first none =
      let reaching = none-misses w b formula most s closed answer first none in record {
        done = ended_done;
        reaching = reaching;
        last = ∥∥₁_elim closed (ℕ_set s.level b.budget) (λ c. elim (c.ended finished).reason [
          | inl misses ↦ absurd (reaching misses.0 misses.1)
          | inr last ↦ last
        ]);
        ends = record { level = refl; next = refl; finished = finished; marks = λ q. refl };
      }

  module _ (bounded : IsBounded w b) where
    -- the marks become the tree,
    pub ended_tree : (answer : Option (List Parts)) (root : Node) → ∥ IsFirstMissing s.marks answer ∥₁ → nodes.IsTreeOf s.level s.marks root
        → IsTreeOf w b formula (record { answer = answer; root = root })
    ended_tree answer root first tree =
        tree-again w b formula (record { answer = answer; root = root }) (∥∥₁_elim closed ∥∥₁_prop (λ c.
        ∥∥₁_map first (λ f. finds_tree w b formula most s bounded c finished answer root f tree)))

    -- and all that are marked to miss are the least sets
    pub ended_least : (sets : List (List Parts)) → AreAscending sets → ((faults : List Parts) → Contains sets faults ↔ MissesAt s.marks faults)
        → AreAllLeast w b formula sets
    ended_least sets ascending each =
        all-least-again w b formula sets ascending (∥∥₁_map closed (λ c. finds_least w b formula most s bounded c finished sets ascending each))
