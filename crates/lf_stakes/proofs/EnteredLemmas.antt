-- Whether something is entered under a topic in a run.
use Rattle.std.proofs.Common.{◌≡◌, ℕ, ◌+◌, ◌<◌, ◌≤◌, true, false, List, subst, arith}
use Rattle.std.specs.Prelude.{is_some}
use Rattle.std.specs.List.{list_any, range_with_len}
use Rattle.lf_faults.specs.declared.fault.Parts.{Parts}
use Rattle.lf_outcome.specs.Truth.{entered}
use Rattle.lf_protocols.specs.declared.fact.Fact.{Fact}
use Rattle.lf_protocols.specs.declared.note.Note.{Note}
use Rattle.lf_protocols.specs.declared.state.State.{State}
use Rattle.lf_sim.specs.Runs.{World}
use Rattle.lf_stakes.specs.Entered.{IsEntered, is_entered_by, is_entered_in}
use Rattle.lf_stakes.proofs.RangesLemmas.{any_range-some, some-any_range}

module _ (w : World State Note Fact) (faults : List Parts) (topic : ℕ) where
  -- by one node, and by none
  pub entered-by : (n : ℕ) → n < w.rules.nodes → is_entered_by w faults topic n ≡ true → is_entered_in w faults topic ≡ true
  unfolding is_entered_in
  entered-by n low is = some-any_range (is_entered_by w faults topic) 0 w.rules.nodes n (omega arith) (omega (arith, low)) is

  pub none-entered : (nodes : ℕ) → nodes ≡ w.rules.nodes → list_any (is_entered_by w faults topic) (range_with_len 0 nodes) ≡ false
      → is_entered_in w faults topic ≡ false
  unfolding is_entered_in
  none-entered nodes all none = subst (λ n. list_any (is_entered_by w faults topic) (range_with_len 0 n) ≡ false) all none

  -- and by points
  pub entered-is : is_entered_in w faults topic ≡ true → IsEntered w faults topic
  unfolding is_entered_in
  entered-is is =
      let at_node = any_range-some (is_entered_by w faults topic) 0 w.rules.nodes is in
      let at_step = any_range-some (λ t. is_some (entered w faults topic at_node.0 t)) 1 w.horizon at_node.3 in
      record {
        node = at_node.0;
        step = at_step.0;
        is_node = omega (arith, at_node.2);
        first = at_step.1;
        last = omega (arith, at_step.2);
        entry = at_step.3;
      }

  pub is-entered : IsEntered w faults topic → is_entered_in w faults topic ≡ true
  unfolding is_entered_in
  is-entered is =
      some-any_range (is_entered_by w faults topic) 0 w.rules.nodes is.node (omega arith) (omega (arith, is.is_node))
      (some-any_range (λ t. is_some (entered w faults topic is.node t)) 1 w.horizon is.step is.first (omega (arith, is.last)) is.entry)
