-- Whether a rule is taken in a run.
use Rattle.std.proofs.Common.{◌≡◌, ℕ, true, List, ◌∙◌}
use Rattle.std.specs.List.{range_with_len}
use Rattle.lf_faults.specs.declared.fault.Parts.{Parts}
use Rattle.lf_protocols.specs.declared.fact.Fact.{Fact}
use Rattle.lf_protocols.specs.declared.note.Note.{Note}
use Rattle.lf_protocols.specs.declared.state.State.{State}
use Rattle.lf_protocols.specs.declared.protocol.Kind.{Kind}
use Rattle.lf_sim.specs.Runs.{World, each_below}
use Rattle.lf_taken.specs.Points.{taken_after}
use Rattle.lf_stakes.specs.Stakes.{IsTaken, has_number, is_taken_by, is_taken_in}
use Rattle.lf_stakes.proofs.RangesLemmas.{any-same, any_below-some, contains-has, has-contains, has-each, some-any_below}

module _ (k : Kind) (w : World State Note Fact) (faults : List Parts) where
  -- all numbers that are taken in the run, by node and then by step
  abbrev pub all_taken : List ℕ
  all_taken = each_below (λ n. each_below (taken_after k w faults n) w.horizon) w.rules.nodes

  pub has-all_taken : (rule : ℕ) → has_number rule all_taken ≡ is_taken_in k w faults rule
  unfolding is_taken_in
  has-all_taken rule =
      has-each rule (λ n. each_below (taken_after k w faults n) w.horizon) w.rules.nodes
      ∙ any-same (λ n. has_number rule (each_below (taken_after k w faults n) w.horizon)) (is_taken_by k w faults rule) (range_with_len 0 w.rules.nodes)
      (λ n. has-each rule (taken_after k w faults n) w.horizon)

  pub taken-is : (rule : ℕ) → is_taken_in k w faults rule ≡ true → IsTaken k w faults rule
  unfolding is_taken_in
  taken-is rule is =
      let at_node = any_below-some (is_taken_by k w faults rule) w.rules.nodes is in
      let at_step = any_below-some (λ t. has_number rule (taken_after k w faults at_node.0 t)) w.horizon at_node.2 in
      record {
        node = at_node.0;
        past = at_step.0;
        is_node = at_node.1;
        early = at_step.1;
        taken = has-contains rule (taken_after k w faults at_node.0 at_step.0) at_step.2;
      }

  pub is-taken : (rule : ℕ) → IsTaken k w faults rule → is_taken_in k w faults rule ≡ true
  unfolding is_taken_in
  is-taken rule is =
      some-any_below (is_taken_by k w faults rule) w.rules.nodes is.node is.is_node
      (some-any_below (λ t. has_number rule (taken_after k w faults is.node t)) w.horizon is.past is.early
      (contains-has rule (taken_after k w faults is.node is.past) is.taken))
