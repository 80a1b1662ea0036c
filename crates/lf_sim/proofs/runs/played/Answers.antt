use Rattle.std.proofs.Common.{◌≡◌, ◌+◌, ◌*◌, [], length, sym, ap, ◌∙◌, arith}
use Rattle.std.specs.Prelude.{slice_get}
use Rattle.std.proofs.lemmas.List.{append-nil}
use Rattle.lf_sim.specs.Settings.{world_of}
use Rattle.lf_sim.specs.Tables.{table}
use Rattle.lf_sim.specs.Turns.{turns_of}
use Rattle.lf_sim.proofs.InboxLemmas.{past_of, length-table}
use Rattle.lf_sim.proofs.runs.played.Goals as goal

pub loop-t-preserved : goal.loop-t-preserved
loop-t-preserved g c =
    let w = world_of c.args.setting.now in
    let next : c.loop-t.t + 1 + 1 ≡ c.loop-t.t + 2 = omega arith in
    record {
      cells = rw next c.put_turns.ensures.cells;
      kept = c.put_turns.ensures.capacity ∙ c.loop-t.invariant.kept;
      letters = c.put_turns.ensures.letters ∙ c.loop-t.invariant.letters;
    }

pub invariant_of-result : goal.invariant_of-result
invariant_of-result g c =
    let w = world_of c.args.setting.now in
    let end : c.loop-t.t ≡ c.horizon-horizon.result = omega (arith, c.loop-t-test.false, c.loop-t.auto.t-end) in
    let nodes : w.rules.nodes ≡ c.nodes-nodes.result = c.args.setting.now.nodes_agree ∙ sym c.nodes-nodes.ensures.value in
    record {
      few = omega (arith, c.nodes-nodes.ensures.value, c.nodes-nodes.ensures.limits.nodes.1);
      short = omega (arith, c.horizon-horizon.ensures.value, c.horizon-horizon.ensures.limits.horizon.1);
      brief = omega (arith, c.pause_length-pause_length.ensures.value, c.pause_length-pause_length.ensures.limits.pause_length.1);
      whole = ap length c.loop-t.invariant.cells ∙ length-table w c.new-effects.result.set (c.loop-t.t + 1)
          ∙ ap (λ n. (c.loop-t.t + 1) * n) nodes ∙ ap (λ t. (t + 1) * c.nodes-nodes.result) end;
      cells_fit = omega (arith, c.loop-t.invariant.kept, c.put_starts.ensures.capacity, c.requires.cells);
      letters_fit = omega (arith, c.loop-t.invariant.letters, c.requires.letters);
    }

pub returns-clause-run : goal.returns-clause-run
returns-clause-run g c =
    let w = world_of c.args.setting.now in
    let end : c.loop-t.t ≡ c.horizon-horizon.result = omega (arith, c.loop-t-test.false, c.loop-t.auto.t-end) in
    let nodes : c.nodes-nodes.result ≡ w.rules.nodes = c.nodes-nodes.ensures.value ∙ sym c.args.setting.now.nodes_agree in
    let cells = turns_of c.loop-t.cells in
    record {
      nodes = nodes;
      horizon = c.horizon-horizon.ensures.value;
      pause_length = c.pause_length-pause_length.ensures.value;
      each = λ n t node last.
          let past = past_of w c.args.set.now cells (c.loop-t.t + 1) []
          (c.loop-t.invariant.cells ∙ ap (λ F. table w F (c.loop-t.t + 1)) c.new-effects.ensures
          ∙ sym (append-nil (table w c.args.set.now (c.loop-t.t + 1)))) in
          ap (λ k. slice_get cells (t * k + n)) nodes ∙ past n t node (omega (arith, last, end, c.horizon-horizon.ensures.value));
    }
