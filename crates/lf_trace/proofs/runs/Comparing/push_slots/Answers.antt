use Rattle.std.proofs.Common.{string_bytes}
use Rattle.lf_sim.specs.Settings.{set_of, world_of}
use Rattle.lf_trace.specs.Beside.{sender_pairs}
use Rattle.lf_trace.proofs.ChangeLines.{more_lines}
use Rattle.lf_trace.proofs.runs.Comparing.push_slots.Goals as goal

pub senders-preserved : goal.senders-preserved
senders-preserved g c =
    let words = g.M.Worded.words c.args.self.now.setting.now.machine in
    let w = world_of c.args.self.now.setting.now in
    let other = set_of c.args.self.now.other.now in
    let faults = set_of c.args.self.now.run.now in
    more_lines (string_bytes c.args.text.now) (string_bytes c.senders.text) (string_bytes c.push_slots_of.new.text)
    (sender_pairs words w other faults c.args.number) c.senders.from c.senders.invariant c.in_ok-push_slots_of.ensures
