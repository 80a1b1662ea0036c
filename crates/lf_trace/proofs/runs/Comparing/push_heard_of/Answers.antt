use Rattle.std.proofs.Common.{string_bytes}
use Rattle.lf_sim.specs.Settings.{set_of, world_of}
use Rattle.lf_trace.specs.Elsewhere.{heard_pair}
use Rattle.lf_trace.proofs.ChangeLines.{more_lines}
use Rattle.lf_trace.proofs.runs.Comparing.push_heard_of.Goals as goal

pub receivers-preserved : goal.receivers-preserved
receivers-preserved g c =
    let words = g.M.Worded.words c.args.self.now.setting.now.machine in
    let w = world_of c.args.self.now.setting.now in
    let other = set_of c.args.self.now.other.now in
    let faults = set_of c.args.self.now.run.now in
    more_lines (string_bytes c.args.text.now) (string_bytes c.receivers.text) (string_bytes c.push_heard_slot.new.text)
    (heard_pair words w other faults c.args.number c.args.from) c.receivers.to c.receivers.invariant c.in_ok-push_heard_slot.ensures
