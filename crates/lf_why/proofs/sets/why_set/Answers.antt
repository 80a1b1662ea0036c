use Rattle.std.proofs.Common.{string_bytes}
use Rattle.lf_sim.specs.Settings.{set_of, world_of}
use Rattle.lf_why.specs.Sets.{reason}
use Rattle.lf_why.proofs.Told.{more_below}
use Rattle.lf_why.proofs.sets.why_set.Goals as goal

pub faults-preserved : goal.faults-preserved
faults-preserved g c =
    more_below (string_bytes c.faults.text) (string_bytes c.push_reason.new.text)
    (reason (g.M.Worded.words c.args.setting.now.machine) (world_of c.args.setting.now) c.args.formula.now (set_of c.args.played.now)) c.faults.place
    c.faults.invariant c.in_ok-push_reason.ensures
