use Rattle.std.proofs.Common.{◌≡◌, ◌+◌, ◌*◌, ◌++◌, take}
use Rattle.std.specs.List.{flat_map}
use Rattle.lf_sim.specs.Settings.{set_of, world_of}
use Rattle.lf_residual.specs.Judging.{truths_of}
use Rattle.lf_residual.specs.Parts.{all_parts, part_of, size_of}
use Rattle.lf_residual.proofs.judged.+put_truths.Given as goal

abbrev pub decreases-put_truths : goal.decreases-put_truths
decreases-put_truths l = 4 * size_of l.formula.now

abbrev pub decreases-put_each : goal.decreases-put_each
decreases-put_each l = 4 * (all_parts part_of l.parts.now).size + 2

-- the truths of the parts so far are put
abbrev pub invariant-put_each-parts : goal.invariant-put_each-parts
invariant-put_each-parts l =
    l.truths.items ≡ l.initial.truths.items ++ flat_map (truths_of (world_of l.setting) (set_of l.run)) (take l.part-index l.parts)
