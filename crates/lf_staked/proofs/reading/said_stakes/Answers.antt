use Rattle.std.proofs.Common.{rules, sym, ap, ◌∙◌}
use Rattle.std.specs.List.{slice_get}
use Rattle.std.proofs.lemmas.Option.{slice_get_read}
use Rattle.lf_sim.specs.Settings.{world_of}
use Rattle.lf_own_scenario.specs.Outcomes.{named, said}
use Rattle.lf_staked.proofs.StakesLemmas.{all-put, put-more}
use Rattle.lf_staked.proofs.reading.said_stakes.Goals as goal

pub places-preserved : goal.places-preserved
places-preserved c =
    put-more (world_of c.args.runs.now.setting.now) c.args.runs.now.scene c.args.runs.now.sets.now
    (said c.args.told.now.file.now c.args.told.now.given.now c.args.words.now (named c.args.words.now c.args.told.now.file.now.outcomes))
    c.in_ok-whole.whole c.in_ok-again.again c.places.place c.index.result.now _ _ c.in_ok-whole.ensures c.in_ok-again.ensures
    (ap (λ xs. slice_get xs c.places.place) (sym c.in-Ok.ensures)
    ∙ slice_get_read c.in-Ok.parts.items c.len-place-end.result c.places.place c.index.result.now (search rules) c.places-test.true
    c.index.ensures)
    c.places.invariant
    (search rules)

pub returns : goal.returns
returns c =
    all-put (world_of c.args.runs.now.setting.now) c.args.runs.now.scene c.args.runs.now.sets.now c.args.told.now.file.now
    c.args.told.now.given.now c.args.words.now c.in_ok-whole.whole c.places.place _ c.in_ok-whole.ensures (search rules) c.places.invariant
