use Rattle.std.proofs.Common.{◌≡◌, ◌<◌, ◌≤◌, true, refl, sym, subst}
use Rattle.lf_sim.specs.Runs.{did}
use Rattle.lf_sim.specs.Settings.{cell_of, set_of, world_of}
use Rattle.lf_rules.specs.Forms.{is_well_formed}
use Rattle.rule_examples.proofs.CellsLemmas.{cell-singles, single-run}
use Rattle.rule_examples.proofs.single_runs.views_are_of_single_notes.Goals as goal

pub returns : goal.returns
returns c = λ n t.
    c.runs_with_single_notes.ensures.views c.args.setting.now.machine (world_of c.args.setting.now) (set_of c.args.run.now)
    (single-run c.args.setting.now.machine (world_of c.args.setting.now) (set_of c.args.run.now)
    (subst (λ d. is_well_formed d ≡ true) c.definition-definition.ensures.value c.definition-definition.ensures.well_formed) refl
    (λ k s low early. cell-singles (cell_of c.args.run.now k s) (did (world_of c.args.setting.now) (set_of c.args.run.now) k s)
    (c.requires.run.each k s low early)
    (c.requires.singles k s (subst (λ nodes. k < nodes) (sym c.requires.run.nodes) low) (subst (λ last. s ≤ last) (sym c.requires.run.horizon) early)))) n t
