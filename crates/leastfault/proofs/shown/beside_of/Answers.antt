use Rattle.std.proofs.Common.{ap, ◌∙◌}
use Rattle.lf_trace.specs.Beside.{beside_by}
use Rattle.lf_outcome.specs.Truth.{reaches}
use Rattle.lf_sim.specs.Settings.{set_of, world_of}
use Rattle.lf_trace.specs.Words.{words_of}
use Rattle.leastfault.specs.Reports.{run_status}
use Rattle.leastfault.proofs.shown.beside_of.Goals as goal

pub returns : goal.returns
returns c =
    let s = c.args.scenario.now in
    let set = c.args.set.now in
    let other = c.args.other.now in
    let setting = c.setting-setting.result.now in
    let formula = c.formula-formula.result.now in
    let played = set_of c.in_ok-played.played in (
      c.in_ok-beside.ensures ∙ ap (λ x. beside_by (words_of setting.machine) (world_of setting) x played formula) c.in_ok-besides.ensures.set
          ∙ ap (λ x. beside_by (words_of setting.machine) (world_of setting) other x formula) c.in_ok-played.ensures.set
          ∙ ap (λ x. beside_by (words_of setting.machine) (world_of setting) other set x) c.formula-formula.ensures.value
          ∙ ap (λ x. beside_by (words_of x.machine) (world_of x) other set s.formula) c.setting-setting.ensures,
      c.run_status.ensures ∙ ap run_status (c.holds.ensures ∙ ap (λ x. reaches (world_of setting) x formula) c.in_ok-played.ensures.set
          ∙ ap (λ x. reaches (world_of setting) set x) c.formula-formula.ensures.value
          ∙ ap (λ x. reaches (world_of x) set s.formula) c.setting-setting.ensures),
    )
