use Rattle.std.proofs.Common.{◌≡◌, ◌<◌, ◌≤◌, ℕ, true, false, refl, sym, ap, ◌∙◌, subst}
use Rattle.std.specs.Option.{option_map}
use Rattle.lf_sim.specs.Runs.{view}
use Rattle.lf_sim.specs.Settings.{set_of, state_of, world_of}
use Rattle.lf_rules.specs.Forms.{is_well_formed}
use Rattle.lf_rule_machine.specs.declared.state.State.{State}
use Rattle.rule_examples.proofs.KeptLemmas.{kept, known-state}
use Rattle.rule_examples.proofs.single_runs.kept_notes_were_single.Goals as goal

pub returns : goal.returns
returns c =
    let m = c.args.setting.now.machine in
    let w = world_of c.args.setting.now in
    let faults = set_of c.args.run.now in
    let each : (n t : ℕ) → n < w.rules.nodes → t ≤ w.horizon → (view w faults n t).replaced ≡ false = λ n t low early.
    known-state (state_of c.args.run.now n t) (view w faults n t) (ap (λ o. option_map (λ x. x.state) o) (c.requires.run.each n t low early))
    (c.requires.kept n t (subst (λ nodes. n < nodes) (sym c.requires.run.nodes) low) (subst (λ last. t ≤ last) (sym c.requires.run.horizon) early)) in
    c.kept_notes_are_single.ensures m w faults
    (subst (λ d. is_well_formed d ≡ true) c.definition-definition.ensures.value c.definition-definition.ensures.well_formed) refl
    (λ n t. ap (λ (s : State). s.replaced) (sym (c.views_are_of_single_notes.ensures n t)) ∙ kept m w faults refl c.requires.zeros each n t)
