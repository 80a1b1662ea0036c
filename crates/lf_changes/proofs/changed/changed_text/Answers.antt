use Rattle.std.proofs.Common.{ap, inr, string_bytes, subst, ◌∙◌}
use Rattle.lf_scenario.specs.Keys.{key_name}
use Rattle.lf_sweep.specs.declared.varied.Place.TheVariants as places
use Rattle.lf_sweep.specs.Texts.{HasNoTextAt, IsTextAt}
use Rattle.lf_changes.proofs.changed.changed_text.Goals as goal

pub returns-in-Ok-clause-text : goal.returns-in-Ok-clause-text
returns-in-Ok-clause-text c = record {
  place = places.Key c.in_ok-from_str.field-0;
  key = c.in_ok-from_str.ensures.ok ∙ c.name.ensures ∙ ap key_name c.key.ensures;
  changed =
      subst (λ d. IsTextAt c.args.scenario.now (places.Key c.in_ok-from_str.field-0) d (string_bytes c.in-Ok.text)) c.in_ok-value.ensures c.in-Ok.ensures;
}

pub returns-clause-cause : goal.returns-clause-cause
returns-clause-cause c = inr (record {
  place = places.Key c.in_ok-from_str.field-0;
  key = c.in_ok-from_str.ensures.ok ∙ c.name.ensures ∙ ap key_name c.key.ensures;
  why = c.in-Err.error;
  none = subst (λ d. HasNoTextAt c.args.scenario.now (places.Key c.in_ok-from_str.field-0) d c.in-Err.error) c.in_ok-value.ensures c.in-Err.ensures;
  told = c.from.ensures;
})
