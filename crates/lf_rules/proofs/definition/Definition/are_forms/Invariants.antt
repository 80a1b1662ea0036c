use Rattle.std.proofs.Common.{◌≡◌, take, true}
use Rattle.std.specs.List.{list_all}
use Rattle.lf_rules.specs.Forms.{is_form}
use Rattle.lf_rules.proofs.definition.Definition.are_forms.Given as goal

-- those so far pass
abbrev pub invariant-loop-form : goal.invariant-loop-form
invariant-loop-form l = list_all (is_form l.self) (take l.form-index l.self.notes) ≡ true
