use Rattle.std.proofs.Common.{◌≡◌, ◌++◌, drop, map}
use Rattle.lf_texts.proofs.forms.kinds_of.Given as goal

-- the kinds so far stand before those of the rest
abbrev pub invariant-loop-field : goal.invariant-loop-field
invariant-loop-field l = l.kinds.items ++ map (λ field. field.kind) (drop l.field-index l.fields) ≡ map (λ field. field.kind) l.fields
