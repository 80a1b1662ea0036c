use Rattle.std.proofs.Common.{◌≡◌, drop}
use Rattle.lf_texts.specs.Forms.{form_from}
use Rattle.lf_texts.proofs.forms.form_named.Given as goal

-- none so far has the name
abbrev pub invariant-loop-i : goal.invariant-loop-i
invariant-loop-i l = form_from l.i l.word (drop l.i l.notes) ≡ form_from 0 l.word l.notes
