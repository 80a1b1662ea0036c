use Rattle.std.proofs.Common.{◌≡◌, drop}
use Rattle.lf_texts.specs.Kinds.{kind_of}
use Rattle.lf_texts.proofs.kinds.kind_of.Given as goal

-- none so far has the name
abbrev pub invariant-loop-variable : goal.invariant-loop-variable
invariant-loop-variable l = kind_of l.word (drop l.variable-index l.variables) ≡ kind_of l.word l.variables
