use Rattle.std.proofs.Common.{◌≡◌, drop}
use Rattle.lf_protocol_file.specs.Variables.{with_words}
use Rattle.lf_protocol_file.proofs.variables.with_words.Given as goal

-- the words so far mean something
abbrev pub invariant-loop-i : goal.invariant-loop-i
invariant-loop-i l = with_words l.of l.i (drop l.i l.words) l.draft ≡ with_words l.of 0 l.words l.initial.draft
