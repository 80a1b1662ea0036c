use Rattle.std.proofs.Common.{◌≡◌, take, true}
use Rattle.std.specs.List.{list_all}
use Rattle.lf_rules.specs.Forms.{is_send}
use Rattle.lf_rules.proofs.definition.Definition.are_sends.Given as goal

-- those so far pass
abbrev pub invariant-loop-send : goal.invariant-loop-send
invariant-loop-send l = list_all (is_send l.self l.scope) (take l.send-index l.sends) ≡ true
