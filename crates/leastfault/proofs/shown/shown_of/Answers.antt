use Rattle.std.proofs.Common.{subst, string_bytes}
use Rattle.std.specs.Prelude.{IfOk}
use Rattle.leastfault.specs.Shown.{RepliesBesides}
use Rattle.leastfault.proofs.shown.shown_of.Goals as goal

pub returns-in-Whole : goal.returns-in-Whole
returns-in-Whole c = rw (c.in-Whole.is) c.run_of.ensures

pub returns-in-Rules : goal.returns-in-Rules
returns-in-Rules c = rw (c.in-Rules.is) c.run_of-in-Rules.ensures

pub returns-in-Changes : goal.returns-in-Changes
returns-in-Changes c = rw (c.in-Changes.is) c.told_named.ensures

pub returns-in-Json : goal.returns-in-Json
returns-in-Json c = rw (c.in-Json.is) c.told_named-in-Json.ensures

pub returns-in-Beside : goal.returns-in-Beside
returns-in-Beside c = rw (c.in-Beside.is) (subst
    (λ other. IfOk c.compared.result
    (λ reply. RepliesBesides other c.args.faults.now c.args.scenario.now (string_bytes reply.text) reply.value))
    c.as_str.ensures.value c.compared.ensures)
