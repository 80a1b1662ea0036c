use Rattle.std.proofs.Common.{Some, ◌+◌, sym, ap, ◌∙◌}
use Rattle.lf_sim.specs.declared.out.Stepped.{Stepped}
use Rattle.lf_sim.specs.Outs.{note_to}
use Rattle.lf_sim.specs.Runs.{did}
use Rattle.lf_sim.specs.Settings.{world_of}
use Rattle.lf_sim.specs.Turns.{turn_seen}
use Rattle.lf_sim.proofs.RunsLemmas.{letter-omitted, letter-silent, letter_is}
use Rattle.lf_sim.proofs.past.Past.letter.Goals as goal

pub returns-in_default : goal.returns-in_default
returns-in_default g c =
    let p = c.args.self.now in
    let w = world_of p.setting.now in
    let F = p.effects.now.set in
    let here = rw (c.from-from.ensures, c.from-sent.ensures) at c.cell.ensures in
    let none = sym c.note.ensures ∙ c.in_default.is in
    sym (letter-silent w F (did w F) c.args.to (p.t + 1) c.args.slot.from c.args.slot.sent
    (sym (ap (λ (s : Stepped _ _). note_to s.out c.args.to) here) ∙ none))

pub returns-then-omits : goal.returns-then-omits
returns-then-omits g c =
    let p = c.args.self.now in
    let w = world_of p.setting.now in
    let F = p.effects.now.set in
    let lost = rw (c.from-from.ensures, c.from-sent.ensures) at (sym c.omits.ensures ∙ c.if-omits.true) in
    sym (letter-omitted w F (did w F) c.args.to (p.t + 1) c.args.slot.from c.args.slot.sent lost)

pub returns-else-omits : goal.returns-else-omits
returns-else-omits g c =
    let p = c.args.self.now in
    let w = world_of p.setting.now in
    let F = p.effects.now.set in
    let slot = c.requires.slot in
    let kept = rw (c.from-from.ensures, c.from-sent.ensures) at (sym c.omits.ensures ∙ c.if-omits.false) in
    let here = rw (c.from-from.ensures, c.from-sent.ensures) at c.cell.ensures in
    rw (c.from-from.ensures, c.from-sent.ensures)
    (letter_is w F c.args.to (p.t + 1) c.args.slot.from c.args.slot.sent (turn_seen c.cell.result) (Some c.in-Some.note) slot.apart slot.arrives kept here
    (sym c.in-Some.is ∙ c.note.ensures))
