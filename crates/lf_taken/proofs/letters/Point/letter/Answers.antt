use Rattle.std.proofs.Common.{◌≡◌, ◌+◌, sym, ap, ◌∙◌, true, false}
use Rattle.std.specs.Option.{option_map}
use Rattle.lf_faults.specs.Faults.{set_omits}
use Rattle.lf_sim.specs.declared.letter.Letter.{Letter}
use Rattle.lf_protocols.specs.declared.note.Note.{Note}
use Rattle.lf_sim.specs.Runs.{did, letter}
use Rattle.lf_sim.specs.Settings.{set_of, world_of}
use Rattle.lf_sim.proofs.Laws.{letter-self, letter-elsewhere, letter-omitted, letter-comes}
use Rattle.lf_taken.proofs.LettersLemmas.{letter_zero}
use Rattle.lf_taken.proofs.letters.Point.letter.Goals as goal

pub returns-then-from-self : goal.returns-then-from-self
returns-then-from-self c =
    let p = c.args.self.now in
    let w = world_of p.setting.now in
    let faults = set_of p.run.now in
    sym (letter-self w faults (did w faults) p.node (p.past + 1) c.args.from c.args.sent c.if-from-self.true)

pub returns-then-sent-eq0 : goal.returns-then-sent-eq0
returns-then-sent-eq0 c =
    let p = c.args.self.now in
    let w = world_of p.setting.now in
    let faults = set_of p.run.now in
    sym (ap (letter w faults (did w faults) p.node (p.past + 1) c.args.from) c.if-sent-eq0.true ∙ letter_zero w faults p.node (p.past + 1) c.args.from)

pub returns-then-arrival-self : goal.returns-then-arrival-self
returns-then-arrival-self c =
    let p = c.args.self.now in
    let w = world_of p.setting.now in
    let faults = set_of p.run.now in
    sym (letter-elsewhere w faults (did w faults) p.node (p.past + 1) c.args.from c.args.sent
    (λ there. c.if-arrival-self.true (c.arrival.ensures.value ∙ there)))

pub returns-then-omits : goal.returns-then-omits
returns-then-omits c =
    let p = c.args.self.now in
    let w = world_of p.setting.now in
    let faults = set_of p.run.now in
    let lost : set_omits faults c.args.from p.node c.args.sent ≡ true =
    ap (λ s. set_omits s c.args.from p.node c.args.sent) (sym c.set.ensures) ∙ sym c.omits.ensures ∙ c.if-omits.true in
    sym (letter-omitted w faults (did w faults) p.node (p.past + 1) c.args.from c.args.sent lost)

pub returns-in-Some : goal.returns-in-Some
returns-in-Some c =
    let p = c.args.self.now in
    let w = world_of p.setting.now in
    let faults = set_of p.run.now in
    let kept : set_omits faults c.args.from p.node c.args.sent ≡ false =
    ap (λ s. set_omits s c.args.from p.node c.args.sent) (sym c.set.ensures) ∙ sym c.omits.ensures ∙ c.if-omits.false in
    let made : Note → Letter Note = λ note. record { from = c.args.from; sent = c.args.sent; note = note } in
    sym (letter-comes w faults (did w faults) p.node (p.past + 1) c.args.from c.args.sent c.if-from-self.false
    (sym c.arrival.ensures.value ∙ c.if-arrival-self.false) kept
    ∙ ap (option_map made) (sym (c.sent.ensures.meaning w c.requires.run) ∙ c.in-Some.is))

pub returns-in-None : goal.returns-in-None
returns-in-None c =
    let p = c.args.self.now in
    let w = world_of p.setting.now in
    let faults = set_of p.run.now in
    let kept : set_omits faults c.args.from p.node c.args.sent ≡ false =
    ap (λ s. set_omits s c.args.from p.node c.args.sent) (sym c.set.ensures) ∙ sym c.omits.ensures ∙ c.if-omits.false in
    let made : Note → Letter Note = λ note. record { from = c.args.from; sent = c.args.sent; note = note } in
    sym (letter-comes w faults (did w faults) p.node (p.past + 1) c.args.from c.args.sent c.if-from-self.false
    (sym c.arrival.ensures.value ∙ c.if-arrival-self.false) kept
    ∙ ap (option_map made) (sym (c.sent.ensures.meaning w c.requires.run) ∙ c.in-None.is))
