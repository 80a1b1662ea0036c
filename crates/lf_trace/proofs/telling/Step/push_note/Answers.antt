use Rattle.std.proofs.Common.{◌≡◌, ◌++◌, string_bytes}
use Rattle.std.proofs.lemmas.Result.{IfOk-weaker}
use Rattle.lf_sim.specs.Settings.{set_of, world_of}
use Rattle.lf_trace.specs.Lines.{line}
use Rattle.lf_trace.specs.Traces.{fate, note_line}
use Rattle.lf_trace.proofs.Lines.{note_told}
use Rattle.lf_trace.proofs.telling.Step.push_note.Goals as goal

pub returns : goal.returns
returns g c =
    let words = g.M.Worded.words c.args.self.now.setting.now.machine in
    let w = world_of c.args.self.now.setting.now in
    let faults = set_of c.args.self.now.run.now in
    let tail = line (fate w faults c.args.self.now.number c.args.from c.args.to) in
    IfOk-weaker c.push_fate.result (λ _. string_bytes c.push_fate.new.text ≡ string_bytes c.push_str.new.self ++ tail)
    (λ _. string_bytes c.push_fate.new.text ≡ string_bytes c.args.text.now ++ note_line words w faults c.args.self.now.number c.args.from c.args.to c.args.note)
    (λ _ told. note_told c.args.from c.args.to (string_bytes c.args.text.now) (string_bytes c.write.new.self) (string_bytes c.push_note.new.text)
    (string_bytes c.push_str.new.self) (string_bytes c.push_fate.new.text) (words.note c.args.note) tail
    c.in_ok-write.ensures.bytes c.in_ok-push_note.ensures c.in_ok-push_str.ensures.bytes told)
    c.push_fate.ensures
