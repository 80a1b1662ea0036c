use Rattle.std.proofs.Common.{◌≡◌, string_bytes}
use Rattle.std.proofs.lemmas.Result.{IfOk-weaker}
use Rattle.leastfault.specs.Answers.{reaches_in}
use Rattle.leastfault.specs.Reports.{run_status}
use Rattle.leastfault.specs.Shown.{Tells}
use Rattle.leastfault.specs.declared.shown.Told.TheVariants as told
use Rattle.leastfault.proofs.shown.told_of.Goals as goal

pub returns-in-Changes : goal.returns-in-Changes
returns-in-Changes c = rw (c.in-Changes.is) c.changed.ensures

pub returns-in-Json : goal.returns-in-Json
returns-in-Json c =
    let s = c.args.scenario.now in
    let set = c.args.set.now in
    rw (c.in-Json.is) (IfOk-weaker c.written.result (λ reply. reply.value ≡ run_status (reaches_in s set))
    (λ reply. Tells told.Json s set (string_bytes reply.text) × (reply.value ≡ run_status (reaches_in s set))) (λ reply said. (tt, said)) c.written.ensures)

pub returns-in-Picture : goal.returns-in-Picture
returns-in-Picture c =
    let s = c.args.scenario.now in
    let set = c.args.set.now in
    rw (c.in-Picture.is) (IfOk-weaker c.drawn.result (λ reply. reply.value ≡ run_status (reaches_in s set))
    (λ reply. Tells told.Picture s set (string_bytes reply.text) × (reply.value ≡ run_status (reaches_in s set))) (λ reply said. (tt, said)) c.drawn.ensures)
