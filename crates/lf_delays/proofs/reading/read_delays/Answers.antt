use Rattle.std.proofs.Common.{◌≡◌, ◌≢◌, List, ◌∙◌, ap}
use Rattle.lf_delays.specs.declared.delay.Delay.{Delay}
use Rattle.lf_delays.specs.Delays.{AreDelays, delayed, list_text}
use Rattle.lf_delays.proofs.Pieces.{read_some, told-some}
use Rattle.lf_delays.proofs.reading.read_delays.Goals as goal

pub returns-in-Some-clause-value : goal.returns-in-Some-clause-value
returns-in-Some-clause-value c =
    let timing = c.args.network.now in
    let text = c.args.text.now in
    let are = told-some ((ds : List Delay) → AreDelays timing ds → text ≢ list_text ds) (λ v. AreDelays timing v.items × (text ≡ list_text v.items))
    c.in_ok-delays.field-0 c.in-Some.delays c.in-Some.is c.in_ok-delays.ensures in
    read_some timing c.keeps_limits.ensures text c.in-Some.delays.items are.0 are.1 c.arrivals_of.result
    (c.arrivals_of.ensures.value ∙ ap (delayed timing) c.as_slice.ensures.value)
