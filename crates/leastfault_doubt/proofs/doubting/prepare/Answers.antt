use Rattle.std.proofs.Common.{rules, inl, string_bytes}
use Rattle.leastfault_doubt.proofs.BegunLemmas.{all-begun, refused-by}
use Rattle.leastfault_doubt.proofs.doubting.prepare.Goals as goal

pub returns-in-Ok : goal.returns-in-Ok
returns-in-Ok g c =
    all-begun c.args.texts.now.protocol c.in-Some.protocol c.in-Some.is c.args.texts.now.scenario.now c.args.deep c.in-Ok.file
    c.in-Ok.ensures.reading c.prepare_with-in-Ok.result c.prepare_with-in-Ok.ensures

pub returns-in_ok-protocol_refusal-in-Err : goal.returns-in_ok-protocol_refusal-in-Err
returns-in_ok-protocol_refusal-in-Err g c =
    inl
    (refused-by c.args.texts.now.protocol c.in-Some.protocol c.in-Some.is c.in-Err.error (string_bytes c.in_ok-protocol_refusal-in-Err.field-0)
    (search rules) (c.in-Err.ensures.reading (search rules)) (search rules))
