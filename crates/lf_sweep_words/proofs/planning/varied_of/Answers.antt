use Rattle.lf_sweep_words.specs.Words.{IsVariedBy}
use Rattle.lf_sweep_words.proofs.Refusing.{not_varied}
use Rattle.lf_sweep_words.proofs.planning.varied_of.Goals as goal

pub returns-in-Err : goal.returns-in-Err
returns-in-Err c =
    not_varied (IsVariedBy c.args.text.now) c.unvaried.result c.in-Err.error c.unvaried.ensures (λ other v is. c.in-Err.ensures.none other v is.1)
