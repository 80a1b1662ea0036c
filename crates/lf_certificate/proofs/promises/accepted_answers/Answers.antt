use Rattle.lf_certificate.proofs.Laws.{answer_is, covers}
use Rattle.lf_certificate.proofs.promises.accepted_answers.Goals as goal

pub returns : goal.returns
returns g c = record {
  answer = λ w b formula tree bounded accepted. answer_is w b formula tree bounded accepted;
  covers = λ w b formula tree bounded accepted path p leads. covers w b formula tree bounded accepted path p leads;
}
