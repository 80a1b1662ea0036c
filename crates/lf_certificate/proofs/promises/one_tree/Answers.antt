use Rattle.lf_certificate.proofs.Laws.{tree_accepted, tree_exists, tree_one}
use Rattle.lf_certificate.proofs.promises.one_tree.Goals as goal

pub returns : goal.returns
returns g c = record {
  accepted = λ w b formula tree bounded is. tree_accepted w b formula tree bounded is;
  exists = λ w b formula limits. tree_exists w b formula limits;
  one = λ w b formula one other h k. tree_one w b formula one other h k;
}
