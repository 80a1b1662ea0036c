use Rattle.lf_tree.proofs.FirstFaults.{own-json}
use Rattle.lf_tree.proofs.ReadBack.{tree-back}
use Rattle.lf_tree.proofs.facts.texts_are_json.Goals as goal

pub returns-clause-json : goal.returns-clause-json
returns-clause-json c = own-json

pub returns-clause-read_back : goal.returns-clause-read_back
returns-clause-read_back c = λ t is range. tree-back t is range.shallow
