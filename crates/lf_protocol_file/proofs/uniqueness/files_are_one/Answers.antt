use Rattle.lf_protocol_file.proofs.Laws.{files_are_one}
use Rattle.lf_protocol_file.proofs.uniqueness.files_are_one.Goals as goal

pub returns : goal.returns
returns c text one other a b = files_are_one text one other a b
