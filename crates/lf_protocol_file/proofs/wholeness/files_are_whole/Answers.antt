use Rattle.lf_protocol_file.proofs.WholeFiles.{file-whole}
use Rattle.lf_protocol_file.proofs.wholeness.files_are_whole.Goals as goal

pub returns : goal.returns
returns c = file-whole
