use Rattle.lf_protocol_file.proofs.NumberLemmas.{file-numbered}
use Rattle.lf_protocol_file.proofs.numbers.numbers_are_places.Goals as goal

pub returns : goal.returns
returns c members file is = file-numbered members file is
