use Rattle.lf_grammar.proofs.Enough.{enough-same}
use Rattle.lf_grammar.proofs.reading_laws.enough_steps_read_the_same.Goals as goal

pub returns : goal.returns
returns c at m n next ts g h = enough-same at m n next ts g h
