use Rattle.lf_protocol_file.proofs.Laws.{refusals_are_one, refused_is_no_text}
use Rattle.lf_protocol_file.proofs.uniqueness.refusals_are_one.Goals as goal

pub returns-clause-one : goal.returns-clause-one
returns-clause-one c text e f a b = refusals_are_one text e f a b

pub returns-clause-none : goal.returns-clause-none
returns-clause-none c text e file a t = refused_is_no_text text e file a t
