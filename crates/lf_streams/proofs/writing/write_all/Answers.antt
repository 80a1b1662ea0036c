use Rattle.std.proofs.Common.{rules, ◌++◌, take}
use Rattle.std.proofs.KnownBytes.{Appends-trans}
use Rattle.lf_streams.proofs.Pieces.{written_part, moved_on}
use Rattle.lf_streams.proofs.writing.write_all.Goals as goal

pub returns-in_err-taken-clause-part : goal.returns-in_err-taken-clause-part
returns-in_err-taken-clause-part g c = search (rules, written_part)

pub rest-preserved : goal.rest-preserved
rest-preserved g c =
    record {
      done = c.rest.invariant.done ++ take c.in_ok-taken.taken c.rest.rest.now;
      split = search (rules, moved_on);
      taken = search (rules, Appends-trans);
      well = search rules;
    }
