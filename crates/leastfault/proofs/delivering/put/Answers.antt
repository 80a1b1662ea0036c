use Rattle.lf_streams.specs.Files.{name_of}
use Rattle.leastfault.proofs.PlaceLemmas.{unwritten}
use Rattle.leastfault.proofs.delivering.put.Goals as goal

pub returns-in-Err : goal.returns-in-Err
returns-in-Err g c =
    unwritten (name_of c.args.place) c.args.bytes.now (g.F.Files.desk c.args.files.now) (g.F.Files.desk c.write.new.self) c.in-Err.field-0 c.in-Err.ensures
