use Rattle.std.proofs.Common.{Some, string_bytes, subst, sym}
use Rattle.leastfault_sweep.specs.Executed.{IsReadable, IsRefusedFile}
use Rattle.leastfault_sweep.specs.Replies.{text_of}
use Rattle.leastfault_sweep.proofs.executing.refused_file.Goals as goal

pub returns-in-Ok : goal.returns-in-Ok
returns-in-Ok c = subst (λ p. IsReadable (text_of p)) (sym c.in-Some.is) (Some c.in-Ok.field-0, c.in-Ok.ensures.reading)

pub returns : goal.returns
returns c =
    let told = c.in_ok-refused_line-in-Err.ensures in
    subst (λ p. IsRefusedFile (text_of p) (string_bytes c.in_ok-refused_line-in-Err.field-0)) (sym c.in-Some.is)
    (c.in-Err.error, told.0, c.in-Err.ensures.reading told.0, told.1)
