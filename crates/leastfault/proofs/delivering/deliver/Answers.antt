use Rattle.std.proofs.Common.{◌∷◌, [], Option, None, List, ℕ, Ok, subst}
use Rattle.lf_words.specs.Words.{written_to}
use Rattle.leastfault.specs.Commands.{certificate_of}
use Rattle.leastfault.specs.Places.{WasDelivered, filed_of}
use Rattle.leastfault.proofs.PlaceLemmas.{both_written}
use Rattle.leastfault.proofs.delivering.deliver.Goals as goal

pub returns : goal.returns
returns g c =
    let old = g.F.Files.desk c.args.files.now in
    let mid = g.F.Files.desk c.file_certificate.new.files in
    let new = g.F.Files.desk c.put.new.files in
    let certificate = certificate_of c.args.reply.now.value in
    let first = subst (λ (file : Option (List ℕ)). WasDelivered (filed_of file certificate) old mid (Ok c.in_ok-file_certificate.field-0))
    c.certificate_file.ensures c.in_ok-file_certificate.ensures in
    let last = subst (λ (bytes : List ℕ). WasDelivered ((None, bytes) ∷ []) mid new c.put.result) c.as_bytes.ensures.value c.put.ensures in
    both_written (filed_of (written_to c.args.asked.now) certificate) _ old mid new c.in_ok-file_certificate.field-0 first c.put.result last
