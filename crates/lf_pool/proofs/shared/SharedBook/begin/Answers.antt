use Rattle.std.proofs.Common.{sym, subst}
use Rattle.lf_book.specs.Books.{state_of}
use Rattle.lf_book.specs.declared.book.Book.{Book}
use Rattle.lf_certificate.specs.States.{IsStart}
use Rattle.lf_pool.proofs.shared.SharedBook.begin.Goals as goal

pub returns-clause-start : goal.returns-clause-start
returns-clause-start g c = subst (λ (b : Book). IsStart (state_of b)) (sym c.of.ensures) c.in-Ok-new.ensures.start
