use Rattle.std.proofs.Common.{Some, sym, ap, subst, ◌∙◌}
use Rattle.lf_book.specs.Books.{state_of}
use Rattle.lf_pool.specs.Holds.{IsAnsweredCount}
use Rattle.lf_pool.proofs.CountLemmas.{start-counted}
use Rattle.lf_pool.proofs.locked.Locked.new.Goals as goal

pub invariant_of-result : goal.invariant_of-result
invariant_of-result g c =
    let book = c.in_ok-book.book in
    record {
      counted = subst (λ n. IsAnsweredCount book n) (sym c.requires.none) (start-counted (state_of book).marks c.in_ok-book.ensures.start.marks);
      searches = c.requires.scenario ∙ ap Some (sym c.in_ok-book.ensures.scenario);
    }
