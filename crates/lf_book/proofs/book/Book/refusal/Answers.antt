use Rattle.std.proofs.Common.{◌≡◌, ◌∙◌, sym, true, false}
use Rattle.lf_book.proofs.book.Book.refusal.Goals as goal

pub returns-then-not-is_task : goal.returns-then-not-is_task
returns-then-not-is_task c =
    let claimed = rw (c.path.ensures, c.ticket.ensures) at c.is_claimed_at.ensures.0 c.if-not-is_claimed_at.false in
    let same = c.requires.0 c.if-not-same.false in
    let works = rw (c.path-2.ensures, c.set.ensures, c.excluded.ensures) at c.is_task.ensures.1 in (
      (c.args.job.now.path.items, claimed),
      same,
      λ claims. let never : true ≡ false = sym (works claims.works) ∙ c.if-not-is_task.true in absurd cc,
    )
