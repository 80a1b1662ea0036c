use Rattle.std.proofs.Common.{Some, sym, ap, ◌∙◌, subst, ◌+◌, arith}
use Rattle.std.specs.Prelude.{is_err}
use Rattle.lf_pool.specs.Holds.{IsAnsweredCount}
use Rattle.lf_pool.proofs.HoldLemmas.{refused-counted, file-counted, refused-unclaimed}
use Rattle.lf_pool.proofs.ScenarioLemmas.{finding-of, left-in}
use Rattle.lf_pool.proofs.locked.Locked.file.Goals as goal

pub invariant_of-self : goal.invariant_of-self
invariant_of-self g c =
    let m = c.args.self.now in
    record {
      counted = refused-counted m.book c.file_in.new.book c.file_in.result m.total.total (ap is_err c.in_default.is)
          c.file_in.ensures.unchanged m.counted;
      searches = m.searches ∙ ap Some (sym c.file_in.ensures.scenario);
    }

pub invariant_of-self-2 : goal.invariant_of-self-2
invariant_of-self-2 g c =
    let m = c.args.self.now in
    record {
      counted = subst (λ n. IsAnsweredCount c.file_in.new.book n) (sym (c.audit.ensures.total ∙ c.add.ensures.total))
          (file-counted m.book c.file_in.new.book c.args.found.finding c.file_in.result m.total.total (ap is_err c.in-Ok.is)
          c.file_in.ensures.filed c.books_are_closed.ensures.closed m.counted);
      searches = m.searches ∙ ap Some (sym c.file_in.ensures.scenario);
    }

pub file_in-requires : goal.file_in-requires
file_in-requires g c = λ given.
    finding-of g.L.Searched.scenario c.args.self.now.book c.args.found c.args.self.now.searches (c.requires.given given)

pub keep-requires : goal.keep-requires
keep-requires g c = left-in g.L.Searched.scenario c.args.found c.args.given c.in-Ok.left c.requires.given c.in-Ok.ensures.left

pub overflow_add-filed : goal.overflow_add-filed
overflow_add-filed g c =
    let m = c.args.self.now in
    let more = file-counted m.book c.file_in.new.book c.args.found.finding c.file_in.result m.total.total
    (ap is_err c.in-Ok.is) c.file_in.ensures.filed c.books_are_closed.ensures.closed m.counted in
    let fits = c.books_are_closed-2.ensures.few (m.total.total + 1) more in
    omega (arith, fits, c.audit.ensures.bound, c.add.ensures.amount, c.add.ensures.total, c.args.share.now.same)

pub returns-in_default-clause-found : goal.returns-in_default-clause-found
returns-in_default-clause-found g c =
    let m = c.args.self.now in (
      m.book,
      c.args.found,
      m.searches,
      λ claimed. refused-unclaimed m.book c.args.found.finding c.file_in.result (ap is_err c.in_default.is) c.file_in.ensures.refused claimed,
    )
