use Rattle.std.proofs.Common.{◌∙◌, refl, sym, subst, arith}
use Rattle.lf_book.proofs.KeepLemmas.{keeps_on, reclaimed_keeps}
use Rattle.lf_book.proofs.TurnLemmas.{has_ticket, reclaimed_start, spent_of}
use Rattle.lf_book.specs.Books.{state_of}
use Rattle.lf_work.specs.Scratches.{IsScratchFor}
use Rattle.lf_book.proofs.ending.finish_watched.Goals as goal

pub returns-in_err-work_level-clause-kept : goal.returns-in_err-work_level-clause-kept
returns-in_err-work_level-clause-kept g c =
    let start = (state_of c.args.book.now).marks in
    let free = (state_of c.reclaim.new.self).marks in
    let now = (state_of c.levels.book).marks in
    let so = keeps_on start free now (reclaimed_keeps start free c.reclaim.ensures.reclaimed.marks) c.levels.invariant.kept in
    keeps_on start now (state_of c.work_level.new.book).marks so c.work_level.ensures.kept

pub returns-in_default-clause-tickets : goal.returns-in_default-clause-tickets
returns-in_default-clause-tickets g c = λ start same.
    let began = reclaimed_start (state_of c.args.book.now) (state_of c.reclaim.new.self) start c.reclaim.ensures.reclaimed in
    let few = has_ticket (state_of c.work_level.new.book) (c.in_ok-work_level.ensures.underway (c.levels.invariant.underway began)) in
    let spent = spent_of (state_of c.levels.book) (state_of c.work_level.new.book) c.in_ok-work_level.field-0 c.in_default.not-Done
    c.in_ok-work_level.ensures.worked in
    omega (arith, few, spent.spent)

pub returns-in_default-clause-kept : goal.returns-in_default-clause-kept
returns-in_default-clause-kept g c =
    let start = (state_of c.args.book.now).marks in
    let free = (state_of c.reclaim.new.self).marks in
    let now = (state_of c.levels.book).marks in
    let so = keeps_on start free now (reclaimed_keeps start free c.reclaim.ensures.reclaimed.marks) c.levels.invariant.kept in
    keeps_on start now (state_of c.work_level.new.book).marks so c.work_level.ensures.kept

pub returns-in-Some-clause-kept : goal.returns-in-Some-clause-kept
returns-in-Some-clause-kept g c =
    let start = (state_of c.args.book.now).marks in
    let free = (state_of c.reclaim.new.self).marks in
    let now = (state_of c.levels.book).marks in
    let worked = (state_of c.work_level.new.book).marks in
    let so = keeps_on start free now (reclaimed_keeps start free c.reclaim.ensures.reclaimed.marks) c.levels.invariant.kept in
    keeps_on start worked (state_of c.after_level.new.book).marks (keeps_on start now worked so c.work_level.ensures.kept) c.after_level.ensures.kept

pub levels-preserved : goal.levels-preserved
levels-preserved g c =
    let so = c.levels.invariant in
    let next = c.in-None.ensures in
    let now = (state_of c.levels.book).marks in
    let free = (state_of c.reclaim.new.self).marks in
    let worked = (state_of c.work_level.new.book).marks in
    record {
      free = next.after.free;
      underway = λ u. next.underway refl (c.in_ok-work_level.ensures.underway (so.underway u));
      kept = keeps_on free worked (state_of c.after_level.new.book).marks (keeps_on free now worked so.kept c.work_level.ensures.kept)
          c.after_level.ensures.kept;
      scenario = c.after_level.ensures.scenario ∙ c.work_level.ensures.scenario ∙ so.scenario;
      scratch = subst (λ s. IsScratchFor s c.work_level.new.scratch) (sym c.after_level.ensures.scenario) c.in_ok-work_level.ensures.scratch;
    }
