use Rattle.std.proofs.Common.{refl, arith}
use Rattle.lf_marks.specs.Marks.{mark_at}
use Rattle.lf_book.proofs.CountLemmas.{some-ready, some-claimed}
use Rattle.lf_book.proofs.StateLemmas.{all-done, none-open}
use Rattle.lf_book.proofs.book.Book.take_near.Goals as goal

pub returns-then-counts-eq0-2-clause-taken : goal.returns-then-counts-eq0-2-clause-taken
returns-then-counts-eq0-2-clause-taken g c =
    let n = c.counts-counts.result in
    let done = all-done (mark_at c.args.self.now.marks) n.ready n.claimed n.answered n.waiting (omega arith) (omega arith) c.counts-counts.ensures.counts in
    record { going = cc; none = done.none; free = done.free; same = record { level = refl; next = refl; finished = refl; marks = λ q. refl } }

pub returns-then-counts-eq0-clause-taken : goal.returns-then-counts-eq0-clause-taken
returns-then-counts-eq0-clause-taken g c =
    let n = c.counts-counts.result in
    record {
      going = cc;
      none = none-open (mark_at c.args.self.now.marks) n.ready n.claimed n.answered n.waiting (omega arith) c.counts-counts.ensures.counts;
      claimed = some-claimed (mark_at c.args.self.now.marks) n.ready n.claimed n.answered n.waiting (omega arith) c.counts-counts.ensures.counts;
      same = record { level = refl; next = refl; finished = refl; marks = λ q. refl };
    }

pub returns-then-self-2-clause-taken : goal.returns-then-self-2-clause-taken
returns-then-self-2-clause-taken g c =
    let n = c.counts-counts.result in
    record {
      going = cc;
      ready = some-ready (mark_at c.args.self.now.marks) n.ready n.claimed n.answered n.waiting (omega arith) c.counts-counts.ensures.counts;
      spent = omega arith;
      same = record { level = refl; next = refl; finished = refl; marks = λ q. refl };
    }

pub claim-requires-clause-ready : goal.claim-requires-clause-ready
claim-requires-clause-ready g c =
    let n = c.counts-counts.result in
    some-ready (mark_at c.args.self.now.marks) n.ready n.claimed n.answered n.waiting (omega arith) c.counts-counts.ensures.counts
