use Rattle.std.proofs.Common.{sym, drop, arith}
use Rattle.std.proofs.lemmas.Bool.{eqb-true}
use Rattle.std.proofs.lemmas.List.{drop_all}
use Rattle.lf_marks.specs.Claims.{standing}
use Rattle.lf_marks.proofs.StateLemmas.{none-open}
use Rattle.lf_marks.proofs.marks.Marks.next_path.Goals as goal

pub returns-clause-none : goal.returns-clause-none
returns-clause-none g c =
    let m = c.args.self.now in
    none-open m.level m.start m.sets.items (drop m.at m.queue.items) m.coming.items m.opened.items (standing m.claims) m.untaken m.waiting
    m.answered m.state (omega (arith, eqb-true m.opened.len 0 (sym c.if-not-is_empty.ensures), m.opened.ok))
    (drop_all m.at m.queue.items (omega (arith, c.if-self-len.false, c.len.ensures, m.queue.ok)))
