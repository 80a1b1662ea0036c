use Rattle.std.proofs.Common.{ap, is_some}
use Rattle.std.specs.Arc.{arc_value}
use Rattle.lf_sim.specs.Settings.{world_of}
use Rattle.lf_book.specs.Books.{state_of}
use Rattle.lf_book.proofs.EndedLemmas.{ended_answer, ended_none}
use Rattle.lf_book.proofs.book.Book.ending.Goals as goal

pub returns-in-Some-clause-deepened : goal.returns-in-Some-clause-deepened
returns-in-Some-clause-deepened c =
    let m = c.args.self.now in
    let s = arc_value m.scenario in
    ended_answer (world_of s.setting) s.setting.spec s.formula s.max_sets (state_of m) m.closed c.requires m.least m.first (ap is_some c.in-Some.is)

pub returns-in-None-clause-deepened : goal.returns-in-None-clause-deepened
returns-in-None-clause-deepened c =
    let m = c.args.self.now in
    let s = arc_value m.scenario in
    ended_none (world_of s.setting) s.setting.spec s.formula s.max_sets (state_of m) m.closed c.requires m.least m.first (ap is_some c.in-None.is)
