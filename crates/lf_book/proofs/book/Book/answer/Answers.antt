use Rattle.std.specs.Arc.{arc_value}
use Rattle.lf_certificate.specs.Accepted.{IsBounded}
use Rattle.lf_sim.specs.Settings.{world_of}
use Rattle.lf_book.specs.Books.{state_of}
use Rattle.lf_book.proofs.StateLemmas.{answer-again}
use Rattle.lf_book.proofs.book.Book.answer.Goals as goal

pub returns : goal.returns
returns c =
    let m = c.args.self.now in
    let s = arc_value m.scenario in
    let bounded : IsBounded (world_of s.setting) s.setting.spec =
    rw (c.setting.ensures, c.deref.ensures) at c.settings_are_bounded.ensures in
    answer-again (world_of s.setting) s.setting.spec s.formula s.max_sets (state_of m) m.closed bounded c.requires m.least m.first
