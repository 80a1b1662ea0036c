use Rattle.std.proofs.Common.{◌≡◌, true, rules}
use Rattle.std.specs.Arc.{arc_value}
use Rattle.lf_certificate.specs.Accepted.{IsBounded}
use Rattle.lf_sim.specs.Settings.{world_of}
use Rattle.lf_certificate.specs.Closed.{MissesAt}
use Rattle.lf_book.specs.Books.{state_of}
use Rattle.lf_book.proofs.EndedLemmas.{ended_least}
use Rattle.lf_book.proofs.LeastLemmas.{members_permuted}
use Rattle.lf_book.proofs.book.Book.all_least.Goals as goal

pub returns : goal.returns
returns c =
    let m = c.args.self.now in
    let s = arc_value m.scenario in
    let finished : m.finished ≡ true = search rules in
    let bounded : IsBounded (world_of s.setting) s.setting.spec = rw (c.setting.ensures, c.deref.ensures) at c.settings_are_bounded.ensures in
    let put = c.put_in_order in (
      finished,
      ended_least (world_of s.setting) s.setting.spec s.formula s.max_sets (state_of m) m.closed finished bounded put.new.sets.items put.ensures.ascending
          (members_permuted (MissesAt (state_of m).marks) c.in_ok-sets.sets.items put.new.sets.items put.ensures.same c.in_ok-sets.ensures.each),
    )
