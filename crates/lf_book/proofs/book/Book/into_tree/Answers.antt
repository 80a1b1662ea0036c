use Rattle.std.proofs.Common.{◌≡◌, true, rules}
use Rattle.std.specs.Arc.{arc_value}
use Rattle.lf_certificate.specs.Accepted.{IsBounded}
use Rattle.lf_certificate.proofs.Laws.{tree_accepted}
use Rattle.lf_marks.specs.Marks.{mark_at, level_of}
use Rattle.lf_sim.specs.Settings.{world_of}
use Rattle.lf_book.specs.Books.{state_of}
use Rattle.lf_book.proofs.EndedLemmas.{ended_ready, ended_free, ended_tree}
use Rattle.lf_book.proofs.PlaceLemmas.{places_answered}
use Rattle.lf_book.proofs.book.Book.into_tree.Goals as goal

pub into_nodes-requires-clause-done : goal.into_nodes-requires-clause-done
into_nodes-requires-clause-done c =
    let m = c.args.self in
    let s = arc_value m.scenario in
    let finished : m.finished ≡ true = search rules in
    ended_ready (world_of s.setting) s.setting.spec s.formula s.max_sets (state_of m) m.closed finished

pub into_nodes-requires-clause-free : goal.into_nodes-requires-clause-free
into_nodes-requires-clause-free c =
    let m = c.args.self in
    let s = arc_value m.scenario in
    let finished : m.finished ≡ true = search rules in
    ended_free (world_of s.setting) s.setting.spec s.formula s.max_sets (state_of m) m.closed finished

pub returns-clause-tree : goal.returns-clause-tree
returns-clause-tree c =
    let m = c.args.self in
    let s = arc_value m.scenario in
    let finished : m.finished ≡ true = search rules in
    let bounded : IsBounded (world_of s.setting) s.setting.spec = rw (c.setting.ensures, c.deref.ensures) at c.settings_are_bounded.ensures in
    ended_tree (world_of s.setting) s.setting.spec s.formula s.max_sets (state_of m) m.closed finished bounded m.least c.into_nodes.result m.first
    c.into_nodes.ensures

pub returns-clause-accepted : goal.returns-clause-accepted
returns-clause-accepted c =
    let m = c.args.self in
    let s = arc_value m.scenario in
    let finished : m.finished ≡ true = search rules in
    let bounded : IsBounded (world_of s.setting) s.setting.spec = rw (c.setting.ensures, c.deref.ensures) at c.settings_are_bounded.ensures in
    tree_accepted (world_of s.setting) s.setting.spec s.formula (record { answer = m.least; root = c.into_nodes.result }) bounded
    (ended_tree (world_of s.setting) s.setting.spec s.formula s.max_sets (state_of m) m.closed finished bounded m.least c.into_nodes.result m.first
    c.into_nodes.ensures)

pub returns-clause-places : goal.returns-clause-places
returns-clause-places c =
    let m = c.args.self in
    let s = arc_value m.scenario in
    let finished : m.finished ≡ true = search rules in
    let bounded : IsBounded (world_of s.setting) s.setting.spec = rw (c.setting.ensures, c.deref.ensures) at c.settings_are_bounded.ensures in
    places_answered (world_of s.setting) s.setting.spec s.formula (level_of m.marks) (mark_at m.marks)
    (record { answer = m.least; root = c.into_nodes.result })
    (ended_tree (world_of s.setting) s.setting.spec s.formula s.max_sets (state_of m) m.closed finished bounded m.least c.into_nodes.result m.first
    c.into_nodes.ensures) c.into_nodes.ensures
