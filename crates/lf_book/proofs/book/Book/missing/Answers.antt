use Rattle.std.proofs.Common.{◌≡◌, ◌+◌, List, map, take, subst, sym, Some, IsSome}
use Rattle.std.specs.Arc.{arc_value}
use Rattle.lf_faults.specs.declared.fault.Parts.{Parts}
use Rattle.lf_marks.specs.Marks.{mark_at, level_of}
use Rattle.lf_sim.specs.Settings.{world_of}
use Rattle.lf_certificate.specs.Tasks.{Task, task_at}
use Rattle.lf_book.specs.Books.{state_of}
use Rattle.lf_book.proofs.MissingLemmas.{set_at, items_of, item_is, few_items, item_stands, led-more, led-whole, missing_different, missing_each}
use Rattle.lf_book.proofs.book.Book.missing.Goals as goal

pub task-requires : goal.task-requires
task-requires c =
    let m = c.args.self.now in
    subst (λ p. IsSome (mark_at m.marks p)) (sym c.as_slice.ensures.value)
    (item_stands (mark_at m.marks) (level_of m.marks) c.in_ok-paths.paths.items c.as_slice-path-items.result.now c.paths.path-index c.path-item.result
    c.as_slice-path-items.ensures.value c.in_ok-paths.ensures c.paths-test.true c.path-item.is)

pub paths-preserved : goal.paths-preserved
paths-preserved c =
    let at = mark_at c.args.self.now.marks in
    let lent = c.as_slice-path-items.result.now in
    let i = c.paths.path-index in
    let v = c.path-item.result in
    let task : Task = record { faults = c.in_ok-task.task.set; excluded = c.in_ok-task.task.excluded.items } in
    let leads = subst (λ p. task_at at p ≡ Some task) c.as_slice.ensures.value c.in_ok-task.ensures in
    subst (λ (sets : List (List Parts)). map (set_at at) (take (i + 1) (items_of lent)) ≡ map (λ (x : List Parts). Some x) sets)
    (sym c.in_ok-push.ensures.items)
    (led-more at (items_of lent) c.paths.sets.items i v.items task (few_items lent i c.paths-test.true)
    (sym (item_is lent i v c.paths-test.true c.path-item.is)) c.paths.invariant leads)

pub returns-clause-different : goal.returns-clause-different
returns-clause-different c =
    let m = c.args.self.now in
    let s = arc_value m.scenario in
    let paths = c.in_ok-paths.paths.items in
    missing_different (world_of s.setting) s.setting.spec s.formula s.max_sets (state_of m) m.closed (items_of paths) c.paths.sets.items
    c.in_ok-paths.ensures
    (led-whole (mark_at m.marks) paths c.as_slice-path-items.result.now c.paths.path-index c.paths.sets.items c.as_slice-path-items.ensures.value
    c.paths-test.false c.paths.invariant)

pub returns-clause-each : goal.returns-clause-each
returns-clause-each c =
    let m = c.args.self.now in
    let s = arc_value m.scenario in
    let paths = c.in_ok-paths.paths.items in
    missing_each (world_of s.setting) s.setting.spec s.formula s.max_sets (state_of m) m.closed (items_of paths) c.paths.sets.items
    c.in_ok-paths.ensures
    (led-whole (mark_at m.marks) paths c.as_slice-path-items.result.now c.paths.path-index c.paths.sets.items c.as_slice-path-items.ensures.value
    c.paths-test.false c.paths.invariant)
