use Rattle.std.proofs.Common.{length, refl, sym, arith, get_or}
use Rattle.std.proofs.lemmas.List.{length-take-le}
use Rattle.std.proofs.lemmas.Option.{slice_get_read}
use Rattle.std.specs.Arc.{arc_value}
use Rattle.lf_marks.specs.Marks.{mark_at}
use Rattle.lf_sim.specs.Settings.{world_of}
use Rattle.lf_book.specs.Books.{state_of}
use Rattle.lf_book.proofs.TaskLemmas.{some-way, few-on, may-on, leads-on}
use Rattle.lf_book.proofs.book.Book.step.Goals as goal

pub unreachable-requires : goal.unreachable-requires
unreachable-requires c =
    let m = c.args.self.now in
    let s = arc_value m.scenario in
    some-way (world_of s.setting) s.setting.spec s.formula s.max_sets (state_of m) m.closed c.args.path.now c.args.depth c.requires.within
    c.requires.stands (λ reach edges is. c.in_default.ensures reach edges is)

pub fault_at-requires : goal.fault_at-requires
fault_at-requires c =
    let m = c.args.self.now in
    let s = arc_value m.scenario in
    few-on (world_of s.setting) s.setting.spec s.formula s.max_sets (state_of m) m.closed c.args.path.now c.args.depth c.requires.within
    c.requires.stands c.in-Some.field-0-0.now c.in-Some.edges.now c.in-Some.ensures

pub with-larger-requires : goal.with-larger-requires
with-larger-requires c =
    let m = c.args.self.now in
    let s = arc_value m.scenario in
    let edges = c.in-Some.edges.now in
    let few = few-on (world_of s.setting) s.setting.spec s.formula s.max_sets (state_of m) m.closed c.args.path.now c.args.depth c.requires.within
    c.requires.stands c.in-Some.field-0-0.now edges c.in-Some.ensures in
    let read = slice_get_read edges (length edges) (get_or c.args.path.now c.args.depth 0) c.fault_at.result refl few c.fault_at.ensures in
    rw (c.setting.ensures, c.deref.ensures) (may-on (world_of s.setting) s.setting.spec s.formula s.max_sets (state_of m) m.closed c.args.path.now
    c.args.depth c.requires.within c.args.set.now c.in-Some.field-0-0.now edges c.fault_at.result c.requires.leads c.in-Some.ensures read)

pub slice_bounds-result-end : goal.slice_bounds-result-end
slice_bounds-result-end c =
    let m = c.args.self.now in
    let s = arc_value m.scenario in
    let edges = c.in-Some.edges.now in
    let kid = get_or c.args.path.now c.args.depth 0 in
    let few = few-on (world_of s.setting) s.setting.spec s.formula s.max_sets (state_of m) m.closed c.args.path.now c.args.depth c.requires.within
    c.requires.stands c.in-Some.field-0-0.now edges c.in-Some.ensures in
    sym (length-take-le kid edges (omega (arith, few)))

pub returns : goal.returns
returns c =
    let m = c.args.self.now in
    let s = arc_value m.scenario in
    let edges = c.in-Some.edges.now in
    let few = few-on (world_of s.setting) s.setting.spec s.formula s.max_sets (state_of m) m.closed c.args.path.now c.args.depth c.requires.within
    c.requires.stands c.in-Some.field-0-0.now edges c.in-Some.ensures in
    let read = slice_get_read edges (length edges) (get_or c.args.path.now c.args.depth 0) c.fault_at.result refl few c.fault_at.ensures in
    leads-on (mark_at m.marks) c.args.path.now c.args.depth c.args.set.now c.in-Some.field-0-0.now edges c.fault_at.result c.with-larger.result
    c.requires.within c.in-Some.ensures read c.with-larger.ensures
