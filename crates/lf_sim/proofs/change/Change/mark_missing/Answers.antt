use Rattle.std.proofs.Common.{subst, inl, inr}
use Rattle.lf_sim.specs.Settings.{world_of}
use Rattle.lf_sim.specs.Changes.{AreMarked, IsMarked}
use Rattle.lf_sim.proofs.MarksLemmas.{marked-more, marked-all}
use Rattle.lf_sim.proofs.change.Change.mark_missing.Goals as goal
use Rattle.lf_sim.proofs.change.Change.mark_missing.Goals.{then-not-contains, else-not-contains}

pub loop-fault-preserved : goal.loop-fault-preserved
loop-fault-preserved g c =
    let w = world_of c.args.self.now.setting.now in
    let items = c.items-fault-items.result.now in
    let i = c.loop-fault.fault-index in
    let inv = c.loop-fault.invariant in
    let to = c.args.self.now.to.now.set in
    let run = c.args.run.now in
    elim c.if-not-contains.branch [
      | then-not-contains b ↦
          record {
            marked = rw b.marks-is
                (marked-more w to run items c.args.other.now i c.fault-item.result c.loop-fault.marks.points b.mark_fault.new.marks.points
                c.loop-fault-test.true
                c.fault-item.is inv.marked b.mark_fault.ensures.kept
                (inr (subst (λ f. IsMarked w to run f b.mark_fault.new.marks.points) b.parts.ensures.value b.mark_fault.ensures.marked)));
            kept = rw b.marks-is (λ n t h. b.mark_fault.ensures.kept n t (inv.kept n t h));
          }
      | else-not-contains b ↦
          record {
            marked = rw b.marks-is
                (marked-more w to run items c.args.other.now i c.fault-item.result c.loop-fault.marks.points c.loop-fault.marks.points c.loop-fault-test.true
                c.fault-item.is inv.marked (λ n t h. h) (inl (c.contains.ensures.0 b.if-not-contains.false)));
            kept = rw b.marks-is inv.kept;
          }
    ]

pub returns-clause-marked : goal.returns-clause-marked
returns-clause-marked g c =
    let w = world_of c.args.self.now.setting.now in
    let to = c.args.self.now.to.now.set in
    let run = c.args.run.now in
    subst (λ xs. AreMarked w to run xs c.args.other.now c.loop-fault.marks.points) c.items-fault-items.ensures.value
    (marked-all w to run c.items-fault-items.result.now c.args.other.now c.loop-fault.fault-index c.loop-fault.marks.points
    c.loop-fault-test.false c.loop-fault.auto.fault-index-end c.loop-fault.invariant.marked)
