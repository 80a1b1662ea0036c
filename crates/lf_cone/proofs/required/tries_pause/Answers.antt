use Rattle.std.proofs.Common.{◌+◌, sym, subst, arith}
use Rattle.std.proofs.lemmas.Bool.{both_ways, false≢true}
use Rattle.lf_faults.specs.declared.fault.Parts.TheVariants.{Pause}
use Rattle.lf_faults.proofs.Laws.{admitted-fault, any_pause}
use Rattle.lf_sim.specs.Settings.{world_of}
use Rattle.lf_cone.specs.Places.{LivesBetween}
use Rattle.lf_cone.specs.Places.{place_at}
use Rattle.lf_cone.proofs.Gathering.{marked-in, in-marked}
use Rattle.lf_cone.proofs.RequiredLemmas.{is-fault}
use Rattle.lf_cone.proofs.required.tries_pause.Goals as goal

pub returns-then-not-view-node : goal.returns-then-not-view-node
returns-then-not-view-node g c =
    let s = c.args.setting.now in
    let v = c.args.view.now in
    let limits = c.nodes-nodes.ensures.limits in (
      λ h. absurd (false≢true h),
      λ p. absurd (both_ways _ c.if-not-view-node.true ((c.requires.room.pause c.args.node c.requires.node).1
          (any_pause s.spec v.effects.set c.args.node c.args.step 1 c.requires.allowed p.allowed (omega arith) limits.horizon.0))),
    )

pub returns-then-at : goal.returns-then-at
returns-then-at g c =
    let s = c.args.setting.now in
    let v = c.args.view.now in
    let f = Pause c.args.node c.args.step in (
      λ h. absurd (false≢true h),
      λ p. absurd (p.included (marked-in v.marks.faults.now v.marks.rows c.requires.marks f
          (is-fault (world_of s) v.effects.set s.spec v.reach v.marks.faults.now c.nodes-nodes.ensures.limits f p)
          (place_at c.pause_row.result c.args.node) (omega (arith, c.pause_row.ensures.value))
          (c.at.ensures.0 c.if-at.true))),
    )

pub returns : goal.returns
returns g c =
    let s = c.args.setting.now in
    let w = world_of s in
    let v = c.args.view.now in
    let f = Pause c.args.node c.args.step in
    let limits = c.nodes-nodes.ensures.limits in (
      λ h. record {
        supports = subst (λ k. LivesBetween w v.effects.set v.reach c.args.node c.args.step (c.args.step + k)) c.pause_length.ensures.value
            (c.lives.ensures.0 h);
        allowed = any_pause s.spec v.effects.set c.args.node 1 c.args.step c.requires.allowed
            ((c.requires.room.pause c.args.node c.requires.node).0 c.if-not-view-node.false) c.requires.first c.requires.last;
        included = λ k. both_ways c.at.result c.if-at.false (c.at.ensures.1 (in-marked v.marks.faults.now v.marks.rows c.requires.marks f
            (admitted-fault s.spec f limits (c.requires.node, c.requires.first, c.requires.last))
            (place_at c.pause_row.result c.args.node) (omega (arith, c.pause_row.ensures.value)) k));
      },
      λ p. c.lives.ensures.1 (subst (λ k. LivesBetween w v.effects.set v.reach c.args.node c.args.step (c.args.step + k)) (sym c.pause_length.ensures.value)
          p.supports),
    )
