use Rattle.std.proofs.Common.{arith}
use Rattle.std.proofs.lemmas.Bool.{false≢true}
use Rattle.std.proofs.lemmas.Nat.Bits.{shr_and_one, bit_at-lt}
use Rattle.lf_faults.specs.declared.fault.Parts.TheVariants.{Omit}
use Rattle.lf_faults.proofs.Laws.{admitted-fault}
use Rattle.lf_sim.specs.Settings.{world_of}
use Rattle.lf_cone.specs.Cones.{Supports}
use Rattle.lf_cone.specs.Places.{sender_row, place_at}
use Rattle.lf_cone.proofs.Gathering.{marked-in, in-marked}
use Rattle.lf_cone.proofs.RequiredLemmas.{is-admitted, is-fault, omission-added}
use Rattle.lf_cone.proofs.required.tries_omission.Goals as goal

pub returns-then-from-to : goal.returns-then-from-to
returns-then-from-to g c =
    let s = c.args.setting.now in
    let v = c.args.view.now in
    let f = Omit c.args.from c.args.to c.args.step in (
      λ h. absurd (false≢true h),
      λ p. absurd ((is-admitted (world_of s) v.effects.set s.spec v.reach v.marks.faults.now c.nodes-nodes.ensures.limits f p).2 c.if-from-to.true),
    )

pub returns-then-slots-to-eq0 : goal.returns-then-slots-to-eq0
returns-then-slots-to-eq0 g c =
    let s = c.args.setting.now in
    let v = c.args.view.now in
    let f = Omit c.args.from c.args.to c.args.step in
    let limits = c.nodes-nodes.ensures.limits in
    let bit = shr_and_one c.args.slots c.args.to in (
      λ h. absurd (false≢true h),
      λ p.
          let set = (c.requires.slots c.args.to (omega (arith, c.requires.to, limits.nodes.1))).1 (
            p.supports.0,
            λ m. p.included
                (marked-in v.marks.faults.now v.marks.rows c.requires.marks f
                (is-fault (world_of s) v.effects.set s.spec v.reach v.marks.faults.now limits f p) (place_at (sender_row c.args.from c.args.step) c.args.to)
                (omega arith) m),
          ) in
          absurd (omega (arith, set, bit, c.if-slots-to-eq0.true)),
    )

pub returns : goal.returns
returns g c =
    let s = c.args.setting.now in
    let w = world_of s in
    let v = c.args.view.now in
    let f = Omit c.args.from c.args.to c.args.step in
    let limits = c.nodes-nodes.ensures.limits in
    let bit = shr_and_one c.args.slots c.args.to in
    let low = bit_at-lt c.args.slots c.args.to in
    let slot = c.requires.slots c.args.to (omega (arith, c.requires.to, limits.nodes.1)) in (
      λ h.
          let sent = slot.0 (omega (arith, bit, low, c.if-slots-to-eq0.false)) in
          let supports : Supports w v.effects.set v.reach f = (sent.0, c.is_heard.ensures.0 h) in
          record {
            supports = supports;
            allowed = omission-added w v.effects.set s.spec v.reach v.marks.faults.now limits c.requires.allowed c.requires.few c.args.from c.args.to
                c.args.step c.requires.from c.requires.to c.if-from-to.false c.requires.first c.requires.last supports;
            included = λ k. sent.1 (in-marked v.marks.faults.now v.marks.rows c.requires.marks f (admitted-fault s.spec f limits
                (c.requires.from, c.requires.to, c.if-from-to.false, c.requires.first, c.requires.last))
                (place_at (sender_row c.args.from c.args.step) c.args.to) (omega arith) k);
          },
      λ p. c.is_heard.ensures.1 p.supports.1,
    )
