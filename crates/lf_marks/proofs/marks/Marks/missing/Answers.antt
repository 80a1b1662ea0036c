use Rattle.std.proofs.Common.{ℕ, ◌+◌, length, map, subst, sym, ◌∙◌, arith, Vec, Global}
use Rattle.lf_marks.specs.Arena.{look}
use Rattle.lf_marks.specs.Counting.{AreThose}
use Rattle.lf_marks.proofs.MissLemmas.{IsMiss, misses-same, misses-pushed, misses-all}
use Rattle.lf_marks.proofs.marks.Marks.missing.Goals as goal
use Rattle.lf_marks.proofs.marks.Marks.missing.Goals.{then-misses+in_ok-path+in_ok-push, else-misses}

pub places-preserved : goal.places-preserved
places-preserved c =
    let m = c.args.self.now in
    let paths = c.places.paths.items in
    let low = c.places.invariant.0 in (
      omega (arith, low),
      omega (arith, c.places-test.true),
      elim c.if-misses.branch [
        | then-misses+in_ok-path+in_ok-push w ↦
            subst (λ (ps : Vec (Vec ℕ Global) Global). AreThose (IsMiss (look m.sets.items) m.start (c.places.place + 1)) (map (λ v. v.items) ps.items))
            (sym w.paths-is)
            (misses-pushed m.level m.start (length m.sets.items) (look m.sets.items) m.state.sound c.places.place paths w.push.new.self.items
            w.in_ok-path.path w.in_ok-push.ensures.items low w.in_ok-path.ensures (c.misses.ensures.0 w.if-misses.true) c.places.invariant.2)
        | else-misses w ↦
            subst (λ (ps : Vec (Vec ℕ Global) Global). AreThose (IsMiss (look m.sets.items) m.start (c.places.place + 1)) (map (λ v. v.items) ps.items))
            (sym w.paths-is)
            (misses-same (look m.sets.items) m.start c.places.place (map (λ v. v.items) paths)
            (λ is. let no = sym w.if-misses.false ∙ c.misses.ensures.1 is in absurd cc) c.places.invariant.2)
      ],
    )

pub returns : goal.returns
returns c =
    let m = c.args.self.now in
    misses-all m.level m.start (length m.sets.items) (look m.sets.items) m.state.sound c.places.place (map (λ v. v.items) c.places.paths.items)
    (omega (arith, c.places-test.false, c.places.invariant.1, c.len-end.ensures, m.sets.ok)) c.places.invariant.2
