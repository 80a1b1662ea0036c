use Rattle.std.proofs.Common.{◌≡◌, ℕ, ◌+◌, ◌<◌, ◌≤◌, true, false, arith, refl, inl, inr}
use Rattle.std.specs.Prelude.{◌≢◌, ◌⊎◌}
use Rattle.std.proofs.lemmas.Bool.{both_ways}
use Rattle.lf_sim.specs.Changes.{Ignores}
use Rattle.lf_sim.specs.Differences.{IsTold}
use Rattle.lf_sim.specs.Marks.{is_marked}
use Rattle.lf_sim.specs.Outs.{note_to}
use Rattle.lf_sim.specs.Runs.{did}
use Rattle.lf_sim.specs.Settings.{world_of}
use Rattle.lf_sim.proofs.WaysLemmas.{covers_worked}
use Rattle.lf_sim.proofs.change.Change.carry_point.Goals as goal
use Rattle.lf_sim.proofs.change.Change.carry_point.Goals.{then-told, else-told}

pub returns-clause-marks : goal.returns-clause-marks
returns-clause-marks g c =
    let w = world_of c.args.self.now.setting.now in
    let from = c.args.self.now.from.now in
    let to = c.args.self.now.to.now.set in
    let again = c.play_again-told in
    let before = c.args.marks.now.points in
    let between = c.if-told.marks.points in
    let after = c.mark_notes.new.marks.points in
    let run = again.new.run in
    let node = c.args.node in
    let step = c.args.step in
    let stood = did w from node step in
    let turn = did w to node step in
    let told : IsTold again.result stood turn =
    again.ensures.told stood (c.requires.way.next node c.requires.node (omega arith) c.requires.last) in
    let kept : (n t : ℕ) → is_marked before n t ≡ true → is_marked between n t ≡ true = elim c.if-told.branch [
      | then-told b ↦ rw b.marks-is b.mark.ensures.kept
      | else-told b ↦ rw b.marks-is (λ n t h. h)
    ] in
    let state : is_marked after node (step + 1) ≡ false → stood.state ≡ turn.state = elim c.if-told.branch [
      | then-told b ↦ λ free.
          let there : is_marked between node (step + 1) ≡ true = rw b.marks-is b.mark.ensures.there in
          absurd (both_ways (is_marked after node (step + 1)) free (c.mark_notes.ensures.kept node (step + 1) there))
      | else-told b ↦ λ free. told.state b.if-told.false
    ] in
    let notes : (m : ℕ) → m < w.rules.nodes → node ≢ m → w.arrival node m step ≤ w.horizon → is_marked after m (w.arrival node m step) ≡ false
    → Ignores w to m (w.arrival node m step) run ⊎ (note_to stood.out m ≡ note_to turn.out m) =
    λ m inside apart last free. elim (c.mark_notes.ensures.same m inside apart last free) [
      | inl deaf ↦ inl deaf
      | inr same ↦ inr (told.notes m same)
    ] in
    covers_worked w from to c.args.run.now run node step c.requires.node c.requires.last again.ensures.others before after stood turn
    c.requires.marks refl again.ensures.there (λ n t h. c.mark_notes.ensures.kept n t (kept n t h)) state notes
