use Rattle.std.proofs.Common.{◌≡◌, ℕ, ◌<◌, ◌≤◌, true, false, arith}
use Rattle.std.specs.Prelude.{◌≢◌, ◌⊎◌}
use Rattle.lf_sim.specs.Differences.{differs}
use Rattle.lf_sim.specs.Settings.{world_of}
use Rattle.lf_sim.specs.Changes.{Ignores}
use Rattle.lf_sim.specs.Marks.{is_marked}
use Rattle.lf_sim.proofs.MarksLemmas.{all-eight, unmarked-before}
use Rattle.lf_sim.proofs.change.Change.mark_notes.Goals as goal

pub returns-clause-same : goal.returns-clause-same
returns-clause-same g c m inside =
    let w = world_of c.args.self.now.setting.now in
    let few : w.rules.nodes ≤ 8 = omega (arith, c.args.self.now.setting.now.nodes_agree, c.nodes-nodes.ensures.limits.nodes.1) in
    let to = c.args.self.now.to.now.set in
    let run = c.args.run.now in
    let node = c.args.node in
    let step = c.args.step in
    let told = c.args.told.now in
    let k1 = c.mark_note.new.marks.points in
    let k2 = c.mark_note-2.new.marks.points in
    let k3 = c.mark_note-3.new.marks.points in
    let k4 = c.mark_note-4.new.marks.points in
    let k5 = c.mark_note-5.new.marks.points in
    let k6 = c.mark_note-6.new.marks.points in
    let k7 = c.mark_note-7.new.marks.points in
    let k8 = c.mark_note-8.new.marks.points in
    let r7 : (n t : ℕ) → is_marked k7 n t ≡ true → is_marked k8 n t ≡ true = c.mark_note-8.ensures.kept in
    let r6 : (n t : ℕ) → is_marked k6 n t ≡ true → is_marked k8 n t ≡ true = λ n t h. r7 n t (c.mark_note-7.ensures.kept n t h) in
    let r5 : (n t : ℕ) → is_marked k5 n t ≡ true → is_marked k8 n t ≡ true = λ n t h. r6 n t (c.mark_note-6.ensures.kept n t h) in
    let r4 : (n t : ℕ) → is_marked k4 n t ≡ true → is_marked k8 n t ≡ true = λ n t h. r5 n t (c.mark_note-5.ensures.kept n t h) in
    let r3 : (n t : ℕ) → is_marked k3 n t ≡ true → is_marked k8 n t ≡ true = λ n t h. r4 n t (c.mark_note-4.ensures.kept n t h) in
    let r2 : (n t : ℕ) → is_marked k2 n t ≡ true → is_marked k8 n t ≡ true = λ n t h. r3 n t (c.mark_note-3.ensures.kept n t h) in
    let r1 : (n t : ℕ) → is_marked k1 n t ≡ true → is_marked k8 n t ≡ true = λ n t h. r2 n t (c.mark_note-2.ensures.kept n t h) in
    all-eight
    (λ m. m < w.rules.nodes → node ≢ m → w.arrival node m step ≤ w.horizon → is_marked k8 m (w.arrival node m step) ≡ false
    → Ignores w to m (w.arrival node m step) run ⊎ (differs told m ≡ false))
    (λ i a e f. c.mark_note.ensures.same c.requires.node i a c.requires.last e
    (unmarked-before k1 k8 0 (w.arrival node 0 step) (r1 0 (w.arrival node 0 step)) f))
    (λ i a e f. c.mark_note-2.ensures.same c.requires.node i a c.requires.last e
    (unmarked-before k2 k8 1 (w.arrival node 1 step) (r2 1 (w.arrival node 1 step)) f))
    (λ i a e f. c.mark_note-3.ensures.same c.requires.node i a c.requires.last e
    (unmarked-before k3 k8 2 (w.arrival node 2 step) (r3 2 (w.arrival node 2 step)) f))
    (λ i a e f. c.mark_note-4.ensures.same c.requires.node i a c.requires.last e
    (unmarked-before k4 k8 3 (w.arrival node 3 step) (r4 3 (w.arrival node 3 step)) f))
    (λ i a e f. c.mark_note-5.ensures.same c.requires.node i a c.requires.last e
    (unmarked-before k5 k8 4 (w.arrival node 4 step) (r5 4 (w.arrival node 4 step)) f))
    (λ i a e f. c.mark_note-6.ensures.same c.requires.node i a c.requires.last e
    (unmarked-before k6 k8 5 (w.arrival node 5 step) (r6 5 (w.arrival node 5 step)) f))
    (λ i a e f. c.mark_note-7.ensures.same c.requires.node i a c.requires.last e
    (unmarked-before k7 k8 6 (w.arrival node 6 step) (r7 6 (w.arrival node 6 step)) f))
    (λ i a e f. c.mark_note-8.ensures.same c.requires.node i a c.requires.last e f)
    m (omega (arith, inside, few)) inside

pub returns-clause-kept : goal.returns-clause-kept
returns-clause-kept g c n t h =
    c.mark_note-8.ensures.kept n t
    (c.mark_note-7.ensures.kept n t
    (c.mark_note-6.ensures.kept n t
    (c.mark_note-5.ensures.kept n t
    (c.mark_note-4.ensures.kept n t (c.mark_note-3.ensures.kept n t (c.mark_note-2.ensures.kept n t (c.mark_note.ensures.kept n t h)))))))
