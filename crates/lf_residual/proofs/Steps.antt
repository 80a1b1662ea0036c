-- What lasts is shown, and neither a step nor waking takes it back.
use Rattle.std.proofs.Common.{◌≡◌, ℕ, Bool, true, false, List, refl}
use Rattle.std.specs.Prelude.{◌≢◌, nat_le}
use Rattle.std.proofs.lemmas.Bool.{cond_both, both_ways}
use Rattle.lf_sim.specs.declared.letter.Letter.{Letter}
use Rattle.lf_protocols.specs.declared.fact.Fact.{Fact}
use Rattle.lf_protocols.specs.declared.note.Note.{Note}
use Rattle.lf_protocols.specs.declared.protocol.Kind.{Kind}
use Rattle.lf_protocols.specs.declared.protocol.Kind.TheVariants as kinds
use Rattle.lf_protocols.specs.declared.state.State.{State}
use Rattle.lf_protocols.specs.declared.state.State.TheVariants as states
use Rattle.lf_protocols.specs.PrimaryBackupTable.{primary_backup_step}
use Rattle.lf_protocols.specs.Protocols.{wrapped, ignored, start_of, step_of, wake_of, shows_of}
use Rattle.lf_residual.specs.Lasting.{lasts_of}
use Rattle.lf_residual.proofs.Commits.{commit-shows, two_phase-keeps, three_phase-keeps}
use Rattle.lf_residual.proofs.Deliveries.{retry-keeps, retry-shows, redundant-keeps, redundant-shows}
use Rattle.lf_residual.proofs.Replicas.{replica-keeps, replica-shows, with-since}

pub lasts-shows : (k : Kind) (n : ℕ) (state : State) (fact : Fact) → lasts_of k state fact ≡ true → shows_of k n state fact ≡ true
lasts-shows (kinds.Retry nodes tries) n (states.Retry own) fact h = retry-shows own fact h
lasts-shows (kinds.Redundant nodes tries) n (states.Redundant own) fact h = redundant-shows own fact h
lasts-shows (kinds.TwoPhase nodes patience votes) n (states.TwoPhase own) fact h = commit-shows own.phase fact h
lasts-shows (kinds.ThreePhase nodes patience votes) n (states.ThreePhase own) fact h = commit-shows own.phase fact h
lasts-shows (kinds.PrimaryBackup nodes patience) n (states.PrimaryBackup own) fact h = replica-shows own fact h
lasts-shows k n state fact h = absurd cc

-- a commit, in which node 0 asks at step 1 whatever it was in
abbrev pub is_commit : Kind → Bool
is_commit (kinds.TwoPhase nodes patience votes) = true
is_commit (kinds.ThreePhase nodes patience votes) = true
is_commit k = false

-- there nothing lasts yet at the start
pub start-open : (k : Kind) (n : ℕ) (fact : Fact) → is_commit k ≡ true → lasts_of k (start_of k n) fact ≡ true → ⊥
start-open (kinds.TwoPhase nodes patience votes) n fact c h = cc
start-open (kinds.ThreePhase nodes patience votes) n fact c h = cc
start-open k n fact c h = cc

pub wake-keeps : (k : Kind) (n t : ℕ) (state : State) (fact : Fact) → lasts_of k state fact ≡ true → lasts_of k (wake_of k n t state) fact ≡ true
wake-keeps (kinds.Retry nodes tries) n t (states.Retry own) fact h = h
wake-keeps (kinds.Redundant nodes tries) n t (states.Redundant own) fact h = h
wake-keeps (kinds.TwoPhase nodes patience votes) n t (states.TwoPhase own) fact h = h
wake-keeps (kinds.ThreePhase nodes patience votes) n t (states.ThreePhase own) fact h = h
wake-keeps (kinds.PrimaryBackup nodes patience) n t (states.PrimaryBackup own) fact h = with-since own t fact h
wake-keeps k n t state fact h = absurd cc

-- past step 1 of a commit
late : (t : ℕ) (b : Bool) → b ≡ true → (t ≡ 1 → b ≡ false) → t ≢ 1
late t b is other e = both_ways b (other e) is

pub step-keeps : (k : Kind) (n t : ℕ) (state : State) (xs : List (Letter Note)) (fact : Fact) → (t ≡ 1 → is_commit k ≡ false)
    → lasts_of k state fact ≡ true → lasts_of k (step_of k n t state xs).state fact ≡ true
step-keeps (kinds.Retry nodes tries) n t (states.Retry own) xs fact first h = retry-keeps nodes tries n t own xs fact h
step-keeps (kinds.Redundant nodes tries) n t (states.Redundant own) xs fact first h = redundant-keeps nodes tries n own xs fact h
step-keeps (kinds.TwoPhase nodes patience votes) n t (states.TwoPhase own) xs fact first h =
    two_phase-keeps nodes patience votes n t own (late t true refl first) xs fact h
step-keeps (kinds.ThreePhase nodes patience votes) n t (states.ThreePhase own) xs fact first h =
    three_phase-keeps nodes patience votes n t own (late t true refl first) xs fact h
step-keeps (kinds.PrimaryBackup nodes patience) n t (states.PrimaryBackup own) xs fact first h =
    cond_both (nat_le 3 nodes) (wrapped states.PrimaryBackup (primary_backup_step nodes patience n t own xs)) (ignored (states.PrimaryBackup own))
    (λ turn. lasts_of (kinds.PrimaryBackup nodes patience) turn.state fact ≡ true)
    (λ e. replica-keeps fact nodes patience n t own xs h) (λ e. h)
step-keeps k n t state xs fact first h = absurd cc
