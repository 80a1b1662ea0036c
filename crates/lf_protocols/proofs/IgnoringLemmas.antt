-- A node that ignores its letters does the same with every inbox.
use Rattle.std.proofs.Common.{◌≡◌, ℕ, Bool, true, false, cond, nat_eq, List, eq-eqb, refl, sym, ap, ◌∙◌, inl, inr}
use Rattle.std.specs.Prelude.{◌⊎◌, ◌≢◌, ◌==◌, fold, not, slice_index_or}
use Rattle.std.proofs.lemmas.Bool.{both_ways, ne_eqb}
use Rattle.std.proofs.lemmas.List.Folds.{fold_stays}
use Rattle.lf_sim.specs.declared.letter.Letter.{Letter}
use Rattle.lf_protocols.specs.declared.protocol.Kind.{Kind}
use Rattle.lf_protocols.specs.declared.protocol.Kind.TheVariants as kinds
use Rattle.lf_protocols.specs.declared.state.State.{State}
use Rattle.lf_protocols.specs.declared.state.State.TheVariants as states
use Rattle.lf_protocols.specs.declared.state.Holding.TheVariants as holdings
use Rattle.lf_protocols.specs.declared.state.Relay.TheVariants as relays
use Rattle.lf_protocols.specs.declared.state.Progress.{Progress}
use Rattle.lf_protocols.specs.declared.state.Phase.{Phase}
use Rattle.lf_protocols.specs.declared.state.Phase.TheVariants as phases
use Rattle.lf_protocols.specs.declared.note.Note.{Note}
use Rattle.lf_protocols.specs.Turns.{begin}
use Rattle.lf_protocols.specs.RetryTable.{retry_send, retry_step}
use Rattle.lf_protocols.specs.RedundantTable.{redundant_send, redundant_step}
use Rattle.lf_protocols.specs.CommitTable.{Turn, commit_open, commit_poll, commit_participate, commit_step}
use Rattle.lf_protocols.specs.TwoPhaseTable.{two_phase_end, two_phase_step}
use Rattle.lf_protocols.specs.ThreePhaseTable.{three_phase_hear, three_phase_end, three_phase_join, three_phase_wait, three_phase_step}
use Rattle.lf_protocols.specs.Protocols.{ignores_letters, is_over, step_of, wrapped}
use Rattle.lf_protocols.proofs.DeliveriesLemmas.{redundant_hear_all-Has, retry_hear_all-Has}

retry-ignores : (nodes tries node t : ℕ) (xs ys : List (Letter Note))
    → retry_step nodes tries node t holdings.Has xs ≡ retry_step nodes tries node t holdings.Has ys
retry-ignores nodes tries node t xs ys =
    ap (λ s. record { state = s; out = retry_send nodes tries node t }) (retry_hear_all-Has xs ∙ sym (retry_hear_all-Has ys))

redundant-ignores : (nodes tries node sent : ℕ) (xs ys : List (Letter Note))
    → redundant_step nodes tries node (relays.Has sent) xs ≡ redundant_step nodes tries node (relays.Has sent) ys
redundant-ignores nodes tries node sent xs ys =
    ap (redundant_send nodes tries node) (redundant_hear_all-Has sent xs ∙ sym (redundant_hear_all-Has sent ys))

-- a commit whose letters change nothing
module _ (hear : Turn → Letter Note → Turn) (end : Turn → Turn) (join : Bool → Turn → Letter Note → Turn) (wait : Turn → Turn)
    (nodes : ℕ) (votes : List Bool) (node t : ℕ) (own : Progress) (late : t ≢ 1)
    (heard : (x : Letter Note) → hear (begin own) x ≡ begin own) (joined : (vote : Bool) (x : Letter Note) → join vote (begin own) x ≡ begin own) where
  opened : commit_open nodes t own ≡ begin own
  opened = rw (ne_eqb t 1 late) refl

  polled : (xs : List (Letter Note)) → fold hear (commit_open nodes t own) xs ≡ begin own
  polled xs = ap (λ z. fold hear z xs) opened ∙ fold_stays hear (begin own) heard xs

  stays : (vote : Bool) (xs : List (Letter Note)) → fold (join vote) (begin own) xs ≡ begin own
  stays vote xs = fold_stays (join vote) (begin own) (joined vote) xs

  either : (vote : Bool) (xs ys : List (Letter Note)) (b : Bool)
      → cond b (end (fold hear (commit_open nodes t own) xs)) (wait (fold (join vote) (begin own) xs))
      ≡ cond b (end (fold hear (commit_open nodes t own) ys)) (wait (fold (join vote) (begin own) ys))
  either vote xs ys true = ap end (polled xs ∙ sym (polled ys))
  either vote xs ys false = ap wait (stays vote xs ∙ sym (stays vote ys))

  commit-ignores : (xs ys : List (Letter Note))
      → commit_step hear end join wait nodes votes node t own xs ≡ commit_step hear end join wait nodes votes node t own ys
  commit-ignores xs ys = either (slice_index_or votes node true) xs ys (nat_eq node 0)

-- a commit that is over
later : (t : ℕ) → not (t == 1) ≡ true → t ≢ 1
later t h e = both_ways (not (t == 1)) (ap not (eq-eqb t 1 e)) h

over-cases : (t : ℕ) (phase : Phase) → is_over t phase ≡ true → (t ≢ 1) × ((phase ≡ phases.Committed) ⊎ (phase ≡ phases.Aborted))
over-cases t phases.Committed h = (later t h, inl refl)
over-cases t phases.Aborted h = (later t h, inr refl)
over-cases t phase h = absurd cc

module _ (t : ℕ) (own : Progress) (over : (own.phase ≡ phases.Committed) ⊎ (own.phase ≡ phases.Aborted)) where
  by-phase : (f : Phase → Turn → Turn) → ((turn : Turn) → f phases.Committed turn ≡ turn) → ((turn : Turn) → f phases.Aborted turn ≡ turn)
      → f own.phase (begin own) ≡ begin own
  by-phase f committed aborted = elim over [
    | inl is ↦ ap (λ p. f p (begin own)) is ∙ committed (begin own)
    | inr is ↦ ap (λ p. f p (begin own)) is ∙ aborted (begin own)
  ]

two_phase-ignores : (nodes patience : ℕ) (votes : List Bool) (node t : ℕ) (own : Progress) → is_over t own.phase ≡ true → (xs ys : List (Letter Note))
    → two_phase_step nodes patience votes node t own xs ≡ two_phase_step nodes patience votes node t own ys
two_phase-ignores nodes patience votes node t own is xs ys =
    let over = over-cases t own.phase is in
    commit-ignores
    (λ turn letter. commit_poll turn.state.phase letter.from letter.note turn) (λ turn. two_phase_end nodes patience t turn.state.phase turn)
    (λ vote turn letter. commit_participate t turn.state.phase letter.note vote turn) (λ turn. turn)
    nodes votes node t own over.0
    (λ x. by-phase t own over.1 (λ p turn. commit_poll p x.from x.note turn) (λ turn. refl) (λ turn. refl))
    (λ vote x. by-phase t own over.1 (λ p turn. commit_participate t p x.note vote turn) (λ turn. refl) (λ turn. refl))
    xs ys

three_phase-ignores : (nodes patience : ℕ) (votes : List Bool) (node t : ℕ) (own : Progress) → is_over t own.phase ≡ true → (xs ys : List (Letter Note))
    → three_phase_step nodes patience votes node t own xs ≡ three_phase_step nodes patience votes node t own ys
three_phase-ignores nodes patience votes node t own is xs ys =
    let over = over-cases t own.phase is in
    commit-ignores
    (λ turn letter. three_phase_hear turn.state.phase letter.from letter.note turn) (λ turn. three_phase_end nodes patience t turn.state.phase turn)
    (λ vote turn letter. three_phase_join t turn.state.phase letter.note vote turn) (λ turn. three_phase_wait patience t turn.state.phase turn)
    nodes votes node t own over.0
    (λ x. by-phase t own over.1 (λ p turn. three_phase_hear p x.from x.note turn) (λ turn. refl) (λ turn. refl))
    (λ vote x. by-phase t own over.1 (λ p turn. three_phase_join t p x.note vote turn) (λ turn. refl) (λ turn. refl))
    xs ys

pub ignores : (k : Kind) (node t : ℕ) (last : State) → ignores_letters k t last ≡ true → (xs ys : List (Letter Note))
    → step_of k node t last xs ≡ step_of k node t last ys
ignores (kinds.Retry nodes tries) node t (states.Retry holdings.Has) is xs ys = ap (wrapped states.Retry) (retry-ignores nodes tries node t xs ys)
ignores (kinds.Redundant nodes tries) node t (states.Redundant (relays.Has sent)) is xs ys =
    ap (wrapped states.Redundant) (redundant-ignores nodes tries node sent xs ys)
ignores (kinds.TwoPhase nodes patience votes) node t (states.TwoPhase own) is xs ys =
    ap (wrapped states.TwoPhase) (two_phase-ignores nodes patience votes node t own is xs ys)
ignores (kinds.ThreePhase nodes patience votes) node t (states.ThreePhase own) is xs ys =
    ap (wrapped states.ThreePhase) (three_phase-ignores nodes patience votes node t own is xs ys)
ignores k node t last is xs ys = absurd cc
