-- The commits: after step 1 a node for which the commit is decided does nothing more.
use Rattle.std.proofs.Common.{◌≡◌, ℕ, Bool, true, nat_eq, List, refl, ap, ◌∙◌, inl, inr}
use Rattle.std.specs.Prelude.{◌⊎◌, ◌≢◌, fold, slice_index_or}
use Rattle.std.proofs.lemmas.Bool.{cond_both, ne_eqb}
use Rattle.std.proofs.lemmas.List.Folds.{fold_stays}
use Rattle.lf_sim.specs.declared.letter.Letter.{Letter}
use Rattle.lf_protocols.specs.declared.fact.Fact.{Fact}
use Rattle.lf_protocols.specs.declared.fact.Fact.TheVariants as facts
use Rattle.lf_protocols.specs.declared.note.Note.{Note}
use Rattle.lf_protocols.specs.declared.state.Phase.{Phase}
use Rattle.lf_protocols.specs.declared.state.Phase.TheVariants as phases
use Rattle.lf_protocols.specs.declared.state.Progress.{Progress}
use Rattle.lf_protocols.specs.Turns.{begin}
use Rattle.lf_protocols.specs.CommitTable.{Turn, commit_open, commit_poll, commit_participate, commit_step, commit_shows}
use Rattle.lf_protocols.specs.TwoPhaseTable.{two_phase_end, two_phase_step}
use Rattle.lf_protocols.specs.ThreePhaseTable.{three_phase_hear, three_phase_end, three_phase_join, three_phase_wait, three_phase_step}
use Rattle.lf_residual.specs.Lasting.{phase_lasts}

abbrev IsOver : Phase → Type 0
IsOver phase = (phase ≡ phases.Committed) ⊎ (phase ≡ phases.Aborted)

-- a fact lasts only where the commit is decided
lasting-over : (phase : Phase) (fact : Fact) → phase_lasts phase fact ≡ true → IsOver phase
lasting-over phases.Committed fact h = inl refl
lasting-over phases.Aborted fact h = inr refl
lasting-over phase fact h = absurd cc

pub commit-shows : (phase : Phase) (fact : Fact) → phase_lasts phase fact ≡ true → commit_shows phase fact ≡ true
commit-shows phases.Committed facts.Committed h = refl
commit-shows phases.Committed facts.NotAborted h = refl
commit-shows phases.Committed facts.Free h = refl
commit-shows phases.Aborted facts.Aborted h = refl
commit-shows phases.Aborted facts.NotCommitted h = refl
commit-shows phases.Aborted facts.Free h = refl
commit-shows phase fact h = absurd cc

-- a commit whose parts change nothing
module _ (hear : Turn → Letter Note → Turn) (end : Turn → Turn) (join : Bool → Turn → Letter Note → Turn) (wait : Turn → Turn)
    (nodes : ℕ) (votes : List Bool) (node t : ℕ) (own : Progress) (late : t ≢ 1)
    (heard : (x : Letter Note) → hear (begin own) x ≡ begin own) (joined : (vote : Bool) (x : Letter Note) → join vote (begin own) x ≡ begin own)
    (ended : end (begin own) ≡ begin own) (waited : wait (begin own) ≡ begin own) where
  opened : commit_open nodes t own ≡ begin own
  opened = rw (ne_eqb t 1 late) refl

  polled : (xs : List (Letter Note)) → fold hear (commit_open nodes t own) xs ≡ begin own
  polled xs = ap (λ z. fold hear z xs) opened ∙ fold_stays hear (begin own) heard xs

  stays : (vote : Bool) (xs : List (Letter Note)) → fold (join vote) (begin own) xs ≡ begin own
  stays vote xs = fold_stays (join vote) (begin own) (joined vote) xs

  commit-rests : (xs : List (Letter Note)) → commit_step hear end join wait nodes votes node t own xs ≡ begin own
  commit-rests xs =
      let vote = slice_index_or votes node true in
      cond_both (nat_eq node 0) (end (fold hear (commit_open nodes t own) xs)) (wait (fold (join vote) (begin own) xs)) (λ turn. turn ≡ begin own)
      (λ e. ap end (polled xs) ∙ ended) (λ e. ap wait (stays vote xs) ∙ waited)

-- what changes nothing in either phase
module _ (own : Progress) (over : IsOver own.phase) where
  by-phase : (f : Phase → Turn → Turn) → ((turn : Turn) → f phases.Committed turn ≡ turn) → ((turn : Turn) → f phases.Aborted turn ≡ turn)
      → f own.phase (begin own) ≡ begin own
  by-phase f committed aborted = elim over [
    | inl is ↦ ap (λ p. f p (begin own)) is ∙ committed (begin own)
    | inr is ↦ ap (λ p. f p (begin own)) is ∙ aborted (begin own)
  ]

module _ (nodes patience : ℕ) (votes : List Bool) (node t : ℕ) (own : Progress) (late : t ≢ 1) (xs : List (Letter Note)) where
  two_phase-rests : IsOver own.phase → two_phase_step nodes patience votes node t own xs ≡ begin own
  two_phase-rests over =
      commit-rests
      (λ turn letter. commit_poll turn.state.phase letter.from letter.note turn) (λ turn. two_phase_end nodes patience t turn.state.phase turn)
      (λ vote turn letter. commit_participate t turn.state.phase letter.note vote turn) (λ turn. turn)
      nodes votes node t own late
      (λ x. by-phase own over (λ p turn. commit_poll p x.from x.note turn) (λ turn. refl) (λ turn. refl))
      (λ vote x. by-phase own over (λ p turn. commit_participate t p x.note vote turn) (λ turn. refl) (λ turn. refl))
      (by-phase own over (λ p turn. two_phase_end nodes patience t p turn) (λ turn. refl) (λ turn. refl)) refl
      xs

  three_phase-rests : IsOver own.phase → three_phase_step nodes patience votes node t own xs ≡ begin own
  three_phase-rests over =
      commit-rests
      (λ turn letter. three_phase_hear turn.state.phase letter.from letter.note turn) (λ turn. three_phase_end nodes patience t turn.state.phase turn)
      (λ vote turn letter. three_phase_join t turn.state.phase letter.note vote turn) (λ turn. three_phase_wait patience t turn.state.phase turn)
      nodes votes node t own late
      (λ x. by-phase own over (λ p turn. three_phase_hear p x.from x.note turn) (λ turn. refl) (λ turn. refl))
      (λ vote x. by-phase own over (λ p turn. three_phase_join t p x.note vote turn) (λ turn. refl) (λ turn. refl))
      (by-phase own over (λ p turn. three_phase_end nodes patience t p turn) (λ turn. refl) (λ turn. refl))
      (by-phase own over (λ p turn. three_phase_wait patience t p turn) (λ turn. refl) (λ turn. refl))
      xs

  pub two_phase-keeps : (fact : Fact) → phase_lasts own.phase fact ≡ true
      → phase_lasts (two_phase_step nodes patience votes node t own xs).state.phase fact ≡ true
  two_phase-keeps fact h = ap (λ (turn : Turn). phase_lasts turn.state.phase fact) (two_phase-rests (lasting-over own.phase fact h)) ∙ h

  pub three_phase-keeps : (fact : Fact) → phase_lasts own.phase fact ≡ true
      → phase_lasts (three_phase_step nodes patience votes node t own xs).state.phase fact ≡ true
  three_phase-keeps fact h = ap (λ (turn : Turn). phase_lasts turn.state.phase fact) (three_phase-rests (lasting-over own.phase fact h)) ∙ h
