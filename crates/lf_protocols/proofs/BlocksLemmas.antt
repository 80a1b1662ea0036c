-- What an inbox without a decision does to a participant that has voted, and what an inbox with a claim does to a replica.
use Rattle.std.proofs.Common.{◌≡◌, ℕ, ◌≤◌, ◌<◌, ◌+◌, ◌-◌, Bool, true, false, cond, nat_eq, List, [], ◌∷◌, refl, sym, ap, ◌∙◌, inl, inr, arith}
use Rattle.std.specs.Prelude.{◌⊎◌, ◌≢◌, ◌↔◌, ◌&&◌, fold, slice_index_or}
use Rattle.std.proofs.lemmas.Bool.{cond_both, leb-false, ne_eqb}
use Rattle.lf_sim.specs.declared.letter.Letter.{Letter}
use Rattle.lf_sim.specs.declared.out.Stepped.{Stepped}
use Rattle.lf_protocols.specs.declared.note.Note.{Note}
use Rattle.lf_protocols.specs.declared.note.Note.TheVariants as notes
use Rattle.lf_protocols.specs.declared.state.Progress.{Progress}
use Rattle.lf_protocols.specs.declared.state.Phase.{Phase}
use Rattle.lf_protocols.specs.declared.state.Phase.TheVariants as phases
use Rattle.lf_protocols.specs.declared.state.Replica.{Replica}
use Rattle.lf_protocols.specs.Letters.{Brings}
use Rattle.lf_protocols.specs.Turns.{begin, become, tell, is_time_out}
use Rattle.lf_protocols.specs.CommitTable.{in_phase, commit_participate}
use Rattle.lf_protocols.specs.TwoPhaseTable.{two_phase_step}
use Rattle.lf_protocols.specs.ThreePhaseTable.{three_phase_join, three_phase_wait, three_phase_step}
use Rattle.lf_protocols.specs.PrimaryBackupTable.{client_open, client_hear, primary_backup_step}
use Rattle.lf_protocols.proofs.LettersLemmas.{brings-here, brings-there, brings-none, brings-cons}

-- a participant that has voted yes ignores all but a decision
prepared-keeps : (t : ℕ) (vote : Bool) (note : Note) (turn : Stepped Progress Note) → note ≢ notes.Commit → note ≢ notes.Abort →
    commit_participate t phases.Prepared note vote turn ≡ turn
prepared-keeps t vote notes.Commit turn commits aborts = absurd (commits refl)
prepared-keeps t vote notes.Abort turn commits aborts = absurd (aborts refl)
prepared-keeps t vote note turn commits aborts = refl

module _ (t since : ℕ) (vote : Bool) where
  abbrev own : Progress
  own = record { phase = phases.Prepared; since = since }

  abbrev hear : Stepped Progress Note → Letter Note → Stepped Progress Note
  hear turn letter = commit_participate t turn.state.phase letter.note vote turn

  prepared-hears : (xs : List (Letter Note)) → (Brings notes.Commit xs → ⊥) → (Brings notes.Abort xs → ⊥) → fold hear (begin own) xs ≡ begin own
  prepared-hears [] commits aborts = refl
  prepared-hears (x ∷ xs) commits aborts =
      ap (λ turn. fold hear turn xs) (prepared-keeps t vote x.note (begin own)
      (λ e. commits (brings-here notes.Commit x xs e)) (λ e. aborts (brings-here notes.Abort x xs e)))
      ∙ prepared-hears xs (λ later. commits (brings-there notes.Commit x xs later)) (λ later. aborts (brings-there notes.Abort x xs later))

pub prepared-waits : (nodes patience node t since : ℕ) (votes : List Bool) (xs : List (Letter Note)) → node ≢ 0 →
    (Brings notes.Commit xs → ⊥) → (Brings notes.Abort xs → ⊥) →
    two_phase_step nodes patience votes node t (record { phase = phases.Prepared; since = since }) xs
    ≡ begin (record { phase = phases.Prepared; since = since })
prepared-waits nodes patience node t since votes xs other commits aborts =
    rw (ne_eqb node 0 other) (prepared-hears t since (slice_index_or votes node true) xs commits aborts)

-- a participant of three_phase that is prepared after its step has not waited for `patience` steps
module _ (patience t : ℕ) (turn : Stepped Progress Note) where
  late-Prepared : (b : Bool) → is_time_out patience t turn.state.since ≡ b →
      (cond b (in_phase phases.Aborted turn) turn).state.phase ≡ phases.Prepared →
      t < (cond b (in_phase phases.Aborted turn) turn).state.since + patience
  late-Prepared true late is = absurd cc
  late-Prepared false early is = let within = leb-false patience (t - turn.state.since) early in omega (arith, within)

  late-Precommitted : (b : Bool) → turn.state.phase ≡ phases.Precommitted →
      (cond b (in_phase phases.Committed turn) turn).state.phase ≡ phases.Prepared → ⊥
  late-Precommitted true before is = cc
  late-Precommitted false before is = cc

  waits-within : (phase : Phase) → turn.state.phase ≡ phase → (three_phase_wait patience t phase turn).state.phase ≡ phases.Prepared →
      t < (three_phase_wait patience t phase turn).state.since + patience
  waits-within phases.Prepared before is = late-Prepared (is_time_out patience t turn.state.since) refl is
  waits-within phases.Precommitted before is = absurd (late-Precommitted (is_time_out patience t turn.state.since) before is)
  waits-within phase before is = absurd cc

pub gives-up : (nodes patience node t : ℕ) (votes : List Bool) (before : Progress) (xs : List (Letter Note)) → node ≢ 0 →
    (three_phase_step nodes patience votes node t before xs).state.phase ≡ phases.Prepared →
    t < (three_phase_step nodes patience votes node t before xs).state.since + patience
gives-up nodes patience node t votes before xs other =
    let vote = slice_index_or votes node true in
    let heard = fold (λ turn (letter : Letter Note). three_phase_join t turn.state.phase letter.note vote turn) (begin before) xs in
    rw (ne_eqb node 0 other) (waits-within patience t heard heard.state.phase refl)

-- a replica from 2 on
module _ (node : ℕ) where
  abbrev listen : Stepped Replica Note → Letter Note → Stepped Replica Note
  listen turn letter = client_hear node letter.note turn

  hears-Claim : (note : Note) (turn : Stepped Replica Note) → note ≡ notes.Claim → (client_hear node note turn).state.claimed ≡ true
  hears-Claim note turn e = ap (λ n. (client_hear node n turn).state.claimed) e

  hears-other : (note : Note) (turn : Stepped Replica Note) →
      (note ≡ notes.Claim) ⊎ ((client_hear node note turn).state.claimed ≡ turn.state.claimed)
  hears-other notes.Claim turn = inl refl
  hears-other notes.Done turn =
      inr (cond_both (nat_eq node 2) (become (record turn.state { done = true }) turn) turn
      (λ (x : Stepped Replica Note). x.state.claimed ≡ turn.state.claimed) (λ e. refl) (λ e. refl))
  hears-other note turn = inr refl

  hears-kept : (note : Note) (turn : Stepped Replica Note) → turn.state.claimed ≡ true → (client_hear node note turn).state.claimed ≡ true
  hears-kept note turn had = elim (hears-other note turn) [
    | inl is ↦ hears-Claim note turn is
    | inr same ↦ same ∙ had
  ]

  claimed-kept : (xs : List (Letter Note)) (turn : Stepped Replica Note) → turn.state.claimed ≡ true → (fold listen turn xs).state.claimed ≡ true
  claimed-kept [] turn had = had
  claimed-kept (x ∷ xs) turn had = claimed-kept xs (client_hear node x.note turn) (hears-kept x.note turn had)

  claimed-brought : (xs : List (Letter Note)) (turn : Stepped Replica Note) → Brings notes.Claim xs → (fold listen turn xs).state.claimed ≡ true
  claimed-brought [] turn b = absurd (brings-none notes.Claim b)
  claimed-brought (x ∷ xs) turn b = elim (brings-cons notes.Claim x xs b) [
    | inl is ↦ claimed-kept xs (client_hear node x.note turn) (hears-Claim x.note turn is)
    | inr later ↦ claimed-brought xs (client_hear node x.note turn) later
  ]

  claimed-from : (xs : List (Letter Note)) (turn : Stepped Replica Note) → (fold listen turn xs).state.claimed ≡ true →
      (turn.state.claimed ≡ true) ⊎ Brings notes.Claim xs
  claimed-from [] turn h = inl h
  claimed-from (x ∷ xs) turn h = elim (claimed-from xs (client_hear node x.note turn) h) [
    | inr later ↦ inr (brings-there notes.Claim x xs later)
    | inl now ↦ elim (hears-other x.note turn) [
      | inl is ↦ inr (brings-here notes.Claim x xs is)
      | inr same ↦ inl (sym same ∙ now)
    ]
  ]

opens-claimed : (node t : ℕ) (before : Replica) → (client_open node t before).state.claimed ≡ before.claimed
opens-claimed node t before =
    cond_both (nat_eq node 2 && nat_eq t 1) (tell 0 notes.Write (begin before)) (begin before)
    (λ (x : Stepped Replica Note). x.state.claimed ≡ before.claimed) (λ e. refl) (λ e. refl)

pub claimed-by : (nodes patience node t : ℕ) (before : Replica) (xs : List (Letter Note)) → 2 ≤ node →
    ((primary_backup_step nodes patience node t before xs).state.claimed ≡ true) ↔ ((before.claimed ≡ true) ⊎ Brings notes.Claim xs)
claimed-by nodes patience node t before xs past =
    rw (ne_eqb node 0 (λ e. omega arith), ne_eqb node 1 (λ e. omega arith)) (
      (λ h. elim (claimed-from node xs (client_open node t before) h) [
        | inl had ↦ inl (sym (opens-claimed node t before) ∙ had)
        | inr b ↦ inr b
      ]),
      (λ h. elim h [
        | inl had ↦ claimed-kept node xs (client_open node t before) (opens-claimed node t before ∙ had)
        | inr b ↦ claimed-brought node xs (client_open node t before) b
      ]),
    )
