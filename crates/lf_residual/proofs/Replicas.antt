-- primary_backup: no step takes back a flag that is set.
use Rattle.std.proofs.Common.{◌≡◌, ℕ, true, cond, nat_eq, List, refl}
use Rattle.std.specs.Prelude.{◌&&◌, not, fold}
use Rattle.std.proofs.lemmas.Bool.{cond_both}
use Rattle.std.proofs.lemmas.List.Folds.{fold_along}
use Rattle.lf_sim.specs.declared.letter.Letter.{Letter}
use Rattle.lf_sim.specs.Outs.{note_to}
use Rattle.lf_protocols.specs.declared.fact.Fact.{Fact}
use Rattle.lf_protocols.specs.declared.fact.Fact.TheVariants as facts
use Rattle.lf_protocols.specs.declared.note.Note.{Note}
use Rattle.lf_protocols.specs.declared.note.Note.TheVariants as notes
use Rattle.lf_protocols.specs.declared.state.Replica.{Replica}
use Rattle.lf_protocols.specs.Turns.{begin, become, tell, is_time_out}
use Rattle.lf_protocols.specs.PrimaryBackupTable.{Turn, primary_hear, is_repl, primary_end, backup_hear, claim, backup_end, client_open, client_hear}
use Rattle.lf_protocols.specs.PrimaryBackupTable.{primary_step, backup_step, client_step, primary_backup_step, primary_backup_shows}
use Rattle.lf_residual.specs.Lasting.{replica_lasts}

pub replica-shows : (own : Replica) (fact : Fact) → replica_lasts own fact ≡ true → primary_backup_shows own fact ≡ true
replica-shows own facts.Holds h = h
replica-shows own facts.Done h = h
replica-shows own facts.Primary h = h
replica-shows own facts.Claimed h = h
replica-shows own fact h = absurd cc

-- what lasts does so with a flag more, and whenever the time-out starts
module _ (own : Replica) where
  with-holds : (fact : Fact) → replica_lasts own fact ≡ true → replica_lasts (record own { holds = true }) fact ≡ true
  with-holds facts.Holds h = refl
  with-holds fact h = h

  with-done : (fact : Fact) → replica_lasts own fact ≡ true → replica_lasts (record own { done = true }) fact ≡ true
  with-done facts.Done h = refl
  with-done fact h = h

  with-primary : (fact : Fact) → replica_lasts own fact ≡ true → replica_lasts (record own { primary = true }) fact ≡ true
  with-primary facts.Primary h = refl
  with-primary fact h = h

  with-claimed : (fact : Fact) → replica_lasts own fact ≡ true → replica_lasts (record own { claimed = true }) fact ≡ true
  with-claimed facts.Claimed h = refl
  with-claimed fact h = h

  pub with-since : (t : ℕ) (fact : Fact) → replica_lasts own fact ≡ true → replica_lasts (record own { since = t }) fact ≡ true
  with-since t facts.Holds h = h
  with-since t facts.Done h = h
  with-since t facts.Primary h = h
  with-since t facts.Claimed h = h
  with-since t fact h = h

module _ (fact : Fact) where
  abbrev Lasts : Turn → Type 0
  Lasts turn = replica_lasts turn.state fact ≡ true

  -- through the letters
  walk : (hear : Turn → Letter Note → Turn) → ((turn : Turn) (letter : Letter Note) → Lasts turn → Lasts (hear turn letter))
      → (turn : Turn) (xs : List (Letter Note)) → Lasts turn → Lasts (fold hear turn xs)
  walk hear keeps turn xs h = fold_along hear (λ (u : Unit {0}) letter. u) (λ x u. Lasts x) (λ x u letter. keeps x letter) turn tt xs h

  primary_hear-keeps : (note : Note) (turn : Turn) → Lasts turn → Lasts (primary_hear note turn)
  primary_hear-keeps notes.Write turn h = with-holds turn.state fact h
  primary_hear-keeps notes.Ack turn h = h
  primary_hear-keeps note turn h = h

  backup_hear-keeps : (t : ℕ) (note : Note) (turn : Turn) → Lasts turn → Lasts (backup_hear t note turn)
  backup_hear-keeps t notes.Repl turn h = with-since (record turn.state { holds = true }) t fact (with-holds turn.state fact h)
  backup_hear-keeps t notes.Beat turn h = with-since turn.state t fact h
  backup_hear-keeps t note turn h = h

  client_hear-keeps : (node : ℕ) (note : Note) (turn : Turn) → Lasts turn → Lasts (client_hear node note turn)
  client_hear-keeps node notes.Done turn h =
      cond_both (nat_eq node 2) (become (record turn.state { done = true }) turn) turn Lasts (λ e. with-done turn.state fact h) (λ e. h)
  client_hear-keeps node notes.Claim turn h = with-claimed turn.state fact h
  client_hear-keeps node note turn h = h

  primary_end-keeps : (turn : Turn) → Lasts turn → Lasts (primary_end turn)
  primary_end-keeps turn h = cond_both (is_repl (note_to turn.out 1)) turn (tell 1 notes.Beat turn) Lasts (λ e. h) (λ e. h)

  backup_end-keeps : (nodes patience t : ℕ) (turn : Turn) → Lasts turn → Lasts (backup_end nodes patience t turn)
  backup_end-keeps nodes patience t turn h =
      cond_both (not turn.state.primary && is_time_out patience t turn.state.since)
      (record { state = record turn.state { primary = true }; out = claim nodes turn.out }) turn Lasts
      (λ e. with-primary turn.state fact h) (λ e. h)

  client_open-keeps : (node t : ℕ) (own : Replica) → replica_lasts own fact ≡ true → Lasts (client_open node t own)
  client_open-keeps node t own h =
      cond_both (nat_eq node 2 && nat_eq t 1) (tell 0 notes.Write (begin own)) (begin own) Lasts (λ e. h) (λ e. h)

  pub replica-keeps : (nodes patience node t : ℕ) (own : Replica) (xs : List (Letter Note)) → replica_lasts own fact ≡ true
      → Lasts (primary_backup_step nodes patience node t own xs)
  replica-keeps nodes patience node t own xs h =
      let primary : Turn → Letter Note → Turn = λ turn letter. primary_hear letter.note turn in
      let backup : Turn → Letter Note → Turn = λ turn letter. backup_hear t letter.note turn in
      let client : Turn → Letter Note → Turn = λ turn letter. client_hear node letter.note turn in
      cond_both (nat_eq node 0) (primary_step own xs) (cond (nat_eq node 1) (backup_step nodes patience t own xs) (client_step node t own xs)) Lasts
      (λ e. primary_end-keeps (fold primary (begin own) xs) (walk primary (λ turn letter. primary_hear-keeps letter.note turn) (begin own) xs h))
      (λ e. cond_both (nat_eq node 1) (backup_step nodes patience t own xs) (client_step node t own xs) Lasts
      (λ e. backup_end-keeps nodes patience t (fold backup (begin own) xs)
      (walk backup (λ turn letter. backup_hear-keeps t letter.note turn) (begin own) xs h))
      (λ e. walk client (λ turn letter. client_hear-keeps node letter.note turn) (client_open node t own) xs (client_open-keeps node t own h)))
