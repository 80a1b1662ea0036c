-- A step is its parts, one after another.
use Rattle.std.proofs.Common.{◌≡◌, ℕ, Bool, true, false, cond, nat_eq, List, [], ◌∷◌, refl, ap, sym, ◌∙◌}
use Rattle.std.specs.Prelude.{fold, nat_le, slice_index_or, Option, None, Some, map}
use Rattle.lf_sim.specs.declared.letter.Letter.{Letter}
use Rattle.lf_sim.specs.declared.out.Out.{Out}
use Rattle.lf_sim.specs.declared.out.Stepped.{Stepped}
use Rattle.lf_protocols.specs.declared.protocol.Kind.{Kind}
use Rattle.lf_protocols.specs.declared.protocol.Kind.TheVariants as kinds
use Rattle.lf_protocols.specs.declared.state.State.{State}
use Rattle.lf_protocols.specs.declared.state.State.TheVariants as states
use Rattle.lf_protocols.specs.declared.state.Holding.{Holding}
use Rattle.lf_protocols.specs.declared.state.Relay.{Relay}
use Rattle.lf_protocols.specs.declared.state.Progress.{Progress}
use Rattle.lf_protocols.specs.declared.state.Replica.{Replica}
use Rattle.lf_protocols.specs.declared.note.Note.{Note}
use Rattle.lf_protocols.specs.Turns.{begin}
use Rattle.lf_protocols.specs.RetryTable.{retry_hear, retry_hear_all}
use Rattle.lf_protocols.specs.RedundantTable.{redundant_hear, redundant_hear_all}
use Rattle.lf_protocols.specs.CommitTable.{commit_open, commit_poll, commit_participate}
use Rattle.lf_protocols.specs.TwoPhaseTable.{two_phase_end, two_phase_step}
use Rattle.lf_protocols.specs.ThreePhaseTable.{three_phase_hear, three_phase_end, three_phase_join, three_phase_wait, three_phase_step}
use Rattle.lf_protocols.specs.PrimaryBackupTable.{primary_hear, primary_end, backup_hear, backup_end, client_open, client_hear, primary_backup_step}
use Rattle.lf_rule_machine.specs.declared.state.State.{State as Values}
use Rattle.lf_rule_machine.specs.declared.state.Packet.{Packet as Message}
use Rattle.lf_rule_machine.specs.Instances.{Instance}
use Rattle.lf_rule_machine.specs.Machines as rules
use Rattle.lf_rule_machine.specs.Ruleds.{rules_of}
use Rattle.lf_protocols.specs.RuledTurns.{as_any, as_ruled, any_letter, any_out, ruled_out, any_turn, ruled_turn, begin_by_rules, hear_by_rules, end_by_rules}
use Rattle.lf_protocols.specs.Protocols.{wrapped, ignored, step_of}
use Rattle.lf_protocols.specs.Folds.{commit_begin, two_phase_hear_one, two_phase_finish, three_phase_hear_one, three_phase_finish}
use Rattle.lf_protocols.specs.Folds.{primary_backup_begin, primary_backup_hear_one, primary_backup_finish}
use Rattle.lf_protocols.specs.Folds.{hear_of, end_of, folded_step}

-- letters that change nothing leave a turn as it is
fold-still : {A B : Type 0} (f : B → A → B) (z : B) → ((x : A) → f z x ≡ z) → (xs : List A) → fold f z xs ≡ z
fold-still f z still [] = refl
fold-still f z still (x ∷ xs) = ap (λ y. fold f y xs) (still x) ∙ fold-still f z still xs

-- letters heard by one protocol, its state made one of all
fold-wrapped : {Own : Type 0} (wrap : Own → State) (hear : Stepped Own Note → Letter Note → Stepped Own Note)
    (all : Stepped State Note → Letter Note → Stepped State Note)
    → ((turn : Stepped Own Note) (x : Letter Note) → all (wrapped wrap turn) x ≡ wrapped wrap (hear turn x))
    → (turn : Stepped Own Note) (xs : List (Letter Note)) → fold all (wrapped wrap turn) xs ≡ wrapped wrap (fold hear turn xs)
fold-wrapped wrap hear all agrees turn [] = refl
fold-wrapped wrap hear all agrees turn (x ∷ xs) = ap (λ y. fold all y xs) (agrees turn x) ∙ fold-wrapped wrap hear all agrees (hear turn x) xs

fold-retry : (nodes tries node t : ℕ) (own : Holding) (out : Out Note) (xs : List (Letter Note))
    → fold (hear_of (kinds.Retry nodes tries) node t) (record { state = states.Retry own; out = out }) xs
    ≡ record { state = states.Retry (retry_hear_all own xs); out = out }
fold-retry nodes tries node t own out [] = refl
fold-retry nodes tries node t own out (x ∷ xs) = fold-retry nodes tries node t (retry_hear own x.note) out xs

fold-redundant : (nodes tries node t : ℕ) (own : Relay) (out : Out Note) (xs : List (Letter Note))
    → fold (hear_of (kinds.Redundant nodes tries) node t) (record { state = states.Redundant own; out = out }) xs
    ≡ record { state = states.Redundant (redundant_hear_all own xs); out = out }
fold-redundant nodes tries node t own out [] = refl
fold-redundant nodes tries node t own out (x ∷ xs) = fold-redundant nodes tries node t (redundant_hear own x.note) out xs

-- the steps of the protocols with turns, in their parts
two_phase-by : (nodes patience : ℕ) (votes : List Bool) (node t : ℕ) (own : Progress) (xs : List (Letter Note)) (b : Bool)
    → (let poll : Stepped Progress Note → Letter Note → Stepped Progress Note = λ turn letter. commit_poll turn.state.phase letter.from letter.note turn in
    let join : Stepped Progress Note → Letter Note → Stepped Progress Note =
    λ turn letter. commit_participate t turn.state.phase letter.note (slice_index_or votes node true) turn in
    let whole : Stepped Progress Note = fold (λ turn letter. cond b (poll turn letter) (join turn letter)) (cond b (commit_open nodes t own) (begin own)) xs in
    let polled : Stepped Progress Note = fold poll (commit_open nodes t own) xs in
    cond b (two_phase_end nodes patience t polled.state.phase polled) (fold join (begin own) xs)
    ≡ cond b (two_phase_end nodes patience t whole.state.phase whole) whole)
two_phase-by nodes patience votes node t own xs true = refl
two_phase-by nodes patience votes node t own xs false = refl

two_phase-folds : (nodes patience : ℕ) (votes : List Bool) (node t : ℕ) (own : Progress) (xs : List (Letter Note))
    → two_phase_step nodes patience votes node t own xs
    ≡ two_phase_finish nodes patience node t (fold (two_phase_hear_one votes node t) (commit_begin nodes node t own) xs)
two_phase-folds nodes patience votes node t own xs = two_phase-by nodes patience votes node t own xs (nat_eq node 0)

three_phase-by : (nodes patience : ℕ) (votes : List Bool) (node t : ℕ) (own : Progress) (xs : List (Letter Note)) (b : Bool)
    → (let poll : Stepped Progress Note → Letter Note → Stepped Progress Note = λ turn letter. three_phase_hear turn.state.phase letter.from letter.note turn in
    let join : Stepped Progress Note → Letter Note → Stepped Progress Note =
    λ turn letter. three_phase_join t turn.state.phase letter.note (slice_index_or votes node true) turn in
    let whole : Stepped Progress Note = fold (λ turn letter. cond b (poll turn letter) (join turn letter)) (cond b (commit_open nodes t own) (begin own)) xs in
    let polled : Stepped Progress Note = fold poll (commit_open nodes t own) xs in
    let joined : Stepped Progress Note = fold join (begin own) xs in
    cond b (three_phase_end nodes patience t polled.state.phase polled) (three_phase_wait patience t joined.state.phase joined)
    ≡ cond b (three_phase_end nodes patience t whole.state.phase whole) (three_phase_wait patience t whole.state.phase whole))
three_phase-by nodes patience votes node t own xs true = refl
three_phase-by nodes patience votes node t own xs false = refl

three_phase-folds : (nodes patience : ℕ) (votes : List Bool) (node t : ℕ) (own : Progress) (xs : List (Letter Note))
    → three_phase_step nodes patience votes node t own xs
    ≡ three_phase_finish nodes patience node t (fold (three_phase_hear_one votes node t) (commit_begin nodes node t own) xs)
three_phase-folds nodes patience votes node t own xs = three_phase-by nodes patience votes node t own xs (nat_eq node 0)

primary_backup-by : (nodes patience node t : ℕ) (own : Replica) (xs : List (Letter Note)) (b c : Bool)
    → (let lead : Stepped Replica Note → Letter Note → Stepped Replica Note = λ turn letter. primary_hear letter.note turn in
    let back : Stepped Replica Note → Letter Note → Stepped Replica Note = λ turn letter. backup_hear t letter.note turn in
    let ask : Stepped Replica Note → Letter Note → Stepped Replica Note = λ turn letter. client_hear node letter.note turn in
    let whole : Stepped Replica Note =
    fold (λ turn letter. cond b (lead turn letter) (cond c (back turn letter) (ask turn letter)))
    (cond b (begin own) (cond c (begin own) (client_open node t own))) xs in
    cond b (primary_end (fold lead (begin own) xs)) (cond c (backup_end nodes patience t (fold back (begin own) xs)) (fold ask (client_open node t own) xs))
    ≡ cond b (primary_end whole) (cond c (backup_end nodes patience t whole) whole))
primary_backup-by nodes patience node t own xs true c = refl
primary_backup-by nodes patience node t own xs false true = refl
primary_backup-by nodes patience node t own xs false false = refl

primary_backup-folds : (nodes patience node t : ℕ) (own : Replica) (xs : List (Letter Note))
    → primary_backup_step nodes patience node t own xs
    ≡ primary_backup_finish nodes patience node t (fold (primary_backup_hear_one node t) (primary_backup_begin node t own) xs)
primary_backup-folds nodes patience node t own xs = primary_backup-by nodes patience node t own xs (nat_eq node 0) (nat_eq node 1)

-- a step of primary_backup, by whether there are three nodes
module _ (nodes patience node t : ℕ) (own : Replica) (xs : List (Letter Note)) where
  abbrev kind : Kind
  kind = kinds.PrimaryBackup nodes patience

  abbrev opened : Bool → Stepped State Note
  opened b = cond b (wrapped states.PrimaryBackup (primary_backup_begin node t own)) (begin (states.PrimaryBackup own))

  abbrev heard : Stepped Replica Note → Letter Note → Bool → Stepped State Note
  heard turn x b = cond b (wrapped states.PrimaryBackup (primary_backup_hear_one node t turn x)) (wrapped states.PrimaryBackup turn)

  abbrev closed : Stepped Replica Note → Bool → Stepped State Note
  closed turn b = cond b (wrapped states.PrimaryBackup (primary_backup_finish nodes patience node t turn)) (wrapped states.PrimaryBackup turn)

  abbrev stepped : Bool → Stepped State Note
  stepped b = cond b (wrapped states.PrimaryBackup (primary_backup_step nodes patience node t own xs)) (ignored (states.PrimaryBackup own))

  backup-folds : (b : Bool) → nat_le 3 nodes ≡ b → step_of kind node t (states.PrimaryBackup own) xs ≡ folded_step kind node t (states.PrimaryBackup own) xs
  backup-folds true e =
      let turned : Stepped Replica Note = fold (primary_backup_hear_one node t) (primary_backup_begin node t own) xs in
      ap stepped e ∙ ap (wrapped states.PrimaryBackup) (primary_backup-folds nodes patience node t own xs)
      ∙ sym (ap (λ z. end_of kind node t (fold (hear_of kind node t) z xs)) (ap opened e)
      ∙ ap (end_of kind node t)
      (fold-wrapped states.PrimaryBackup (primary_backup_hear_one node t) (hear_of kind node t) (λ turn x. ap (heard turn x) e)
      (primary_backup_begin node t own) xs)
      ∙ ap (closed turned) e)
  backup-folds false e =
      ap stepped e
      ∙ sym (ap (λ z. end_of kind node t (fold (hear_of kind node t) z xs)) (ap opened e)
      ∙ ap (end_of kind node t) (fold-still (hear_of kind node t) (begin (states.PrimaryBackup own)) (λ x. ap (heard (begin own) x) e) xs)
      ∙ ap (closed (begin own)) e)

-- a protocol of rules: a turn that has been made one of all, and back, is as it was
back : (x : Option Message) → as_ruled (as_any x) ≡ x
back None = refl
back (Some note) = refl

out-back : (o : Out Message) → ruled_out (any_out o) ≡ o
out-back o = λ i. record {
  to0 = back o.to0 i;
  to1 = back o.to1 i;
  to2 = back o.to2 i;
  to3 = back o.to3 i;
  to4 = back o.to4 i;
  to5 = back o.to5 i;
  to6 = back o.to6 i;
  to7 = back o.to7 i;
}

turn-back : (turn : Stepped Values Message) → ruled_turn turn.state (any_out turn.out) ≡ turn
turn-back turn = ap (λ o. record { state = turn.state; out = o }) (out-back turn.out)

module _ (m : Instance) (node t : ℕ) where
  fold-ruled : (turn : Stepped Values Message) (xs : List (Letter Note))
      → fold (hear_of (kinds.Ruled m) node t) (any_turn turn) xs ≡ any_turn (fold (hear_by_rules m node t) turn xs)
  fold-ruled turn [] = refl
  fold-ruled turn (x ∷ xs) =
      ap (λ own. fold (hear_of (kinds.Ruled m) node t) (any_turn (hear_by_rules m node t own x)) xs) (turn-back turn)
      ∙ fold-ruled (hear_by_rules m node t turn x) xs

  ruled-folds : (own : Values) (xs : List (Letter Note))
      → step_of (kinds.Ruled m) node t (states.Ruled own) xs ≡ folded_step (kinds.Ruled m) node t (states.Ruled own) xs
  ruled-folds own xs =
      let turned : Stepped Values Message = fold (hear_by_rules m node t) (begin_by_rules m node t own) xs in
      sym (ap (end_of (kinds.Ruled m) node t) (fold-ruled (begin_by_rules m node t own) xs)
      ∙ ap (λ turn. any_turn (end_by_rules m node t turn)) (turn-back turned))

  -- letters of rules alone
  pub fold-own : (turn : Stepped Values Message) (xs : List (Letter Message))
      → fold (hear_by_rules m node t) turn (map any_letter xs) ≡ fold (rules.hear_of m.definition m.nodes m.given node t) turn xs
  fold-own turn [] = refl
  fold-own turn (x ∷ xs) = fold-own (rules.hear_of m.definition m.nodes m.given node t turn x) xs

  pub own-step : (own : Values) (xs : List (Letter Message))
      → step_of (kinds.Ruled m) node t (states.Ruled own) (map any_letter xs) ≡ any_turn ((rules_of m).step node t own xs)
  own-step own xs = ap (λ turn. any_turn (end_by_rules m node t turn)) (fold-own (begin_by_rules m node t own) xs)

-- a state that the protocol's table doesn't name stays as it is: its letters change nothing
still : (k : Kind) (node t : ℕ) (own : State) → ((x : Letter Note) → hear_of k node t (begin own) x ≡ begin own) → (xs : List (Letter Note))
    → end_of k node t (begin own) ≡ end_of k node t (fold (hear_of k node t) (begin own) xs)
still k node t own same xs = sym (ap (end_of k node t) (fold-still (hear_of k node t) (begin own) same xs))

-- each step is what its parts make of it
pub folds : (k : Kind) (node t : ℕ) (own : State) (xs : List (Letter Note)) → step_of k node t own xs ≡ folded_step k node t own xs
folds (kinds.Retry nodes tries) node t (states.Retry own) xs = sym (ap (end_of (kinds.Retry nodes tries) node t) (fold-retry nodes tries node t own _ xs))
folds (kinds.Retry nodes tries) node t (states.Redundant own) xs = still (kinds.Retry nodes tries) node t (states.Redundant own) (λ x. refl) xs
folds (kinds.Retry nodes tries) node t (states.TwoPhase own) xs = still (kinds.Retry nodes tries) node t (states.TwoPhase own) (λ x. refl) xs
folds (kinds.Retry nodes tries) node t (states.ThreePhase own) xs = still (kinds.Retry nodes tries) node t (states.ThreePhase own) (λ x. refl) xs
folds (kinds.Retry nodes tries) node t (states.PrimaryBackup own) xs = still (kinds.Retry nodes tries) node t (states.PrimaryBackup own) (λ x. refl) xs
folds (kinds.Redundant nodes tries) node t (states.Retry own) xs = still (kinds.Redundant nodes tries) node t (states.Retry own) (λ x. refl) xs
folds (kinds.Redundant nodes tries) node t (states.Redundant own) xs =
    sym (ap (end_of (kinds.Redundant nodes tries) node t) (fold-redundant nodes tries node t own _ xs))
folds (kinds.Redundant nodes tries) node t (states.TwoPhase own) xs = still (kinds.Redundant nodes tries) node t (states.TwoPhase own) (λ x. refl) xs
folds (kinds.Redundant nodes tries) node t (states.ThreePhase own) xs = still (kinds.Redundant nodes tries) node t (states.ThreePhase own) (λ x. refl) xs
folds (kinds.Redundant nodes tries) node t (states.PrimaryBackup own) xs = still (kinds.Redundant nodes tries) node t (states.PrimaryBackup own) (λ x. refl) xs
folds (kinds.TwoPhase nodes patience votes) node t (states.Retry own) xs = still (kinds.TwoPhase nodes patience votes) node t (states.Retry own) (λ x. refl) xs
folds (kinds.TwoPhase nodes patience votes) node t (states.Redundant own) xs =
    still (kinds.TwoPhase nodes patience votes) node t (states.Redundant own) (λ x. refl) xs
folds (kinds.TwoPhase nodes patience votes) node t (states.TwoPhase own) xs =
    ap (wrapped states.TwoPhase) (two_phase-folds nodes patience votes node t own xs)
    ∙ sym (ap (end_of (kinds.TwoPhase nodes patience votes) node t)
    (fold-wrapped states.TwoPhase (two_phase_hear_one votes node t) (hear_of (kinds.TwoPhase nodes patience votes) node t) (λ turn x. refl)
    (commit_begin nodes node t own) xs))
folds (kinds.TwoPhase nodes patience votes) node t (states.ThreePhase own) xs =
    still (kinds.TwoPhase nodes patience votes) node t (states.ThreePhase own) (λ x. refl) xs
folds (kinds.TwoPhase nodes patience votes) node t (states.PrimaryBackup own) xs =
    still (kinds.TwoPhase nodes patience votes) node t (states.PrimaryBackup own) (λ x. refl) xs
folds (kinds.ThreePhase nodes patience votes) node t (states.Retry own) xs =
    still (kinds.ThreePhase nodes patience votes) node t (states.Retry own) (λ x. refl) xs
folds (kinds.ThreePhase nodes patience votes) node t (states.Redundant own) xs =
    still (kinds.ThreePhase nodes patience votes) node t (states.Redundant own) (λ x. refl) xs
folds (kinds.ThreePhase nodes patience votes) node t (states.TwoPhase own) xs =
    still (kinds.ThreePhase nodes patience votes) node t (states.TwoPhase own) (λ x. refl) xs
folds (kinds.ThreePhase nodes patience votes) node t (states.ThreePhase own) xs =
    ap (wrapped states.ThreePhase) (three_phase-folds nodes patience votes node t own xs)
    ∙ sym (ap (end_of (kinds.ThreePhase nodes patience votes) node t)
    (fold-wrapped states.ThreePhase (three_phase_hear_one votes node t) (hear_of (kinds.ThreePhase nodes patience votes) node t) (λ turn x. refl)
    (commit_begin nodes node t own) xs))
folds (kinds.ThreePhase nodes patience votes) node t (states.PrimaryBackup own) xs =
    still (kinds.ThreePhase nodes patience votes) node t (states.PrimaryBackup own) (λ x. refl) xs
folds (kinds.PrimaryBackup nodes patience) node t (states.Retry own) xs = still (kinds.PrimaryBackup nodes patience) node t (states.Retry own) (λ x. refl) xs
folds (kinds.PrimaryBackup nodes patience) node t (states.Redundant own) xs =
    still (kinds.PrimaryBackup nodes patience) node t (states.Redundant own) (λ x. refl) xs
folds (kinds.PrimaryBackup nodes patience) node t (states.TwoPhase own) xs =
    still (kinds.PrimaryBackup nodes patience) node t (states.TwoPhase own) (λ x. refl) xs
folds (kinds.PrimaryBackup nodes patience) node t (states.ThreePhase own) xs =
    still (kinds.PrimaryBackup nodes patience) node t (states.ThreePhase own) (λ x. refl) xs
folds (kinds.PrimaryBackup nodes patience) node t (states.PrimaryBackup own) xs =
    backup-folds nodes patience node t own xs (nat_le 3 nodes) refl
folds (kinds.Retry nodes tries) node t (states.Ruled own) xs = still (kinds.Retry nodes tries) node t (states.Ruled own) (λ x. refl) xs
folds (kinds.Redundant nodes tries) node t (states.Ruled own) xs = still (kinds.Redundant nodes tries) node t (states.Ruled own) (λ x. refl) xs
folds (kinds.TwoPhase nodes patience votes) node t (states.Ruled own) xs = still (kinds.TwoPhase nodes patience votes) node t (states.Ruled own) (λ x. refl) xs
folds (kinds.ThreePhase nodes patience votes) node t (states.Ruled own) xs =
    still (kinds.ThreePhase nodes patience votes) node t (states.Ruled own) (λ x. refl) xs
folds (kinds.PrimaryBackup nodes patience) node t (states.Ruled own) xs = still (kinds.PrimaryBackup nodes patience) node t (states.Ruled own) (λ x. refl) xs
folds (kinds.Ruled m) node t (states.Retry own) xs = still (kinds.Ruled m) node t (states.Retry own) (λ x. refl) xs
folds (kinds.Ruled m) node t (states.Redundant own) xs = still (kinds.Ruled m) node t (states.Redundant own) (λ x. refl) xs
folds (kinds.Ruled m) node t (states.TwoPhase own) xs = still (kinds.Ruled m) node t (states.TwoPhase own) (λ x. refl) xs
folds (kinds.Ruled m) node t (states.ThreePhase own) xs = still (kinds.Ruled m) node t (states.ThreePhase own) (λ x. refl) xs
folds (kinds.Ruled m) node t (states.PrimaryBackup own) xs = still (kinds.Ruled m) node t (states.PrimaryBackup own) (λ x. refl) xs
folds (kinds.Ruled m) node t (states.Ruled own) xs = ruled-folds m node t own xs
