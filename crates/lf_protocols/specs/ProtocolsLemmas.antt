-- No node of a protocol sends to itself, or past the nodes. The machine cites this where it shows its law `silent`, and may
-- cite nothing of `proofs`, so it stands here.
use Rattle.std.proofs.Common.{◌≡◌, ℕ, ◌+◌, ◌<◌, ◌≤◌, Bool, true, false, not, ◌||◌, cond, nat_eq, List, refl, ap, sym, ◌∙◌, subst, arith, inl, inr}
use Rattle.std.specs.Prelude.{◌⊎◌, ◌≢◌, ◌&&◌, nat_le, nat_lt, Option, None, fold, slice_index_or}
use Rattle.std.proofs.lemmas.Bool.{cases_lt, cond_both, eqb-false, eqb-true, leb-true}
use Rattle.std.proofs.lemmas.List.Folds.{fold_along}
use Rattle.lf_sim.specs.declared.letter.Letter.{Letter}
use Rattle.lf_sim.specs.declared.out.Out.{Out}
use Rattle.lf_sim.specs.declared.out.Stepped.{Stepped}
use Rattle.lf_sim.specs.Outs.{note_to, nothing, note_to_other, to_others}
use Rattle.lf_sim.specs.OutsLemmas.{note_to-nothing, note_to-far, note_to-notes_by, to_others-silent, with_note-others}
use Rattle.lf_protocols.specs.declared.protocol.Kind.{Kind}
use Rattle.lf_protocols.specs.declared.protocol.Kind.TheVariants as kinds
use Rattle.lf_protocols.specs.declared.state.State.{State}
use Rattle.lf_protocols.specs.declared.state.State.TheVariants as states
use Rattle.lf_protocols.specs.declared.state.Relay.{Relay}
use Rattle.lf_protocols.specs.declared.state.Relay.TheVariants as relays
use Rattle.lf_protocols.specs.declared.state.Progress.{Progress}
use Rattle.lf_protocols.specs.declared.state.Phase.{Phase}
use Rattle.lf_protocols.specs.declared.state.Phase.TheVariants as phases
use Rattle.lf_protocols.specs.declared.state.Replica.{Replica}
use Rattle.lf_protocols.specs.declared.note.Note.{Note}
use Rattle.lf_protocols.specs.declared.note.Note.TheVariants as notes
use Rattle.lf_protocols.specs.declared.nodes.Nodes.{Nodes}
use Rattle.lf_protocols.specs.NodeSets.{no_nodes, has_participants}
use Rattle.lf_protocols.specs.Turns.{begin, become, tell, tell_all, is_time_out}
use Rattle.lf_protocols.specs.RedundantTable.{redundant_send, redundant_hear_all}
use Rattle.lf_protocols.specs.CommitTable.{Turn, in_phase, commit_enter, commit_announce, commit_step}
use Rattle.lf_protocols.specs.CommitTable.{commit_open, commit_poll, commit_end_poll, commit_participate}
use Rattle.lf_protocols.specs.TwoPhaseTable.{two_phase_end}
use Rattle.lf_protocols.specs.ThreePhaseTable.{three_phase_hear, three_phase_end, three_phase_join, three_phase_wait}
use Rattle.lf_protocols.specs.PrimaryBackupTable.{primary_hear, is_repl, backup_hear, claim, client_open, client_hear}
use Rattle.lf_protocols.specs.PrimaryBackupTable.{primary_step, backup_step, client_step, primary_backup_step}
use Rattle.lf_rule_machine.specs.declared.state.State.{State as Values}
use Rattle.lf_rule_machine.specs.declared.state.Packet.{Packet as Message}
use Rattle.lf_rule_machine.specs.Instances.{Instance}
use Rattle.lf_rule_machine.specs.RuledLemmas.{fold-keeps, IsCalm, begun-calm, heard-calm, ended-calm}
use Rattle.lf_protocols.specs.RuledTurns.{as_any, any_out, begin_by_rules, hear_note, hear_by_rules, step_by_rules}
use Rattle.lf_protocols.specs.Protocols.{nodes_of, wrapped, ignored, step_of}

-- the node itself and the numbers past the nodes are none of the other nodes
nobody-other : (nodes node to other : ℕ) → other < nodes → node ≢ other → (to ≡ node) ⊎ (nodes ≤ to) → to ≢ other
nobody-other nodes node to other below apart (inl same) is = apart (sym same ∙ is)
nobody-other nodes node to other below apart (inr far) is = omega arith

-- a turn has no note for `to`
module _ (to : ℕ) where
  abbrev IsQuiet : {Own : Type 0} → Stepped Own Note → Type 0
  IsQuiet turn = note_to turn.out to ≡ None

  -- one that chooses between two
  either-quiet : {Own : Type 0} (b : Bool) (x y : Stepped Own Note) → IsQuiet x → IsQuiet y → IsQuiet (cond b x y)
  either-quiet b x y hx hy = cond_both b x y IsQuiet (λ e. hx) (λ e. hy)

  -- one that walks through the letters
  walk-quiet : {Own : Type 0} (hear : Stepped Own Note → Letter Note → Stepped Own Note) →
      ((turn : Stepped Own Note) (letter : Letter Note) → IsQuiet turn → IsQuiet (hear turn letter)) →
      (turn : Stepped Own Note) (inbox : List (Letter Note)) → IsQuiet turn → IsQuiet (fold hear turn inbox)
  walk-quiet hear keeps turn inbox quiet =
      fold_along hear (λ (u : Unit {0}) letter. u) (λ x u. IsQuiet x) (λ x u letter. keeps x letter) turn tt inbox quiet

  tell-quiet : {Own : Type 0} (other : ℕ) (note : Note) (turn : Stepped Own Note) → to ≢ other → IsQuiet turn → IsQuiet (tell other note turn)
  tell-quiet other note turn apart quiet = with_note-others turn.out other note to apart ∙ quiet

-- the note to all, or none
module _ (nodes node to : ℕ) (nobody : (to ≡ node) ⊎ (nodes ≤ to)) where
  chosen-silent : (b : Bool) → note_to (cond b (to_others nodes node notes.Payload) nothing) to ≡ None
  chosen-silent true = to_others-silent nodes node notes.Payload to nobody
  chosen-silent false = note_to-nothing to

  send-silent : (tries : ℕ) (own : Relay) → note_to (redundant_send nodes tries node own).out to ≡ None
  send-silent tries (relays.Has sent) =
      either-quiet to (nat_lt sent tries) (record { state = relays.Has (sent + 1); out = to_others nodes node notes.Payload })
      (record { state = relays.Has sent; out = nothing }) (to_others-silent nodes node notes.Payload to nobody) (note_to-nothing to)
  send-silent tries relays.Lacks = note_to-nothing to

-- node 0 of a commit
module _ (nodes patience t to : ℕ) (nobody : (to ≡ 0) ⊎ (nodes ≤ to)) where
  announce-quiet : (phase : Phase) (note : Note) (turn : Turn) → IsQuiet to (commit_announce nodes phase note turn)
  announce-quiet phase note turn = to_others-silent nodes 0 note to nobody

  open-quiet : (own : Progress) → IsQuiet to (commit_open nodes t own)
  open-quiet own =
      either-quiet to (nat_eq t 1) (tell_all nodes 0 notes.Prepare (commit_enter (phases.Voting no_nodes false) 1 (begin own))) (begin own)
      (to_others-silent nodes 0 notes.Prepare to nobody) (note_to-nothing to)

  poll-quiet : (phase : Phase) (n : ℕ) (note : Note) (turn : Turn) → IsQuiet to turn → IsQuiet to (commit_poll phase n note turn)
  poll-quiet (phases.Voting agreed refused) n notes.Yes turn quiet = quiet
  poll-quiet (phases.Voting agreed refused) n notes.No turn quiet = quiet
  poll-quiet phase n note turn quiet = quiet

  end_poll-quiet : (agreed : Nodes) (refused : Bool) (turn done : Turn) → IsQuiet to turn → IsQuiet to done →
      IsQuiet to (commit_end_poll nodes patience t agreed refused turn done)
  end_poll-quiet agreed refused turn done quiet after =
      let aborts = commit_announce nodes phases.Aborted notes.Abort turn in
      let silent = announce-quiet phases.Aborted notes.Abort turn in
      let late = cond (is_time_out patience t turn.state.since) aborts turn in
      either-quiet to refused aborts (cond (has_participants nodes agreed) done late) silent
      (either-quiet to (has_participants nodes agreed) done late after
      (either-quiet to (is_time_out patience t turn.state.since) aborts turn silent quiet))

  two_phase_end-quiet : (phase : Phase) (turn : Turn) → IsQuiet to turn → IsQuiet to (two_phase_end nodes patience t phase turn)
  two_phase_end-quiet (phases.Voting agreed refused) turn quiet =
      end_poll-quiet agreed refused turn (commit_announce nodes phases.Committed notes.Commit turn) quiet
      (announce-quiet phases.Committed notes.Commit turn)
  two_phase_end-quiet phase turn quiet = quiet

  three_phase_hear-quiet : (phase : Phase) (n : ℕ) (note : Note) (turn : Turn) → IsQuiet to turn → IsQuiet to (three_phase_hear phase n note turn)
  three_phase_hear-quiet (phases.Precommitting acked) n notes.Ack turn quiet = quiet
  three_phase_hear-quiet phase n note turn quiet = poll-quiet phase n note turn quiet

  three_phase_end-quiet : (phase : Phase) (turn : Turn) → IsQuiet to turn → IsQuiet to (three_phase_end nodes patience t phase turn)
  three_phase_end-quiet (phases.Voting agreed refused) turn quiet =
      end_poll-quiet agreed refused turn (tell_all nodes 0 notes.Precommit (commit_enter (phases.Precommitting no_nodes) t turn)) quiet
      (to_others-silent nodes 0 notes.Precommit to nobody)
  three_phase_end-quiet (phases.Precommitting acked) turn quiet =
      either-quiet to (has_participants nodes acked || is_time_out patience t turn.state.since)
      (commit_announce nodes phases.Committed notes.Commit turn) turn (announce-quiet phases.Committed notes.Commit turn) quiet
  three_phase_end-quiet phase turn quiet = quiet

-- a participant of a commit
module _ (patience t to : ℕ) (apart : to ≢ 0) where
  participate-quiet : (phase : Phase) (note : Note) (vote : Bool) (turn : Turn) → IsQuiet to turn → IsQuiet to (commit_participate t phase note vote turn)
  participate-quiet phases.Idle notes.Prepare true turn quiet = tell-quiet to 0 notes.Yes (commit_enter phases.Prepared t turn) apart quiet
  participate-quiet phases.Idle notes.Prepare false turn quiet = tell-quiet to 0 notes.No (in_phase phases.Aborted turn) apart quiet
  participate-quiet phases.Idle notes.Commit vote turn quiet = quiet
  participate-quiet phases.Idle notes.Abort vote turn quiet = quiet
  participate-quiet phases.Prepared notes.Commit vote turn quiet = quiet
  participate-quiet phases.Prepared notes.Abort vote turn quiet = quiet
  participate-quiet phase note vote turn quiet = quiet

  join-quiet : (phase : Phase) (note : Note) (vote : Bool) (turn : Turn) → IsQuiet to turn → IsQuiet to (three_phase_join t phase note vote turn)
  join-quiet phases.Prepared notes.Precommit vote turn quiet = tell-quiet to 0 notes.Ack (commit_enter phases.Precommitted t turn) apart quiet
  join-quiet phases.Precommitted notes.Commit vote turn quiet = quiet
  join-quiet phases.Precommitted notes.Abort vote turn quiet = quiet
  join-quiet phase note vote turn quiet = participate-quiet phase note vote turn quiet

  wait-quiet : (phase : Phase) (turn : Turn) → IsQuiet to turn → IsQuiet to (three_phase_wait patience t phase turn)
  wait-quiet phases.Prepared turn quiet =
      either-quiet to (is_time_out patience t turn.state.since) (in_phase phases.Aborted turn) turn quiet quiet
  wait-quiet phases.Precommitted turn quiet =
      either-quiet to (is_time_out patience t turn.state.since) (in_phase phases.Committed turn) turn quiet quiet
  wait-quiet phase turn quiet = quiet

-- a node of a commit
module _ (nodes node to : ℕ) (below : node < nodes) (nobody : (to ≡ node) ⊎ (nodes ≤ to)) where
  first-nobody : node ≡ 0 → (to ≡ 0) ⊎ (nodes ≤ to)
  first-nobody first = subst (λ n. (to ≡ n) ⊎ (nodes ≤ to)) first nobody

  later-apart : nat_eq node 0 ≡ false → to ≢ 0
  later-apart later = nobody-other nodes node to 0 (omega arith) (eqb-false node 0 later) nobody

  commit-quiet : (hear : Turn → Letter Note → Turn) (end : Turn → Turn) (join : Bool → Turn → Letter Note → Turn) (wait : Turn → Turn)
      (t : ℕ) (votes : List Bool) (own : Progress) (inbox : List (Letter Note)) →
      ((to ≡ 0) ⊎ (nodes ≤ to) → (turn : Turn) (letter : Letter Note) → IsQuiet to turn → IsQuiet to (hear turn letter)) →
      ((to ≡ 0) ⊎ (nodes ≤ to) → (turn : Turn) → IsQuiet to turn → IsQuiet to (end turn)) →
      (to ≢ 0 → (vote : Bool) (turn : Turn) (letter : Letter Note) → IsQuiet to turn → IsQuiet to (join vote turn letter)) →
      (to ≢ 0 → (turn : Turn) → IsQuiet to turn → IsQuiet to (wait turn)) →
      IsQuiet to (commit_step hear end join wait nodes votes node t own inbox)
  commit-quiet hear end join wait t votes own inbox hears ends joins waits =
      let vote = slice_index_or votes node true in
      cond_both (nat_eq node 0) (end (fold hear (commit_open nodes t own) inbox)) (wait (fold (join vote) (begin own) inbox)) (IsQuiet to)
      (λ e. let first = first-nobody (eqb-true node 0 e) in
      ends first (fold hear (commit_open nodes t own) inbox)
      (walk-quiet to hear (hears first) (commit_open nodes t own) inbox (open-quiet nodes 0 t to first own)))
      (λ e. let apart = later-apart e in
      waits apart (fold (join vote) (begin own) inbox)
      (walk-quiet to (join vote) (joins apart vote) (begin own) inbox (note_to-nothing to)))

-- primary_backup
primary_hear-quiet : (to : ℕ) → to ≢ 1 → to ≢ 2 → (note : Note) (turn : Stepped Replica Note) → IsQuiet to turn → IsQuiet to (primary_hear note turn)
primary_hear-quiet to one two notes.Write turn quiet = with_note-others turn.out 1 notes.Repl to one ∙ quiet
primary_hear-quiet to one two notes.Ack turn quiet = tell-quiet to 2 notes.Done turn two quiet
primary_hear-quiet to one two note turn quiet = quiet

backup_hear-quiet : (t to : ℕ) → to ≢ 0 → (note : Note) (turn : Stepped Replica Note) → IsQuiet to turn → IsQuiet to (backup_hear t note turn)
backup_hear-quiet t to zero_apart notes.Repl turn quiet = with_note-others turn.out 0 notes.Ack to zero_apart ∙ quiet
backup_hear-quiet t to zero_apart notes.Beat turn quiet = quiet
backup_hear-quiet t to zero_apart note turn quiet = quiet

claim-quiet : (nodes to : ℕ) (out : Out Note) → (to ≡ 1) ⊎ (nodes ≤ to) → note_to out to ≡ None → note_to (claim nodes out) to ≡ None
claim-quiet nodes to out nobody quiet = elim (cases_lt to 8) [
  | inl near ↦ note_to-notes_by (λ m. cond (nat_lt m 2) (note_to out m) (note_to_other nodes 1 notes.Claim m)) to near
      ∙ cond_both (nat_lt to 2) (note_to out to) (note_to_other nodes 1 notes.Claim to) (λ (o : Option Note). o ≡ None) (λ e. quiet)
      (λ e. sym (note_to-notes_by (note_to_other nodes 1 notes.Claim) to near) ∙ to_others-silent nodes 1 notes.Claim to nobody)
  | inr far ↦ note_to-far (claim nodes out) to far
]

client_hear-quiet : (node to : ℕ) (note : Note) (turn : Stepped Replica Note) → IsQuiet to turn → IsQuiet to (client_hear node note turn)
client_hear-quiet node to notes.Done turn quiet =
    either-quiet to (nat_eq node 2) (become (record turn.state { done = true }) turn) turn quiet quiet
client_hear-quiet node to notes.Claim turn quiet = quiet
client_hear-quiet node to note turn quiet = quiet

module _ (nodes patience node t to : ℕ) (enough : 3 ≤ nodes) (below : node < nodes) (nobody : (to ≡ node) ⊎ (nodes ≤ to))
    (own : Replica) (inbox : List (Letter Note)) where
  primary-quiet : node ≡ 0 → IsQuiet to (primary_step own inbox)
  primary-quiet first =
      let one : to ≢ 1 = nobody-other nodes node to 1 (omega arith) (λ e. omega arith) nobody in
      let two : to ≢ 2 = nobody-other nodes node to 2 (omega arith) (λ e. omega arith) nobody in
      let hear : Stepped Replica Note → Letter Note → Stepped Replica Note = λ turn letter. primary_hear letter.note turn in
      let heard = fold hear (begin own) inbox in
      let quiet = walk-quiet to hear (λ turn letter. primary_hear-quiet to one two letter.note turn) (begin own) inbox (note_to-nothing to) in
      either-quiet to (is_repl (note_to heard.out 1)) heard (tell 1 notes.Beat heard) quiet (tell-quiet to 1 notes.Beat heard one quiet)

  backup-quiet : node ≡ 1 → IsQuiet to (backup_step nodes patience t own inbox)
  backup-quiet second =
      let apart : to ≢ 0 = nobody-other nodes node to 0 (omega arith) (λ e. omega arith) nobody in
      let hear : Stepped Replica Note → Letter Note → Stepped Replica Note = λ turn letter. backup_hear t letter.note turn in
      let heard = fold hear (begin own) inbox in
      let quiet = walk-quiet to hear (λ turn letter. backup_hear-quiet t to apart letter.note turn) (begin own) inbox (note_to-nothing to) in
      either-quiet to (not heard.state.primary && is_time_out patience t heard.state.since)
      (record { state = record heard.state { primary = true }; out = claim nodes heard.out }) heard
      (claim-quiet nodes to heard.out (subst (λ n. (to ≡ n) ⊎ (nodes ≤ to)) second nobody) quiet) quiet

  client-quiet : node ≢ 0 → IsQuiet to (client_step node t own inbox)
  client-quiet later =
      let apart : to ≢ 0 = nobody-other nodes node to 0 (omega arith) later nobody in
      let opened : IsQuiet to (client_open node t own) =
      either-quiet to (nat_eq node 2 && nat_eq t 1) (tell 0 notes.Write (begin own)) (begin own)
      (tell-quiet to 0 notes.Write (begin own) apart (note_to-nothing to)) (note_to-nothing to) in
      walk-quiet to (λ turn (letter : Letter Note). client_hear node letter.note turn)
      (λ turn letter. client_hear-quiet node to letter.note turn) (client_open node t own) inbox opened

  primary_backup-quiet : IsQuiet to (primary_backup_step nodes patience node t own inbox)
  primary_backup-quiet =
      let primary = primary_step own inbox in
      let backup = backup_step nodes patience t own inbox in
      let client = client_step node t own inbox in
      cond_both (nat_eq node 0) primary (cond (nat_eq node 1) backup client) (IsQuiet to) (λ first. primary-quiet (eqb-true node 0 first))
      (λ later. cond_both (nat_eq node 1) backup client (IsQuiet to)
      (λ second. backup-quiet (eqb-true node 1 second)) (λ past. client-quiet (eqb-false node 0 later)))

-- a protocol of rules: a note for nobody is none as one of all
any-chosen : (b : Bool) (x y : Option Message) (z : Option Note) → as_any y ≡ z → as_any (cond b x y) ≡ cond b (as_any x) z
any-chosen true x y z e = refl
any-chosen false x y z e = e

any-to : (o : Out Message) (m : ℕ) → as_any (note_to o m) ≡ note_to (any_out o) m
any-to o m =
    any-chosen (nat_eq m 0) o.to0 _ _ (any-chosen (nat_eq m 1) o.to1 _ _ (any-chosen (nat_eq m 2) o.to2 _ _ (any-chosen (nat_eq m 3) o.to3 _ _
    (any-chosen (nat_eq m 4) o.to4 _ _ (any-chosen (nat_eq m 5) o.to5 _ _ (any-chosen (nat_eq m 6) o.to6 _ _ (any-chosen (nat_eq m 7) o.to7 _ _ refl)))))))

module _ (m : Instance) (n t : ℕ) where
  abbrev IsStill : Stepped Values Message → Type 0
  IsStill = IsCalm m.definition m.nodes m.given n t

  note-calm : (turn : Stepped Values Message) (from sent : ℕ) (note : Note) → IsStill turn → IsStill (hear_note m n t turn from sent note)
  note-calm turn from sent (notes.Ruled note) calm = heard-calm m.definition m.nodes m.given n t turn (record { from = from; sent = sent; note = note }) calm
  note-calm turn from sent other calm = calm

  stepped-calm : (own : Values) (inbox : List (Letter Note)) → IsStill (step_by_rules m n t own inbox)
  stepped-calm own inbox =
      ended-calm m.definition m.nodes m.given n t (fold (hear_by_rules m n t) (begin_by_rules m n t own) inbox)
      (fold-keeps IsStill (hear_by_rules m n t) (λ turn letter calm. note-calm turn letter.from letter.sent letter.note calm)
      (begin_by_rules m n t own) inbox (begun-calm m.definition m.nodes m.given n t own))

pub rules_of-silent : (k : Kind) (n t to : ℕ) (own : State) (inbox : List (Letter Note)) → n < nodes_of k →
    (to ≡ n) ⊎ (nodes_of k ≤ to) → note_to (step_of k n t own inbox).out to ≡ None
rules_of-silent (kinds.Retry nodes tries) n t to (states.Retry own) inbox below nobody =
    chosen-silent nodes n to nobody (nat_eq n 0 && nat_le t tries)
rules_of-silent (kinds.Redundant nodes tries) n t to (states.Redundant own) inbox below nobody =
    send-silent nodes n to nobody tries (redundant_hear_all own inbox)
rules_of-silent (kinds.TwoPhase nodes patience votes) n t to (states.TwoPhase own) inbox below nobody =
    commit-quiet nodes n to below nobody
    (λ turn letter. commit_poll turn.state.phase letter.from letter.note turn) (λ turn. two_phase_end nodes patience t turn.state.phase turn)
    (λ vote turn letter. commit_participate t turn.state.phase letter.note vote turn) (λ turn. turn) t votes own inbox
    (λ first turn letter. poll-quiet nodes patience t to first turn.state.phase letter.from letter.note turn)
    (λ first turn. two_phase_end-quiet nodes patience t to first turn.state.phase turn)
    (λ apart vote turn letter. participate-quiet patience t to apart turn.state.phase letter.note vote turn) (λ apart turn quiet. quiet)
rules_of-silent (kinds.ThreePhase nodes patience votes) n t to (states.ThreePhase own) inbox below nobody =
    commit-quiet nodes n to below nobody
    (λ turn letter. three_phase_hear turn.state.phase letter.from letter.note turn) (λ turn. three_phase_end nodes patience t turn.state.phase turn)
    (λ vote turn letter. three_phase_join t turn.state.phase letter.note vote turn) (λ turn. three_phase_wait patience t turn.state.phase turn)
    t votes own inbox
    (λ first turn letter. three_phase_hear-quiet nodes patience t to first turn.state.phase letter.from letter.note turn)
    (λ first turn. three_phase_end-quiet nodes patience t to first turn.state.phase turn)
    (λ apart vote turn letter. join-quiet patience t to apart turn.state.phase letter.note vote turn)
    (λ apart turn. wait-quiet patience t to apart turn.state.phase turn)
rules_of-silent (kinds.PrimaryBackup nodes patience) n t to (states.PrimaryBackup own) inbox below nobody =
    cond_both (nat_le 3 nodes)
    (wrapped states.PrimaryBackup (primary_backup_step nodes patience n t own inbox)) (ignored (states.PrimaryBackup own)) (IsQuiet to)
    (λ enough. primary_backup-quiet nodes patience n t to (leb-true 3 nodes enough) below nobody own inbox)
    (λ few. note_to-nothing to)
rules_of-silent (kinds.Ruled m) n t to (states.Ruled own) inbox below nobody =
    sym (any-to (step_by_rules m n t own inbox).out to) ∙ ap as_any ((stepped-calm m n t own inbox).none to nobody)
rules_of-silent k n t to other inbox below nobody = note_to-nothing to
