-- The words of notes, facts and states, and which facts each protocol has. What a protocol of rules shows has its words by that protocol.
use Rattle.std.specs.Prelude.{ℕ, if◌then◌else◌, List, [], ◌∷◌, ◌++◌, Option, codes, find, map}
use Rattle.std.specs.Str.{bytes_eq}
use Rattle.lf_protocols.specs.declared.note.Note.{Note}
use Rattle.lf_protocols.specs.declared.note.Note.TheVariants as notes
use Rattle.lf_protocols.specs.declared.fact.Fact.{Fact}
use Rattle.lf_protocols.specs.declared.fact.Fact.TheVariants as facts
use Rattle.lf_protocols.specs.declared.state.State.{State}
use Rattle.lf_protocols.specs.declared.state.State.TheVariants as states
use Rattle.lf_protocols.specs.declared.state.Holding.TheVariants as holdings
use Rattle.lf_protocols.specs.declared.state.Relay.TheVariants as relays
use Rattle.lf_protocols.specs.declared.state.Phase.{Phase}
use Rattle.lf_protocols.specs.declared.state.Phase.TheVariants as phases
use Rattle.lf_protocols.specs.declared.state.Replica.{Replica}
use Rattle.lf_protocols.specs.declared.protocol.Kind.{Kind}
use Rattle.lf_protocols.specs.declared.protocol.Kind.TheVariants as kinds
use Rattle.lf_naming.specs.Names as names
use Rattle.lf_naming.specs.Texts as texts
use Rattle.lf_naming.specs.Facts as named

abbrev pub note_word : Note → List ℕ
note_word notes.Payload = codes "data"
note_word notes.Prepare = codes "prepare"
note_word notes.Yes = codes "yes"
note_word notes.No = codes "no"
note_word notes.Precommit = codes "precommit"
note_word notes.Ack = codes "ack"
note_word notes.Commit = codes "commit"
note_word notes.Abort = codes "abort"
note_word notes.Write = codes "write"
note_word notes.Repl = codes "repl"
note_word notes.Done = codes "done"
note_word notes.Beat = codes "beat"
note_word notes.Claim = codes "claim"
note_word (notes.Ruled note) = []

abbrev pub fact_word : Fact → List ℕ
fact_word facts.Has = codes "has"
fact_word facts.Lacks = codes "lacks"
fact_word facts.Committed = codes "committed"
fact_word facts.NotCommitted = codes "not_committed"
fact_word facts.Aborted = codes "aborted"
fact_word facts.NotAborted = codes "not_aborted"
fact_word facts.Blocked = codes "blocked"
fact_word facts.Free = codes "free"
fact_word facts.Holds = codes "holds"
fact_word facts.Empty = codes "empty"
fact_word facts.Done = codes "done"
fact_word facts.NotDone = codes "not_done"
fact_word facts.Primary = codes "primary"
fact_word facts.Backup = codes "backup"
fact_word facts.Claimed = codes "claimed"
fact_word facts.Unclaimed = codes "unclaimed"
fact_word (facts.Ruled fact) = []

abbrev pub phase_word : Phase → List ℕ
phase_word phases.Idle = codes "idle"
phase_word (phases.Voting agreed refused) = codes "voting"
phase_word phases.Prepared = codes "prepared"
phase_word (phases.Precommitting acked) = codes "precommitting"
phase_word phases.Precommitted = codes "precommitted"
phase_word phases.Committed = codes "committed"
phase_word phases.Aborted = codes "aborted"

-- four words, with single blanks
abbrev pub replica_text : Replica → List ℕ
replica_text own =
    (if own.holds then codes "holds" else codes "empty") ++ codes " "
    ++ (if own.done then codes "done" else codes "not_done") ++ codes " "
    ++ (if own.primary then codes "primary" else codes "backup") ++ codes " "
    ++ (if own.claimed then codes "claimed" else codes "unclaimed")

abbrev pub state_text : State → List ℕ
state_text (states.Retry holdings.Has) = codes "has"
state_text (states.Retry holdings.Lacks) = codes "lacks"
state_text (states.Redundant (relays.Has sent)) = codes "has"
state_text (states.Redundant relays.Lacks) = codes "lacks"
state_text (states.TwoPhase own) = phase_word own.phase
state_text (states.ThreePhase own) = phase_word own.phase
state_text (states.PrimaryBackup own) = replica_text own
state_text (states.Ruled own) = []

-- the facts of a delivery, of a commit and of a replica
abbrev pub delivery_facts : List Fact
delivery_facts = facts.Has ∷ facts.Lacks ∷ []

abbrev pub commit_facts : List Fact
commit_facts =
    facts.Committed ∷ facts.NotCommitted ∷ facts.Aborted ∷ facts.NotAborted ∷ facts.Blocked ∷ facts.Free ∷ []

abbrev pub replica_facts : List Fact
replica_facts =
    facts.Holds ∷ facts.Empty ∷ facts.Done ∷ facts.NotDone
    ∷ facts.Primary ∷ facts.Backup ∷ facts.Claimed ∷ facts.Unclaimed ∷ []

-- the facts of the protocol
abbrev pub facts_of : Kind → List Fact
facts_of (kinds.Retry nodes tries) = delivery_facts
facts_of (kinds.Redundant nodes tries) = delivery_facts
facts_of (kinds.TwoPhase nodes patience votes) = commit_facts
facts_of (kinds.ThreePhase nodes patience votes) = commit_facts
facts_of (kinds.PrimaryBackup nodes patience) = replica_facts
facts_of (kinds.Ruled m) = map facts.Ruled (named.facts_of m.definition)

-- the text of a note, and of a state, in a trace of the protocol
abbrev pub note_text : Kind → Note → List ℕ
note_text (kinds.Ruled m) (notes.Ruled packet) = texts.packet_text m.definition packet
note_text k note = note_word note

abbrev pub standing_text : Kind → State → List ℕ
standing_text (kinds.Ruled m) (states.Ruled own) = texts.state_text m.definition m.nodes own
standing_text k own = state_text own

-- the name of a fact of the protocol
abbrev pub fact_name : Kind → Fact → List ℕ
fact_name (kinds.Ruled m) (facts.Ruled fact) = names.fact_name m.definition fact
fact_name k fact = fact_word fact

-- the one of its facts that has the name
abbrev pub fact_named : Kind → List ℕ → Option Fact
fact_named k word = find (λ f. bytes_eq word (fact_name k f)) (facts_of k)
