-- Each protocol's machine, put together from its table.
use Rattle.std.specs.Prelude.{ℕ, Bool, true, false, not, ◌==◌, nat_le, if◌then◌else◌, List, length, Option, None}
use Rattle.lf_sim.specs.declared.entry.Entry.{Entry}
use Rattle.lf_sim.specs.declared.letter.Letter.{Letter}
use Rattle.lf_sim.specs.declared.out.Stepped.{Stepped}
use Rattle.lf_sim.specs.Machines.{Rules}
use Rattle.lf_sim.specs.Outs.{nothing}
use Rattle.lf_protocols.specs.declared.protocol.Kind.{Kind}
use Rattle.lf_protocols.specs.declared.protocol.Kind.TheVariants as kinds
use Rattle.lf_protocols.specs.declared.state.State.{State}
use Rattle.lf_protocols.specs.declared.state.State.TheVariants as states
use Rattle.lf_protocols.specs.declared.state.Holding.TheVariants as holdings
use Rattle.lf_protocols.specs.declared.state.Relay.TheVariants as relays
use Rattle.lf_protocols.specs.declared.state.Phase.{Phase}
use Rattle.lf_protocols.specs.declared.state.Phase.TheVariants as phases
use Rattle.lf_protocols.specs.declared.note.Note.{Note}
use Rattle.lf_protocols.specs.declared.fact.Fact.{Fact}
use Rattle.lf_rule_machine.specs.Machines as rules
use Rattle.lf_protocols.specs.declared.fact.Fact.TheVariants as facts
use Rattle.lf_protocols.specs.Facts.{is_denial}
use Rattle.lf_protocols.specs.RuledTurns.{any_turn, step_by_rules}
use Rattle.lf_protocols.specs.RetryTable.{retry_start, retry_step, retry_shows}
use Rattle.lf_protocols.specs.RedundantTable.{redundant_start, redundant_step, redundant_shows}
use Rattle.lf_protocols.specs.CommitTable.{commit_start, commit_wake, commit_shows}
use Rattle.lf_protocols.specs.TwoPhaseTable.{two_phase_step}
use Rattle.lf_protocols.specs.ThreePhaseTable.{three_phase_step}
use Rattle.lf_protocols.specs.PrimaryBackupTable.{primary_backup_start, primary_backup_wake, primary_backup_step, primary_backup_shows}

abbrev pub nodes_of : Kind → ℕ
nodes_of (kinds.Retry nodes tries) = nodes
nodes_of (kinds.Redundant nodes tries) = nodes
nodes_of (kinds.TwoPhase nodes patience votes) = nodes
nodes_of (kinds.ThreePhase nodes patience votes) = nodes
nodes_of (kinds.PrimaryBackup nodes patience) = nodes
nodes_of (kinds.Ruled m) = m.nodes

abbrev pub start_of : Kind → ℕ → State
start_of (kinds.Retry nodes tries) node = states.Retry (retry_start node)
start_of (kinds.Redundant nodes tries) node = states.Redundant (redundant_start node)
start_of (kinds.TwoPhase nodes patience votes) node = states.TwoPhase commit_start
start_of (kinds.ThreePhase nodes patience votes) node = states.ThreePhase commit_start
start_of (kinds.PrimaryBackup nodes patience) node = states.PrimaryBackup (primary_backup_start node)
start_of (kinds.Ruled m) node = states.Ruled (rules.start_of m.definition m.nodes m.given node)

-- a step of one protocol, its state made one of all protocols
abbrev pub wrapped : {Own : Type 0} → (Own → State) → Stepped Own Note → Stepped State Note
wrapped wrap own = record { state = wrap own.state; out = own.out }

-- a state that the protocol's table doesn't name: the node keeps it, and sends nothing
abbrev pub ignored : State → Stepped State Note
ignored other = record { state = other; out = nothing }

-- what a node does at a step: what its protocol's table says, where the state is one of that protocol. The table of
-- primary_backup needs three nodes, and with fewer, which no protocol has, nothing is done
abbrev pub step_of : Kind → ℕ → ℕ → State → List (Letter Note) → Stepped State Note
step_of (kinds.Retry nodes tries) node t (states.Retry own) inbox = wrapped states.Retry (retry_step nodes tries node t own inbox)
step_of (kinds.Redundant nodes tries) node t (states.Redundant own) inbox = wrapped states.Redundant (redundant_step nodes tries node own inbox)
step_of (kinds.TwoPhase nodes patience votes) node t (states.TwoPhase own) inbox =
    wrapped states.TwoPhase (two_phase_step nodes patience votes node t own inbox)
step_of (kinds.ThreePhase nodes patience votes) node t (states.ThreePhase own) inbox =
    wrapped states.ThreePhase (three_phase_step nodes patience votes node t own inbox)
step_of (kinds.PrimaryBackup nodes patience) node t (states.PrimaryBackup own) inbox =
    if nat_le 3 nodes
    then wrapped states.PrimaryBackup (primary_backup_step nodes patience node t own inbox)
    else ignored (states.PrimaryBackup own)
step_of (kinds.Ruled m) node t (states.Ruled own) inbox = any_turn (step_by_rules m node t own inbox)
step_of k node t other inbox = ignored other

-- the commit is decided for the node. (At step 1 node 0 asks for votes whatever it was in)
abbrev pub is_over : ℕ → Phase → Bool
is_over t phases.Committed = not (t == 1)
is_over t phases.Aborted = not (t == 1)
is_over t phase = false

-- whether a node that goes on from a state at step t is known to ignore its letters: it has the data, or the commit is decided
abbrev pub ignores_letters : Kind → ℕ → State → Bool
ignores_letters (kinds.Retry nodes tries) t (states.Retry holdings.Has) = true
ignores_letters (kinds.Redundant nodes tries) t (states.Redundant (relays.Has sent)) = true
ignores_letters (kinds.TwoPhase nodes patience votes) t (states.TwoPhase own) = is_over t own.phase
ignores_letters (kinds.ThreePhase nodes patience votes) t (states.ThreePhase own) = is_over t own.phase
ignores_letters k t last = false

-- what a state of a shipped protocol is after a pause, where its node goes on at step t
abbrev pub state_wake : ℕ → State → State
state_wake t (states.Retry own) = states.Retry own
state_wake t (states.Redundant own) = states.Redundant own
state_wake t (states.TwoPhase own) = states.TwoPhase (commit_wake t own)
state_wake t (states.ThreePhase own) = states.ThreePhase (commit_wake t own)
state_wake t (states.PrimaryBackup own) = states.PrimaryBackup (primary_backup_wake t own)
state_wake t (states.Ruled own) = states.Ruled own

-- of rules by the protocol, which says what a node keeps
abbrev pub wake_of : Kind → ℕ → ℕ → State → State
wake_of (kinds.Ruled m) node t (states.Ruled own) = states.Ruled (rules.wake_of m.definition m.nodes m.given node t own)
wake_of k node t last = state_wake t last

-- whether a state of a shipped protocol shows a fact
abbrev pub state_shows : State → Fact → Bool
state_shows (states.Retry own) fact = retry_shows own fact
state_shows (states.Redundant own) fact = redundant_shows own fact
state_shows (states.TwoPhase own) fact = commit_shows own.phase fact
state_shows (states.ThreePhase own) fact = commit_shows own.phase fact
state_shows (states.PrimaryBackup own) fact = primary_backup_shows own fact
state_shows (states.Ruled own) fact = is_denial fact

-- of rules by the protocol, which says what its facts are
abbrev pub shows_of : Kind → ℕ → State → Fact → Bool
shows_of (kinds.Ruled m) node (states.Ruled own) (facts.Ruled fact) = rules.shows_of m.definition m.nodes m.given node own fact
shows_of k node last fact = state_shows last fact

-- how many topics a protocol has: none but those that a scenario of a protocol of rules asks about
abbrev pub topics_of : Kind → ℕ
topics_of (kinds.Ruled m) = length m.topics
topics_of k = 0

-- what a state enters under a topic: of rules by the protocol, which says what its topics are
abbrev pub entry_of : Kind → ℕ → State → ℕ → Option Entry
entry_of (kinds.Ruled m) node (states.Ruled own) topic = rules.entry_of m.definition m.nodes m.given m.topics node own topic
entry_of k node last topic = None

abbrev pub rules_of : Kind → Rules State Note Fact
rules_of k = record {
  nodes = nodes_of k;
  start = start_of k;
  step = step_of k;
  wake = wake_of k;
  shows = shows_of k;
  entry = entry_of k;
}
