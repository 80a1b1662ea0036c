-- Which facts last: a state of a shipped protocol that shows such a fact is one from which the protocol never goes back.
use Rattle.std.specs.Prelude.{ℕ, ◌+◌, Bool, true, false, if◌then◌else◌}
use Rattle.lf_sim.specs.Runs.{World}
use Rattle.lf_protocols.specs.declared.fact.Fact.{Fact}
use Rattle.lf_protocols.specs.declared.fact.Fact.TheVariants as facts
use Rattle.lf_protocols.specs.declared.note.Note.{Note}
use Rattle.lf_protocols.specs.declared.protocol.Kind.{Kind}
use Rattle.lf_protocols.specs.declared.protocol.Kind.TheVariants as kinds
use Rattle.lf_protocols.specs.declared.state.State.{State}
use Rattle.lf_protocols.specs.declared.state.State.TheVariants as states
use Rattle.lf_protocols.specs.declared.state.Holding.{Holding}
use Rattle.lf_protocols.specs.declared.state.Holding.TheVariants as holdings
use Rattle.lf_protocols.specs.declared.state.Relay.{Relay}
use Rattle.lf_protocols.specs.declared.state.Relay.TheVariants as relays
use Rattle.lf_protocols.specs.declared.state.Phase.{Phase}
use Rattle.lf_protocols.specs.declared.state.Phase.TheVariants as phases
use Rattle.lf_protocols.specs.declared.state.Replica.{Replica}
use Rattle.lf_protocols.specs.Protocols.{rules_of}

-- retry: no node loses the data
abbrev pub holding_lasts : Holding → Fact → Bool
holding_lasts holdings.Has facts.Has = true
holding_lasts own fact = false

-- redundant: the same, at however many steps the node has sent it
abbrev pub relay_lasts : Relay → Fact → Bool
relay_lasts (relays.Has sent) facts.Has = true
relay_lasts own fact = false

-- a commit: what is decided for a node stays decided
abbrev pub phase_lasts : Phase → Fact → Bool
phase_lasts phases.Committed facts.Committed = true
phase_lasts phases.Committed facts.NotAborted = true
phase_lasts phases.Committed facts.Free = true
phase_lasts phases.Aborted facts.Aborted = true
phase_lasts phases.Aborted facts.NotCommitted = true
phase_lasts phases.Aborted facts.Free = true
phase_lasts phase fact = false

-- primary_backup: a node that holds what was written holds it, one that knows something knows it, and a primary is one for good
abbrev pub replica_lasts : Replica → Fact → Bool
replica_lasts own facts.Holds = own.holds
replica_lasts own facts.Done = own.done
replica_lasts own facts.Primary = own.primary
replica_lasts own facts.Claimed = own.claimed
replica_lasts own fact = false

-- the fact lasts in the state. None does in a state of another protocol, and none of a protocol of rules
abbrev pub lasts_of : Kind → State → Fact → Bool
lasts_of (kinds.Retry nodes tries) (states.Retry own) fact = holding_lasts own fact
lasts_of (kinds.Redundant nodes tries) (states.Redundant own) fact = relay_lasts own fact
lasts_of (kinds.TwoPhase nodes patience votes) (states.TwoPhase own) fact = phase_lasts own.phase fact
lasts_of (kinds.ThreePhase nodes patience votes) (states.ThreePhase own) fact = phase_lasts own.phase fact
lasts_of (kinds.PrimaryBackup nodes patience) (states.PrimaryBackup own) fact = replica_lasts own fact
lasts_of k state fact = false

-- how many facts last in a state
abbrev pub holding_count : Holding → ℕ
holding_count holdings.Has = 1
holding_count holdings.Lacks = 0

abbrev pub relay_count : Relay → ℕ
relay_count (relays.Has sent) = 1
relay_count relays.Lacks = 0

abbrev pub phase_count : Phase → ℕ
phase_count phases.Committed = 3
phase_count phases.Aborted = 3
phase_count phase = 0

-- one for a flag that is set
abbrev pub one_if : Bool → ℕ
one_if flag = if flag then 1 else 0

abbrev pub replica_count : Replica → ℕ
replica_count own = one_if own.holds + one_if own.done + one_if own.primary + one_if own.claimed

abbrev pub lasting_count_of : Kind → State → ℕ
lasting_count_of (kinds.Retry nodes tries) (states.Retry own) = holding_count own
lasting_count_of (kinds.Redundant nodes tries) (states.Redundant own) = relay_count own
lasting_count_of (kinds.TwoPhase nodes patience votes) (states.TwoPhase own) = phase_count own.phase
lasting_count_of (kinds.ThreePhase nodes patience votes) (states.ThreePhase own) = phase_count own.phase
lasting_count_of (kinds.PrimaryBackup nodes patience) (states.PrimaryBackup own) = replica_count own
lasting_count_of k state = 0

-- the world of a protocol, up to a last step, with pauses of so many steps, and with when notes arrive
abbrev pub world_with : Kind → ℕ → ℕ → (ℕ → ℕ → ℕ → ℕ) → World State Note Fact
world_with k horizon pause_length arrival =
    record { rules = rules_of k; horizon = horizon; pause_length = pause_length; arrival = arrival }
