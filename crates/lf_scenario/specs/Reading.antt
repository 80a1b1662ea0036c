-- The reading of a scenario, as the table of its keys.
--
-- The keys are read from top to bottom, and the first that is refused is the refusal. A line says of its key whether it
-- has to be there, what it takes, and what stands for it where it is missing:
--
--     required    the key has to be there
--     optional    the last word of the line stands for a missing key
--     owned       the key has to be there where the protocol has it, and may not be there where it hasn't
--     chosen      the key may be there where the protocol has it, and only there; the last word stands for a missing one
--
-- A key is refused as one of another protocol, then as missing, then for its kind, then for its value.
use Rattle.std.specs.Prelude.{ℕ, ◌-◌, Bool, true, false, ◌&&◌, nat_le, if◌then◌else◌, List, replicate, codes, Ok, Err}
use Rattle.std.specs.Str.{bytes_eq}
use Rattle.toml.specs.Data.{Data, string, Members}
use Rattle.lf_faults.specs.declared.spec.Bounds.{Bounds}
use Rattle.lf_protocols.specs.declared.protocol.Kind.{Kind}
use Rattle.lf_protocols.specs.declared.protocol.Kind.TheVariants as kinds
use Rattle.lf_scenario.specs.declared.key.Key.{Key}
use Rattle.lf_scenario.specs.declared.key.Key.TheVariants.{Nodes, Horizon, LastOmission, Crashes, Budget, Pauses, PauseLength}
use Rattle.lf_scenario.specs.declared.key.Key.TheVariants.{MaxSets, Seed, Least, Spread, Protocol, Tries, Patience, Votes}
use Rattle.lf_scenario.specs.declared.error.ScenarioError.TheVariants as refusals
use Rattle.lf_scenario.specs.declared.names.ProtocolName.{ProtocolName}
use Rattle.lf_scenario.specs.declared.names.ProtocolName.TheVariants as protocols
use Rattle.lf_outcome.specs.Limits.{most_sets}
use Rattle.lf_scenario.specs.Limits.{usual_sets}
use Rattle.lf_scenario.specs.declared.reading.Delays.{Delays}
use Rattle.lf_scenario.specs.declared.reading.Described.{Described}
use Rattle.lf_scenario.specs.Values.{Reading, ◌>>=◌, whole, seed_in, required, optional, owned, chosen, known}
use Rattle.lf_scenario.specs.Votes.{all_agree, votes_in}

-- the protocols, by their names; primary_backup needs three nodes
abbrev pub protocol_of : ℕ → List ℕ → Reading ProtocolName
protocol_of nodes name =
    if bytes_eq name (codes "retry") then Ok protocols.Retry
    else if bytes_eq name (codes "redundant") then Ok protocols.Redundant
    else if bytes_eq name (codes "two_phase") then Ok protocols.TwoPhase
    else if bytes_eq name (codes "three_phase") then Ok protocols.ThreePhase
    else if bytes_eq name (codes "primary_backup") && nat_le 3 nodes then Ok protocols.PrimaryBackup
    else Err refusals.Protocol

-- which protocols have which of their keys
abbrev pub has_tries : ProtocolName → Bool
has_tries protocols.Retry = true
has_tries protocols.Redundant = true
has_tries protocols.TwoPhase = false
has_tries protocols.ThreePhase = false
has_tries protocols.PrimaryBackup = false

abbrev pub has_patience : ProtocolName → Bool
has_patience protocols.Retry = false
has_patience protocols.Redundant = false
has_patience protocols.TwoPhase = true
has_patience protocols.ThreePhase = true
has_patience protocols.PrimaryBackup = true

abbrev pub has_votes : ProtocolName → Bool
has_votes protocols.Retry = false
has_votes protocols.Redundant = false
has_votes protocols.TwoPhase = true
has_votes protocols.ThreePhase = true
has_votes protocols.PrimaryBackup = false

-- the protocol with its settings
abbrev pub kind_of : ProtocolName → ℕ → ℕ → ℕ → List Bool → Kind
kind_of protocols.Retry nodes tries patience votes = kinds.Retry nodes tries
kind_of protocols.Redundant nodes tries patience votes = kinds.Redundant nodes tries
kind_of protocols.TwoPhase nodes tries patience votes = kinds.TwoPhase nodes patience votes
kind_of protocols.ThreePhase nodes tries patience votes = kinds.ThreePhase nodes patience votes
kind_of protocols.PrimaryBackup nodes tries patience votes = kinds.PrimaryBackup nodes patience

-- the text of a protocol's name
abbrev pub protocol_in : ℕ → Key → Data → Reading ProtocolName
protocol_in nodes key (string name) = protocol_of nodes name
protocol_in nodes key _ = Err (refusals.WrongKind key)

-- nodes, steps, and bounds on faults
unfoldable pub bounds_in : Members → Reading Bounds
bounds_in ms = do
  nodes ← required ms Nodes (whole 2 8)
  horizon ← required ms Horizon (whole 1 48)
  last_omission ← required ms LastOmission (whole 0 (horizon - 1))
  crashes ← required ms Crashes (whole 0 nodes)
  budget ← required ms Budget (whole 0 6)
  pauses ← optional ms Pauses (whole 0 nodes) 0
  pause_length ← optional ms PauseLength (whole 1 8) 1
  Ok (record {
    nodes = nodes;
    horizon = horizon;
    last_omission = last_omission;
    crashes = crashes;
    budget = budget;
    pauses = pauses;
    pause_length = pause_length;
  })

-- the most sets of faults of one size that the search keeps
abbrev pub max_sets_in : Members → Reading ℕ
max_sets_in ms = optional ms MaxSets (whole 1 most_sets) usual_sets

-- what decides when notes arrive, but for the links that have delays of their own
unfoldable pub delays_in : Members → Reading Delays
delays_in ms = do
  seed ← optional ms Seed seed_in (replicate 32 0)
  least ← optional ms Least (whole 1 16) 1
  spread ← optional ms Spread (whole 0 15) 0
  Ok (record { seed = seed; least = least; spread = spread })

-- the protocol among so many nodes
unfoldable pub kind_in : ℕ → Members → Reading Kind
kind_in nodes ms = do
  name ← required ms Protocol (protocol_in nodes)
  tries ← owned (has_tries name) ms Tries (whole 1 48) 0
  patience ← owned (has_patience name) ms Patience (whole 1 48) 0
  votes ← chosen (has_votes name) ms Votes (votes_in nodes) all_agree
  Ok (kind_of name nodes tries patience votes)

-- all that a scenario says but its outcome and its links
unfoldable pub described_in : Members → Reading Described
described_in ms = do
  all ← known ms
  bounds ← bounds_in ms
  max_sets ← max_sets_in ms
  delays ← delays_in ms
  kind ← kind_in bounds.nodes ms
  Ok (record { bounds = bounds; max_sets = max_sets; delays = delays; protocol = kind })
