-- The given texts with one thing changed.
use Rattle.std.specs.Prelude.{◌≡◌, ◌≢◌, ◌⊎◌, ℕ, List, Option, None, Some, string_bytes}
use Rattle.lf_doubt.specs.declared.change.Change.{Change}
use Rattle.lf_doubt.specs.Changes.{data_of, key_of}
use Rattle.lf_mutations.specs.declared.mutation.Mutation.{Mutation}
use Rattle.lf_mutations.specs.Mutations.{mutated}
use Rattle.lf_protocol_file.specs.declared.declared.Declared.{Declared}
use Rattle.lf_protocol_file.specs.declared.error.ProtocolError.{ProtocolError}
use Rattle.lf_protocol_file.specs.declared.error.ProtocolError.TheVariants as refusals
use Rattle.lf_protocol_file.specs.Files as files
use Rattle.lf_rules.specs.declared.definition.Definition.{Definition}
use Rattle.lf_scenario.specs.Keys.{key_name}
use Rattle.lf_sweep.specs.declared.error.TextError.{TextError}
use Rattle.lf_sweep.specs.declared.fault.SweepFault.{SweepFault}
use Rattle.lf_sweep.specs.declared.fault.SweepFault.TheVariants as faults
use Rattle.lf_sweep.specs.declared.varied.Place.{Place}
use Rattle.lf_sweep.specs.declared.varied.Place.TheVariants as places
use Rattle.lf_sweep.specs.Faults.{fault_of}
use Rattle.lf_sweep.specs.Texts.{HasNoTextAt, IsTextAt}

-- the key of a change
abbrev pub IsAt : Change → Place → Type 0
IsAt change (places.Key name) = string_bytes name ≡ key_name (key_of change)
IsAt change (places.Constant name) = ⊥

-- the text is that of the scenario with another value at the key
pub record IsChangedText (scenario : List ℕ) (change : Change) (text : List ℕ) : Type 0 where
  pub place : Place
  pub key : IsAt change place
  pub changed : IsTextAt scenario place (data_of change) text

-- why there is none, besides want of memory
pub record HasNoChangedText (scenario : List ℕ) (change : Change) (e : SweepFault) : Type 0 where
  pub place : Place
  pub key : IsAt change place
  pub why : TextError
  pub none : HasNoTextAt scenario place (data_of change) why
  pub told : e ≡ fault_of why

abbrev pub HasNoChange : List ℕ → Change → SweepFault → Type 0
HasNoChange scenario change e = (e ≡ faults.Memory) ⊎ HasNoChangedText scenario change e

-- what a protocol file says, with a change made in a rule
abbrev pub with_definition : Declared → Definition → Declared
with_definition file d = record file { definition = d }

-- the protocol is that of the text with a change made in a rule
pub record IsMutant (protocol : List ℕ) (m : Mutation) (changed : Declared) : Type 0 where
  pub file : Declared
  pub text : files.IsText file protocol
  pub definition : Definition
  pub made : mutated file.definition m ≡ Some definition
  pub is : changed ≡ with_definition file definition

-- the protocol of the text has nothing that is changed so
pub record HasNoRule (protocol : List ℕ) (m : Mutation) : Type 0 where
  pub file : Declared
  pub text : files.IsText file protocol
  pub none : mutated file.definition m ≡ None

-- the text is refused as a protocol file, or memory is wanting
abbrev pub IsRefusedFile : List ℕ → SweepFault → Type 0
IsRefusedFile protocol e =
    (e ≡ faults.Memory) ⊎ ((e ≡ faults.Protocol) × ((why : ProtocolError) × (why ≢ refusals.Memory) × files.IsRefused protocol why))
