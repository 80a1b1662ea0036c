-- The texts of combinations.
use Rattle.std.specs.Prelude.{◌≡◌, ◌≤◌, ℕ, ⊤, true, false, List, [], ◌∷◌, Some, IsUtf8}
use Rattle.toml.specs.Data.{Data, Members, members_depth, members_have_valid_dates}
use Rattle.toml.specs.Parse.{parse_document}
use Rattle.toml.specs.Text.{IsDocumentText}
use Rattle.lf_sweep.specs.declared.error.TextError.{TextError}
use Rattle.lf_sweep.specs.declared.error.TextError.TheVariants as faults
use Rattle.lf_sweep.specs.declared.varied.Place.{Place}
use Rattle.lf_sweep.specs.declared.varied.Varied.{Varied}
use Rattle.lf_sweep.specs.Limits.{deepest}
use Rattle.lf_sweep.specs.Members.{value_of, with_place}

-- the members with the value of a word at each that varies
abbrev pub with_words : List Varied → List (List ℕ) → Members → Members
with_words [] words ms = ms
with_words (v ∷ vs) [] ms = ms
with_words (v ∷ vs) (word ∷ words) ms = with_words vs words (with_place v.place (value_of v.place word) ms)

-- the text is a document of these members, as `toml` writes it
pub record IsDocumentOf (ms : Members) (text : List ℕ) : Type 0 where
  pub utf8 : IsUtf8 text
  pub written : IsDocumentText false ms text
  -- it is read as them, unless they nest deeper than is read
  pub read : members_depth ms ≤ deepest → parse_document text ≡ Some ms

-- the bytes are a TOML document with these members
abbrev pub IsScenario : List ℕ → Members → Type 0
IsScenario scenario ms = IsUtf8 scenario × (parse_document scenario ≡ Some ms)

-- the text is that of a scenario with these values: of its members, with the value of a word at each that varies
pub record IsTextWith (scenario : List ℕ) (vs : List Varied) (words : List (List ℕ)) (text : List ℕ) : Type 0 where
  pub members : Members
  pub held : IsScenario scenario members
  pub dated : members_have_valid_dates (with_words vs words members) ≡ true
  pub document : IsDocumentOf (with_words vs words members) text

-- why there is none: the scenario is no document, or it has a date that can't be written. Memory may be wanting for any
abbrev pub HasNoText : List ℕ → List Varied → List (List ℕ) → TextError → Type 0
HasNoText scenario vs words faults.NoDocument = (ms : Members) → ¬ (IsScenario scenario ms)
HasNoText scenario vs words faults.Date =
    (ms : Members) × IsScenario scenario ms × (members_have_valid_dates (with_words vs words ms) ≡ false)
HasNoText scenario vs words faults.Memory = ⊤

-- the text is that of a scenario with a value at one place: of its members, with that
pub record IsTextAt (scenario : List ℕ) (place : Place) (d : Data) (text : List ℕ) : Type 0 where
  pub members : Members
  pub held : IsScenario scenario members
  pub dated : members_have_valid_dates (with_place place d members) ≡ true
  pub document : IsDocumentOf (with_place place d members) text

-- why there is none
abbrev pub HasNoTextAt : List ℕ → Place → Data → TextError → Type 0
HasNoTextAt scenario place d faults.NoDocument = (ms : Members) → ¬ (IsScenario scenario ms)
HasNoTextAt scenario place d faults.Date = (ms : Members) × IsScenario scenario ms × (members_have_valid_dates (with_place place d ms) ≡ false)
HasNoTextAt scenario place d faults.Memory = ⊤
