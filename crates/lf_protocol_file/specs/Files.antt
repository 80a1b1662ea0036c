-- Protocol files.
use Rattle.std.specs.Prelude.{◌≡◌, ◌⊎◌, ℕ, ◌<◌, ◌≤◌, if◌then◌else◌, List, [], ◌∷◌, length, codes, Option, Some, None, Ok, Err, IsUtf8}
use Rattle.toml.specs.Data.{Data, string, Members, no_members, member, get_member}
use Rattle.toml.specs.Parse.{parse_document}
use Rattle.lf_texts.specs.Names.{is_name}
use Rattle.lf_protocol_file.specs.declared.draft.Draft.{Draft}
use Rattle.lf_protocol_file.specs.declared.error.ProtocolError.{ProtocolError}
use Rattle.lf_protocol_file.specs.declared.error.ProtocolError.TheVariants as refusals
use Rattle.lf_protocol_file.specs.declared.declared.Declared.{Declared}
use Rattle.lf_protocol_file.specs.declared.path.Path.TheVariants as paths
use Rattle.lf_protocol_file.specs.declared.section.Section.TheVariants as sections
use Rattle.lf_protocol_file.specs.declared.section.Naming.TheVariants as namings
use Rattle.lf_protocol_file.specs.declared.section.Listing.TheVariants as listings
use Rattle.lf_protocol_file.specs.Refusals.{shown}
use Rattle.lf_protocol_file.specs.Sections.{is_section}
use Rattle.lf_protocol_file.specs.Readings.{Reading, ◌>>=◌}
use Rattle.lf_protocol_file.specs.Drafts.{nothing}
use Rattle.lf_protocol_file.specs.Variables.{with_variables}
use Rattle.lf_protocol_file.specs.Named.{with_all_shown}
use Rattle.lf_protocol_file.specs.Chains.{with_last_chain}
use Rattle.lf_protocol_file.specs.Entries.{with_naming, with_listing}

-- the bytes of the longest file
abbrev pub longest : ℕ
longest = 65536

-- each key is one of a file's, or the first by name that is none is refused
unfoldable pub known_sections : Members → Reading (Unit {0})
known_sections no_members = Ok tt
known_sections (member key x ms) = if is_section key then known_sections ms else Err (refusals.Unknown (paths.Key (shown key)))

-- the protocol's name
abbrev pub name_at : Option Data → Reading (List ℕ)
name_at None = Err (refusals.Missing (paths.Section sections.Name))
name_at (Some (string name)) = if is_name name then Ok name else Err (refusals.Unfit (paths.Section sections.Name))
name_at (Some other) = Err (refusals.WrongKind (paths.Section sections.Name))

unfoldable pub name_in : Members → Reading (List ℕ)
name_in ms = name_at (get_member (codes "name") ms)

-- what a file declares, in order
unfoldable pub declared_in : Members → Reading Draft
declared_in ms = do
  given ← with_naming namings.Given nothing ms
  sketched ← with_naming namings.State given ms
  settled ← with_variables sketched
  noted ← with_listing listings.Notes settled ms
  letting ← with_naming namings.Lets noted ms
  with_naming namings.Facts letting ms

-- a trace shows the variables that are asked for, or all
abbrev pub shown_by : List ℕ → Draft → Draft
shown_by [] d = with_all_shown d
shown_by (i ∷ is) d = d

unfoldable pub with_trace : Draft → Members → Reading Draft
with_trace d ms = with_listing listings.Trace d ms >>= λ more. Ok (shown_by more.definition.trace more)

-- what a draft declares
abbrev pub declared_by : List ℕ → Draft → Declared
declared_by name d = record { name = name; definition = d.definition; names = d.names; outcomes = d.outcomes }

-- what a file says: its sections in order, where each key is one of a file's. That it is whole is proved of every file
unfoldable pub file_in : Members → Reading Declared
file_in ms = do
  known ← known_sections ms
  name ← name_in ms
  declared ← declared_in ms
  ruled ← with_listing listings.Rules declared ms
  promised ← with_naming namings.Outcomes (with_last_chain ruled) ms
  traced ← with_trace promised ms
  Ok (declared_by name traced)

-- the bytes are a TOML document with these members
pub record IsDocument (bytes : List ℕ) (ms : Members) : Type 0 where
  pub text : IsUtf8 bytes
  pub members : parse_document bytes ≡ Some ms

-- the text is refused for this reason: it is too long, it is no document, or the reading of its members refuses it
abbrev pub IsRefused : List ℕ → ProtocolError → Type 0
IsRefused text e =
    ((longest < length text) × (e ≡ refusals.TooLong))
    ⊎ ((length text ≤ longest) × ((ms : Members) → IsDocument text ms → ⊥) × (e ≡ refusals.NoDocument))
    ⊎ ((length text ≤ longest) × (ms : Members) × IsDocument text ms × (file_in ms ≡ Err e))

-- the text is short enough and a document, and its members say the file
pub record IsText (file : Declared) (text : List ℕ) : Type 0 where
  pub short : length text ≤ longest
  pub members : Members
  pub document : IsDocument text members
  pub said : file_in members ≡ Ok file
