-- What a protocol file has.
use Rattle.std.specs.Prelude.{ℕ, Bool, true, false, ◌||◌, List, codes}
use Rattle.std.specs.Str.{bytes_eq}
use Rattle.lf_protocol_file.specs.declared.section.Section.{Section}
use Rattle.lf_protocol_file.specs.declared.section.Section.TheVariants as sections
use Rattle.lf_protocol_file.specs.declared.section.Naming.{Naming}
use Rattle.lf_protocol_file.specs.declared.section.Naming.TheVariants as namings
use Rattle.lf_protocol_file.specs.declared.section.Listing.{Listing}
use Rattle.lf_protocol_file.specs.declared.section.Listing.TheVariants as listings
use Rattle.lf_protocol_file.specs.declared.section.Part.{Part}
use Rattle.lf_protocol_file.specs.declared.section.Part.TheVariants as parts

-- the sections that are tables, as they are written
abbrev pub naming_name : Naming → List ℕ
naming_name namings.Given = codes "given"
naming_name namings.State = codes "state"
naming_name namings.Lets = codes "lets"
naming_name namings.Facts = codes "facts"
naming_name namings.Outcomes = codes "outcomes"

-- those that are lists
abbrev pub listing_name : Listing → List ℕ
listing_name listings.Notes = codes "notes"
listing_name listings.Rules = codes "rules"
listing_name listings.Trace = codes "trace"

abbrev pub section_name : Section → List ℕ
section_name sections.Name = codes "name"
section_name (sections.Naming naming) = naming_name naming
section_name (sections.Listing listing) = listing_name listing

-- the parts of a rule
abbrev pub part_name : Part → List ℕ
part_name parts.Who = codes "who"
part_name parts.On = codes "on"
part_name parts.When = codes "when"
part_name parts.Set = codes "set"
part_name parts.Send = codes "send"

-- which of them have to be there
abbrev pub naming_is_needed : Naming → Bool
naming_is_needed namings.State = true
naming_is_needed other = false

abbrev pub listing_is_needed : Listing → Bool
listing_is_needed listings.Trace = false
listing_is_needed other = true

-- the fewest and the most entries, or items, of one that is there
abbrev pub fewest_entries : Naming → ℕ
fewest_entries namings.State = 1
fewest_entries other = 0

abbrev pub most_entries : Naming → ℕ
most_entries namings.State = 32
most_entries namings.Facts = 32
most_entries other = 16

abbrev pub fewest_items : Listing → ℕ
fewest_items listings.Trace = 1
fewest_items other = 0

abbrev pub most_items : Listing → ℕ
most_items listings.Rules = 128
most_items listings.Trace = 32
most_items other = 16

-- whether a text is one of the sections, or one of the parts of a rule
unfoldable pub is_section : List ℕ → Bool
is_section key =
    bytes_eq key (codes "name") || (bytes_eq key (codes "given") || (bytes_eq key (codes "state") || (bytes_eq key (codes "notes")
    || (bytes_eq key (codes "lets") || (bytes_eq key (codes "facts") || (bytes_eq key (codes "rules") || (bytes_eq key (codes "outcomes")
    || bytes_eq key (codes "trace"))))))))

unfoldable pub is_part : List ℕ → Bool
is_part key =
    bytes_eq key (codes "who") || (bytes_eq key (codes "on") || (bytes_eq key (codes "when") || (bytes_eq key (codes "set") || bytes_eq key (codes "send"))))
