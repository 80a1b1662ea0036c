-- Sections with entries or items.
use Rattle.std.specs.Prelude.{ℕ, ◌+◌, Bool, ◌&&◌, nat_le, if◌then◌else◌, List, Option, Some, None, Ok, Err}
use Rattle.toml.specs.Data.{Data, table, array, Items, no_items, item, Members, no_members, member, get_member}
use Rattle.lf_protocol_file.specs.declared.draft.Draft.{Draft}
use Rattle.lf_protocol_file.specs.declared.error.ProtocolError.TheVariants as refusals
use Rattle.lf_protocol_file.specs.declared.path.Path.TheVariants as paths
use Rattle.lf_protocol_file.specs.declared.section.Section.TheVariants as sections
use Rattle.lf_protocol_file.specs.declared.section.Naming.{Naming}
use Rattle.lf_protocol_file.specs.declared.section.Naming.TheVariants as namings
use Rattle.lf_protocol_file.specs.declared.section.Listing.{Listing}
use Rattle.lf_protocol_file.specs.declared.section.Listing.TheVariants as listings
use Rattle.lf_protocol_file.specs.Refusals.{shown}
use Rattle.lf_protocol_file.specs.Sections.{naming_name, naming_is_needed, fewest_entries, most_entries, listing_name, listing_is_needed, fewest_items}
use Rattle.lf_protocol_file.specs.Sections.{most_items}
use Rattle.lf_protocol_file.specs.Readings.{Valued, Reading, ◌>>=◌, located}
use Rattle.lf_protocol_file.specs.Texts.{count_items, count_members}
use Rattle.lf_protocol_file.specs.Constants.{with_constant}
use Rattle.lf_protocol_file.specs.Variables.{with_sketch}
use Rattle.lf_protocol_file.specs.Named.{with_fact, with_let, with_note, with_outcome, with_shown}
use Rattle.lf_protocol_file.specs.RuleParts.{rule_in}

-- an entry of a section
abbrev pub entered : Naming → Draft → List ℕ → Data → Valued Draft
entered namings.Given d key x = with_constant d key x
entered namings.State d key x = with_sketch d key x
entered namings.Lets d key x = with_let d key x
entered namings.Facts d key x = with_fact d key x
entered namings.Outcomes d key x = with_outcome d key x

abbrev pub with_entry : Naming → Draft → List ℕ → Data → Reading Draft
with_entry naming d key x = located (paths.Entry naming (shown key)) (entered naming d key x)

-- all entries, by name
abbrev pub with_entries : Naming → Draft → Members → Reading Draft
with_entries naming d no_members = Ok d
with_entries naming d (member key x ms) = with_entry naming d key x >>= λ more. with_entries naming more ms

abbrev pub is_fit_table : Naming → Members → Bool
is_fit_table naming ms = nat_le (fewest_entries naming) (count_members ms) && nat_le (count_members ms) (most_entries naming)

-- a section that is a table, where it is there
abbrev pub with_table : Naming → Draft → Data → Reading Draft
with_table naming d (table ms) =
    if is_fit_table naming ms then with_entries naming d ms else Err (refusals.PastLimit (paths.Section (sections.Naming naming)))
with_table naming d other = Err (refusals.WrongKind (paths.Section (sections.Naming naming)))

abbrev pub naming_at : Naming → Draft → Option Data → Reading Draft
naming_at naming d None = if naming_is_needed naming then Err (refusals.Missing (paths.Section (sections.Naming naming))) else Ok d
naming_at naming d (Some x) = with_table naming d x

unfoldable pub with_naming : Naming → Draft → Members → Reading Draft
with_naming naming d ms = naming_at naming d (get_member (naming_name naming) ms)

-- an item of a section, which has a number
abbrev pub with_item : Listing → Draft → ℕ → Data → Reading Draft
with_item listings.Notes d number x = located (paths.Item listings.Notes number) (with_note d x)
with_item listings.Rules d number x = rule_in d number x
with_item listings.Trace d number x = located (paths.Item listings.Trace number) (with_shown d x)

-- all items from one on, which has the number after this one
abbrev pub with_items : Listing → Draft → ℕ → Items → Reading Draft
with_items listing d i no_items = Ok d
with_items listing d i (item x xs) = with_item listing d (i + 1) x >>= λ more. with_items listing more (i + 1) xs

abbrev pub is_fit_list : Listing → Items → Bool
is_fit_list listing xs = nat_le (fewest_items listing) (count_items xs) && nat_le (count_items xs) (most_items listing)

-- a section that is a list, where it is there
abbrev pub with_list : Listing → Draft → Data → Reading Draft
with_list listing d (array xs) =
    if is_fit_list listing xs then with_items listing d 0 xs else Err (refusals.PastLimit (paths.Section (sections.Listing listing)))
with_list listing d other = Err (refusals.WrongKind (paths.Section (sections.Listing listing)))

abbrev pub listing_at : Listing → Draft → Option Data → Reading Draft
listing_at listing d None = if listing_is_needed listing then Err (refusals.Missing (paths.Section (sections.Listing listing))) else Ok d
listing_at listing d (Some x) = with_list listing d x

unfoldable pub with_listing : Listing → Draft → Members → Reading Draft
with_listing listing d ms = listing_at listing d (get_member (listing_name listing) ms)
