-- What holds after so many entries of a section, where each entry keeps it.
use Rattle.std.proofs.Common.{◌≡◌, ℕ, suc, ◌+◌, ◌≤◌, Bool, true, false, cond, List}
use Rattle.std.proofs.Common.{Option, Some, None, Ok, Err, refl, subst, arith}
use Rattle.std.specs.Prelude.{nat_le}
use Rattle.std.proofs.lemmas.Bool.{and_parts, leb-true}
use Rattle.toml.specs.Data.{Data, string, integer, float, boolean, datetime, array, table, Items, no_items, item, Members, no_members, member, get_member}
use Rattle.lf_protocol_file.specs.declared.error.ProtocolError.TheVariants as refusals
use Rattle.lf_protocol_file.specs.declared.path.Path.TheVariants as paths
use Rattle.lf_protocol_file.specs.declared.section.Listing.{Listing}
use Rattle.lf_protocol_file.specs.declared.section.Naming.{Naming}
use Rattle.lf_protocol_file.specs.declared.section.Naming.TheVariants as namings
use Rattle.lf_protocol_file.specs.declared.section.Section.TheVariants as sections
use Rattle.lf_protocol_file.specs.Refusals.{shown}
use Rattle.lf_protocol_file.specs.Sections.{naming_name, naming_is_needed, fewest_entries, most_entries}
use Rattle.lf_protocol_file.specs.Sections.{listing_name, listing_is_needed, fewest_items, most_items}
use Rattle.lf_protocol_file.specs.Texts.{count_items, count_members}
use Rattle.lf_protocol_file.specs.declared.draft.Draft.{Draft}
use Rattle.lf_protocol_file.specs.Entries.{entered, with_entry, with_entries, is_fit_table, with_table, naming_at}
use Rattle.lf_protocol_file.specs.Entries.{with_naming, with_item, with_items, is_fit_list}
use Rattle.lf_protocol_file.specs.Entries.{with_list, listing_at, with_listing}
use Rattle.lf_protocol_file.proofs.Readings.{step-inv, located-inv, through}

-- after so many entries, no more than there may be and no fewer than there must
pub record HasRead (P : ℕ → Draft → Type 0) (fewest most : ℕ) (d : Draft) : Type 0 where
  pub count : ℕ
  pub holds : P count d
  pub enough : fewest ≤ count
  pub few : count ≤ most

moved : (P : ℕ → Draft → Type 0) (n m : ℕ) (d : Draft) → n ≡ m → P n d → P m d
moved P n m d same p = subst (λ (k : ℕ). P k d) same p

module _ (P : ℕ → Draft → Type 0) (naming : Naming)
    (step : (n : ℕ) (d : Draft) (key : List ℕ) (x : Data) (e : Draft) → P n d → entered naming d key x ≡ Ok e → P (suc n) e) where
  entries-keep : (n : ℕ) (d : Draft) (ms : Members) (e : Draft) → P n d → with_entries naming d ms ≡ Ok e → P (n + count_members ms) e
  entries-keep n d no_members e p h =
      let same : d ≡ e = cc in
      moved P n (n + 0) e (omega arith) (subst (P n) same p)
  entries-keep n d (member key x ms) e p h =
      let more = step-inv (with_entry naming d key x) (λ more. with_entries naming more ms) h in
      let one = step n d key x more.0 p (located-inv (paths.Entry naming (shown key)) (entered naming d key x) more.0 more.1) in
      moved P (suc n + count_members ms) (n + suc (count_members ms)) e (omega arith) (entries-keep (suc n) more.0 ms e one more.2)

  table-keeps : (d : Draft) (x : Data) (e : Draft) → P 0 d → with_table naming d x ≡ Ok e → HasRead P (fewest_entries naming) (most_entries naming) e
  table-keeps d (table ms) e p h =
      let fit = through (refusals.PastLimit (paths.Section (sections.Naming naming))) (is_fit_table naming ms) (with_entries naming d ms) e h in
      let sizes = and_parts (nat_le (fewest_entries naming) (count_members ms)) (nat_le (count_members ms) (most_entries naming)) fit.0 in
      record {
        count = count_members ms;
        holds = moved P (0 + count_members ms) (count_members ms) e (omega arith) (entries-keep 0 d ms e p fit.1);
        enough = leb-true (fewest_entries naming) (count_members ms) sizes.0;
        few = leb-true (count_members ms) (most_entries naming) sizes.1;
      }
  table-keeps d (string text) e p h = absurd cc
  table-keeps d (integer z) e p h = absurd cc
  table-keeps d (float x) e p h = absurd cc
  table-keeps d (boolean b) e p h = absurd cc
  table-keeps d (datetime x) e p h = absurd cc
  table-keeps d (array xs) e p h = absurd cc

  absent-keeps : (d e : Draft) (needed : Bool) → needed ≡ naming_is_needed naming → fewest_entries naming ≤ cond needed 1 0 → P 0 d
      → cond needed (Err (refusals.Missing (paths.Section (sections.Naming naming)))) (Ok d) ≡ Ok e → HasRead P (fewest_entries naming) (most_entries naming) e
  absent-keeps d e true is enough p h = absurd cc
  absent-keeps d e false is enough p h =
      let same : d ≡ e = cc in
      record { count = 0; holds = subst (P 0) same p; enough = enough; few = omega arith }

fewest-needed : (naming : Naming) → fewest_entries naming ≤ cond (naming_is_needed naming) 1 0
fewest-needed namings.State = omega arith
fewest-needed namings.Given = omega arith
fewest-needed namings.Lets = omega arith
fewest-needed namings.Facts = omega arith
fewest-needed namings.Outcomes = omega arith

pub naming-keeps : (P : ℕ → Draft → Type 0) (naming : Naming)
    → ((n : ℕ) (d : Draft) (key : List ℕ) (x : Data) (e : Draft) → P n d → entered naming d key x ≡ Ok e → P (suc n) e)
    → (d : Draft) (ms : Members) (e : Draft) → P 0 d → with_naming naming d ms ≡ Ok e → HasRead P (fewest_entries naming) (most_entries naming) e
unfolding with_naming
naming-keeps P naming step d ms e p h = by_data (get_member (naming_name naming) ms) h
  where
    by_data : (o : Option Data) → naming_at naming d o ≡ Ok e → HasRead P (fewest_entries naming) (most_entries naming) e
    by_data None at = absent-keeps P naming step d e (naming_is_needed naming) refl (fewest-needed naming) p at
    by_data (Some x) at = table-keeps P naming step d x e p at

module _ (P : ℕ → Draft → Type 0) (listing : Listing)
    (step : (n number : ℕ) (d : Draft) (x : Data) (e : Draft) → P n d → with_item listing d number x ≡ Ok e → P (suc n) e) where
  items-keep : (n i : ℕ) (d : Draft) (xs : Items) (e : Draft) → P n d → with_items listing d i xs ≡ Ok e → P (n + count_items xs) e
  items-keep n i d no_items e p h =
      let same : d ≡ e = cc in
      moved P n (n + 0) e (omega arith) (subst (P n) same p)
  items-keep n i d (item x xs) e p h =
      let more = step-inv (with_item listing d (i + 1) x) (λ more. with_items listing more (i + 1) xs) h in
      let one = step n (i + 1) d x more.0 p more.1 in
      moved P (suc n + count_items xs) (n + suc (count_items xs)) e (omega arith) (items-keep (suc n) (i + 1) more.0 xs e one more.2)

  list-keeps : (d : Draft) (x : Data) (e : Draft) → P 0 d → with_list listing d x ≡ Ok e → HasRead P 0 (most_items listing) e
  list-keeps d (array xs) e p h =
      let fit = through (refusals.PastLimit (paths.Section (sections.Listing listing))) (is_fit_list listing xs) (with_items listing d 0 xs) e h in
      let sizes = and_parts (nat_le (fewest_items listing) (count_items xs)) (nat_le (count_items xs) (most_items listing)) fit.0 in
      record {
        count = count_items xs;
        holds = moved P (0 + count_items xs) (count_items xs) e (omega arith) (items-keep 0 0 d xs e p fit.1);
        enough = omega arith;
        few = leb-true (count_items xs) (most_items listing) sizes.1;
      }
  list-keeps d (string text) e p h = absurd cc
  list-keeps d (integer z) e p h = absurd cc
  list-keeps d (float x) e p h = absurd cc
  list-keeps d (boolean b) e p h = absurd cc
  list-keeps d (datetime x) e p h = absurd cc
  list-keeps d (table ms) e p h = absurd cc

  no-list : (d e : Draft) (needed : Bool) → P 0 d → cond needed (Err (refusals.Missing (paths.Section (sections.Listing listing)))) (Ok d) ≡ Ok e
      → HasRead P 0 (most_items listing) e
  no-list d e true p h = absurd cc
  no-list d e false p h =
      let same : d ≡ e = cc in
      record { count = 0; holds = subst (P 0) same p; enough = omega arith; few = omega arith }

pub listing-keeps : (P : ℕ → Draft → Type 0) (listing : Listing)
    → ((n number : ℕ) (d : Draft) (x : Data) (e : Draft) → P n d → with_item listing d number x ≡ Ok e → P (suc n) e)
    → (d : Draft) (ms : Members) (e : Draft) → P 0 d → with_listing listing d ms ≡ Ok e → HasRead P 0 (most_items listing) e
unfolding with_listing
listing-keeps P listing step d ms e p h = by_data (get_member (listing_name listing) ms) h
  where
    by_data : (o : Option Data) → listing_at listing d o ≡ Ok e → HasRead P 0 (most_items listing) e
    by_data None at = no-list P listing step d e (listing_is_needed listing) p at
    by_data (Some x) at = list-keeps P listing step d x e p at
