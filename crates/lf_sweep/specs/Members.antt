-- A scenario with other values.
use Rattle.std.specs.Prelude.{ℕ, ◌-◌, Bool, false, List, ◌++◌, length, codes, replicate, if◌then◌else◌, Option, Some, None, string_bytes}
use Rattle.std.specs.Cmp.Lexicographic.{slice_cmp}
use Rattle.std.specs.Ordering.{nat_cmp, match_ordering}
use Rattle.std.specs.Str.{bytes_eq}
use Rattle.toml.specs.Data.{Data, string, table, Members, no_members, member, get_member}
use Rattle.toml.specs.Parse.{parse_value}
use Rattle.lf_sweep.specs.declared.varied.Place.{Place}
use Rattle.lf_sweep.specs.declared.varied.Place.TheVariants as places

-- the members, in the order of their keys, with a value at a key in place of what stood there or of nothing
abbrev pub with_member : List ℕ → Data → Members → Members
with_member k d no_members = member k d no_members
with_member k d (member l e ms) =
    match_ordering (slice_cmp nat_cmp k l) (member k d (member l e ms)) (member l d ms) (member l e (with_member k d ms))

-- the constants that stand at the key `given`: none where no table does
abbrev pub constants_of : Option Data → Members
constants_of (Some (table ms)) = ms
constants_of other = no_members

-- the same of a name in the table `given`
abbrev pub with_constant : List ℕ → Data → Members → Members
with_constant name d ms = with_member (codes "given") (table (with_member name d (constants_of (get_member (codes "given") ms)))) ms

-- and of either
abbrev pub with_place : Place → Data → Members → Members
with_place (places.Key name) d ms = with_member (string_bytes name) d ms
with_place (places.Constant name) d ms = with_constant (string_bytes name) d ms

-- the place is the key `seed`
abbrev pub is_seed : Place → Bool
is_seed (places.Key name) = bytes_eq (string_bytes name) (codes "seed")
is_seed (places.Constant name) = false

-- a seed's last digits, behind as many zeros (48) as make it 64 long
abbrev pub seed_text : List ℕ → List ℕ
seed_text digits = replicate (64 - length digits) 48 ++ digits

-- the value that TOML reads in a word, and else the word as a text
abbrev pub written_value : List ℕ → Option Data → Data
written_value word (Some d) = d
written_value word None = string word

-- the value that a word stands for
abbrev pub value_of : Place → List ℕ → Data
value_of place word = if is_seed place then string (seed_text word) else written_value word (parse_value word)
