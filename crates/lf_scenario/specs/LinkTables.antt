-- The links that have delays of their own: the tables at the key `links`.
--
-- First each item has to be a table. Then the tables are read in their order, and in a table:
--
--     from      a whole number, which has to be there
--     to        a whole number, which has to be there
--     least     1 to 16, and the scenario's where it is missing
--     spread    0 to 15, and the scenario's where it is missing
--
-- A table with another key is refused first, and one whose ends are no link last: an end is no node, the two are equal,
-- or an earlier table has the same two in the same order. All refusals name the key `links`.
use Rattle.std.specs.Prelude.{ℕ, ℤ, pos, ◌≤◌, ◌==◌, Bool, true, false, not, ◌&&◌, ◌||◌, if◌then◌else◌, List, [], ◌∷◌, ◌++◌, fold, map, codes, Ok, Err}
use Rattle.std.specs.List.{list_any, range_with_len}
use Rattle.std.specs.Str.{bytes_eq}
use Rattle.toml.specs.Data.{Data, integer, array, table, Items, no_items, item, Members, no_members, member, get_member}
use Rattle.lf_latency.specs.declared.links.Links.{Links}
use Rattle.lf_latency.specs.Links.{is_pair, IsPair, pair_entry}
use Rattle.lf_scenario.specs.declared.key.Key.{Key}
use Rattle.lf_scenario.specs.declared.key.Key.TheVariants as keys
use Rattle.lf_scenario.specs.declared.error.ScenarioError.TheVariants as refusals
use Rattle.lf_scenario.specs.declared.links.Link.{Link}
use Rattle.lf_scenario.specs.Values.{Reading, ◌>>=◌, whole, found_or, optional}

-- whether each item is a table
abbrev pub all_tables : Items → Bool
all_tables no_items = true
all_tables (item (table ms) ds) = all_tables ds
all_tables (item _ ds) = false

-- whether each key is one of a link's
abbrev pub all_of_links : Members → Bool
all_of_links no_members = true
all_of_links (member name d ms) =
    (bytes_eq name (codes "from") || bytes_eq name (codes "to") || bytes_eq name (codes "least") || bytes_eq name (codes "spread"))
    && all_of_links ms

unfoldable pub link_keys : Members → Reading (Unit {0})
link_keys ms = if all_of_links ms then Ok tt else Err refusals.UnknownLinkKey

-- a whole number
abbrev pub end_in : Data → Reading ℤ
end_in (integer z) = Ok z
end_in _ = Err (refusals.WrongKind keys.Links)

-- the value at a name, and else what stands for it
unfoldable pub end_at : Members → List ℕ → Reading ℤ
end_at ms name = found_or (Err (refusals.Missing keys.Links)) end_in (get_member name ms)

unfoldable pub delay_at : Members → List ℕ → ℕ → ℕ → ℕ → Reading ℕ
delay_at ms name low high default = found_or (Ok default) (whole low high keys.Links) (get_member name ms)

-- whether there is a link from n to m among some
abbrev pub is_given : List Link → ℕ → ℕ → Bool
is_given links n m = list_any (λ link. (link.from == n) && (link.to == m)) links

-- the link of these ends after those before it
unfoldable pub joined : ℕ → List Link → ℤ → ℤ → ℕ → ℕ → Reading Link
joined nodes before (pos from) (pos to) least spread =
    if is_pair nodes from to && not (is_given before from to)
    then Ok (record { from = from; to = to; least = least; spread = spread })
    else Err refusals.Link
joined nodes before _ _ least spread = Err refusals.Link

-- the link of a table, by the scenario's least and spread
unfoldable pub link_in : ℕ → ℕ → ℕ → List Link → Members → Reading Link
link_in nodes least spread before ms = do
  keys ← link_keys ms
  from ← end_at ms (codes "from")
  to ← end_at ms (codes "to")
  own_least ← delay_at ms (codes "least") 1 16 least
  own_spread ← delay_at ms (codes "spread") 0 15 spread
  joined nodes before from to own_least own_spread

-- the links of the tables after those before them
abbrev pub links_from : ℕ → ℕ → ℕ → List Link → Items → Reading (List Link)
links_from nodes least spread before no_items = Ok before
links_from nodes least spread before (item (table ms) ds) = do
  link ← link_in nodes least spread before ms
  links_from nodes least spread (before ++ link ∷ []) ds
links_from nodes least spread before (item _ ds) = Err (refusals.WrongKind keys.Links)

-- a list of such tables
unfoldable pub links_in : ℕ → ℕ → ℕ → Key → Data → Reading (List Link)
links_in nodes least spread key (array ds) =
    if all_tables ds then links_from nodes least spread [] ds else Err (refusals.WrongKind key)
links_in nodes least spread key _ = Err (refusals.WrongKind key)

-- a link between nodes, with delays in their ranges
pub record IsLink (nodes : ℕ) (link : Link) : Type 0 where
  pub pair : IsPair nodes link.from link.to
  pub least : (1 ≤ link.least) × (link.least ≤ 16)
  pub spread : link.spread ≤ 15

-- the least delay from n to m: that of the link between them, and the scenario's where none is given
abbrev pub least_after : ℕ → ℕ → ℕ → Link → ℕ
least_after n m least link = if (link.from == n) && (link.to == m) then link.least else least

abbrev pub least_given : List Link → ℕ → ℕ → ℕ → ℕ
least_given given least n m = fold (least_after n m) least given

-- and the spread
abbrev pub spread_after : ℕ → ℕ → ℕ → Link → ℕ
spread_after n m spread link = if (link.from == n) && (link.to == m) then link.spread else spread

abbrev pub spread_given : List Link → ℕ → ℕ → ℕ → ℕ
spread_given given spread n m = fold (spread_after n m) spread given

-- a table by sender and receiver
abbrev pub table_by : (ℕ → ℕ → ℕ) → List (List ℕ)
table_by entry = map (λ n. map (entry n) (range_with_len 0 8)) (range_with_len 0 8)

-- the delays of all links, by the scenario's least and spread and by those that are given; a place that is no pair of
-- nodes has the least delay 1 and the spread 0
abbrev pub links_of : ℕ → ℕ → ℕ → List Link → Links
links_of nodes least spread given = record {
  least = table_by (λ n m. pair_entry nodes (least_given given least n m) 1 n m);
  spread = table_by (λ n m. pair_entry nodes (spread_given given spread n m) 0 n m);
}

-- the last line of the table of keys, as the delays of all links
unfoldable pub all_links : ℕ → ℕ → ℕ → Members → Reading Links
all_links nodes least spread ms = do
  given ← optional ms keys.Links (links_in nodes least spread) []
  Ok (links_of nodes least spread given)
