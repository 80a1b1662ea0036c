-- Members that have one text.
use Rattle.std.specs.Prelude.{Bool, true, false, ◌&&◌}
use Rattle.toml.specs.Data.{Data, float, array, table, Items, no_items, item, Members, no_members, member}

-- nothing inside is a float, for which a text may have more digits or fewer. No scenario takes one at any key
abbrev mutual
  pub has_no_floats : Data → Bool
  has_no_floats (float x) = false
  has_no_floats (array ds) = items_have_no_floats ds
  has_no_floats (table ms) = members_have_no_floats ms
  has_no_floats _ = true

  pub items_have_no_floats : Items → Bool
  items_have_no_floats no_items = true
  items_have_no_floats (item d ds) = has_no_floats d && items_have_no_floats ds

  pub members_have_no_floats : Members → Bool
  members_have_no_floats no_members = true
  members_have_no_floats (member k d ms) = has_no_floats d && members_have_no_floats ms
