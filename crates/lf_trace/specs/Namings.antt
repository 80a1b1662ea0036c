-- How a set of faults is named.
use Rattle.std.specs.Prelude.{◌≡◌, ◌↔◌, ℕ, ◌<◌, ◌≤◌, List, [], ◌∷◌, length, map}
use Rattle.std.specs.List.{AllByRecursion, Contains, join_with_byte}
use Rattle.lf_faults.specs.declared.fault.Parts.{Parts}
use Rattle.lf_faults.specs.Faults.{IsAscending, IsFault, inserted}
use Rattle.lf_faults.specs.Texts.{spelling}

-- none is there twice
abbrev pub AreDistinct : List Parts → Type 0
AreDistinct [] = Unit {0}
AreDistinct (f ∷ fs) = (¬ (Contains fs f)) × AreDistinct fs

-- at most six different faults
pub record IsList (fs : List Parts) : Type 0 where
  pub faults : AllByRecursion IsFault fs
  pub distinct : AreDistinct fs
  pub few : length fs ≤ 6

-- the words are the texts of the set's faults, in some order, with one comma (44) between each two
pub record Names (words : List ℕ) (set : List Parts) : Type 0 where
  pub named : List Parts
  pub list : IsList named
  pub joined : words ≡ join_with_byte 44 (map spelling named)
  pub ascending : IsAscending set
  pub same : (f : Parts) → (Contains set f ↔ Contains named f)

-- the larger set has one fault more, which the words spell
pub record Adds (words : List ℕ) (set larger : List Parts) : Type 0 where
  pub fault : Parts
  pub in_range : IsFault fault
  pub spelled : words ≡ spelling fault
  pub new : ¬ (Contains set fault)
  pub few : length set < 6
  pub is : larger ≡ inserted fault set
