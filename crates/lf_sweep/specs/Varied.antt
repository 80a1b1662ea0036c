-- What varies, as it is written.
use Rattle.std.specs.Prelude.{◌≡◌, ◌≢◌, ◌⊎◌, ℕ, ◌+◌, ◌≤◌, ◌<◌, ◌^◌, false, List, ◌∷◌, ◌++◌, length, map, codes, slice_index_or, string_bytes}
use Rattle.std.specs.Str.Parse.{IsNumeral, digits_value, without_leading_plus}
use Rattle.lf_sweep.specs.declared.error.VaryError.{VaryError}
use Rattle.lf_sweep.specs.declared.error.VaryError.TheVariants as faults
use Rattle.lf_sweep.specs.declared.varied.Place.{Place}
use Rattle.lf_sweep.specs.declared.varied.Place.TheVariants as places
use Rattle.lf_sweep.specs.declared.varied.Varied.{Varied}
use Rattle.lf_sweep.specs.declared.words.Words.{Words}
use Rattle.lf_sweep.specs.declared.words.Words.TheVariants as words
use Rattle.lf_sweep.specs.Listed.{AreValues, IsNoList, has_mark}
use Rattle.lf_sweep.specs.Words.{most_values}

-- none of the bytes is this one
abbrev pub Lacks : ℕ → List ℕ → Type 0
Lacks byte bytes = (i : ℕ) → i < length bytes → slice_index_or bytes i 0 ≢ byte

-- the text is cut in two at the first of these bytes
pub record IsCut (byte : ℕ) (text front back : List ℕ) : Type 0 where
  pub joined : text ≡ front ++ byte ∷ back
  pub first : Lacks byte front

-- `given.` stands before the name of a constant
abbrev pub IsConstant : List ℕ → List ℕ → Type 0
IsConstant text name = IsCut 46 text (codes "given") name

-- what varies, by its name
abbrev pub IsPlace : List ℕ → Place → Type 0
IsPlace text (places.Constant name) = IsConstant text (string_bytes name) × (0 < length (string_bytes name))
IsPlace text (places.Key name) = (text ≡ string_bytes name) × (0 < length text) × ((rest : List ℕ) → ¬ (IsConstant text rest))

-- `..` stands between the ends of a range, behind no point, and behind no bracket or quote
abbrev pub IsRange : List ℕ → List ℕ → List ℕ → Type 0
IsRange text first last = IsCut 46 text first (46 ∷ last) × (has_mark first ≡ false)

-- the text is a whole number of 32 bits, which may have a plus before it
abbrev pub IsNumber : List ℕ → ℕ → Type 0
IsNumber text n = IsNumeral 10 (without_leading_plus text) × (digits_value 10 (without_leading_plus text) ≡ n) × (n < 2 ^ 32)

-- the numbers between two ends: one at least, and not too many
abbrev pub AreNumbers : List ℕ → List ℕ → Words → Type 0
AreNumbers first last (words.Numbers n m) = IsNumber first n × IsNumber last m × (n ≤ m) × (m < n + most_values)
AreNumbers first last (words.Listed listed) = ⊥

-- why there are none: the ends are no numbers, or the first is past the last; or they are too many
abbrev pub AreNoNumbers : List ℕ → List ℕ → VaryError → Type 0
AreNoNumbers first last faults.NoPair = ⊥
AreNoNumbers first last faults.NoPlace = ⊥
AreNoNumbers first last faults.NoRange = (n m : ℕ) → IsNumber first n → IsNumber last m → m < n
AreNoNumbers first last (faults.NoValue k) = ⊥
AreNoNumbers first last (faults.Unread k) = ⊥
AreNoNumbers first last (faults.Marked k) = ⊥
AreNoNumbers first last faults.TooMany = (n : ℕ) × (m : ℕ) × IsNumber first n × IsNumber last m × (n + most_values ≤ m)
AreNoNumbers first last faults.Memory = ⊥

-- the words are the values of a list, which are not too many
abbrev pub AreListed : List ℕ → Words → Type 0
AreListed text (words.Numbers n m) = ⊥
AreListed text (words.Listed listed) = AreValues (map string_bytes listed.items) text × (length listed.items ≤ most_values)

-- why there are none: the text is no list of values, or they are too many
abbrev pub AreNotListed : List ℕ → VaryError → Type 0
AreNotListed text e = IsNoList text e ⊎ ((e ≡ faults.TooMany) × (words : List (List ℕ)) × AreValues words text × (most_values < length words))

-- the values of a text: those of a range, or of a list
abbrev pub AreWords : List ℕ → Words → Type 0
AreWords text some =
    ((first : List ℕ) × (last : List ℕ) × IsRange text first last × AreNumbers first last some)
    ⊎ (((first last : List ℕ) → ¬ (IsRange text first last)) × AreListed text some)

-- and why there are none
abbrev pub AreNoWords : List ℕ → VaryError → Type 0
AreNoWords text e =
    ((first : List ℕ) × (last : List ℕ) × IsRange text first last × AreNoNumbers first last e)
    ⊎ (((first last : List ℕ) → ¬ (IsRange text first last)) × AreNotListed text e)

-- what varies, before the first = (61), and its values behind it
pub record IsVaried (text : List ℕ) (v : Varied) : Type 0 where
  pub name : List ℕ
  pub values : List ℕ
  pub cut : IsCut 61 text name values
  pub place : IsPlace name v.place
  pub words : AreWords values v.words

-- a text has no =
abbrev pub LacksPair : List ℕ → Type 0
LacksPair text = (name values : List ℕ) → ¬ (IsCut 61 text name values)

-- a name is that of nothing that may vary
abbrev pub IsNoPlace : List ℕ → VaryError → Type 0
IsNoPlace name e = ((e ≡ faults.NoPlace) × ((place : Place) → ¬ (IsPlace name place))) ⊎ (e ≡ faults.Memory)

-- a name and the text of its values say nothing: the name is refused before the values
abbrev pub IsNoneOf : List ℕ → List ℕ → VaryError → Type 0
IsNoneOf name values e = IsNoPlace name e ⊎ (((place : Place) × IsPlace name place) × AreNoWords values e)

-- why a text doesn't say what varies
abbrev pub IsNotVaried : List ℕ → VaryError → Type 0
IsNotVaried text e =
    ((e ≡ faults.NoPair) × LacksPair text)
    ⊎ ((name : List ℕ) × (values : List ℕ) × IsCut 61 text name values × IsNoneOf name values e)
