-- Values in a list, as they are written.
use Rattle.std.specs.Prelude.{◌≡◌, ℕ, ◌+◌, ◌≤◌, ◌<◌, ◌==◌, ◌&&◌, ◌||◌, ⊤, not, Bool, true, false}
use Rattle.std.specs.Prelude.{List, [], ◌∷◌, ◌++◌, length, take, drop, slice_index_or, is_some}
use Rattle.std.specs.List.{list_any}
use Rattle.toml.specs.Parse.{parse_value}
use Rattle.lf_sweep.specs.declared.error.VaryError.{VaryError}
use Rattle.lf_sweep.specs.declared.error.VaryError.TheVariants as faults

-- the byte is a bracket or a quote: " ' [ ] { }
unfoldable pub is_mark : ℕ → Bool
is_mark b = (b == 34 || b == 39) || ((b == 91 || b == 93) || (b == 123 || b == 125))

-- one of the bytes is one
abbrev pub has_mark : List ℕ → Bool
has_mark bytes = list_any (λ b. is_mark b) bytes

-- the first of them is one
abbrev pub is_opened : List ℕ → Bool
is_opened [] = false
is_opened (b ∷ bs) = is_mark b

-- TOML reads a value in the whole text
unfoldable pub is_value : List ℕ → Bool
is_value text = is_some (parse_value text)

-- the text is over there, or a comma (44) stands there
abbrev pub is_end : List ℕ → ℕ → Bool
is_end text n = n == length text || slice_index_or text n 0 == 44

-- a value may end there: before a comma or at the end of the text; and where a bracket or a quote stands first, TOML reads all of it
unfoldable pub may_end : List ℕ → ℕ → Bool
may_end text n = is_end text n && (not (is_opened text) || is_value (take n text))

-- the first value of the text ends there
pub record EndsAt (text : List ℕ) (n : ℕ) : Type 0 where
  pub inside : n ≤ length text
  pub here : may_end text n ≡ true
  pub first : (m : ℕ) → m < n → may_end text m ≡ false

-- and it is one: there is something of it, with a bracket or a quote only where one stands first
pub record IsValue (text : List ℕ) (n : ℕ) : Type 0 where
  pub end : EndsAt text n
  pub some : 0 < n
  pub bare : is_opened text ≡ false → has_mark (take n text) ≡ false

-- the text begins with these values, each with a comma behind it, and goes on with the rest
abbrev pub AreBefore : List (List ℕ) → List ℕ → List ℕ → Type 0
AreBefore [] text rest = text ≡ rest
AreBefore (word ∷ words) text rest =
    (n : ℕ) × IsValue text n × (n < length text) × (word ≡ take n text) × AreBefore words (drop (n + 1) text) rest

-- the text is these values, with a comma between any two
pub record AreValues (words : List (List ℕ)) (text : List ℕ) : Type 0 where
  pub front : List (List ℕ)
  pub last : List ℕ
  pub begun : AreBefore front text last
  pub ended : IsValue last (length last)
  pub all : words ≡ front ++ last ∷ []

-- why the text doesn't begin with a value, of which this is the number: there is none; a bracket or a quote stands first, and TOML reads
-- no value there that a comma or the end follows; or one stands further in
abbrev pub IsNoValue : List ℕ → ℕ → VaryError → Type 0
IsNoValue text number faults.NoPair = ⊥
IsNoValue text number faults.NoPlace = ⊥
IsNoValue text number faults.NoRange = ⊥
IsNoValue text number (faults.NoValue k) = (k ≡ number) × EndsAt text 0
IsNoValue text number (faults.Unread k) = (k ≡ number) × ((n : ℕ) → n ≤ length text → may_end text n ≡ false)
IsNoValue text number (faults.Marked k) =
    (k ≡ number) × (is_opened text ≡ false) × ((n : ℕ) × EndsAt text n × (has_mark (take n text) ≡ true))
IsNoValue text number faults.TooMany = ⊥
IsNoValue text number faults.Memory = ⊤

-- why the text is no list of values: values stand first, and behind them none. They are numbered from 1
abbrev pub IsNoList : List ℕ → VaryError → Type 0
IsNoList text e = (front : List (List ℕ)) × (rest : List ℕ) × AreBefore front text rest × IsNoValue rest (length front + 1) e
