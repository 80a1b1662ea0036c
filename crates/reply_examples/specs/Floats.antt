-- Sweeps without floats.
use Rattle.std.specs.Prelude.{◌≡◌, ⊤, ℕ, true, List, [], ◌∷◌, ◌++◌, codes}
use Rattle.toml.specs.Parse.{parse_value}
use Rattle.lf_sweep.specs.declared.varied.Varied.{Varied}
use Rattle.lf_sweep.specs.Exact.{has_no_floats}
use Rattle.lf_sweep.specs.Members.{value_of, written_value}
use Rattle.lf_sweep.specs.Words.{word_at}

-- the value that a word stands for is no float
abbrev pub IsPlain : List ℕ → Type 0
IsPlain word = has_no_floats (written_value word (parse_value word)) ≡ true

abbrev pub ArePlain : List (List ℕ) → Type 0
ArePlain [] = ⊤
ArePlain (word ∷ words) = IsPlain word × ArePlain words

-- no value of what varies is a float
abbrev pub IsExact : Varied → Type 0
IsExact v = (place : ℕ) → has_no_floats (value_of v.place (word_at v.words place)) ≡ true

-- and of all that varies
abbrev pub AreExact : List Varied → Type 0
AreExact [] = ⊤
AreExact (v ∷ vs) = IsExact v × AreExact vs

-- a scenario in which none stands
abbrev pub scenario_text : List ℕ
scenario_text =
    codes "nodes = 3\nhorizon = 5\nlast_omission = 0\ncrashes = 1\nbudget = 1\n"
    ++ codes "protocol = \"two_phase\"\npatience = 3\nvotes = [true, true]\noutcome = \"unblocked\"\n"
