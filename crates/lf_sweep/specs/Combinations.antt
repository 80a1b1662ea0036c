-- The combinations of values, by their numbers.
use Rattle.std.specs.Prelude.{ℕ, ◌+◌, ◌*◌, ◌/◌, ◌%◌, ◌<◌, List, [], ◌∷◌}
use Rattle.lf_sweep.specs.declared.varied.Varied.{Varied}
use Rattle.lf_sweep.specs.Words.{count_of, word_at}

-- how many combinations there are: one of nothing
abbrev pub combinations : List Varied → ℕ
combinations [] = 1
combinations (v ∷ vs) = count_of v.words * combinations vs

-- the places of the values of a combination, each from 0: the last runs fastest
abbrev pub places_at : List Varied → ℕ → List ℕ
places_at [] number = []
places_at (v ∷ vs) number = number / combinations vs ∷ places_at vs (number % combinations vs)

-- and the values, as they are written
abbrev pub words_at : List Varied → ℕ → List (List ℕ)
words_at [] number = []
words_at (v ∷ vs) number = word_at v.words (number / combinations vs) ∷ words_at vs (number % combinations vs)

-- the number of the combination with these places: they are the digits of a number, each at its own base
abbrev pub number_of : List Varied → List ℕ → ℕ
number_of [] places = 0
number_of (v ∷ vs) [] = 0
number_of (v ∷ vs) (d ∷ ds) = d * combinations vs + number_of vs ds

-- a place of each that varies
abbrev pub ArePlaces : List Varied → List ℕ → Type 0
ArePlaces [] [] = Unit {0}
ArePlaces [] (d ∷ ds) = ⊥
ArePlaces (v ∷ vs) [] = ⊥
ArePlaces (v ∷ vs) (d ∷ ds) = (d < count_of v.words) × ArePlaces vs ds
