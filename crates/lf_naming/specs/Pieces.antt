-- Pieces of a text with a byte between each two.
use Rattle.std.specs.Prelude.{ℕ, zero, suc, List, [], ◌∷◌, ◌++◌}

-- what stands before the piece with a place, from 0 on
abbrev pub before_piece : ℕ → ℕ → List ℕ
before_piece c zero = []
before_piece c (suc place) = c ∷ []

-- pieces behind another one, each with the byte before it
abbrev pub pieces_behind : {A : Type 0} → ℕ → (A → List ℕ) → List A → List ℕ
pieces_behind c f [] = []
pieces_behind c f (x ∷ xs) = c ∷ (f x ++ pieces_behind c f xs)

-- pieces with the byte between any two
abbrev pub pieces : {A : Type 0} → ℕ → (A → List ℕ) → List A → List ℕ
pieces c f [] = []
pieces c f (x ∷ xs) = f x ++ pieces_behind c f xs
