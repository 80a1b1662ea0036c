-- What is left of some bytes after the texts that they begin with.
use Rattle.std.specs.Prelude.{ℕ, ◌==◌, List, [], ◌∷◌, Option, None, Some, option_map, if◌then◌else◌}
use Rattle.std.specs.Borrow.{Bor}

-- what is left after a byte: nothing where another comes
abbrev pub without : ℕ → Option (List ℕ) → Option (List ℕ)
without b None = None
without b (Some []) = None
without b (Some (x ∷ xs)) = if b == x then Some xs else None

-- what is left after a text
unfoldable pub skip : List ℕ → Option (List ℕ) → Option (List ℕ)
skip [] left = left
skip (b ∷ bs) left = skip bs (without b left)

-- the bytes that are left
abbrev pub left_of : Option (Bor (List ℕ)) → Option (List ℕ)
left_of left = option_map (λ bytes. bytes.now) left
