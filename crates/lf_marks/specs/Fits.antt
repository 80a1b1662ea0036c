-- Places for items of a list.
use Rattle.std.specs.Prelude.{◌≡◌, ℕ, ◌+◌, ◌≤◌, [], length, Option, MatchOption, Vec, vec_capacity}
use Rattle.std.specs.Global.{Global}

-- a list has places for so many items more, or a larger one, which is empty, has places for all
abbrev pub Fits : {T : Type 0} → Vec T Global → ℕ → Option (Vec T Global) → Type 0
Fits list more larger =
    MatchOption larger (length list.items + more ≤ vec_capacity list) (λ v. (v.items ≡ []) × (length list.items + more ≤ vec_capacity v))
