-- Marked points.
use Rattle.std.specs.Prelude.{◌≡◌, ℕ, ◌+◌, ◌*◌, ◌<◌, ◌≤◌, Bool, true, false, List, slice_index_or}

-- the point of n and t is among the marked ones; they stand by step and then by node, 8 to a step
abbrev pub is_marked : List Bool → ℕ → ℕ → Bool
is_marked points n t = slice_index_or points (t * 8 + n) false

-- each step with a marked point is told as one
abbrev pub AreTold : List Bool → List Bool → Type 0
AreTold points steps = (n t : ℕ) → n < 8 → is_marked points n t ≡ true → slice_index_or steps t false ≡ true

-- each marked point lies between these nodes and steps, which are among them
pub record IsBetween (first_node last_node first_step last_step n t : ℕ) : Type 0 where
  pub node : first_node ≤ n
  pub nodes : n ≤ last_node
  pub step : first_step ≤ t
  pub steps : t ≤ last_step

abbrev pub AreBetween : List Bool → ℕ → ℕ → ℕ → ℕ → Type 0
AreBetween points first_node last_node first_step last_step =
    (n t : ℕ) → n < 8 → is_marked points n t ≡ true → IsBetween first_node last_node first_step last_step n t
