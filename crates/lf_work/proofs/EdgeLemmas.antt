-- How many faults an ascending list can have: faults are numbered in their order, and there are few numbers.
use Rattle.std.proofs.Common.{◌≡◌, ℕ, ◌+◌, ◌*◌, ◌<◌, ◌≤◌, true, List, [], ◌∷◌, length, inl, inr, arith}
use Rattle.std.specs.Prelude.{◌⊎◌}
use Rattle.std.specs.List.{Contains}
use Rattle.std.specs.declared.cmp.Ordering.{Ordering}
use Rattle.std.specs.declared.cmp.Ordering.TheVariants.{Less, Equal, Greater}
use Rattle.std.specs.Ordering.{nat_cmp, ordering_then, is_lt, MatchOrdering}
use Rattle.std.specs.Cmp.{ranks}
use Rattle.lf_list.proofs.Laws.{each-in, Contains-first, Contains-more}
use Rattle.lf_faults.specs.declared.fault.Parts.{Parts}
use Rattle.lf_faults.specs.declared.fault.Parts.TheVariants.{Omit, Crash, Pause}
use Rattle.lf_faults.specs.Faults.{IsFault, is_before, IsAscending, step_of, rank_of, node_of, receiver_of}

-- a comparison of two parts: by the first, or the first are the same
by-order : (a b : ℕ) (rest o : Ordering) → MatchOrdering o (a < b) (a ≡ b) (b < a) → is_lt (ordering_then o rest) ≡ true
    → (a < b) ⊎ ((a ≡ b) × (is_lt rest ≡ true))
by-order a b rest Less h before = inl h
by-order a b rest Equal h before = inr (h, before)
by-order a b rest Greater h before = let never : ⊥ = cc in absurd never

by-first : (a b : ℕ) (rest : Ordering) → is_lt (ordering_then (nat_cmp a b) rest) ≡ true → (a < b) ⊎ ((a ≡ b) × (is_lt rest ≡ true))
by-first a b rest = by-order a b rest (nat_cmp a b) (ranks a b)

by-last : (a b : ℕ) (o : Ordering) → MatchOrdering o (a < b) (a ≡ b) (b < a) → is_lt o ≡ true → a < b
by-last a b Less h before = h
by-last a b Equal h before = let never : ⊥ = cc in absurd never
by-last a b Greater h before = let never : ⊥ = cc in absurd never

-- the number of a fault
abbrev number : Parts → ℕ
number f = ((step_of f * 3 + rank_of f) * 8 + node_of f) * 8 + receiver_of f

-- its parts
record IsSmall (f : Parts) : Type 0 where
  rank : rank_of f < 3
  node : node_of f < 8
  receiver : receiver_of f < 8
  step : step_of f ≤ 48

small : (f : Parts) → IsFault f → IsSmall f
small (Omit from to step) h = record { rank = omega arith; node = h.0; receiver = h.1; step = h.4 }
small (Crash node step) h = record { rank = omega arith; node = h.0; receiver = omega arith; step = h.2 }
small (Pause node step) h = record { rank = omega arith; node = h.0; receiver = omega arith; step = h.2 }

-- of two faults the one that comes before has the smaller number
number-before : (f g : Parts) → IsFault f → IsFault g → is_before f g ≡ true → number f < number g
number-before f g h k before =
    let low = small f h in
    let high = small g k in
    elim (by-first (step_of f) (step_of g) _ before) [
      | inl less ↦ omega (arith, less, low.rank, low.node, low.receiver)
      | inr steps ↦ elim (by-first (rank_of f) (rank_of g) _ steps.1) [
        | inl less ↦ omega (arith, steps.0, less, low.node, low.receiver)
        | inr ranks_same ↦ elim (by-first (node_of f) (node_of g) _ ranks_same.1) [
          | inl less ↦ omega (arith, steps.0, ranks_same.0, less, low.receiver)
          | inr nodes ↦ omega (
            arith,
            steps.0,
            ranks_same.0,
            nodes.0,
            by-last (receiver_of f) (receiver_of g) (nat_cmp (receiver_of f) (receiver_of g)) (ranks (receiver_of f) (receiver_of g)) nodes.1,
          )
        ]
      ]
    ]

number-small : (f : Parts) → IsFault f → number f < 9408
number-small f h = let low = small f h in omega (arith, low.rank, low.node, low.receiver, low.step)

-- an ascending list of faults with numbers from one on
few-from : (first : ℕ) (fs : List Parts) → first ≤ 9408 → IsAscending fs → ((f : Parts) → Contains fs f → IsFault f)
    → ((f : Parts) → Contains fs f → first ≤ number f) → length fs + first ≤ 9408
few-from first [] room ascending each late = omega (arith, room)
few-from first (f ∷ fs) room ascending each late =
    let here = each f (Contains-first f fs) in
    let rest = few-from (number f + 1) fs (omega (arith, number-small f here)) ascending.1 (λ g c. each g (Contains-more f fs g c))
    (λ g c. omega (arith, number-before f g here (each g (Contains-more f fs g c)) (each-in (λ x. is_before f x ≡ true) fs ascending.0 g c))) in
    omega (arith, rest, late f (Contains-first f fs))

pub few-ascending : (fs : List Parts) → IsAscending fs → ((f : Parts) → Contains fs f → IsFault f) → length fs ≤ 9408
few-ascending fs ascending each = omega (arith, few-from 0 fs (omega arith) ascending each (λ f c. omega arith))
