-- The marks of the sets of a search, and the steps that change them.
use Rattle.std.specs.Prelude.{◌≡◌, ◌≢◌, ℕ, ◌+◌, ◌<◌, ◌≤◌, List, [], ◌∷◌, ◌++◌, length, Option, None, Some, IsSome}
use Rattle.std.specs.Option.{option_map}
use Rattle.lf_faults.specs.declared.fault.Parts.{Parts}

-- what is known of a set: it stands one beneath the level, or on the level and may be worked, or somebody with a ticket works it,
-- or its run misses the outcome, or reaches it, or reaches it within a reach, and a kid stands beneath it for each edge
pub data Mark : Type 0 where
  Waiting : Mark
  Open : Mark
  Claimed : ℕ → Mark
  Misses : Mark
  Reaches : Mark
  Branch : List ℕ → List Parts → Mark

-- a set stands at a path, the places of the kids from the root on, or none does
abbrev pub Marking : Type 0
Marking = List ℕ → Option Mark

-- the kid of a set at a place
abbrev pub kid_of : List ℕ → ℕ → List ℕ
kid_of p i = p ++ i ∷ []

-- how many kids stand beneath a set
abbrev pub kids_beneath : Mark → ℕ
kids_beneath Waiting = 0
kids_beneath Open = 0
kids_beneath (Claimed t) = 0
kids_beneath Misses = 0
kids_beneath Reaches = 0
kids_beneath (Branch reach edges) = length edges

-- how many kids stand beneath the set that stands somewhere, if one does
abbrev pub kids_at : Option Mark → ℕ
kids_at None = 0
kids_at (Some m) = kids_beneath m

-- how many kids stand beneath the sets above a path, from the root on
abbrev pub kids_above : Marking → List ℕ → ℕ
kids_above at [] = 0
kids_above at (i ∷ path) = kids_at (at []) + kids_above (λ q. at (i ∷ q)) path

-- it was worked to its end
abbrev pub IsAnswer : Mark → Type 0
IsAnswer Waiting = ⊥
IsAnswer Open = ⊥
IsAnswer (Claimed t) = ⊥
IsAnswer Misses = Unit {0}
IsAnswer Reaches = Unit {0}
IsAnswer (Branch reach edges) = Unit {0}

-- an open set was claimed by a ticket
pub record Took (p : List ℕ) (t : ℕ) (old new : Marking) : Type 0 where
  pub was : old p ≡ Some Open
  pub is : new p ≡ Some (Claimed t)
  pub others : (q : List ℕ) → q ≢ p → new q ≡ old q

-- a claimed set was answered, and the kids of a branch wait
pub record Answered (p : List ℕ) (t : ℕ) (m : Mark) (old new : Marking) : Type 0 where
  pub was : old p ≡ Some (Claimed t)
  pub is : new p ≡ Some m
  pub kids : (i : ℕ) → i < kids_beneath m → new (kid_of p i) ≡ Some Waiting
  pub others : (q : List ℕ) → q ≢ p → ((i : ℕ) → i < kids_beneath m → q ≢ kid_of p i) → new q ≡ old q

-- a claimed set is open again
pub record GaveBack (p : List ℕ) (t : ℕ) (old new : Marking) : Type 0 where
  pub was : old p ≡ Some (Claimed t)
  pub is : new p ≡ Some Open
  pub others : (q : List ℕ) → q ≢ p → new q ≡ old q

-- no claim is left
abbrev pub freed : Mark → Mark
freed Waiting = Waiting
freed Open = Open
freed (Claimed t) = Open
freed Misses = Misses
freed Reaches = Reaches
freed (Branch reach edges) = Branch reach edges

-- all claimed sets are open again
abbrev pub Reclaimed : Marking → Marking → Type 0
Reclaimed old new = (q : List ℕ) → new q ≡ option_map freed (old q)

-- what waits may be worked
abbrev pub raised : Mark → Mark
raised Waiting = Open
raised Open = Open
raised (Claimed t) = Claimed t
raised Misses = Misses
raised Reaches = Reaches
raised (Branch reach edges) = Branch reach edges

-- the level is one lower, and the sets that waited are open
abbrev pub WentDown : Marking → Marking → Type 0
WentDown old new = (q : List ℕ) → new q ≡ option_map raised (old q)

-- nothing changed
abbrev pub IsSame : Marking → Marking → Type 0
IsSame old new = (q : List ℕ) → new q ≡ old q

-- a mark stands somewhere
abbrev pub IsMarked : Marking → Mark → Type 0
IsMarked at m = (p : List ℕ) × (at p ≡ Some m)

-- and nowhere
abbrev pub IsUnmarked : Marking → Mark → Type 0
IsUnmarked at m = (p : List ℕ) → at p ≢ Some m

-- what every tree of marks with its level is: kids stand beneath branches, one for each edge, the sets one beneath the level wait and
-- no others do, those above it are answered, and nothing stands deeper. Different sets are claimed by different tickets.
pub record IsShape (level : ℕ) (at : Marking) : Type 0 where
  pub root : IsSome (at [])
  pub kids : (p : List ℕ) (m : Mark) (i : ℕ) → at p ≡ Some m → i < kids_beneath m → IsSome (at (kid_of p i))
  pub parents : (p : List ℕ) (i : ℕ) → IsSome (at (kid_of p i)) → (m : Mark) × (at p ≡ Some m) × (i < kids_beneath m)
  pub deep : (p : List ℕ) → IsSome (at p) → length p ≤ level + 1
  pub waits : (p : List ℕ) → IsSome (at p) → length p ≡ level + 1 → at p ≡ Some Waiting
  pub waiting : (p : List ℕ) → at p ≡ Some Waiting → length p ≡ level + 1
  pub above : (p : List ℕ) (m : Mark) → at p ≡ Some m → length p < level → IsAnswer m
  pub tickets : (p q : List ℕ) (t : ℕ) → at p ≡ Some (Claimed t) → at q ≡ Some (Claimed t) → p ≡ q

-- the root is open, and nothing else stands
abbrev pub only_root : Marking
only_root [] = Some Open
only_root (i ∷ path) = None
