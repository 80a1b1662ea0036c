-- What crates above may cite of this one beside its contracts.
use Rattle.std.proofs.Common.{◌≡◌, ◌≢◌, ℕ, ◌+◌, ◌<◌, ◌≤◌, Bool, true, List, [], ◌∷◌, length, refl, ap, eq-eqb}
use Rattle.std.specs.Prelude.{◌⊎◌, Option}
use Rattle.std.specs.List.{All, AllByRecursion, Contains}
use Rattle.lf_list.proofs.Laws.{each-in}
use Rattle.lf_faults.specs.declared.fault.Parts.{Parts}
use Rattle.lf_faults.specs.declared.fault.Parts.TheVariants.{Crash, Pause}
use Rattle.lf_faults.specs.Faults.{IsFault, is_before, IsAscending, inserted, set_is_before, step_of}
use Rattle.lf_faults.specs.Allowed.{Bounds, IsInLimits, IsAdmitted, IsAllowed, CanAdd, HasRoom, IsSubset, IsNext, IsFirst, IsWalkFrom}
use Rattle.lf_faults.specs.Allowed.{is_crash_of, is_pause_of}
use Rattle.lf_faults.specs.Texts.{spelling}
use Rattle.lf_faults.proofs.Allowing as allowing
use Rattle.lf_faults.proofs.Counts as counts
use Rattle.lf_faults.proofs.Deciding as deciding
use Rattle.lf_faults.proofs.Ending as ending
use Rattle.lf_faults.proofs.Members as members
use Rattle.lf_faults.proofs.Nexts as nexts
use Rattle.lf_faults.proofs.Orders as orders
use Rattle.lf_faults.proofs.Sameness as sameness
use Rattle.lf_faults.proofs.Sizes as sizes
use Rattle.lf_faults.proofs.Stepping as stepping
use Rattle.lf_faults.proofs.Texts as spellings
use Rattle.lf_faults.proofs.TextsBytes as texts
use Rattle.lf_faults.proofs.Walks as walks

-- The order of faults: no fault comes before itself,
pub not_itself : (f : Parts) → is_before f f ≡ true → ⊥
not_itself = orders.not_itself

-- nor do two come before each other
pub not_both : (f g : Parts) → is_before f g ≡ true → is_before g f ≡ true → ⊥
not_both = orders.not_both

-- the first fault of an ascending list comes before the others
pub first-before : (f : Parts) (fs : List Parts) → IsAscending (f ∷ fs) → (g : Parts) → Contains fs g → is_before f g ≡ true
first-before = orders.first-before

-- ascending lists that have the same members are one
pub same_members : (fs gs : List Parts) → IsAscending fs → IsAscending gs → IsSubset fs gs → IsSubset gs fs → fs ≡ gs
same_members = sameness.same_members

-- and so are a set and a subset of it that isn't smaller
pub large_subset : (fs gs : List Parts) → IsAscending fs → IsAscending gs → IsSubset fs gs → length gs ≤ length fs → fs ≡ gs
large_subset = sizes.large_subset

-- A list with one fault more has that fault,
pub in-inserted : (f : Parts) (fs : List Parts) → Contains (inserted f fs) f
in-inserted = counts.in-inserted

-- and those that it had,
pub still-in : (f : Parts) (fs : List Parts) (x : Parts) → Contains fs x → Contains (inserted f fs) x
still-in = counts.still-in

-- and no other;
pub cases_inserted : (f : Parts) (fs : List Parts) (x : Parts) → Contains (inserted f fs) x → (f ≡ x) ⊎ Contains fs x
cases_inserted = sameness.cases_inserted

-- what holds of the fault and of each that was there holds of each;
pub each-inserted : (P : Parts → Type 0) (f : Parts) (gs : List Parts) → P f → AllByRecursion P gs → AllByRecursion P (inserted f gs)
each-inserted = orders.each-inserted

-- it is longer by one,
pub length-inserted : (f : Parts) (fs : List Parts) → length (inserted f fs) ≡ length fs + 1
length-inserted = counts.length-inserted

-- and ascends where the other does
pub inserted-ascending : (f : Parts) (fs : List Parts) → (Contains fs f → ⊥) → IsAscending fs → IsAscending (inserted f fs)
inserted-ascending = orders.inserted-ascending

-- Whether a list has a fault is decided
pub in_or_not : (fs : List Parts) (f : Parts) → Contains fs f ⊎ (Contains fs f → ⊥)
in_or_not = counts.member

-- The order of sets: one of two comes first, or they are one;
pub cases_sets : (fs gs : List Parts) → (set_is_before fs gs ≡ true) ⊎ ((fs ≡ gs) ⊎ (set_is_before gs fs ≡ true))
cases_sets = orders.cases_sets

-- no set comes before itself;
pub set_not_itself : (fs : List Parts) → set_is_before fs fs ≡ true → ⊥
set_not_itself = orders.set_not_itself

-- a set of fewer faults comes before one of more,
pub fewer-before : (fs gs : List Parts) → length fs < length gs → set_is_before fs gs ≡ true
fewer-before = nexts.fewer-before

-- so what comes before a set has no more faults
pub before-fewer : (fs gs : List Parts) → set_is_before fs gs ≡ true → length fs ≤ length gs
before-fewer = nexts.before-fewer

-- Allowed sets: the empty set is one,
pub empty_allowed : (b : Bounds) → IsAllowed b []
empty_allowed = nexts.empty_allowed

-- and every subset of one,
pub subset_allowed : (b : Bounds) (large small : List Parts) → IsAllowed b large → IsAscending small → IsSubset small large → IsAllowed b small
subset_allowed = allowing.subset_allowed

-- and whether a list is one is decided;
pub allowed_or_not : (b : Bounds) (fs : List Parts) → IsAllowed b fs ⊎ (IsAllowed b fs → ⊥)
allowed_or_not = deciding.is_allowed

-- a fault in one is of the bounds,
pub in_allowed-admitted : (b : Bounds) (fs : List Parts) (f : Parts) → IsAllowed b fs → Contains fs f → IsAdmitted b f
in_allowed-admitted b fs f allowed = each-in (IsAdmitted b) fs allowed.admitted f

-- which has its numbers in range;
pub admitted-fault : (b : Bounds) (f : Parts) → IsInLimits b → IsAdmitted b f → IsFault f
admitted-fault = stepping.fault-from_admitted

-- two crashes of one node in one are one,
pub one_crash : (b : Bounds) (fs : List Parts) (n t u : ℕ) → IsAllowed b fs → Contains fs (Crash n t) → Contains fs (Crash n u) → t ≡ u
one_crash b fs n t u allowed here there =
    ap step_of (members.counted_once (is_crash_of n) fs (allowed.crash_once n (in_allowed-admitted b fs (Crash n t) allowed here).0)
    (Crash n t) (Crash n u) here there (eq-eqb n n refl) (eq-eqb n n refl))

-- and two pauses of one node
pub one_pause : (b : Bounds) (fs : List Parts) (n t u : ℕ) → IsAllowed b fs → Contains fs (Pause n t) → Contains fs (Pause n u) → t ≡ u
one_pause b fs n t u allowed here there =
    ap step_of (members.counted_once (is_pause_of n) fs (allowed.pause_once n (in_allowed-admitted b fs (Pause n t) allowed here).0)
    (Pause n t) (Pause n u) here there (eq-eqb n n refl) (eq-eqb n n refl))

-- Where the budget isn't used up, a fault of the bounds that isn't there may be added if there is room for it;
pub can_add : (b : Bounds) (fs : List Parts) (f : Parts) → IsAllowed b fs → length fs < b.budget → IsAdmitted b f → (Contains fs f → ⊥) → HasRoom b fs f
    → CanAdd b fs f
can_add b fs f allowed few is none room = (allowing.can_add-iff b fs f allowed is none few).0 room

-- a crash that may be added at one step may be added at each,
pub any_crash : (b : Bounds) (fs : List Parts) (n t u : ℕ) → IsAllowed b fs → CanAdd b fs (Crash n t) → 1 ≤ u → u ≤ b.horizon → CanAdd b fs (Crash n u)
any_crash b fs n t u allowed can first last =
    let room = allowing.room-from_allowed b fs (Crash n t) can.1 in
    let is = allowing.admitted-from_allowed b fs (Crash n t) can.1 in
    can_add b fs (Crash n u) allowed (allowing.budget-from_allowed b fs (Crash n t) can.1) (is.0, first, last)
    (λ c. members.uncounted (is_crash_of n) fs room.0 (Crash n u) c (eq-eqb n n refl)) room

-- and so may a pause
pub any_pause : (b : Bounds) (fs : List Parts) (n t u : ℕ) → IsAllowed b fs → CanAdd b fs (Pause n t) → 1 ≤ u → u ≤ b.horizon → CanAdd b fs (Pause n u)
any_pause b fs n t u allowed can first last =
    let room = allowing.room-from_allowed b fs (Pause n t) can.1 in
    let is = allowing.admitted-from_allowed b fs (Pause n t) can.1 in
    can_add b fs (Pause n u) allowed (allowing.budget-from_allowed b fs (Pause n t) can.1) (is.0, first, last)
    (λ c. members.uncounted (is_pause_of n) fs room.0 (Pause n u) c (eq-eqb n n refl)) room

-- The walk over allowed sets: from each there is one,
pub walk : (b : Bounds) (here : List Parts) → IsInLimits b → IsAllowed b here → (sets : List (List Parts)) × IsWalkFrom b here sets
walk = ending.walk

pub walk_one : (b : Bounds) (here : List Parts) (xs ys : List (List Parts)) → IsWalkFrom b here xs → IsWalkFrom b here ys → xs ≡ ys
walk_one = ending.walk_one

-- and a loop that takes the next set at each step ends: `sets_left` is how many steps it has left at the most
pub sets_left : List Parts → ℕ
sets_left = ending.sets_left

pub fewer_left : (b : Bounds) → IsInLimits b → (here next : List Parts) → IsAllowed b here → IsNext b here next → sets_left next < sets_left here
unfolding sets_left
fewer_left = ending.fewer_left

-- two first sets with a property are one
pub first_is_one : (b : Bounds) (misses : List Parts → Bool) (x y : Option (List Parts)) → IsFirst b misses x → IsFirst b misses y → x ≡ y
first_is_one = walks.first_is_one

-- A fault's text has no comma and no line feed
pub spelling_bytes : (f : Parts) → IsFault f → All (λ b. (b ≢ 44) × (b ≢ 10)) (spelling f)
spelling_bytes = texts.spelling_bytes

-- and no other fault has it
pub spelling_injective : (f g : Parts) → IsFault f → IsFault g → spelling f ≡ spelling g → f ≡ g
spelling_injective = spellings.spelling_injective
