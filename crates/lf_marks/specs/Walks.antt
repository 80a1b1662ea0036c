-- A tree of marks in one list of places: a path leads from place to place, and a set that nobody has taken has none.
use Rattle.std.specs.Prelude.{◌≡◌, ◌≢◌, ℕ, ◌+◌, ◌<◌, ◌≤◌, Bool, true, false, ◌&&◌, ◌==◌, nat_lt, nat_le, if◌then◌else◌, List, [], ◌∷◌, Option, None, Some}
use Rattle.std.specs.List.{count_by, slice_get}
use Rattle.lf_marks.specs.Steps.{Mark, kids_beneath}
use Rattle.lf_marks.specs.Steps as mark
use Rattle.lf_marks.specs.Claims.{AreAscending}
use Rattle.lf_marks.specs.declared.claim.Claim.{Claim}

-- what a place tells: the place of the branch above it and which of its kids it is, how deep it stands, the place of its own first
-- kid, how many of its kids were taken, and its mark, if a set stands there
pub record Spot : Type 0 where
  pub parent : ℕ
  pub kid : ℕ
  pub depth : ℕ
  pub first : ℕ
  pub taken : ℕ
  pub mark : Option Mark

-- how many kids stand beneath it, taken or not
abbrev pub width_of : Option Mark → ℕ
width_of None = 0
width_of (Some m) = kids_beneath m

abbrev pub width : Spot → ℕ
width s = width_of s.mark

-- where a path of taken kids leads from a place
abbrev pub led_from : (ℕ → Spot) → ℕ → List ℕ → Option ℕ
led_from look x [] = Some x
led_from look x (i ∷ path) = if nat_lt i (look x).taken then led_from look ((look x).first + i) path else None

-- a kid that nobody took: of a branch above the level it is open, of one on the level it waits
abbrev pub untaken : Bool → Bool → List ℕ → Option Mark
untaken above stands [] = if stands then Some (if above then mark.Open else mark.Waiting) else None
untaken above stands (i ∷ path) = None

-- the mark at a path from a place. The sets of the level begin at the place start.
abbrev pub marked_from : (ℕ → Spot) → ℕ → ℕ → List ℕ → Option Mark
marked_from look start x [] = (look x).mark
marked_from look start x (i ∷ path) =
    if nat_lt i (look x).taken then marked_from look start ((look x).first + i) path
    else untaken (nat_lt x start) (nat_lt i (width (look x))) path

-- tests of marks
abbrev pub is_open : Option Mark → Bool
is_open None = false
is_open (Some mark.Waiting) = false
is_open (Some mark.Open) = true
is_open (Some (mark.Claimed t)) = false
is_open (Some mark.Misses) = false
is_open (Some mark.Reaches) = false
is_open (Some (mark.Branch reach edges)) = false

abbrev pub is_claimed : ℕ → Option Mark → Bool
is_claimed t None = false
is_claimed t (Some mark.Waiting) = false
is_claimed t (Some mark.Open) = false
is_claimed t (Some (mark.Claimed u)) = u == t
is_claimed t (Some mark.Misses) = false
is_claimed t (Some mark.Reaches) = false
is_claimed t (Some (mark.Branch reach edges)) = false

abbrev pub is_answer : Option Mark → Bool
is_answer None = false
is_answer (Some mark.Waiting) = false
is_answer (Some mark.Open) = false
is_answer (Some (mark.Claimed u)) = false
is_answer (Some mark.Misses) = true
is_answer (Some mark.Reaches) = true
is_answer (Some (mark.Branch reach edges)) = true

abbrev pub is_waiting : Option Mark → Bool
is_waiting None = false
is_waiting (Some mark.Waiting) = true
is_waiting (Some mark.Open) = false
is_waiting (Some (mark.Claimed t)) = false
is_waiting (Some mark.Misses) = false
is_waiting (Some mark.Reaches) = false
is_waiting (Some (mark.Branch reach edges)) = false

abbrev pub is_set : Option Mark → Bool
is_set None = false
is_set (Some m) = true

-- once, where the test holds
abbrev pub once : Bool → ℕ
once b = if b then 1 else 0

-- how often a place comes in a list, and a ticket with a place
abbrev pub times : ℕ → List ℕ → ℕ
times x places = count_by (λ y. y == x) places

abbrev pub times_claim : ℕ → ℕ → List Claim → ℕ
times_claim t x claims = count_by (λ (c : Claim). c.ticket == t && c.place == x) claims

-- a place other than the first is that of a taken kid of the branch that it names, which stands one above it and before it
pub record IsBeneath (look : ℕ → Spot) (x : ℕ) : Type 0 where
  pub before : (look x).parent < x
  pub kid : (look x).kid < (look (look x).parent).taken
  pub place : (look (look x).parent).first + (look x).kid ≡ x
  pub depth : (look (look x).parent).depth + 1 ≡ (look x).depth

-- the taken kids of a place stand one after another
pub record IsKid (look : ℕ → Spot) (n x i : ℕ) : Type 0 where
  pub within : (look x).first + i < n
  pub later : 0 < (look x).first
  pub parent : (look ((look x).first + i)).parent ≡ x
  pub kid : (look ((look x).first + i)).kid ≡ i

-- n places make a tree whose level begins at the place start
pub record IsArena (level start n : ℕ) (look : ℕ → Spot) : Type 0 where
  pub some : 0 < n
  pub begins : start ≤ n
  pub root : (look 0).depth ≡ 0
  pub within : (x : ℕ) → x < n → is_set (look x).mark ≡ true
  pub past : (x : ℕ) → n ≤ x → is_set (look x).mark ≡ false
  pub known : (x : ℕ) → is_waiting (look x).mark ≡ false
  pub up : (x : ℕ) → 0 < x → x < n → IsBeneath look x
  pub down : (x i : ℕ) → i < (look x).taken → IsKid look n x i
  pub narrow : (x : ℕ) → (look x).taken ≤ width (look x)
  pub above : (x : ℕ) → x < start → is_answer (look x).mark ≡ true
  pub over : (x : ℕ) → x < start → (look x).depth < level
  pub on : (x : ℕ) → start ≤ x → x < n → (look x).depth ≡ level
  pub fresh : (x : ℕ) → start ≤ x → (look x).taken ≡ 0
  pub last : (x : ℕ) → x < start → (look x).taken < width (look x) → (look x).depth + 1 ≡ level

-- of one branch alone some kids were taken and others not: the first of the queue, and its kids stand last
pub record IsPartly (n : ℕ) (look : ℕ → Spot) (queue : List ℕ) (x : ℕ) : Type 0 where
  pub first : slice_get queue 0 ≡ Some x
  pub last : (look x).first + (look x).taken ≡ n

-- each list of places has exactly the places that it is kept for, once each: the branches above the level with kids that nobody
-- took, the branches of the level that have kids, the places that are open, and those that are claimed. The claims stand in the order
-- of their tickets.
pub record AreListed (start n : ℕ) (look : ℕ → Spot) (queue next back : List ℕ) (claims : List Claim) : Type 0 where
  pub queued : (x : ℕ) → times x queue ≡ once (nat_lt x start && nat_lt (look x).taken (width (look x)))
  pub coming : (x : ℕ) → times x next ≡ once (nat_le start x && nat_lt 0 (width (look x)))
  pub opened : (x : ℕ) → times x back ≡ once (is_open (look x).mark)
  pub claimed : (x t : ℕ) → times_claim t x claims ≡ once (is_claimed t (look x).mark)
  pub ascending : AreAscending claims
  pub partly : (x : ℕ) → x < start → 0 < (look x).taken → (look x).taken < width (look x) → IsPartly n look queue x

-- the places are the same, but for the mark of one
pub record IsRemarked (old new : ℕ → Spot) (x : ℕ) (m : Mark) : Type 0 where
  pub parents : (y : ℕ) → (new y).parent ≡ (old y).parent
  pub kids : (y : ℕ) → (new y).kid ≡ (old y).kid
  pub depths : (y : ℕ) → (new y).depth ≡ (old y).depth
  pub firsts : (y : ℕ) → (new y).first ≡ (old y).first
  pub takens : (y : ℕ) → (new y).taken ≡ (old y).taken
  pub is : (new x).mark ≡ Some m
  pub others : (y : ℕ) → y ≢ x → (new y).mark ≡ (old y).mark

-- one more kid of a branch was taken, by a ticket, and stands at the next place
pub record IsGrownBy (old new : ℕ → Spot) (n x t : ℕ) : Type 0 where
  pub others : (y : ℕ) → y ≢ x → y ≢ n → new y ≡ old y
  pub same : 0 < (old x).taken → (new x).first ≡ (old x).first
  pub place : (new x).first + (old x).taken ≡ n
  pub grown : new x ≡ record (old x) { first = (new x).first; taken = (old x).taken + 1 }
  pub kid : new n ≡ record { parent = x; kid = (old x).taken; depth = (old x).depth + 1; first = 0; taken = 0; mark = Some (mark.Claimed t) }

-- the places are the same
abbrev pub IsKept : (ℕ → Spot) → (ℕ → Spot) → Type 0
IsKept old new = (y : ℕ) → new y ≡ old y

-- one more kid of a branch was taken, and stands at a place if it is the first
pub record IsWidened (old new : ℕ → Spot) (x place : ℕ) : Type 0 where
  pub others : (y : ℕ) → y ≢ x → new y ≡ old y
  pub grown : new x ≡ record (old x) { first = (if (old x).taken == 0 then place else (old x).first); taken = (old x).taken + 1 }
