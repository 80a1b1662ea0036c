-- The places of the sets that were taken.
use Rattle.std.specs.Prelude.{◌≡◌, ℕ, ◌+◌, ◌*◌, ◌^◌, ◌≤◌, List, length, Option, None, Some}
use Rattle.std.specs.List.{slice_get}
use Rattle.lf_marks.specs.Counting.{AreCounts}
use Rattle.lf_marks.specs.Steps.{Mark, Marking}
use Rattle.lf_marks.specs.Steps as mark
use Rattle.lf_marks.specs.Walks.{Spot, IsArena, AreListed, marked_from}
use Rattle.lf_marks.specs.declared.claim.Claim.{Claim}
use Rattle.lf_marks.specs.declared.set.Set.{Set}
use Rattle.lf_marks.specs.declared.set.State.{State}
use Rattle.lf_marks.specs.declared.set.State.TheVariants.{Open, Claimed, Misses, Reaches, Branch}

-- the mark of a state
abbrev pub mark_in : State → Mark
mark_in Open = mark.Open
mark_in (Claimed t) = mark.Claimed t
mark_in Misses = mark.Misses
mark_in Reaches = mark.Reaches
mark_in (Branch b) = mark.Branch b.value.reach b.value.edges

-- the place of its first kid, and how many kids were taken
abbrev pub first_in : State → ℕ
first_in Open = 0
first_in (Claimed t) = 0
first_in Misses = 0
first_in Reaches = 0
first_in (Branch b) = b.value.first

abbrev pub taken_in : State → ℕ
taken_in Open = 0
taken_in (Claimed t) = 0
taken_in Misses = 0
taken_in Reaches = 0
taken_in (Branch b) = length b.value.kids.items

-- what a place tells
abbrev pub spot_of : Option Set → Spot
spot_of None = record { parent = 0; kid = 0; depth = 0; first = 0; taken = 0; mark = None }
spot_of (Some s) = record {
  parent = s.parent;
  kid = s.kid;
  depth = s.depth;
  first = first_in s.state;
  taken = taken_in s.state;
  mark = Some (mark_in s.state);
}

abbrev pub look : List Set → ℕ → Spot
look sets x = spot_of (slice_get sets x)

-- the marks that places tell, where the sets of the level begin at the place start
abbrev pub marks_of : List Set → ℕ → Marking
marks_of sets start = marked_from (look sets) start 0

-- what every tree of marks keeps, of its level, where that begins, its places, the branches whose kids are the level's sets, those of
-- the level, the places given back, the claims, and how many sets of the level nobody took, how many wait and how many are answered
pub record IsState (level start : ℕ) (sets : List Set) (queue next back : List ℕ) (claims : List Claim) (untaken waiting answered : ℕ) : Type 0 where
  pub shallow : level ≤ 16
  pub sound : IsArena level start (length sets) (look sets)
  pub listed : AreListed start (length sets) (look sets) queue next back claims
  pub counted : AreCounts (marks_of sets start) (untaken + length back) (length claims) answered waiting
  pub all : answered + length claims + length back ≡ length sets
  pub few : length sets + untaken ≤ start + 2 ^ 32
  pub few_waiting : waiting + 65535 * (length claims + length back) + 65535 * start ≤ 65535 * length sets
