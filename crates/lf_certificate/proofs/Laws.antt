-- What crates above may cite of this one beside its contracts.
use Rattle.std.proofs.Common.{◌≡◌, ℕ, ◌+◌, ◌<◌, true, false, List, [], ◌∷◌, ◌++◌, length, take, ◌≢◌, ◌≤◌, refl, IsSome}
use Rattle.std.specs.Prelude.{◌⊎◌, ◌↔◌, slice_get, Option, Some, None}
use Rattle.std.specs.List.{Contains}
use Rattle.lf_faults.specs.declared.fault.Parts.{Parts}
use Rattle.lf_faults.specs.Faults.{inserted, set_is_before}
use Rattle.lf_faults.specs.Allowed.{IsInLimits, IsAllowed}
use Rattle.lf_faults.specs.declared.spec.Bounds.{Bounds}
use Rattle.lf_sim.specs.Runs.{World}
use Rattle.lf_outcome.specs.declared.formula.Formula.{Formula}
use Rattle.lf_outcome.specs.Truth.{reaches}
use Rattle.lf_cone.specs.Cones.{IsClosed as IsClosedReach, IsRequired, AreRequired}
use Rattle.lf_tree.specs.declared.tree.Tree.{Tree}
use Rattle.lf_tree.specs.declared.tree.Node.{Node, out-Node}
use Rattle.lf_tree.specs.declared.tree.Node.TheOpen.{Node-F}
use Rattle.lf_certificate.specs.declared.reason.Reason.{Reason}
use Rattle.lf_certificate.specs.declared.reason.Reason.TheVariants as reason
use Rattle.lf_certificate.specs.Places.{Place, kid_at, root_of, place_at}
use Rattle.lf_certificate.specs.Accepted.{IsBounded, IsAccepted, IsAnswer, IsAllowedAnswer, IsFirstIn}
use Rattle.lf_certificate.specs.Accepted.{IsRight, AreRight, MissesFrom, Covers, covered_below, last_depth}
use Rattle.lf_certificate.specs.Faults.{turn_of, LeafFails, Suffices, BranchFails, Fails, FailsFirst, FailsFirstFrom, IsFirstFault}
use Rattle.lf_certificate.specs.Grown.{IsTreeOf}
use Rattle.lf_marks.specs.Steps.{Mark, IsShape, IsSame}
use Rattle.lf_marks.specs.Steps as mark
use Rattle.lf_marks.specs.Nodes as nodes
use Rattle.lf_certificate.specs.Closed.{IsClosed, IsFirstMissing, MissesAt}
use Rattle.lf_certificate.specs.Events.{TakesSet, FilesMark, GivesBack, Reclaims, FindsAnswer, FindsNone, GoesDown, FindsFull}
use Rattle.lf_certificate.specs.Found.{IsFound}
use Rattle.lf_certificate.specs.States.{State, IsStart}
use Rattle.lf_certificate.specs.Tasks.{Task, task_at}
use Rattle.lf_certificate.specs.Levels.{AreAscending, AreAllLeast, IsFullAt}
use Rattle.lf_certificate.proofs.AnswerLemmas as answers
use Rattle.lf_certificate.proofs.CoverLemmas as covering
use Rattle.lf_certificate.proofs.ExistenceLemmas as existence
use Rattle.lf_certificate.proofs.FaultsLemmas as faults
use Rattle.lf_certificate.proofs.FirstsLemmas as firsts
use Rattle.lf_certificate.proofs.GrownLemmas as grown
use Rattle.lf_certificate.proofs.MissesLemmas as missing
use Rattle.lf_certificate.proofs.PlacesLemmas as places
use Rattle.lf_certificate.proofs.ReasonLemmas as reasons
use Rattle.lf_certificate.proofs.TurnsLemmas as turns
use Rattle.lf_certificate.proofs.VerdictLemmas as verdicts
use Rattle.lf_certificate.proofs.ClosedLemmas as closing
use Rattle.lf_certificate.proofs.DownLemmas as down
use Rattle.lf_certificate.proofs.EndLemmas as ends
use Rattle.lf_certificate.proofs.FiledLemmas as filed
use Rattle.lf_certificate.proofs.FirstLemmas as first
use Rattle.lf_certificate.proofs.KeptLemmas as kept
use Rattle.lf_certificate.proofs.OnceLemmas as once
use Rattle.lf_certificate.proofs.TreeLemmas as trees

module _ {State Note Fact : Type 0} (w : World State Note Fact) (b : Bounds) (formula : Formula Fact) (tree : Tree) (bounded : IsBounded w b) where
  -- the answer of an accepted tree is the answer
  pub answer_is : IsAccepted w b formula tree → IsAnswer w b formula tree.answer
  answer_is accepted = answers.answer_is w b formula tree bounded accepted.places accepted.allowed accepted.first

  -- and each of its places covers what it is to cover
  pub covers : IsAccepted w b formula tree → (path : List ℕ) (p : Place) → place_at tree path ≡ Some p
      → Covers w b formula p.faults p.excluded (covered_below b tree.answer)
  covers accepted = covering.covers w b formula tree bounded accepted.places accepted.first

  -- the tree of a search is accepted
  pub tree_accepted : IsTreeOf w b formula tree → IsAccepted w b formula tree
  tree_accepted = grown.is_accepted w b formula tree bounded

-- and there is at most one,
pub tree_one : {State Note Fact : Type 0} (w : World State Note Fact) (b : Bounds) (formula : Formula Fact) (one other : Tree)
    → IsTreeOf w b formula one → IsTreeOf w b formula other → one ≡ other
tree_one = grown.tree_one

-- and one, wherever the bounds are within the limits
pub tree_exists : {State Note Fact : Type 0} (w : World State Note Fact) (b : Bounds) (formula : Formula Fact) → IsInLimits b
    → (tree : Tree) × IsTreeOf w b formula tree
tree_exists = existence.tree_exists

-- so there is an answer
pub answer_exists : {State Note Fact : Type 0} (w : World State Note Fact) (b : Bounds) (formula : Formula Fact) → IsInLimits b
    → (answer : Option (List Parts)) × IsAnswer w b formula answer
answer_exists w b formula limits = let found = existence.tree_exists w b formula limits in (found.0.answer, found.1.answer)

module _ {State Note Fact : Type 0} (w : World State Note Fact) (b : Bounds) (formula : Formula Fact) (last depth : ℕ) (p : Place) where
  -- Whether a place fails by a reason is decided;
  pub fails_or_not : (why : Reason) → Fails w b formula last depth p why ⊎ (Fails w b formula last depth p why → ⊥)
  fails_or_not = reasons.fails_or_not w b formula last depth p

  -- a right place doesn't fail, a place that doesn't fail is right,
  pub right_fails_not : IsRight w b formula last depth p → (why : Reason) → Fails w b formula last depth p why → ⊥
  right_fails_not = reasons.right_fails_not w b formula last depth p

  pub right_where_none : ((why : Reason) → Fails w b formula last depth p why → ⊥) → IsRight w b formula last depth p
  right_where_none = reasons.right_where_none w b formula last depth p

  -- and a place is right or has a first reason, and no two
  pub right_or_fails : IsRight w b formula last depth p ⊎ ((why : Reason) × FailsFirst w b formula last depth p why)
  right_or_fails = reasons.right_or_fails w b formula last depth p

  pub first_reason_one : (why other : Reason) → FailsFirst w b formula last depth p why → FailsFirst w b formula last depth p other → why ≡ other
  first_reason_one = reasons.first_reason_one w b formula last depth p

  -- A place is wholly right where it is right and each of its kids is wholly right,
  pub wholly_right : IsRight w b formula last depth p
      → ((i : ℕ) (kid : Place) → kid_at p i ≡ Some kid → AreRight w b formula last (depth + 1) kid) → AreRight w b formula last depth p
  wholly_right = firsts.wholly_right w b formula last depth p

  -- and so are the kids of one that is;
  pub right_kid : (kid : Place) (i : ℕ) → kid_at p i ≡ Some kid → AreRight w b formula last depth p → AreRight w b formula last (depth + 1) kid
  right_kid = firsts.right_kid w b formula last depth p

  -- a place that fails does so before all beneath it,
  pub fails_here : (why : Reason) → FailsFirst w b formula last depth p why → FailsFirstFrom w b formula last depth p why []
  fails_here = firsts.fails_here w b formula last depth p

  -- a right place whose kids before one are wholly right fails first where that kid does,
  pub fails_beneath : (kid : Place) (i : ℕ) (why : Reason) (path : List ℕ) → IsRight w b formula last depth p → kid_at p i ≡ Some kid
      → ((j : ℕ) (other : Place) → j < i → kid_at p j ≡ Some other → AreRight w b formula last (depth + 1) other)
      → FailsFirstFrom w b formula last (depth + 1) kid why path → FailsFirstFrom w b formula last depth p why (i ∷ path)
  fails_beneath = firsts.fails_beneath w b formula last depth p

  -- and a place is wholly right or something fails first from it, and not both
  pub right_or_fails_from : AreRight w b formula last depth p
      ⊎ ((why : Reason) × (path : List ℕ) × FailsFirstFrom w b formula last depth p why path)
  right_or_fails_from = firsts.right_or_fails_from w b formula last depth p

  pub fails_not_right : (why : Reason) (path : List ℕ) → FailsFirstFrom w b formula last depth p why path → AreRight w b formula last depth p → ⊥
  fails_not_right = firsts.fails_not_right w b formula last depth p

-- The kids of a place: a leaf has none,
pub misses_no_kid : (p kid : Place) (i : ℕ) → out-Node p.node ≡ Node-F.Misses → kid_at p i ≡ Some kid → ⊥
misses_no_kid = turns.misses_no_kid

pub reaches_no_kid : (p kid : Place) (i : ℕ) → out-Node p.node ≡ Node-F.Reaches → kid_at p i ≡ Some kid → ⊥
reaches_no_kid = turns.reaches_no_kid

-- and a branch has one for each edge with a node, and no other
pub kid_is : (p : Place) (reach : List ℕ) (edges : List Parts) (kids : List Node) (i : ℕ) (edge : Parts) (node : Node)
    → out-Node p.node ≡ Node-F.Branch reach edges kids → slice_get edges i ≡ Some edge → slice_get kids i ≡ Some node
    → kid_at p i ≡ Some (record { node = node; faults = inserted edge p.faults; excluded = p.excluded ++ take i edges })
kid_is = places.kid-some

pub kid_within : (p kid : Place) (reach : List ℕ) (edges : List Parts) (kids : List Node) (i : ℕ)
    → out-Node p.node ≡ Node-F.Branch reach edges kids → kid_at p i ≡ Some kid → i < length edges
kid_within = turns.kid_within

module _ {State Note Fact : Type 0} (w : World State Note Fact) (b : Bounds) (formula : Formula Fact) (last depth : ℕ) (p : Place) where
  -- The first reason of a leaf, from what was found before it in turn
  pub misses_first : (why : Reason) → out-Node p.node ≡ Node-F.Misses → LeafFails w formula last depth p.faults false why
      → (turn_of reason.WrongDepth < turn_of why → depth ≡ last) → FailsFirst w b formula last depth p why
  misses_first = turns.misses_first w b formula last depth p

  pub reaches_first : (why : Reason) → out-Node p.node ≡ Node-F.Reaches → LeafFails w formula last depth p.faults true why
      → (turn_of reason.WrongDepth < turn_of why → depth ≡ last) → FailsFirst w b formula last depth p why
  reaches_first = turns.reaches_first w b formula last depth p

  -- and that of a branch
  pub branch_first : (reach : List ℕ) (edges : List Parts) (kids : List Node) (why : Reason) → out-Node p.node ≡ Node-F.Branch reach edges kids
      → BranchFails w b formula last depth p.faults p.excluded reach edges kids why
      → (turn_of reason.WrongDepth < turn_of why → depth < last)
      → (turn_of reason.BranchMisses < turn_of why → reaches w p.faults formula ≡ true)
      → (turn_of reason.ReachFallsShort < turn_of why → Suffices w formula p.faults reach)
      → (turn_of reason.ReachNotClosed < turn_of why → IsClosedReach w p.faults reach)
      → (turn_of reason.EdgeMissing < turn_of why → (f : Parts) → IsRequired w p.faults b reach p.excluded f → Contains edges f)
      → (turn_of reason.EdgesDiffer < turn_of why → AreRequired w p.faults b reach p.excluded edges)
      → FailsFirst w b formula last depth p why
  branch_first reach edges kids why opened fails above reaching suffices closed tried required =
      turns.branch_first w b formula last depth p reach edges kids why opened fails
      (record { above = above; reaching = reaching; suffices = suffices; closed = closed; tried = tried; required = required })

module _ {State Note Fact : Type 0} (w : World State Note Fact) (b : Bounds) (formula : Formula Fact) (last depth : ℕ) (p : Place) where
  -- The sets that miss at the last depth: the place's own,
  pub misses_here : depth ≡ last → reaches w p.faults formula ≡ false → MissesFrom w formula last depth p p.faults
  misses_here = missing.misses_here w b formula last depth p

  -- those beneath a kid,
  pub misses_beneath : (kid : Place) (i : ℕ) (faults : List Parts) → kid_at p i ≡ Some kid → MissesFrom w formula last (depth + 1) kid faults
      → MissesFrom w formula last depth p faults
  misses_beneath = missing.misses_beneath w b formula last depth p

  -- and no other
  pub cases_misses : (faults : List Parts) → MissesFrom w formula last depth p faults
      → ((depth ≡ last) × (p.faults ≡ faults) × (reaches w faults formula ≡ false))
      ⊎ ((i : ℕ) × (kid : Place) × (kid_at p i ≡ Some kid) × MissesFrom w formula last (depth + 1) kid faults)
  cases_misses = missing.cases_misses w b formula last depth p

module _ {State Note Fact : Type 0} (w : World State Note Fact) (b : Bounds) (formula : Formula Fact) (tree : Tree) where
  -- Of the sets that miss in a tree one is the first, or there is none
  pub first_in_one : (x y : Option (List Parts)) → IsFirstIn w b formula tree x → IsFirstIn w b formula tree y → x ≡ y
  first_in_one = missing.first_in_one w b formula tree

  -- The first fault, or acceptance: by the answer at the start, by the root and all beneath it, by the answer at the end
  pub fault_at_start : (IsAllowedAnswer b tree.answer → ⊥) → IsFirstFault w b formula tree reason.AnswerNotAllowed []
  fault_at_start = verdicts.fault_at_start w b formula tree

  pub fault_beneath_root : (why : Reason) (path : List ℕ) → IsAllowedAnswer b tree.answer
      → FailsFirstFrom w b formula (last_depth b tree.answer) 0 (root_of tree) why path → IsFirstFault w b formula tree why path
  fault_beneath_root = verdicts.fault_beneath_root w b formula tree

  pub fault_at_end : IsAllowedAnswer b tree.answer → AreRight w b formula (last_depth b tree.answer) 0 (root_of tree)
      → (IsFirstIn w b formula tree tree.answer → ⊥) → IsFirstFault w b formula tree reason.AnswerNotFirst []
  fault_at_end = verdicts.fault_at_end w b formula tree

  pub accepted_where : IsAllowedAnswer b tree.answer → AreRight w b formula (last_depth b tree.answer) 0 (root_of tree)
      → IsFirstIn w b formula tree tree.answer → IsAccepted w b formula tree
  accepted_where = verdicts.accepted_where w b formula tree

  -- An accepted tree has no first fault,
  pub accepted_has_none : IsAccepted w b formula tree → (why : Reason) (path : List ℕ) → IsFirstFault w b formula tree why path → ⊥
  accepted_has_none = faults.accepted_has_none w b formula tree

  -- two first faults of a tree are one,
  pub first_fault_one : (why other : Reason) (path there : List ℕ) → IsFirstFault w b formula tree why path
      → IsFirstFault w b formula tree other there → (why ≡ other) × (path ≡ there)
  first_fault_one = faults.first_fault_one w b formula tree

  -- a tree is accepted or has a first fault,
  pub accepted_or_fault : IsAccepted w b formula tree ⊎ ((why : Reason) × (path : List ℕ) × IsFirstFault w b formula tree why path)
  accepted_or_fault = verdicts.accepted_or_fault w b formula tree

  -- so it is accepted exactly where it has none
  pub accepted_iff : ((why : Reason) (path : List ℕ) → IsFirstFault w b formula tree why path → ⊥) ↔ IsAccepted w b formula tree
  accepted_iff = verdicts.accepted_iff w b formula tree

module _ {Local Note Fact : Type 0} (w : World Local Note Fact) (b : Bounds) (formula : Formula Fact) (most : ℕ) where
  -- A search that keeps one set of a size or more begins closed,
  pub start_closed : (s : State) → 1 ≤ most → IsStart s → IsShape s.level s.marks → IsClosed w b formula most s
  start_closed = filed.start-closed w b formula most

  -- and stays closed where an open set is taken,
  pub take_closed : (old new : State) (path : List ℕ) (ticket : ℕ) (task : Task) → IsClosed w b formula most old → TakesSet path ticket task old new
      → IsShape new.level new.marks → IsClosed w b formula most new
  take_closed old new path ticket task closed = kept.take-closed w b formula most old new closed path ticket task

  -- what was found of a claimed set is filed,
  pub file_closed : (old new : State) (path : List ℕ) (ticket : ℕ) (task : Task) (m : Mark) → IsClosed w b formula most old
      → FilesMark path ticket task m old new → IsFound w b formula task.faults task.excluded m → IsShape new.level new.marks
      → IsClosed w b formula most new
  file_closed = filed.file-closed w b formula most

  -- a claimed set is given back,
  pub give_back_closed : (old new : State) (path : List ℕ) (ticket : ℕ) (task : Task) → IsClosed w b formula most old
      → GivesBack path ticket task old new → IsShape new.level new.marks → IsClosed w b formula most new
  give_back_closed old new path ticket task closed = kept.back-closed w b formula most old new closed path ticket task

  -- all claims are reclaimed,
  pub reclaim_closed : (old new : State) → IsClosed w b formula most old → Reclaims old new → IsShape new.level new.marks → IsClosed w b formula most new
  reclaim_closed = kept.reclaim-closed w b formula most

  -- the answer is found,
  pub answer_closed : (old new : State) → IsClosed w b formula most old → FindsAnswer old new → IsClosed w b formula most new
  answer_closed = kept.answer-closed w b formula most

  -- or that there is none,
  pub none_closed : (old new : State) → IsClosed w b formula most old → FindsNone b old new → IsClosed w b formula most new
  none_closed = kept.none-closed w b formula most

  -- and where the search goes down a level
  pub down_closed : (old new : State) → IsClosed w b formula most old → GoesDown b most old new → IsShape new.level new.marks
      → IsClosed w b formula most new
  down_closed = down.down-closed w b formula most

  -- In a closed state no set stands twice: two paths to sets of the same faults are one;
  pub stands_once : (s : State) (p q : List ℕ) (t u : Task) → IsClosed w b formula most s → IsSome (s.marks p) → IsSome (s.marks q)
      → task_at s.marks p ≡ Some t → task_at s.marks q ≡ Some u → t.faults ≡ u.faults → p ≡ q
  stands_once s p q t u closed = once.stands-once w b formula most s closed p q t u

  -- each set that stands has a task,
  pub task_stands : (s : State) → IsClosed w b formula most s → (p : List ℕ) → IsSome (s.marks p) → (t : Task) × (task_at s.marks p ≡ Some t)
  task_stands = closing.task-there w b formula most

  -- as many faults as its path is long,
  pub set_size : (s : State) → IsClosed w b formula most s → (p : List ℕ) (t : Task) → IsSome (s.marks p) → task_at s.marks p ≡ Some t
      → length t.faults ≡ length p
  set_size s closed p t stands leads = (closing.sized w b formula most s closed p t stands leads).0

  -- and is allowed
  pub set_allowed : (s : State) → IsClosed w b formula most s → (p : List ℕ) (t : Task) → IsSome (s.marks p) → task_at s.marks p ≡ Some t
      → IsAllowed b t.faults
  set_allowed s closed p t stands leads = (closing.sized w b formula most s closed p t stands leads).1

-- Tasks stay: where a set is taken,
pub take_tasks : (path : List ℕ) (ticket : ℕ) (task : Task) (old new : State) → TakesSet path ticket task old new → (p : List ℕ)
    → task_at old.marks p ≡ task_at new.marks p
take_tasks path ticket task old new e = kept.alike-tasks old new (kept.take-alike path ticket task old new e)

-- given back,
pub give_back_tasks : (path : List ℕ) (ticket : ℕ) (task : Task) (old new : State) → GivesBack path ticket task old new → (p : List ℕ)
    → task_at old.marks p ≡ task_at new.marks p
give_back_tasks path ticket task old new e = kept.alike-tasks old new (kept.back-alike path ticket task old new e)

-- or reclaimed
pub reclaim_tasks : (old new : State) → Reclaims old new → (p : List ℕ) → task_at old.marks p ≡ task_at new.marks p
reclaim_tasks old new e = kept.alike-tasks old new (kept.reclaim-alike old new e)

-- The first set that misses stays the first where a set is taken,
pub take_first : (path : List ℕ) (ticket : ℕ) (task : Task) (old new : State) → TakesSet path ticket task old new
    → (answer : Option (List Parts)) → IsFirstMissing old.marks answer → IsFirstMissing new.marks answer
take_first path ticket task old new e = first.alike-first old new (kept.take-alike path ticket task old new e)

-- given back,
pub give_back_first : (path : List ℕ) (ticket : ℕ) (task : Task) (old new : State) → GivesBack path ticket task old new
    → (answer : Option (List Parts)) → IsFirstMissing old.marks answer → IsFirstMissing new.marks answer
give_back_first path ticket task old new e = first.alike-first old new (kept.back-alike path ticket task old new e)

-- or reclaimed, and where no mark changes
pub reclaim_first : (old new : State) → Reclaims old new → (answer : Option (List Parts)) → IsFirstMissing old.marks answer
    → IsFirstMissing new.marks answer
reclaim_first old new e = first.alike-first old new (kept.reclaim-alike old new e)

pub same_first : (old new : State) → IsSame old.marks new.marks → (answer : Option (List Parts)) → IsFirstMissing old.marks answer
    → IsFirstMissing new.marks answer
same_first old new same = first.alike-first old new (λ q. kept.unchanged (same q))

-- At the beginning none misses
pub start_first : (s : State) → IsStart s → IsFirstMissing s.marks None
start_first = first.start-first

module _ {Local Note Fact : Type 0} (w : World Local Note Fact) (b : Bounds) (formula : Formula Fact) (most : ℕ) (old new : State)
    (closed : IsClosed w b formula most old) where
  -- Going down a level, tasks stay, and so does the first set that misses
  pub down_tasks : GoesDown b most old new → (p : List ℕ) → task_at old.marks p ≡ task_at new.marks p
  down_tasks = down.down-tasks w b formula most old new closed

  pub down_first : GoesDown b most old new → (answer : Option (List Parts)) → IsFirstMissing old.marks answer → IsFirstMissing new.marks answer
  down_first = first.down-first w b formula most old new closed

  module _ (path : List ℕ) (ticket : ℕ) (task : Task) where
    -- Where a mark is filed, tasks stay down to the level,
    pub file_tasks : (m : Mark) → FilesMark path ticket task m old new → (p : List ℕ) → length p ≤ old.level
        → task_at old.marks p ≡ task_at new.marks p
    file_tasks m e = filed.filed-tasks old new path ticket task m closed.shape e

    -- and so does the first set that misses, if the mark is no miss
    pub file_first : (m : Mark) → FilesMark path ticket task m old new → IsShape new.level new.marks → (m ≢ mark.Misses)
        → (answer : Option (List Parts)) → IsFirstMissing old.marks answer → IsFirstMissing new.marks answer
    file_first m e shape = first.filed-first w b formula most old new closed path ticket task m e shape

    -- A miss is the first, where none missed,
    pub miss_first : FilesMark path ticket task mark.Misses old new → IsShape new.level new.marks → IsFirstMissing old.marks None
        → IsFirstMissing new.marks (Some task.faults)
    miss_first e shape = first.missed-first w b formula most old new closed path ticket task mark.Misses e shape refl

    -- or where it comes before the first,
    pub miss_before : (found : List Parts) → FilesMark path ticket task mark.Misses old new → IsShape new.level new.marks
        → IsFirstMissing old.marks (Some found) → set_is_before task.faults found ≡ true → IsFirstMissing new.marks (Some task.faults)
    miss_before found e shape = first.missed-before w b formula most old new closed path ticket task mark.Misses e shape found refl

    -- and else the first stays
    pub miss_after : (found : List Parts) → FilesMark path ticket task mark.Misses old new → IsShape new.level new.marks
        → IsFirstMissing old.marks (Some found) → set_is_before task.faults found ≡ false → IsFirstMissing new.marks (Some found)
    miss_after found e shape = first.missed-after w b formula most old new closed path ticket task mark.Misses e shape found

module _ {Local Note Fact : Type 0} (w : World Local Note Fact) (b : Bounds) (formula : Formula Fact) (most : ℕ) (s : State)
    (bounded : IsBounded w b) (closed : IsClosed w b formula most s) where
  module _ (finished : s.finished ≡ true) where
    -- The first of the sets that are marked to miss in an ended search is the answer,
    pub finds_answer : (answer : Option (List Parts)) → IsFirstMissing s.marks answer → IsAnswer w b formula answer
    finds_answer = ends.answer_is w b formula most s bounded closed (closed.ended finished)

    -- and the level is the last depth of its tree,
    pub finds_depth : (answer : Option (List Parts)) → IsFirstMissing s.marks answer → last_depth b answer ≡ s.level
    finds_depth = ends.last_is w b formula most s bounded closed (closed.ended finished)

    -- which the marks become,
    pub finds_tree : (answer : Option (List Parts)) (root : Node) → IsFirstMissing s.marks answer → nodes.IsTreeOf s.level s.marks root
        → IsTreeOf w b formula (record { answer = answer; root = root })
    finds_tree answer root least tree = trees.tree_is w b formula most s bounded closed (closed.ended finished) root tree answer least

    -- all that are marked to miss are the least sets,
    pub finds_least : (sets : List (List Parts)) → AreAscending sets → ((faults : List Parts) → Contains sets faults ↔ MissesAt s.marks faults)
        → AreAllLeast w b formula sets
    finds_least = ends.all_least w b formula most s bounded closed (closed.ended finished)

    -- and no level was too full
    pub finds_never_full : (k count : ℕ) → IsFullAt w b formula most k count → ⊥
    finds_never_full = ends.never_full w b formula most s bounded closed (closed.ended finished)

  -- where a search finds too many sets for the next level, that level is the first that is too full, and all smaller sets reach
  pub finds_full : (count : ℕ) (new : State) → FindsFull b most count s new → IsFullAt w b formula most (s.level + 1) count
  finds_full = ends.full_is w b formula most s bounded closed
