-- What a tree of marks tells.
use Rattle.std.specs.Prelude.{◌≡◌, ℕ, ◌+◌, ◌-◌, ◌<◌, List, length, Some, vec_capacity}
use Rattle.std.specs.List.{slice_get}
use Rattle.lf_marks.specs.Steps.{Marking, kid_of}
use Rattle.lf_marks.specs.Arena.{look, marks_of}
use Rattle.lf_marks.specs.Walks.{led_from}
use Rattle.lf_marks.specs.Claims.{standing}
use Rattle.lf_marks.specs.declared.marks.Marks.{Marks}
use Rattle.lf_marks.specs.declared.set.Set.{Set}

-- the mark of the set at a path, where one stands
abbrev pub mark_at : Marks → Marking
mark_at m = marks_of m.sets.items m.start

-- how deep the sets stand that may be worked
abbrev pub level_of : Marks → ℕ
level_of m = m.level

-- how many sets wait
abbrev pub waiting_of : Marks → ℕ
waiting_of m = m.waiting

-- the path leads to the last place of a list
abbrev pub LeadsToLast : List Set → List ℕ → List ℕ → Type 0
LeadsToLast sets back p = led_from (look sets) 0 p ≡ slice_get back (length back - 1)

-- the path is that of the first kid that nobody took, of the branch at a place of a queue
pub record IsNextKid (sets : List Set) (queue : List ℕ) (at : ℕ) (p : List ℕ) : Type 0 where
  pub parent : ℕ
  pub front : List ℕ
  pub first : slice_get queue at ≡ Some parent
  pub led : led_from (look sets) 0 front ≡ Some parent
  pub whole : p ≡ kid_of front (look sets parent).taken

-- the set that the next claim takes: the last that was given back, or where none is, the first that nobody took
pub record IsNext (m : Marks) (p : List ℕ) : Type 0 where
  pub back : 0 < length m.opened.items → LeadsToLast m.sets.items m.opened.items p
  pub kid : length m.opened.items ≡ 0 → IsNextKid m.sets.items m.queue.items m.at p

-- there are places for one claim more, wherever it ends
pub record HasPlaces (m : Marks) : Type 0 where
  pub sets : length m.sets.items < vec_capacity m.sets
  pub claims : length m.claims.list.items < vec_capacity m.claims.list
  pub coming : length m.coming.items + length (standing m.claims) < vec_capacity m.coming
  pub opened : length m.opened.items + length (standing m.claims) < vec_capacity m.opened
