-- What an ended search has found, and what a search that is full has seen.
use Rattle.std.proofs.Common.{◌≡◌, ℕ, ◌+◌, ◌<◌, ◌≤◌, Bool, true, false, not, List, length}
use Rattle.std.proofs.Common.{refl, sym, ap, ◌∙◌, arith, inl, inr}
use Rattle.std.specs.Prelude.{◌↔◌, Option, None, Some, IsSome}
use Rattle.std.specs.Option.{is_some}
use Rattle.std.specs.List.{Contains}
use mathlib.Core.Logic.{∥∥₁_map}
use Rattle.std.proofs.lemmas.Bool.{cases_Bool, cases_lt, false≢true}
use Rattle.lf_faults.specs.declared.fault.Parts.{Parts}
use Rattle.lf_faults.specs.declared.spec.Bounds.{Bounds}
use Rattle.lf_faults.specs.Faults.{set_is_before}
use Rattle.lf_faults.specs.Allowed.{IsAllowed}
use Rattle.lf_faults.proofs.Laws.{before-fewer}
use Rattle.lf_sim.specs.Runs.{World}
use Rattle.lf_outcome.specs.declared.formula.Formula.{Formula}
use Rattle.lf_outcome.specs.Truth.{reaches}
use Rattle.lf_certificate.specs.Accepted.{IsBounded, IsAnswer, last_depth}
use Rattle.lf_marks.specs.Counting.{IsCount}
use Rattle.lf_marks.specs.Steps.{IsMarked}
use Rattle.lf_marks.specs.Steps as mark
use Rattle.lf_certificate.specs.Closed.{MissesAt, IsFirstMissing, IsClosed, IsEnded}
use Rattle.lf_certificate.specs.Events.{IsDone, FindsFull}
use Rattle.lf_certificate.specs.Levels.{AreAscending, Grows, IsLevelSize, IsFullAt, IsLeastSet, AreAllLeast}
use Rattle.lf_certificate.specs.States.{State}
use Rattle.lf_certificate.specs.Tasks.{Task, root_task}
use Rattle.lf_certificate.proofs.FindLemmas.{set_of, grown_stands, grown_waits, fewer_reach, level_misses, IsMissing, missing_is, marked_misses}

-- the same property in other words has the same count
same_count : (P Q : List ℕ → Type 0) (n : ℕ) → ((p : List ℕ) → P p → Q p) → ((p : List ℕ) → Q p → P p) → IsCount P n → IsCount Q n
same_count P Q n to from c = ∥∥₁_map c (λ l. (
  l.0,
  record { apart = l.1.apart; all = λ p h. l.1.all p (from p h); only = λ p h. to p (l.1.only p h) },
  l.2,
))

turned : (r : Bool) → not r ≡ true → r ≡ false
turned true e = absurd (false≢true e)
turned false e = refl

module _ {Local Note Fact : Type 0} (w : World Local Note Fact) (b : Bounds) (formula : Formula Fact) (most : ℕ) (s : State)
    (bounded : IsBounded w b) (closed : IsClosed w b formula most s) where
  -- what the marks show of sets
  smaller : (other : List Parts) → IsAllowed b other → length other < s.level → reaches w other formula ≡ true
  smaller = fewer_reach w b formula most s bounded closed s.level (omega arith)

  on_level : IsDone s.marks → (other : List Parts) → IsAllowed b other → length other ≡ s.level → reaches w other formula ≡ false
      → MissesAt s.marks other
  on_level = level_misses w b formula most s bounded closed

  missing : (faults : List Parts) → MissesAt s.marks faults → IsMissing w b formula most s bounded closed faults
  missing = missing_is w b formula most s bounded closed

  some_missing : IsMarked s.marks mark.Misses → (faults : List Parts) × MissesAt s.marks faults
  some_missing = marked_misses w b formula most s bounded closed

  -- as many sets grow on a level as stand there
  level_count : (k n : ℕ) → k ≤ s.level → IsLevelSize w b formula k n → IsCount (λ p. IsSome (s.marks p) × (length p ≡ k)) n
  level_count k n low c = same_count (λ path. (length path ≡ k) × (u : Task) × Grows w b formula root_task path u)
      (λ p. IsSome (s.marks p) × (length p ≡ k)) n
      (λ p h. (ap is_some (grown_stands w b formula most s bounded closed p h.1 (omega (arith, h.0, low)) h.2).is, h.0))
      (λ p h. let set = set_of w b formula most s bounded closed p h.0 in (h.1, set.task, set.grows)) c

  -- so no level down to this one is too full
  narrow : (k n : ℕ) → k ≤ s.level → IsLevelSize w b formula k n → n ≤ most
  narrow k n low c = closed.narrow k n low (level_count k n low c)

  module _ (ended : IsEnded w b formula s) where
    -- where no set of the level misses, the level is the budget
    level_is : ((faults : List Parts) → MissesAt s.marks faults → ⊥) → s.level ≡ b.budget
    level_is none = elim ended.reason [
      | inl m ↦ let f = some_missing m in absurd (none f.0 f.1)
      | inr last ↦ last
    ]

    -- so the level is the last depth,
    pub last_is : (answer : Option (List Parts)) → IsFirstMissing s.marks answer → last_depth b answer ≡ s.level
    last_is None first = sym (level_is first)
    last_is (Some found) first = (missing found first.0).size

    -- and all allowed sets reach
    none_misses : ((faults : List Parts) → MissesAt s.marks faults → ⊥) → (other : List Parts) → IsAllowed b other
        → reaches w other formula ≡ true
    none_misses none other allowed =
        let few = allowed.budget in
        let last = level_is none in
        elim (cases_Bool (reaches w other formula)) [
          | inl is ↦ is
          | inr isnt ↦ elim (cases_lt (length other) s.level) [
            | inl fewer ↦ smaller other allowed fewer
            | inr large ↦ absurd (none other (on_level ended.done other allowed (omega (arith, large, few, last)) isnt))
          ]
        ]

    -- a set that misses doesn't come before the first that is marked to miss
    not_before : (found : List Parts) → MissesAt s.marks found
        → ((faults : List Parts) → MissesAt s.marks faults → set_is_before faults found ≡ false)
        → (other : List Parts) → IsAllowed b other → reaches w other formula ≡ false → set_is_before other found ≡ false
    not_before found here first other allowed misses =
        let size = (missing found here).size in
        elim (cases_Bool (set_is_before other found)) [
          | inr after ↦ after
          | inl before ↦
              let few = before-fewer other found before in
              elim (cases_lt (length other) s.level) [
                | inl fewer ↦
                    absurd (false≢true (sym misses ∙ smaller other allowed fewer))
                | inr large ↦
                    first other (on_level ended.done other allowed (omega (arith, large, few, size)) misses)
              ]
        ]

    -- the first of the sets that are marked to miss is the answer
    pub answer_is : (answer : Option (List Parts)) → IsFirstMissing s.marks answer → IsAnswer w b formula answer
    answer_is None first = λ other allowed. ap not (none_misses first other allowed)
    answer_is (Some found) first =
        let m = missing found first.0 in
        (m.allowed, ap not m.misses, λ other allowed misses. not_before found first.0 first.1 other allowed (turned (reaches w other formula) misses))

    -- no level of an ended search is full
    pub never_full : (k count : ℕ) → IsFullAt w b formula most k count → ⊥
    never_full k count full = elim (cases_lt s.level k) [
      | inr low ↦
          let few = narrow k count low full.size in
          let many = full.many in
          omega (arith, few, many)
      | inl deep ↦ elim ended.reason [
        | inl marked ↦
            let f = some_missing marked in
            let m = missing f.0 f.1 in
            false≢true (sym m.misses ∙ full.reaching f.0 m.allowed (omega (arith, m.size, deep)))
        | inr last ↦
            let within = full.within in
            omega (arith, within, last, deep)
      ]
    ]

    -- the sets that are marked to miss are the least
    least_is : (faults : List Parts) → MissesAt s.marks faults → IsLeastSet w b formula faults
    least_is faults here =
        let m = missing faults here in
        record {
          allowed = m.allowed;
          misses = m.misses;
          fewest = λ other allowed misses. elim (cases_lt (length other) (length faults)) [
            | inr large ↦ large
            | inl fewer ↦
                let size = m.size in
                absurd (false≢true (sym misses ∙ smaller other allowed (omega (arith, fewer, size))))
          ];
        }

    -- a least set has no more faults than the level, so it is marked
    least_size : (faults : List Parts) → IsLeastSet w b formula faults → length faults ≤ s.level
    least_size faults least = elim ended.reason [
      | inl marked ↦
          let f = some_missing marked in
          let m = missing f.0 f.1 in
          let few = least.fewest f.0 m.allowed m.misses in
          omega (arith, few, m.size)
      | inr last ↦
          let few = least.allowed.budget in
          omega (arith, few, last)
    ]

    least_misses : (faults : List Parts) → IsLeastSet w b formula faults → MissesAt s.marks faults
    least_misses faults least = elim (cases_lt (length faults) s.level) [
      | inl fewer ↦
          absurd (false≢true (sym least.misses ∙ smaller faults least.allowed fewer))
      | inr large ↦
          let few = least_size faults least in
          on_level ended.done faults least.allowed (omega (arith, large, few)) least.misses
    ]

    -- so these are all least sets
    pub all_least : (sets : List (List Parts)) → AreAscending sets → ((faults : List Parts) → Contains sets faults ↔ MissesAt s.marks faults)
        → AreAllLeast w b formula sets
    all_least sets ascending each = record {
      ascending = ascending;
      each = λ faults. (λ c. least_is faults ((each faults).0 c), λ l. (each faults).1 (least_misses faults l));
    }

  module _ (count : ℕ) (new : State) (full : FindsFull b most count s new) where
    -- the sets that wait are those that grow one beneath the level,
    waiting_size : IsLevelSize w b formula (s.level + 1) count
    waiting_size = same_count (λ p. s.marks p ≡ Some mark.Waiting)
        (λ path. (length path ≡ s.level + 1) × (u : Task) × Grows w b formula root_task path u) count
        (λ p h. let set = set_of w b formula most s bounded closed p (ap is_some h) in (closed.shape.waiting p h, set.task, set.grows))
        (λ p h.
        let st = grown_waits w b formula most s bounded closed full.done p h.1 (omega (arith, h.0)) h.2 in
        closed.shape.waits p (ap is_some st.is) h.0)
        full.waiting

    -- the smaller ones all reach,
    smaller_reach : (faults : List Parts) → IsAllowed b faults → length faults < s.level + 1 → reaches w faults formula ≡ true
    smaller_reach faults allowed few = elim (cases_lt (length faults) s.level) [
      | inl fewer ↦ smaller faults allowed fewer
      | inr large ↦ elim (cases_Bool (reaches w faults formula)) [
        | inl is ↦ is
        | inr isnt ↦
            let m = on_level full.done faults allowed (omega (arith, few, large)) isnt in
            absurd (full.reaching m.path m.misses)
      ]
    ]

    -- and the level beneath is the first that is too full
    pub full_is : IsFullAt w b formula most (s.level + 1) count
    full_is =
        let above = full.above in
        record {
          within = omega (arith, above);
          size = waiting_size;
          many = full.many;
          fits = λ j n low c. narrow j n (omega (arith, low)) c;
          reaching = smaller_reach;
        }
