-- No change of a rule is left out.
use Rattle.std.proofs.Common.{◌≡◌, ℕ, ◌+◌, Bool, true, false, List, [], ◌∷◌, refl, sym, subst, inl, inr, arith}
use Rattle.std.specs.Prelude.{Some, IsSome}
use Rattle.std.specs.List.{Contains}
use Rattle.std.proofs.lemmas.List.Elements.{Contains-append_left, Contains-append_right, Contains-append_cases}
use Rattle.lf_list.proofs.Laws.{none-in, Contains-first, Contains-more, cases_in}
use Rattle.lf_rules.specs.declared.rule.Rule.{Rule}
use Rattle.lf_doubt.specs.declared.question.Question.{Question}
use Rattle.lf_doubt.specs.declared.question.Question.TheVariants as asks
use Rattle.lf_doubt.proofs.Laws.{only-rules, rule-in}
use Rattle.lf_mutations.specs.declared.mutation.Mutation.{Mutation}
use Rattle.lf_mutations.specs.declared.mutation.Mutation.TheVariants as those
use Rattle.lf_mutations.specs.Mutations.{each_place, left_out, mutated, mutations, mutations_from, mutations_of, rules_of}
use Rattle.lf_mutations.proofs.Laws.{listed-made, made-listed}
use Rattle.lf_outcome.specs.declared.scenario.Scenario.{Scenario}
use Rattle.lf_protocol_file.specs.declared.declared.Declared.{Declared}
use Rattle.leastfault_doubt.specs.Doubts.{AreQuestions}

-- a change of a guard, or of what stands behind it
abbrev mark : Mutation → ℕ
mark (those.Never rule) = 0
mark (those.Always rule) = 0
mark (those.Unset rule place) = 1
mark (those.Unsent rule place) = 1

-- what may be left out is no change of a guard
places-mark : {X : Type 0} (leave : ℕ → Mutation) → ((n : ℕ) → mark (leave n) ≡ 1) → (place : ℕ) (xs : List X) (m : Mutation)
    → Contains (each_place leave place xs) m → mark m ≡ 1
places-mark leave marked place [] m there = absurd (none-in m there)
places-mark leave marked place (x ∷ xs) m there = elim (cases_in (leave place) (each_place leave (place + 1) xs) m there) [
  | inl same ↦ subst (λ n. mark n ≡ 1) same (marked place)
  | inr later ↦ places-mark leave marked (place + 1) xs m later
]

left-mark : (deep : Bool) (k : ℕ) (x : Rule) (m : Mutation) → Contains (left_out deep k x) m → mark m ≡ 1
left-mark false k x m there = absurd (none-in m there)
left-mark true k x m there = elim (Contains-append_cases (each_place (those.Unset k) 1 x.sets) (each_place (those.Unsent k) 1 x.sends) m there) [
  | inl set ↦ places-mark (those.Unset k) (λ n. refl) 1 x.sets m set
  | inr send ↦ places-mark (those.Unsent k) (λ n. refl) 1 x.sends m send
]

-- a change of a guard is among those of a rule however deep they are
guard-of : (deep : Bool) (k : ℕ) (x : Rule) (m : Mutation) → mark m ≡ 0 → Contains (mutations_of true k x) m → Contains (mutations_of deep k x) m
guard-of deep k x m marked there = elim (cases_in (those.Never k) (those.Always k ∷ left_out true k x) m there) [
  | inl same ↦ subst (Contains (mutations_of deep k x)) same (Contains-first (those.Never k) (those.Always k ∷ left_out deep k x))
  | inr more ↦ elim (cases_in (those.Always k) (left_out true k x) m more) [
    | inl same ↦
        subst (Contains (mutations_of deep k x)) same
        (Contains-more (those.Never k) (those.Always k ∷ left_out deep k x) (those.Always k) (Contains-first (those.Always k) (left_out deep k x)))
    | inr left ↦ let odd : mark m ≡ 1 = left-mark true k x m left in absurd (omega (arith, odd, marked))
  ]
]

guard-from : (deep : Bool) (k : ℕ) (xs : List Rule) (m : Mutation) → mark m ≡ 0 → Contains (mutations_from true k xs) m
    → Contains (mutations_from deep k xs) m
guard-from deep k [] m marked there = there
guard-from deep k (x ∷ xs) m marked there = elim (Contains-append_cases (mutations_of true k x) (mutations_from true (k + 1) xs) m there) [
  | inl here ↦ Contains-append_left (mutations_of deep k x) (mutations_from deep (k + 1) xs) m (guard-of deep k x m marked here)
  | inr later ↦ Contains-append_right (mutations_of deep k x) (mutations_from deep (k + 1) xs) m (guard-from deep (k + 1) xs m marked later)
]

module _ (file : Declared) (text : List ℕ) (s : Scenario) (deep : Bool) (questions : List Question) (are : AreQuestions (Some file) text s deep questions) where
  asked-in : (m : Mutation) → Contains (mutations file.definition deep) m → Contains questions (asks.Rule m)
  asked-in m there =
      subst (λ qs. Contains qs (asks.Rule m)) (sym are.asked) (rule-in are.ground m (subst (λ ms. Contains ms m) (sym are.changes) there))

  -- no other change is asked
  pub asked-only : (m : Mutation) → Contains questions (asks.Rule m) → IsSome (mutated file.definition m)
  asked-only m there =
      listed-made file.definition deep m
      (subst (λ ms. Contains ms m) are.changes (only-rules are.ground m (subst (λ qs. Contains qs (asks.Rule m)) are.asked there)))

  -- a change of a guard is asked
  guard-asked : (m : Mutation) → mark m ≡ 0 → IsSome (mutated file.definition m) → Contains questions (asks.Rule m)
  guard-asked m marked made = asked-in m (guard-from deep 1 (rules_of file.definition.chains) m marked (made-listed file.definition m made))

  pub never-asked : (rule : ℕ) → IsSome (mutated file.definition (those.Never rule)) → Contains questions (asks.Rule (those.Never rule))
  never-asked rule = guard-asked (those.Never rule) refl

  pub always-asked : (rule : ℕ) → IsSome (mutated file.definition (those.Always rule)) → Contains questions (asks.Rule (those.Always rule))
  always-asked rule = guard-asked (those.Always rule) refl

-- with all changes, each is
pub each-asked : (file : Declared) (text : List ℕ) (s : Scenario) (questions : List Question) (m : Mutation)
    → AreQuestions (Some file) text s true questions → IsSome (mutated file.definition m) → Contains questions (asks.Rule m)
each-asked file text s questions m are made = asked-in file text s true questions are m (made-listed file.definition m made)
