-- What the list of questions has.
use Rattle.std.proofs.Common.{◌≡◌, ◌⊎◌, ℕ, ◌+◌, ◌*◌, ◌/◌, ◌≤◌, Bool, true, false, ◌&&◌, nat_lt, List, [], ◌∷◌, ◌++◌, map, refl, sym, ap, subst, inl, inr, arith}
use Rattle.std.specs.Prelude.{Option, Some, None}
use Rattle.std.specs.List.{Contains, flat_map}
use Rattle.std.proofs.lemmas.Bool.{and_parts, ltb-true, true≢false}
use Rattle.std.proofs.lemmas.Option.{same_Some}
use Rattle.std.proofs.Math.Nat.{min-le_right}
use Rattle.lf_list.proofs.Laws.{none-in, Contains-first, Contains-more, cases_in}
use Rattle.lf_faults.specs.declared.spec.Bounds.{Bounds}
use Rattle.lf_doubt.specs.declared.change.Change.{Change}
use Rattle.lf_doubt.specs.declared.change.Change.TheVariants as changes
use Rattle.lf_doubt.specs.Bounds.{IsLarger, bounds_asked, delays_asked, longer, twice, when}
use Rattle.std.proofs.lemmas.List.Elements.{Contains-append_left, Contains-append_right, Contains-append_cases}
use Rattle.lf_mutations.specs.declared.mutation.Mutation.{Mutation}
use Rattle.lf_mutations.specs.declared.mutation.Mutation.TheVariants as those
use Rattle.lf_doubt.specs.declared.ground.Ground.{Ground}
use Rattle.lf_doubt.specs.declared.ground.Stake.{Stake}
use Rattle.lf_doubt.specs.declared.question.Question.{Question}
use Rattle.lf_doubt.specs.declared.question.Question.TheVariants as asks
use Rattle.lf_doubt.specs.Questions.{is_starting, model_asked, questions_of, rule_asked, taken_asked, times_in, times_of}

-- a kind of question, by a number
abbrev mark : Question → ℕ
mark asks.Given = 0
mark (asks.Taken rule times runs) = 1
mark (asks.Rule m) = 2
mark (asks.Part stake) = 3
mark (asks.With change) = 4
mark asks.EveryDelay = 5
mark asks.Spread = 6

-- what is among what comes of one is among what comes of all
in-flat : {X Y : Type 0} (f : X → List Y) (xs : List X) (x : X) (y : Y) → Contains xs x → Contains (f x) y → Contains (flat_map f xs) y
in-flat f [] x y there within = absurd (none-in x there)
in-flat f (z ∷ zs) x y there within = elim (cases_in z zs x there) [
  | inl same ↦ Contains-append_left (f z) (flat_map f zs) y (subst (λ w. Contains (f w) y) (sym same) within)
  | inr later ↦ Contains-append_right (f z) (flat_map f zs) y (in-flat f zs x y later within)
]

-- and it is among what comes of one
from-flat : {X Y : Type 0} (f : X → List Y) (xs : List X) (y : Y) → Contains (flat_map f xs) y → (x : X) × Contains xs x × Contains (f x) y
from-flat f [] y there = absurd (none-in y there)
from-flat f (z ∷ zs) y there = elim (Contains-append_cases (f z) (flat_map f zs) y there) [
  | inl early ↦ (z, Contains-first z zs, early)
  | inr late ↦ let found = from-flat f zs y late in (found.0, Contains-more z zs found.0 found.1, found.2)
]

-- the change that a question is of
abbrev rule_of : Question → Option Mutation
rule_of (asks.Rule m) = Some m
rule_of other = None

abbrev change_in : Question → Option Change
change_in (asks.With change) = Some change
change_in other = None

same-rule : (m n : Mutation) → asks.Rule m ≡ asks.Rule n → m ≡ n
same-rule m n same = same_Some m n (ap rule_of same)

same-change : (c d : Change) → asks.With c ≡ asks.With d → c ≡ d
same-change c d same = same_Some c d (ap change_in same)

module _ (g : Ground) where
  asked-one : (m : Mutation) → Contains (rule_asked g m) (asks.Rule m)
  asked-one (those.Never rule) =
      Contains-append_right (taken_asked (is_starting g.starting.now rule) (times_of g rule)) (asks.Rule (those.Never rule) ∷ [])
      (asks.Rule (those.Never rule)) (Contains-first (asks.Rule (those.Never rule)) [])
  asked-one (those.Always rule) = Contains-first (asks.Rule (those.Always rule)) []
  asked-one (those.Unset rule place) = Contains-first (asks.Rule (those.Unset rule place)) []
  asked-one (those.Unsent rule place) = Contains-first (asks.Rule (those.Unsent rule place)) []

  only-one : (m n : Mutation) → Contains (asks.Rule m ∷ []) (asks.Rule n) → m ≡ n
  only-one m n there = elim (cases_in (asks.Rule m) [] (asks.Rule n) there) [
    | inl same ↦ same-rule m n same
    | inr later ↦ absurd (none-in (asks.Rule n) later)
  ]

  -- in how many runs a rule is taken is no question of a change
  not-taken : (b : Bool) (rule : ℕ) (n : Mutation) → Contains (taken_asked b (times_of g rule)) (asks.Rule n) → ⊥
  not-taken true rule n there = none-in (asks.Rule n) there
  not-taken false rule n there = elim (cases_in (times_of g rule) [] (asks.Rule n) there) [
    | inl same ↦ let odd : 1 ≡ 2 = ap mark same in omega (arith, odd)
    | inr later ↦ none-in (asks.Rule n) later
  ]

  asked-only : (m n : Mutation) → Contains (rule_asked g m) (asks.Rule n) → m ≡ n
  asked-only (those.Never rule) n there =
      elim (Contains-append_cases (taken_asked (is_starting g.starting.now rule) (times_of g rule)) (asks.Rule (those.Never rule) ∷ []) (asks.Rule n)
      there) [
        | inl early ↦ absurd (not-taken (is_starting g.starting.now rule) rule n early)
        | inr later ↦ only-one (those.Never rule) n later
      ]
  asked-only (those.Always rule) n there = only-one (those.Always rule) n there
  asked-only (those.Unset rule place) n there = only-one (those.Unset rule place) n there
  asked-only (those.Unsent rule place) n there = only-one (those.Unsent rule place) n there

-- no other question is of a rule
parts-mark : (xs : List Stake) (q : Question) → Contains (map asks.Part xs) q → mark q ≡ 3
parts-mark [] q there = absurd (none-in q there)
parts-mark (x ∷ xs) q there = elim (cases_in (asks.Part x) (map asks.Part xs) q there) [
  | inl same ↦ sym (ap mark same)
  | inr later ↦ parts-mark xs q later
]

when-is : (b : Bool) (x q : Question) → Contains (when b x) q → (b ≡ true) × (q ≡ x)
when-is true x q there = elim (cases_in x [] q there) [
  | inl same ↦ (refl, sym same)
  | inr later ↦ absurd (none-in q later)
]
when-is false x q there = absurd (none-in q there)

module _ (b : Bounds) where
  abbrev horizon_asked : List Question
  horizon_asked = when (nat_lt b.horizon (longer b.horizon)) (asks.With (changes.Horizon (longer b.horizon)))

  abbrev budget_asked : List Question
  budget_asked = when (nat_lt b.budget 6) (asks.With (changes.Budget (b.budget + 1)))

  abbrev crashes_asked : List Question
  crashes_asked = when (nat_lt b.crashes b.nodes) (asks.With (changes.Crashes (b.crashes + 1)))

  abbrev pause_asked : List Question
  pause_asked = when (nat_lt 0 b.pauses && nat_lt b.pause_length (twice b.pause_length)) (asks.With (changes.PauseLength (twice b.pause_length)))

  -- a question about bounds is one of four
  abbrev IsOfBounds : Question → Type 0
  IsOfBounds q =
      ((nat_lt b.horizon (longer b.horizon) ≡ true) × (q ≡ asks.With (changes.Horizon (longer b.horizon))))
      ⊎ (((nat_lt b.budget 6 ≡ true) × (q ≡ asks.With (changes.Budget (b.budget + 1))))
      ⊎ (((nat_lt b.crashes b.nodes ≡ true) × (q ≡ asks.With (changes.Crashes (b.crashes + 1))))
      ⊎ (((nat_lt 0 b.pauses && nat_lt b.pause_length (twice b.pause_length)) ≡ true) × (q ≡ asks.With (changes.PauseLength (twice b.pause_length))))))

  of_bounds : (q : Question) → Contains (bounds_asked b) q → IsOfBounds q
  of_bounds q there = elim (Contains-append_cases horizon_asked (budget_asked ++ (crashes_asked ++ pause_asked)) q there) [
    | inl one ↦ inl (when-is (nat_lt b.horizon (longer b.horizon)) (asks.With (changes.Horizon (longer b.horizon))) q one)
    | inr more ↦ elim (Contains-append_cases budget_asked (crashes_asked ++ pause_asked) q more) [
      | inl two ↦ inr (inl (when-is (nat_lt b.budget 6) (asks.With (changes.Budget (b.budget + 1))) q two))
      | inr most ↦ elim (Contains-append_cases crashes_asked pause_asked q most) [
        | inl three ↦ inr (inr (inl (when-is (nat_lt b.crashes b.nodes) (asks.With (changes.Crashes (b.crashes + 1))) q three)))
        | inr four ↦
            inr (inr (inr (when-is (nat_lt 0 b.pauses && nat_lt b.pause_length (twice b.pause_length)) (asks.With (changes.PauseLength (twice b.pause_length)))
            q four)))
      ]
    ]
  ]

  bounds-mark : (q : Question) → Contains (bounds_asked b) q → mark q ≡ 4
  bounds-mark q there = elim (of_bounds q there) [
    | inl one ↦ ap mark one.1
    | inr more ↦ elim more [
      | inl two ↦ ap mark two.1
      | inr most ↦ elim most [
        | inl three ↦ ap mark three.1
        | inr four ↦ ap mark four.1
      ]
    ]
  ]

  larger : (change other : Change) → asks.With change ≡ asks.With other → IsLarger b other → IsLarger b change
  larger change other same is = subst (IsLarger b) (sym (same-change change other same)) is

  pub grows : (change : Change) → Contains (bounds_asked b) (asks.With change) → IsLarger b change
  grows change there = elim (of_bounds (asks.With change) there) [
    | inl one ↦
        larger change (changes.Horizon (longer b.horizon)) one.1
        (ltb-true b.horizon (longer b.horizon) one.0, min-le_right (b.horizon + (b.horizon + 1) / 2) 48)
    | inr more ↦ elim more [
      | inl two ↦
          let low = ltb-true b.budget 6 two.0 in
          larger change (changes.Budget (b.budget + 1)) two.1 (omega arith, omega (arith, low))
      | inr most ↦ elim most [
        | inl three ↦
            let low = ltb-true b.crashes b.nodes three.0 in
            larger change (changes.Crashes (b.crashes + 1)) three.1 (omega arith, omega (arith, low))
        | inr four ↦
            let both = and_parts (nat_lt 0 b.pauses) (nat_lt b.pause_length (twice b.pause_length)) four.0 in
            larger change (changes.PauseLength (twice b.pause_length)) four.1
            (ltb-true b.pause_length (twice b.pause_length) both.1, min-le_right (2 * b.pause_length) 8)
      ]
    ]
  ]

delays-mark : (spread : Bool) (q : Question) → Contains (delays_asked spread) q → 5 ≤ mark q
delays-mark true q there = elim (cases_in asks.EveryDelay [] q there) [
  | inl same ↦ let is : mark q ≡ 5 = sym (ap mark same) in omega (arith, is)
  | inr later ↦ absurd (none-in q later)
]
delays-mark false q there = elim (cases_in asks.Spread [] q there) [
  | inl same ↦ let is : mark q ≡ 6 = sym (ap mark same) in omega (arith, is)
  | inr later ↦ absurd (none-in q later)
]

model-mark : (own : Bool) (q : Question) → Contains (model_asked own) q → mark q ≡ 4
model-mark true q there = elim (cases_in (asks.With changes.NoneClamped) (asks.With changes.NoneReplaced ∷ []) q there) [
  | inl same ↦ sym (ap mark same)
  | inr more ↦ elim (cases_in (asks.With changes.NoneReplaced) [] q more) [
    | inl same ↦ sym (ap mark same)
    | inr later ↦ absurd (none-in q later)
  ]
]
model-mark false q there = absurd (none-in q there)

module _ (g : Ground) where
  abbrev of_rules : List Question
  of_rules = flat_map (rule_asked g) g.mutations.now

  abbrev of_parts : List Question
  of_parts = map asks.Part g.stakes.now

  abbrev of_rest : List Question
  of_rest = bounds_asked g.bounds ++ (delays_asked g.has_spread ++ model_asked g.is_own)

  in-rules : (q : Question) → Contains of_rules q → Contains (questions_of g) q
  in-rules q there =
      Contains-more asks.Given (of_rules ++ (of_parts ++ of_rest)) q (Contains-append_left of_rules (of_parts ++ of_rest) q there)

  pub rule-in : (m : Mutation) → Contains g.mutations.now m → Contains (questions_of g) (asks.Rule m)
  rule-in m there =
      in-rules (asks.Rule m) (in-flat (rule_asked g) g.mutations.now m (asks.Rule m) there (asked-one g m))

  taken-there : (b : Bool) (q : Question) → b ≡ false → Contains (taken_asked b q) q
  taken-there true q is = absurd (true≢false is)
  taken-there false q is = Contains-first q []

  pub taken-in : (rule : ℕ) → Contains g.mutations.now (those.Never rule) → is_starting g.starting.now rule ≡ false
      → Contains (questions_of g) (asks.Taken rule (times_in g.taken.now rule) g.runs)
  taken-in rule there steps =
      in-rules (times_of g rule)
      (in-flat (rule_asked g) g.mutations.now (those.Never rule) (times_of g rule) there
      (Contains-append_left (taken_asked (is_starting g.starting.now rule) (times_of g rule)) (asks.Rule (those.Never rule) ∷ []) (times_of g rule)
      (taken-there (is_starting g.starting.now rule) (times_of g rule) steps)))

  part-of : (xs : List Stake) (x : Stake) → Contains xs x → Contains (map asks.Part xs) (asks.Part x)
  part-of [] x there = absurd (none-in x there)
  part-of (y ∷ ys) x there = elim (cases_in y ys x there) [
    | inl same ↦ subst (λ z. Contains (map asks.Part (y ∷ ys)) (asks.Part z)) same (Contains-first (asks.Part y) (map asks.Part ys))
    | inr later ↦ Contains-more (asks.Part y) (map asks.Part ys) (asks.Part x) (part-of ys x later)
  ]

  pub part-in : (stake : Stake) → Contains g.stakes.now stake → Contains (questions_of g) (asks.Part stake)
  part-in stake there =
      Contains-more asks.Given (of_rules ++ (of_parts ++ of_rest)) (asks.Part stake)
      (Contains-append_right of_rules (of_parts ++ of_rest) (asks.Part stake)
      (Contains-append_left of_parts of_rest (asks.Part stake) (part-of g.stakes.now stake there)))

  rest-mark : (q : Question) → Contains of_rest q → 4 ≤ mark q
  rest-mark q there = elim (Contains-append_cases (bounds_asked g.bounds) (delays_asked g.has_spread ++ model_asked g.is_own) q there) [
    | inl bound ↦ let is = bounds-mark g.bounds q bound in omega (arith, is)
    | inr more ↦ elim (Contains-append_cases (delays_asked g.has_spread) (model_asked g.is_own) q more) [
      | inl delay ↦ let is = delays-mark g.has_spread q delay in omega (arith, is)
      | inr model ↦ let is = model-mark g.is_own q model in omega (arith, is)
    ]
  ]

  pub only-rules : (m : Mutation) → Contains (questions_of g) (asks.Rule m) → Contains g.mutations.now m
  only-rules m there = elim (cases_in asks.Given (of_rules ++ (of_parts ++ of_rest)) (asks.Rule m) there) [
    | inl same ↦ let odd : 0 ≡ 2 = ap mark same in absurd (omega (arith, odd))
    | inr more ↦ elim (Contains-append_cases of_rules (of_parts ++ of_rest) (asks.Rule m) more) [
      | inl rule ↦
          let found = from-flat (rule_asked g) g.mutations.now (asks.Rule m) rule in
          subst (Contains g.mutations.now) (asked-only g found.0 m found.2) found.1
      | inr rest ↦ elim (Contains-append_cases of_parts of_rest (asks.Rule m) rest) [
        | inl part ↦ let odd : 2 ≡ 3 = parts-mark g.stakes.now (asks.Rule m) part in absurd (omega (arith, odd))
        | inr last ↦ let odd : 4 ≤ 2 = rest-mark (asks.Rule m) last in absurd (omega (arith, odd))
      ]
    ]
  ]
