-- What is wrong at one place: it is decided for each reason, a right place has no reason, and one that isn't right has a first.
use Rattle.std.proofs.Common.{◌≡◌, ℕ, zero, suc, ◌<◌, Bool, true, false, List, [], ◌∷◌, length, get_or}
use Rattle.std.proofs.Common.{refl, sym, ap, ◌∙◌, subst, arith, inl, inr}
use Rattle.std.specs.Prelude.{◌⊎◌}
use Rattle.std.specs.List.{Contains}
use Rattle.std.proofs.lemmas.Bool.{cases_eq, cases_lt, both_ways, cases_Bool}
use Rattle.lf_list.proofs.Laws.{none-in, Contains-first, Contains-more, cases_in, Decided, decide_both, decide_not, decide_is, decide_le, decide_apart}
use Rattle.lf_faults.specs.declared.fault.Parts.{Parts}
use Rattle.lf_faults.specs.declared.spec.Bounds.{Bounds}
use Rattle.lf_faults.proofs.Laws.{in_or_not, cases_sets, set_not_itself}
use Rattle.lf_faults.specs.Faults.{set_is_before}
use Rattle.lf_sim.specs.Runs.{World}
use Rattle.lf_outcome.specs.declared.formula.Formula.{Formula}
use Rattle.lf_outcome.specs.Truth.{reaches, reaches_within}
use Rattle.lf_outcome.proofs.Laws.{reaches-from_within}
use Rattle.lf_outcome.specs.Reaches.{IsReachOf}
use Rattle.lf_cone.specs.Cones.{IsClosed, IsRequired, AreRequired}
use Rattle.lf_cone.proofs.Laws.{closed_or_not, form_or_not, required_exist, required_one}
use Rattle.lf_tree.specs.declared.tree.Node.{Node, out-Node}
use Rattle.lf_tree.specs.declared.tree.Node.TheOpen.{Node-F}
use Rattle.lf_certificate.specs.declared.reason.Reason.{Reason}
use Rattle.lf_certificate.specs.declared.reason.Reason.TheVariants as reason
use Rattle.lf_certificate.specs.Places.{Place}
use Rattle.lf_certificate.specs.Accepted.{IsRight, IsRightNode, IsRightLeaf, IsRightBranch}
use Rattle.lf_certificate.specs.Faults.{turn_of, LeafFails, Suffices, BranchFails, NodeFails, Fails, FailsFirst}

-- The reasons in their order
turns : List Reason
turns =
    reason.WrongDepth ∷ reason.SaidToReach ∷ reason.SaidToMiss ∷ reason.BranchMisses ∷ reason.ReachFallsShort ∷ reason.ReachNotClosed
    ∷ reason.EdgeMissing ∷ reason.EdgesDiffer ∷ reason.KidsDiffer ∷ reason.AnswerNotAllowed ∷ reason.AnswerNotFirst ∷ []

abbrev pub reason_at : ℕ → Reason
unfolding turns
reason_at k = get_or turns k reason.AnswerNotFirst

at-turn : (why : Reason) → reason_at (turn_of why) ≡ why
unfolding turns
at-turn reason.WrongDepth = refl
at-turn reason.SaidToReach = refl
at-turn reason.SaidToMiss = refl
at-turn reason.BranchMisses = refl
at-turn reason.ReachFallsShort = refl
at-turn reason.ReachNotClosed = refl
at-turn reason.EdgeMissing = refl
at-turn reason.EdgesDiffer = refl
at-turn reason.KidsDiffer = refl
at-turn reason.AnswerNotAllowed = refl
at-turn reason.AnswerNotFirst = refl

turn-few : (why : Reason) → turn_of why < 11
turn-few reason.WrongDepth = omega arith
turn-few reason.SaidToReach = omega arith
turn-few reason.SaidToMiss = omega arith
turn-few reason.BranchMisses = omega arith
turn-few reason.ReachFallsShort = omega arith
turn-few reason.ReachNotClosed = omega arith
turn-few reason.EdgeMissing = omega arith
turn-few reason.EdgesDiffer = omega arith
turn-few reason.KidsDiffer = omega arith
turn-few reason.AnswerNotAllowed = omega arith
turn-few reason.AnswerNotFirst = omega arith

turn-at : (k : ℕ) → k < 11 → turn_of (reason_at k) ≡ k
unfolding turns
turn-at zero few = refl
turn-at (suc zero) few = refl
turn-at (suc (suc zero)) few = refl
turn-at (suc (suc (suc zero))) few = refl
turn-at (suc (suc (suc (suc zero)))) few = refl
turn-at (suc (suc (suc (suc (suc zero))))) few = refl
turn-at (suc (suc (suc (suc (suc (suc zero)))))) few = refl
turn-at (suc (suc (suc (suc (suc (suc (suc zero))))))) few = refl
turn-at (suc (suc (suc (suc (suc (suc (suc (suc zero)))))))) few = refl
turn-at (suc (suc (suc (suc (suc (suc (suc (suc (suc zero))))))))) few = refl
turn-at (suc (suc (suc (suc (suc (suc (suc (suc (suc (suc zero)))))))))) few = refl
turn-at (suc (suc (suc (suc (suc (suc (suc (suc (suc (suc (suc k))))))))))) few = absurd (omega (arith, few))

-- two reasons at one turn are one
pub same_turn : (why other : Reason) → turn_of why ≡ turn_of other → why ≡ other
same_turn why other same = sym (at-turn why) ∙ ap (λ k. reason_at k) same ∙ at-turn other

-- The first number below a number of which the one holds, or the other holds of each
pub record FirstBelow (P Q : ℕ → Type 0) (n : ℕ) : Type 0 where
  pub at : ℕ
  pub below : at < n
  pub here : P at
  pub before : (k : ℕ) → k < at → Q k

pub first_below : (P Q : ℕ → Type 0) → ((k : ℕ) → P k ⊎ Q k) → (n : ℕ) → FirstBelow P Q n ⊎ ((k : ℕ) → k < n → Q k)
first_below P Q d zero = inr (λ k few. absurd (omega (arith, few)))
first_below P Q d (suc n) = elim (first_below P Q d n) [
  | inl found ↦ inl (record { at = found.at; below = omega (arith, found.below); here = found.here; before = found.before })
  | inr early ↦ elim (d n) [
    | inl here ↦ inl (record { at = n; below = omega arith; here = here; before = early })
    | inr last ↦ inr (λ k few. elim (cases_eq k n) [
      | inl same ↦ subst Q (sym same) last
      | inr other ↦ early k (omega (arith, few, other))
    ])
  ]
]

-- Some element of the one list isn't in the other, or each is
missing_or_all : (xs ys : List Parts) → ((f : Parts) × Contains xs f × (Contains ys f → ⊥)) ⊎ ((f : Parts) → Contains xs f → Contains ys f)
missing_or_all [] ys = inr (λ f c. absurd (none-in f c))
missing_or_all (x ∷ xs) ys = elim (in_or_not ys x) [
  | inr none ↦ inl (x, Contains-first x xs, none)
  | inl here ↦ elim (missing_or_all xs ys) [
    | inl found ↦ inl (found.0, Contains-more x xs found.0 found.1, found.2)
    | inr all ↦ inr (λ f c. elim (cases_in x xs f c) [
      | inl same ↦ subst (Contains ys) same here
      | inr later ↦ all f later
    ])
  ]
]

-- Two lists of faults are one or not
pub lists_or_not : (fs gs : List Parts) → Decided (fs ≡ gs)
lists_or_not fs gs = elim (cases_sets fs gs) [
  | inl before ↦ inr (λ same. set_not_itself gs (subst (λ xs. set_is_before xs gs ≡ true) same before))
  | inr rest ↦ elim rest [
    | inl same ↦ inl same
    | inr after ↦ inr (λ same. set_not_itself gs (subst (λ xs. set_is_before gs xs ≡ true) same after))
  ]
]

not_both_ways : (r : Bool) → r ≡ true → r ≡ false → ⊥
not_both_ways r here there = both_ways r there here

module _ {State Note Fact : Type 0} (w : World State Note Fact) (b : Bounds) (formula : Formula Fact) where
  -- the edges are the required ones or not
  required_are_or_not : (faults : List Parts) (reach : List ℕ) (excluded edges : List Parts) → Decided (AreRequired w faults b reach excluded edges)
  required_are_or_not faults reach excluded edges =
      let wanted = required_exist w faults b reach excluded in
      elim (lists_or_not wanted.0 edges) [
        | inl same ↦ inl (subst (λ es. AreRequired w faults b reach excluded es) same wanted.1)
        | inr differ ↦ inr (λ are. differ (required_one w faults b reach excluded wanted.0 edges wanted.1 are))
      ]

  -- a required edge is missing or none is
  missing_or_not : (faults : List Parts) (reach : List ℕ) (excluded edges : List Parts)
      → Decided ((f : Parts) × IsRequired w faults b reach excluded f × (Contains edges f → ⊥))
  missing_or_not faults reach excluded edges =
      let wanted = required_exist w faults b reach excluded in
      elim (missing_or_all wanted.0 edges) [
        | inl found ↦ inl (found.0, (wanted.1.each found.0).0 found.1, found.2)
        | inr all ↦ inr (λ h. h.2 (all h.0 ((wanted.1.each h.0).1 h.1)))
      ]

  suffices_or_not : (faults : List Parts) (reach : List ℕ) → Decided (Suffices w formula faults reach)
  suffices_or_not faults reach =
      decide_both (IsReachOf w.rules.nodes w.horizon reach) (reaches_within w faults reach formula ≡ true)
      (form_or_not w.rules.nodes w.horizon reach) (decide_is (reaches_within w faults reach formula) true)

  -- whether a leaf fails by a reason is decided,
  leaf_or_not : (last depth : ℕ) (faults : List Parts) (says : Bool) (why : Reason) → Decided (LeafFails w formula last depth faults says why)
  leaf_or_not last depth faults says reason.WrongDepth = decide_apart depth last
  leaf_or_not last depth faults says reason.SaidToReach =
      decide_both (says ≡ true) (reaches w faults formula ≡ false) (decide_is says true) (decide_is (reaches w faults formula) false)
  leaf_or_not last depth faults says reason.SaidToMiss =
      decide_both (says ≡ false) (reaches w faults formula ≡ true) (decide_is says false) (decide_is (reaches w faults formula) true)
  leaf_or_not last depth faults says reason.AnswerNotAllowed = inr (λ h. h)
  leaf_or_not last depth faults says reason.ReachFallsShort = inr (λ h. h)
  leaf_or_not last depth faults says reason.ReachNotClosed = inr (λ h. h)
  leaf_or_not last depth faults says reason.EdgeMissing = inr (λ h. h)
  leaf_or_not last depth faults says reason.EdgesDiffer = inr (λ h. h)
  leaf_or_not last depth faults says reason.KidsDiffer = inr (λ h. h)
  leaf_or_not last depth faults says reason.AnswerNotFirst = inr (λ h. h)
  leaf_or_not last depth faults says reason.BranchMisses = inr (λ h. h)

  -- and so is whether a branch does,
  branch_or_not : (last depth : ℕ) (faults excluded : List Parts) (reach : List ℕ) (edges : List Parts) (kids : List Node) (why : Reason)
      → Decided (BranchFails w b formula last depth faults excluded reach edges kids why)
  branch_or_not last depth faults excluded reach edges kids reason.WrongDepth = decide_le last depth
  branch_or_not last depth faults excluded reach edges kids reason.BranchMisses = decide_is (reaches w faults formula) false
  branch_or_not last depth faults excluded reach edges kids reason.ReachFallsShort =
      decide_not (Suffices w formula faults reach) (suffices_or_not faults reach)
  branch_or_not last depth faults excluded reach edges kids reason.ReachNotClosed =
      decide_not (IsClosed w faults reach) (closed_or_not w faults reach)
  branch_or_not last depth faults excluded reach edges kids reason.EdgeMissing = missing_or_not faults reach excluded edges
  branch_or_not last depth faults excluded reach edges kids reason.EdgesDiffer =
      decide_not (AreRequired w faults b reach excluded edges) (required_are_or_not faults reach excluded edges)
  branch_or_not last depth faults excluded reach edges kids reason.KidsDiffer = decide_apart (length kids) (length edges)
  branch_or_not last depth faults excluded reach edges kids reason.AnswerNotAllowed = inr (λ h. h)
  branch_or_not last depth faults excluded reach edges kids reason.SaidToReach = inr (λ h. h)
  branch_or_not last depth faults excluded reach edges kids reason.SaidToMiss = inr (λ h. h)
  branch_or_not last depth faults excluded reach edges kids reason.AnswerNotFirst = inr (λ h. h)

  node_or_not : (last depth : ℕ) (faults excluded : List Parts) (y : Node-F Node) (why : Reason)
      → Decided (NodeFails w b formula last depth faults excluded y why)
  node_or_not last depth faults excluded Node-F.Misses why = leaf_or_not last depth faults false why
  node_or_not last depth faults excluded Node-F.Reaches why = leaf_or_not last depth faults true why
  node_or_not last depth faults excluded (Node-F.Branch reach edges kids) why = branch_or_not last depth faults excluded reach edges kids why

  -- and whether a place does
  pub fails_or_not : (last depth : ℕ) (p : Place) (why : Reason) → Decided (Fails w b formula last depth p why)
  fails_or_not last depth p why = node_or_not last depth p.faults p.excluded (out-Node p.node) why

  -- A right place doesn't fail,
  leaf_right : (last depth : ℕ) (faults : List Parts) (says : Bool) → IsRightLeaf w b formula last depth faults says
      → (why : Reason) → LeafFails w formula last depth faults says why → ⊥
  leaf_right last depth faults says right reason.WrongDepth h = h right.here
  leaf_right last depth faults says right reason.SaidToReach h = not_both_ways (reaches w faults formula) (right.truth ∙ h.0) h.1
  leaf_right last depth faults says right reason.SaidToMiss h = not_both_ways (reaches w faults formula) h.1 (right.truth ∙ h.0)
  leaf_right last depth faults says right reason.AnswerNotAllowed h = h
  leaf_right last depth faults says right reason.ReachFallsShort h = h
  leaf_right last depth faults says right reason.ReachNotClosed h = h
  leaf_right last depth faults says right reason.EdgeMissing h = h
  leaf_right last depth faults says right reason.EdgesDiffer h = h
  leaf_right last depth faults says right reason.KidsDiffer h = h
  leaf_right last depth faults says right reason.AnswerNotFirst h = h
  leaf_right last depth faults says right reason.BranchMisses h = h

  branch_right : (last depth : ℕ) (faults excluded : List Parts) (reach : List ℕ) (edges : List Parts) (kids : List Node)
      → IsRightBranch w b formula last depth faults excluded reach edges kids
      → (why : Reason) → BranchFails w b formula last depth faults excluded reach edges kids why → ⊥
  branch_right last depth faults excluded reach edges kids right reason.WrongDepth h = omega (arith, h, right.above)
  branch_right last depth faults excluded reach edges kids right reason.BranchMisses h =
      not_both_ways (reaches w faults formula) (reaches-from_within w faults reach formula right.within) h
  branch_right last depth faults excluded reach edges kids right reason.ReachFallsShort h = h (right.closed.form, right.within)
  branch_right last depth faults excluded reach edges kids right reason.ReachNotClosed h = h right.closed
  branch_right last depth faults excluded reach edges kids right reason.EdgeMissing h = h.2 ((right.required.each h.0).1 h.1)
  branch_right last depth faults excluded reach edges kids right reason.EdgesDiffer h = h right.required
  branch_right last depth faults excluded reach edges kids right reason.KidsDiffer h = h right.each
  branch_right last depth faults excluded reach edges kids right reason.AnswerNotAllowed h = h
  branch_right last depth faults excluded reach edges kids right reason.SaidToReach h = h
  branch_right last depth faults excluded reach edges kids right reason.SaidToMiss h = h
  branch_right last depth faults excluded reach edges kids right reason.AnswerNotFirst h = h

  node_right : (last depth : ℕ) (faults excluded : List Parts) (y : Node-F Node) → IsRightNode w b formula last depth faults excluded y
      → (why : Reason) → NodeFails w b formula last depth faults excluded y why → ⊥
  node_right last depth faults excluded Node-F.Misses right = leaf_right last depth faults false right
  node_right last depth faults excluded Node-F.Reaches right = leaf_right last depth faults true right
  node_right last depth faults excluded (Node-F.Branch reach edges kids) right =
      branch_right last depth faults excluded reach edges kids right

  pub right_fails_not : (last depth : ℕ) (p : Place) → IsRight w b formula last depth p → (why : Reason) → Fails w b formula last depth p why → ⊥
  right_fails_not last depth p right = node_right last depth p.faults p.excluded (out-Node p.node) right

  -- and a place that doesn't fail is right
  truth_says : (faults : List Parts) (says : Bool) → ((says ≡ true) × (reaches w faults formula ≡ false) → ⊥)
      → ((says ≡ false) × (reaches w faults formula ≡ true) → ⊥) → reaches w faults formula ≡ says
  truth_says faults true none other = elim (cases_Bool (reaches w faults formula)) [
    | inl reaching ↦ reaching
    | inr missing ↦ absurd (none (refl, missing))
  ]
  truth_says faults false none other = elim (cases_Bool (reaches w faults formula)) [
    | inl reaching ↦ absurd (other (refl, reaching))
    | inr missing ↦ missing
  ]

  same_where_not_apart : (m n : ℕ) → ((m ≡ n → ⊥) → ⊥) → m ≡ n
  same_where_not_apart m n never = elim (cases_eq m n) [ inl same ↦ same | inr other ↦ absurd (never other) ]

  leaf_none : (last depth : ℕ) (faults : List Parts) (says : Bool) → ((why : Reason) → LeafFails w formula last depth faults says why → ⊥)
      → IsRightLeaf w b formula last depth faults says
  leaf_none last depth faults says none = record {
    here = same_where_not_apart depth last (none reason.WrongDepth);
    truth = truth_says faults says (none reason.SaidToReach) (none reason.SaidToMiss);
  }

  -- what is decided and not false is so
  not_false : (P : Type 0) → Decided P → ((P → ⊥) → ⊥) → P
  not_false P (inl p) never = p
  not_false P (inr none) never = absurd (never none)

  branch_none : (last depth : ℕ) (faults excluded : List Parts) (reach : List ℕ) (edges : List Parts) (kids : List Node)
      → ((why : Reason) → BranchFails w b formula last depth faults excluded reach edges kids why → ⊥)
      → IsRightBranch w b formula last depth faults excluded reach edges kids
  branch_none last depth faults excluded reach edges kids none = record {
    above = elim (cases_lt depth last) [ inl above ↦ above | inr below ↦ absurd (none reason.WrongDepth below) ];
    closed = not_false (IsClosed w faults reach) (closed_or_not w faults reach) (none reason.ReachNotClosed);
    within = (not_false (Suffices w formula faults reach) (suffices_or_not faults reach) (none reason.ReachFallsShort)).1;
    required = not_false (AreRequired w faults b reach excluded edges) (required_are_or_not faults reach excluded edges) (none reason.EdgesDiffer);
    each = same_where_not_apart (length kids) (length edges) (none reason.KidsDiffer);
  }

  node_none : (last depth : ℕ) (faults excluded : List Parts) (y : Node-F Node)
      → ((why : Reason) → NodeFails w b formula last depth faults excluded y why → ⊥) → IsRightNode w b formula last depth faults excluded y
  node_none last depth faults excluded Node-F.Misses none = leaf_none last depth faults false none
  node_none last depth faults excluded Node-F.Reaches none = leaf_none last depth faults true none
  node_none last depth faults excluded (Node-F.Branch reach edges kids) none = branch_none last depth faults excluded reach edges kids none

  pub right_where_none : (last depth : ℕ) (p : Place) → ((why : Reason) → Fails w b formula last depth p why → ⊥) → IsRight w b formula last depth p
  right_where_none last depth p none = node_none last depth p.faults p.excluded (out-Node p.node) none

  -- So a place is right, or it has a first reason
  pub right_or_fails : (last depth : ℕ) (p : Place) → IsRight w b formula last depth p ⊎ ((why : Reason) × FailsFirst w b formula last depth p why)
  right_or_fails last depth p =
      elim (first_below (λ k. Fails w b formula last depth p (reason_at k)) (λ k. Fails w b formula last depth p (reason_at k) → ⊥)
      (λ k. fails_or_not last depth p (reason_at k)) 11) [
        | inl found ↦ inr (
          reason_at found.at,
          record {
            fails = found.here;
            before = λ other early h. found.before (turn_of other)
                (omega (arith, early, turn-at found.at found.below)) (subst (Fails w b formula last depth p) (sym (at-turn other)) h);
          },
        )
        | inr none ↦ inl (right_where_none last depth p (λ why h. none (turn_of why) (turn-few why) (subst (Fails w b formula last depth p)
            (sym (at-turn why)) h)))
      ]

  -- and no two
  pub first_reason_one : (last depth : ℕ) (p : Place) (why other : Reason) → FailsFirst w b formula last depth p why
      → FailsFirst w b formula last depth p other → why ≡ other
  first_reason_one last depth p why other x y = elim (cases_eq (turn_of why) (turn_of other)) [
    | inl same ↦ same_turn why other same
    | inr differ ↦ elim (cases_lt (turn_of why) (turn_of other)) [
      | inl early ↦ absurd (y.before why early x.fails)
      | inr late ↦ absurd (x.before other (omega (arith, late, differ)) y.fails)
    ]
  ]

  -- the answer's reasons are no place's
  node_no_answer : (last depth : ℕ) (faults excluded : List Parts) (y : Node-F Node)
      → (NodeFails w b formula last depth faults excluded y reason.AnswerNotAllowed → ⊥)
      × (NodeFails w b formula last depth faults excluded y reason.AnswerNotFirst → ⊥)
  node_no_answer last depth faults excluded Node-F.Misses = (λ h. h, λ h. h)
  node_no_answer last depth faults excluded Node-F.Reaches = (λ h. h, λ h. h)
  node_no_answer last depth faults excluded (Node-F.Branch reach edges kids) = (λ h. h, λ h. h)

  pub not_allowed_nowhere : (last depth : ℕ) (p : Place) → Fails w b formula last depth p reason.AnswerNotAllowed → ⊥
  not_allowed_nowhere last depth p h = (node_no_answer last depth p.faults p.excluded (out-Node p.node)).0 h

  pub not_first_nowhere : (last depth : ℕ) (p : Place) → Fails w b formula last depth p reason.AnswerNotFirst → ⊥
  not_first_nowhere last depth p h = (node_no_answer last depth p.faults p.excluded (out-Node p.node)).1 h
