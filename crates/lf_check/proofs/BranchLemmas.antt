-- The form of a reach, and the edges of a branch.
use Rattle.std.proofs.Common.{◌≡◌, ◌==◌, ℕ, ◌<◌, ◌≤◌, Bool, true, false, List, [], ◌∷◌, ◌++◌, length, refl, sym, ap}
use Rattle.std.proofs.Common.{◌∙◌, subst, inl, inr, arith}
use Rattle.std.specs.Prelude.{◌⊎◌, ◌↔◌, Option, None, Some, MatchOption, IsTrue}
use Rattle.std.specs.List.{Contains}
use Rattle.std.proofs.lemmas.Bool.Decides.{Decides-eqb}
use Rattle.std.proofs.lemmas.List.Elements.{Contains-append_left, Contains-append_right, Contains-append_cases}
use Rattle.lf_list.proofs.Laws.{none-in, Contains-first, Contains-more, cases_in}
use Rattle.lf_faults.specs.declared.fault.Parts.{Parts}
use Rattle.lf_faults.specs.declared.spec.Bounds.{Bounds}
use Rattle.lf_faults.proofs.Laws.{in_or_not}
use Rattle.lf_sim.specs.Runs.{World}
use Rattle.lf_outcome.specs.declared.formula.Formula.{Formula}
use Rattle.lf_outcome.specs.Truth.{reaches}
use Rattle.lf_cone.specs.Cones.{IsClosed, IsRequired, AreRequired}
use Rattle.lf_cone.proofs.Laws.{required_one}
use Rattle.lf_tree.specs.declared.tree.Node.{Node}
use Rattle.lf_certificate.specs.declared.reason.Reason.{Reason}
use Rattle.lf_certificate.specs.declared.reason.Reason.TheVariants as reason
use Rattle.lf_certificate.specs.Accepted.{IsRightBranch}
use Rattle.lf_certificate.specs.Faults.{Suffices}
use Rattle.lf_check.specs.Nodes.{FirstOfBranch, FirstOfEdges, FirstOfReach}

module _ {State Note Fact : Type 0} (w : World State Note Fact) (faults : List Parts) (b : Bounds) (reach : List ℕ) (excluded edges : List Parts) where
  abbrev TriesAll : Type 0
  TriesAll = (f : Parts) → IsRequired w faults b reach excluded f → Contains edges f

  -- none is required beside the edges: each that is required is one of them
  none-beside : AreRequired w faults b reach (excluded ++ edges) [] → TriesAll
  none-beside none f r = elim (in_or_not edges f) [
    | inl there ↦ there
    | inr never ↦ absurd (none-in f ((none.each f).1 (record {
      supports = r.supports;
      allowed = r.allowed;
      included = λ c. elim (Contains-append_cases excluded edges f c) [ inl out ↦ r.included out | inr there ↦ never there ];
    })))
  ]

  one-beside : (x : Parts) (xs : List Parts) → AreRequired w faults b reach (excluded ++ edges) (x ∷ xs) → TriesAll → ⊥
  one-beside x xs some all =
      let r = (some.each x).0 (Contains-first x xs) in
      r.included (Contains-append_right excluded edges x (all x (record {
        supports = r.supports;
        allowed = r.allowed;
        included = λ c. r.included (Contains-append_left excluded edges x c);
      })))

  beside-iff : (found : List Parts) → AreRequired w faults b reach (excluded ++ edges) found → (found ≡ []) ↔ TriesAll
  beside-iff [] are = (λ e. none-beside are, λ all. refl)
  beside-iff (x ∷ xs) are = (λ e. let never : ⊥ = cc in absurd never, λ all. absurd (one-beside x xs are all))

  empty : (found : List Parts) → length found ≡ 0 → found ≡ []
  empty [] e = refl
  empty (x ∷ xs) e = let never : ⊥ = omega arith in absurd never

  -- what a test of their number says of the faults that are required beside the edges
  pub tries_all-iff : (passed found : List Parts) (n : ℕ) (result : Bool) → passed ≡ excluded ++ edges → AreRequired w faults b reach passed found
      → n ≡ length found → result ≡ (n == 0) → IsTrue result ↔ TriesAll
  tries_all-iff passed found n result is are long test =
      let iff = beside-iff found (subst (λ xs. AreRequired w faults b reach xs found) is are) in
      let d = Decides-eqb n 0 in (
        λ h. iff.0 (empty found (sym long ∙ d.0 (sym test ∙ h))),
        λ all. let none : length found ≡ 0 = subst (λ xs. length xs ≡ 0) (sym (iff.1 all)) refl in test ∙ d.1 (long ∙ none),
      )

-- each of these is one of those, or one isn't
missing_or_not : (xs ys : List Parts) → ((f : Parts) → Contains xs f → Contains ys f) ⊎ ((f : Parts) × Contains xs f × (Contains ys f → ⊥))
missing_or_not [] ys = inl (λ f c. absurd (none-in f c))
missing_or_not (x ∷ xs) ys = elim (in_or_not ys x) [
  | inr never ↦ inr (x, Contains-first x xs, never)
  | inl there ↦ elim (missing_or_not xs ys) [
    | inr t ↦ inr (t.0, Contains-more x xs t.0 t.1, t.2)
    | inl all ↦ inl (λ f c. elim (cases_in x xs f c) [ inl same ↦ subst (Contains ys) same there | inr later ↦ all f later ])
  ]
]

-- what is wrong with edges that aren't the required ones
module _ {State Note Fact : Type 0} (w : World State Note Fact) (b : Bounds) (faults excluded : List Parts)
    (reach : List ℕ) (edges required : List Parts) (are : AreRequired w faults b reach excluded required) where
  pub edges-right : edges ≡ required → AreRequired w faults b reach excluded edges
  edges-right same = subst (AreRequired w faults b reach excluded) (sym same) are

  pub edges-differ : (edges ≡ required → ⊥) → ((f : Parts) → IsRequired w faults b reach excluded f → Contains edges f)
      → FirstOfEdges w b faults excluded reach edges reason.EdgesDiffer
  edges-differ other all = inr (refl, all, λ r. other (required_one w faults b reach excluded edges required r are))

  pub edge-missing : (((f : Parts) → IsRequired w faults b reach excluded f → Contains edges f) → ⊥)
      → FirstOfEdges w b faults excluded reach edges reason.EdgeMissing
  edge-missing some = elim (missing_or_not required edges) [
    | inl all ↦ absurd (some (λ f r. all f ((are.each f).1 r)))
    | inr t ↦ inl (refl, (t.0, (are.each t.0).0 t.1, t.2))
  ]

-- what is found of a reach, and of edges
module _ {State Note Fact : Type 0} (w : World State Note Fact) (b : Bounds) (formula : Formula Fact) (faults : List Parts) where
  abbrev ReachFound : List ℕ → Option Reason → Type 0
  ReachFound reach found = MatchOption found (Suffices w formula faults reach × IsClosed w faults reach) (FirstOfReach w formula faults reach)

  pub right-reach : (reach : List ℕ) (found : Option Reason) → found ≡ None → ReachFound reach found
      → Suffices w formula faults reach × IsClosed w faults reach
  right-reach reach found is h = subst (ReachFound reach) is h

module _ {State Note Fact : Type 0} (w : World State Note Fact) (b : Bounds) (faults excluded : List Parts) (reach : List ℕ) (edges : List Parts) where
  abbrev EdgesFound : Option Reason → Type 0
  EdgesFound found = MatchOption found (AreRequired w faults b reach excluded edges) (FirstOfEdges w b faults excluded reach edges)

  pub right-edges : (found : Option Reason) → found ≡ None → EdgesFound found → AreRequired w faults b reach excluded edges
  right-edges found is h = subst EdgesFound is h

  pub wrong-edges : (found : Option Reason) (why : Reason) → found ≡ Some why → EdgesFound found
      → FirstOfEdges w b faults excluded reach edges why
  wrong-edges found why is h = subst EdgesFound is h

-- what is wrong with a branch, in turn
module _ {State Note Fact : Type 0} (w : World State Note Fact) (b : Bounds) (formula : Formula Fact) (last depth : ℕ) (faults excluded : List Parts)
    (reach : List ℕ) (edges : List Parts) (kids : List Node) where
  abbrev First : Reason → Type 0
  First = FirstOfBranch w b formula last depth faults excluded reach edges kids

  pub branch-deep : last ≤ depth → First reason.WrongDepth
  branch-deep far = record {
    fails = far;
    above = λ later. let never : ⊥ = omega (arith, later) in absurd never;
    reaching = λ later. let never : ⊥ = omega (arith, later) in absurd never;
    suffices = λ later. let never : ⊥ = omega (arith, later) in absurd never;
    closed = λ later. let never : ⊥ = omega (arith, later) in absurd never;
    tried = λ later. let never : ⊥ = omega (arith, later) in absurd never;
    required = λ later. let never : ⊥ = omega (arith, later) in absurd never;
  }

  pub branch-misses : depth < last → reaches w faults formula ≡ false → First reason.BranchMisses
  branch-misses above misses = record {
    fails = misses;
    above = λ _. above;
    reaching = λ later. let never : ⊥ = omega (arith, later) in absurd never;
    suffices = λ later. let never : ⊥ = omega (arith, later) in absurd never;
    closed = λ later. let never : ⊥ = omega (arith, later) in absurd never;
    tried = λ later. let never : ⊥ = omega (arith, later) in absurd never;
    required = λ later. let never : ⊥ = omega (arith, later) in absurd never;
  }

  pub branch-reach : depth < last → reaches w faults formula ≡ true → (why : Reason) → FirstOfReach w formula faults reach why → First why
  branch-reach above reaching why (inl t) = subst First (sym t.0) (record {
    fails = t.1;
    above = λ _. above;
    reaching = λ _. reaching;
    suffices = λ later. let never : ⊥ = omega (arith, later) in absurd never;
    closed = λ later. let never : ⊥ = omega (arith, later) in absurd never;
    tried = λ later. let never : ⊥ = omega (arith, later) in absurd never;
    required = λ later. let never : ⊥ = omega (arith, later) in absurd never;
  })
  branch-reach above reaching why (inr t) = subst First (sym t.0) (record {
    fails = t.2;
    above = λ _. above;
    reaching = λ _. reaching;
    suffices = λ _. t.1;
    closed = λ later. let never : ⊥ = omega (arith, later) in absurd never;
    tried = λ later. let never : ⊥ = omega (arith, later) in absurd never;
    required = λ later. let never : ⊥ = omega (arith, later) in absurd never;
  })

  pub branch-edges : depth < last → reaches w faults formula ≡ true → Suffices w formula faults reach × IsClosed w faults reach
      → (why : Reason) → FirstOfEdges w b faults excluded reach edges why → First why
  branch-edges above reaching right why (inl t) = subst First (sym t.0) (record {
    fails = t.1;
    above = λ _. above;
    reaching = λ _. reaching;
    suffices = λ _. right.0;
    closed = λ _. right.1;
    tried = λ later. let never : ⊥ = omega (arith, later) in absurd never;
    required = λ later. let never : ⊥ = omega (arith, later) in absurd never;
  })
  branch-edges above reaching right why (inr t) = subst First (sym t.0) (record {
    fails = t.2;
    above = λ _. above;
    reaching = λ _. reaching;
    suffices = λ _. right.0;
    closed = λ _. right.1;
    tried = λ _. t.1;
    required = λ later. let never : ⊥ = omega (arith, later) in absurd never;
  })

  pub branch-kids : depth < last → reaches w faults formula ≡ true → Suffices w formula faults reach × IsClosed w faults reach
      → AreRequired w faults b reach excluded edges → (length kids ≡ length edges → ⊥) → First reason.KidsDiffer
  branch-kids above reaching right are other = record {
    fails = other;
    above = λ _. above;
    reaching = λ _. reaching;
    suffices = λ _. right.0;
    closed = λ _. right.1;
    tried = λ _ f r. (are.each f).1 r;
    required = λ _. are;
  }

  pub branch-right : depth < last → Suffices w formula faults reach × IsClosed w faults reach → AreRequired w faults b reach excluded edges
      → length kids ≡ length edges → IsRightBranch w b formula last depth faults excluded reach edges kids
  branch-right above right are each = record {
    above = above;
    closed = right.1;
    within = right.0.1;
    required = are;
    each = each;
  }

-- one list is put behind another
pub joined : (xs ys none first both passed : List Parts) → none ≡ [] → first ≡ none ++ xs → both ≡ first ++ ys → passed ≡ both → passed ≡ xs ++ ys
joined xs ys none first both passed e₁ e₂ e₃ e₄ = e₄ ∙ e₃ ∙ ap (λ zs. zs ++ ys) (e₂ ∙ ap (λ zs. zs ++ xs) e₁)
