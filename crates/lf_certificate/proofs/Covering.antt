-- An accepted tree covers the allowed sets: each of them reaches, or stands at the last depth.
use Rattle.std.proofs.Common.{◌≡◌, ℕ, zero, suc, ◌+◌, ◌<◌, ◌≤◌, Bool, true, false, List, [], ◌∷◌, length, take}
use Rattle.std.proofs.Common.{refl, sym, ap, ◌∙◌, subst, arith, inl, inr}
use Rattle.std.specs.Prelude.{◌⊎◌, slice_get, Some}
use Rattle.std.specs.List.{Contains}
use Rattle.std.proofs.lemmas.Option.{slice_get_within, get_or_from_slice_get}
use Rattle.std.proofs.lemmas.List.Elements.{Contains-append_cases}
use Rattle.lf_list.proofs.Laws.{none-in, cases_in}
use Rattle.lf_faults.specs.declared.fault.Parts.{Parts}
use Rattle.lf_faults.specs.declared.spec.Bounds.{Bounds}
use Rattle.lf_faults.specs.Faults.{inserted}
use Rattle.lf_faults.specs.Allowed.{IsAllowed, IsSubset, CanAdd}
use Rattle.lf_faults.proofs.Laws.{in_or_not, large_subset, cases_inserted, length-inserted, inserted-ascending, subset_allowed}
use Rattle.lf_sim.specs.Runs.{World}
use Rattle.lf_outcome.specs.declared.formula.Formula.{Formula}
use Rattle.lf_outcome.specs.Truth.{reaches}
use Rattle.lf_cone.specs.Cones.{IsOutside, IsRequired}
use Rattle.lf_cone.proofs.Laws.{still_reaches}
use Rattle.lf_tree.specs.declared.tree.Node.{Node, out-Node}
use Rattle.lf_tree.specs.declared.tree.Node.TheOpen.{Node-F}
use Rattle.lf_certificate.specs.Places.{Place, kid_at, place_from}
use Rattle.lf_certificate.specs.Accepted.{AreRight, IsRightNode, IsRightLeaf, IsRightBranch}
use Rattle.lf_certificate.proofs.PlacesLemmas.{kid_of, kid-some, from-kid}

-- the first of a list that the other has, or none of them
pub record FirstShared (edges wider : List Parts) : Type 0 where
  pub at : ℕ
  pub edge : Parts
  pub is : slice_get edges at ≡ Some edge
  pub inside : at < length edges
  pub shared : Contains wider edge
  pub before : (f : Parts) → Contains (take at edges) f → Contains wider f → ⊥

first_later : (e : Parts) (es wider : List Parts) → (Contains wider e → ⊥) → FirstShared es wider → FirstShared (e ∷ es) wider
first_later e es wider none found = record {
  at = suc found.at;
  edge = found.edge;
  is = found.is;
  inside = omega (arith, found.inside);
  shared = found.shared;
  before = λ f c there. elim (cases_in e (take found.at es) f c) [
    | inl same ↦ none (subst (Contains wider) (sym same) there)
    | inr later ↦ found.before f later there
  ];
}

pub first_shared : (edges wider : List Parts) → FirstShared edges wider ⊎ ((f : Parts) → Contains edges f → Contains wider f → ⊥)
first_shared [] wider = inr (λ f c there. none-in f c)
first_shared (e ∷ es) wider = elim (in_or_not wider e) [
  | inl here ↦ inl (record { at = 0; edge = e; is = refl; inside = omega arith; shared = here; before = λ f c there. none-in f c })
  | inr none ↦ elim (first_shared es wider) [
    | inl found ↦ inl (first_later e es wider none found)
    | inr never ↦ inr (λ f c there. elim (cases_in e es f c) [
      | inl same ↦ none (subst (Contains wider) (sym same) there)
      | inr later ↦ never f later there
    ])
  ]
]

none_below : (i : ℕ) → i < 0 → ⊥
none_below i below = omega (arith, below)

-- an item of a list at a place
pub item : {X : Type 0} (xs : List X) (i : ℕ) → i < length xs → (x : X) × (slice_get xs i ≡ Some x)
item [] i below = absurd (none_below i below)
item (x ∷ xs) zero below = (x, refl)
item (x ∷ xs) (suc i) below = item xs i (omega (arith, below))

pub item-in : {X : Type 0} (xs : List X) (i : ℕ) (x : X) → slice_get xs i ≡ Some x → Contains xs x
item-in xs i x is = (i, slice_get_within xs i x is, get_or_from_slice_get xs i x x is)

pub zero-suc : (m : ℕ) → 0 ≡ suc m → ⊥
zero-suc m e = omega (arith, e)

pub suc-one : (n m : ℕ) → suc n ≡ suc m → n ≡ m
suc-one n m e = omega (arith, e)

module _ {State Note Fact : Type 0} (w : World State Note Fact) (b : Bounds) (formula : Formula Fact) (last : ℕ) (lasts : 1 ≤ w.pause_length) where
  -- the set stands beneath the place, at the last depth
  pub record StandsLast (d : ℕ) (p : Place) (faults : List Parts) : Type 0 where
    pub path : List ℕ
    pub place : Place
    pub leads : place_from p path ≡ Some place
    pub here : d + length path ≡ last
    pub same : place.faults ≡ faults

  -- the place is to cover the set
  pub record IsBeneath (p : Place) (wider : List Parts) : Type 0 where
    pub allowed : IsAllowed b wider
    pub holds : IsSubset p.faults wider
    pub avoids : (f : Parts) → Contains p.excluded f → Contains wider f → ⊥
    pub few : length wider ≤ last

  abbrev pub Outcome : ℕ → Place → List Parts → Type 0
  Outcome d p wider = (reaches w wider formula ≡ true) ⊎ StandsLast d p wider

  abbrev pub Claim : ℕ → Type 0
  Claim n =
      (d : ℕ) (p : Place) → d + n ≡ last → length p.faults ≡ d → IsAllowed b p.faults → AreRight w b formula last d p
      → (wider : List Parts) → IsBeneath p wider → Outcome d p wider

  leaf : (says : Bool) (d : ℕ) (p : Place) → length p.faults ≡ d → IsAllowed b p.faults → IsRightLeaf w b formula last d p.faults says
      → (wider : List Parts) → IsBeneath p wider → StandsLast d p wider
  leaf says d p size allowed right wider beneath = record {
    path = [];
    place = p;
    leads = refl;
    here = omega (arith, right.here);
    same = large_subset p.faults wider allowed.ascending beneath.allowed.ascending beneath.holds (omega (arith, beneath.few, right.here, size));
  }

  through : (d i : ℕ) (p kid : Place) (wider : List Parts) → kid_at p i ≡ Some kid → StandsLast (d + 1) kid wider → StandsLast d p wider
  through d i p kid wider is s = record {
    path = i ∷ s.path;
    place = s.place;
    leads = from-kid p kid i s.path is ∙ s.leads;
    here = omega (arith, s.here);
    same = s.same;
  }

  right_beneath : (d i : ℕ) (p kid : Place) → kid_at p i ≡ Some kid → AreRight w b formula last d p → AreRight w b formula last (d + 1) kid
  right_beneath d i p kid is right = λ path q at far leads. right (i ∷ path) q at (omega (arith, far)) (from-kid p kid i path is ∙ leads)

  module _ (d : ℕ) (p : Place) (reach : List ℕ) (edges : List Parts) (kids : List Node) (opened : out-Node p.node ≡ Node-F.Branch reach edges kids)
      (size : length p.faults ≡ d) (allowed : IsAllowed b p.faults) (areright : AreRight w b formula last d p)
      (right : IsRightBranch w b formula last d p.faults p.excluded reach edges kids)
      (wider : List Parts) (beneath : IsBeneath p wider) where
    -- where no edge is in the set, the light cone decides it
    outside : ((f : Parts) → Contains edges f → Contains wider f → ⊥) → IsOutside w p.faults reach wider
    outside none = record {
      keeps = beneath.holds;
      adds = λ f c supports. elim (in_or_not p.faults f) [
        | inl here ↦ here
        | inr isnt ↦
            let more : IsSubset (inserted f p.faults) wider = λ x k. elim (cases_inserted f p.faults x k) [
              | inl same ↦ subst (Contains wider) same c
              | inr old ↦ beneath.holds x old
            ] in
            let can : CanAdd b p.faults f =
            (isnt, subset_allowed b wider (inserted f p.faults) beneath.allowed (inserted-ascending f p.faults isnt allowed.ascending) more) in
            absurd (none f ((right.required.each f).1 (record { supports = supports; allowed = can; included = λ out. beneath.avoids f out c })) c)
      ];
    }

    -- else the kid behind the first such edge does
    module _ (shared : FirstShared edges wider) (n : ℕ) (ih : Claim n) (sum : d + suc n ≡ last) where
      node : (x : Node) × (slice_get kids shared.at ≡ Some x)
      node = item kids shared.at (omega (arith, shared.inside, right.each))

      abbrev kid : Place
      kid = kid_of p edges shared.at shared.edge node.0

      kid_is : kid_at p shared.at ≡ Some kid
      kid_is = kid-some p reach edges kids shared.at shared.edge node.0 opened shared.is node.1

      required : IsRequired w p.faults b reach p.excluded shared.edge
      required = (right.required.each shared.edge).0 (item-in edges shared.at shared.edge shared.is)

      kid_beneath : IsBeneath kid wider
      kid_beneath = record {
        allowed = beneath.allowed;
        holds = λ x c. elim (cases_inserted shared.edge p.faults x c) [
          | inl same ↦ subst (Contains wider) same shared.shared
          | inr old ↦ beneath.holds x old
        ];
        avoids = λ f c there. elim (Contains-append_cases p.excluded (take shared.at edges) f c) [
          | inl out ↦ beneath.avoids f out there
          | inr before ↦ shared.before f before there
        ];
        few = beneath.few;
      }

      decided : Outcome d p wider
      decided = elim (ih (d + 1) kid (omega (arith, sum)) (length-inserted shared.edge p.faults ∙ ap (λ k. k + 1) size) required.allowed.1
          (right_beneath d shared.at p kid kid_is areright) wider kid_beneath) [
            | inl reaching ↦ inl reaching
            | inr stands ↦ inr (through d shared.at p kid wider kid_is stands)
          ]

    branch : (n : ℕ) → Claim n → d + suc n ≡ last → Outcome d p wider
    branch n ih sum = elim (first_shared edges wider) [
      | inl shared ↦ decided shared n ih sum
      | inr none ↦ inl (still_reaches w b p.faults wider reach lasts right.closed beneath.allowed (outside none) formula right.within)
    ]

  not_above : (d : ℕ) → d + 0 ≡ last → d < last → ⊥
  not_above d sum above = omega (arith, sum, above)

  -- by the kind of the node
  by_node : (n : ℕ) → (ih : (m : ℕ) → n ≡ suc m → Claim m) → (d : ℕ) (p : Place) (y : Node-F Node) → out-Node p.node ≡ y
      → d + n ≡ last → length p.faults ≡ d → IsAllowed b p.faults → AreRight w b formula last d p → IsRightNode w b formula last d p.faults p.excluded y
      → (wider : List Parts) → IsBeneath p wider → Outcome d p wider
  by_node n ih d p Node-F.Misses opened sum size allowed areright right wider beneath = inr (leaf false d p size allowed right wider beneath)
  by_node n ih d p Node-F.Reaches opened sum size allowed areright right wider beneath = inr (leaf true d p size allowed right wider beneath)
  by_node zero ih d p (Node-F.Branch reach edges kids) opened sum size allowed areright right wider beneath =
      absurd (not_above d sum right.above)
  by_node (suc n) ih d p (Node-F.Branch reach edges kids) opened sum size allowed areright right wider beneath =
      branch d p reach edges kids opened size allowed areright right wider beneath n (ih n refl) sum

  pub claim : (n : ℕ) → Claim n
  claim zero d p sum size allowed areright wider beneath =
      by_node zero (λ m e. absurd (zero-suc m e)) d p (out-Node p.node) refl sum size allowed areright (areright [] p d (omega arith) refl) wider beneath
  claim (suc n) d p sum size allowed areright wider beneath =
      by_node (suc n) (λ m e. subst Claim (suc-one n m e) (claim n)) d p (out-Node p.node) refl sum size allowed areright
      (areright [] p d (omega arith) refl) wider beneath
