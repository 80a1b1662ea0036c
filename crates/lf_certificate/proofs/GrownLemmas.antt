-- The tree of a search is accepted, and there is at most one.
use Rattle.std.proofs.Common.{◌≡◌, ℕ, zero, suc, ◌+◌, ◌<◌, ◌≤◌, Bool, true, false, not, List, [], ◌∷◌, ◌++◌, length, take}
use Rattle.std.proofs.Common.{refl, sym, ap, ◌∙◌, subst, arith, inl, inr}
use Rattle.std.specs.Prelude.{slice_get, Option, None, Some}
use Rattle.std.proofs.lemmas.Bool.{false≢true}
use Rattle.std.proofs.lemmas.Option.{slice_get_within}
use Rattle.lf_faults.specs.declared.fault.Parts.{Parts}
use Rattle.lf_faults.specs.declared.spec.Bounds.{Bounds}
use Rattle.lf_faults.specs.Faults.{inserted}
use Rattle.lf_faults.specs.Allowed.{IsAllowed}
use Rattle.lf_faults.proofs.Laws.{first_is_one}
use Rattle.lf_sim.specs.Runs.{World}
use Rattle.lf_outcome.specs.declared.formula.Formula.{Formula}
use Rattle.lf_outcome.specs.Truth.{reaches}
use Rattle.lf_outcome.proofs.Laws.{evidence-suffices}
use Rattle.lf_cone.specs.Cones.{IsSharp, AreRequired}
use Rattle.lf_cone.proofs.Laws.{sharp_one, required_one}
use Rattle.lf_tree.specs.declared.tree.Tree.{Tree}
use Rattle.lf_tree.specs.declared.tree.Node.{Node, out-Node, roll-Node, roll-out-Node}
use Rattle.lf_tree.specs.declared.tree.Node.TheOpen.{Node-F}
use Rattle.lf_certificate.specs.Places.{Place, place_from, place_at}
use Rattle.lf_certificate.specs.Accepted.{IsBounded, IsAccepted, IsAnswer, IsAllowedAnswer, IsFirstIn, MissesIn, IsRight, IsRightNode, last_depth}
use Rattle.lf_certificate.specs.Grown.{IsReachFor, IsGrownNode, IsGrownBranch, IsGrown, IsTreeOf}
use Rattle.lf_certificate.proofs.AllowedLemmas.{some-one}
use Rattle.lf_certificate.proofs.AnswerLemmas.{each_set}
use Rattle.lf_certificate.proofs.CoverLemmas.{set_at}
use Rattle.lf_certificate.proofs.Covering.{item, zero-suc, suc-one}
use Rattle.lf_certificate.proofs.PlacesLemmas.{kid_of, kid-some, from-kid}

module _ {State Note Fact : Type 0} (w : World State Note Fact) (b : Bounds) (formula : Formula Fact) where
  -- what has grown is right
  pub right_from : (last d : ℕ) (faults excluded : List Parts) (y : Node-F Node) → IsGrownNode w b formula last d faults excluded y
      → IsRightNode w b formula last d faults excluded y
  right_from last d faults excluded Node-F.Misses grown = grown
  right_from last d faults excluded Node-F.Reaches grown = grown
  right_from last d faults excluded (Node-F.Branch reach edges kids) grown = record {
    above = grown.above;
    closed = grown.sharp.2.closed;
    within = evidence-suffices w faults formula grown.sharp.0 grown.sharp.1 reach grown.sharp.2.covers;
    required = grown.required;
    each = grown.each;
  }

  module _ (tree : Tree) (bounded : IsBounded w b) (is : IsTreeOf w b formula tree) where
    places : (path : List ℕ) (p : Place) → place_at tree path ≡ Some p → IsRight w b formula (last_depth b tree.answer) (length path) p
    places path p leads =
        right_from (last_depth b tree.answer) (length path) p.faults p.excluded (out-Node p.node) (is.places path p leads)

    missing_allowed : (faults : List Parts) → MissesIn w b formula tree faults → IsAllowed b faults
    missing_allowed faults m = subst (IsAllowed b) m.same (set_at w b formula tree bounded places m.path m.place m.leads).0

    allowed_answer : (answer : Option (List Parts)) → IsAnswer w b formula answer → IsAllowedAnswer b answer
    allowed_answer None found = tt
    allowed_answer (Some answer) found = found.0

    missed : (r : Bool) → not r ≡ true → r ≡ true → ⊥
    missed true h e = false≢true h
    missed false h e = false≢true e

    first_in : (answer : Option (List Parts)) → tree.answer ≡ answer → IsAnswer w b formula answer → IsFirstIn w b formula tree answer
    first_in None at found =
        λ faults m.
        let reaching : not (reaches w faults formula) ≡ false = found faults (missing_allowed faults m) in
        false≢true (sym reaching ∙ ap not m.misses)
    first_in (Some answer) at found =
        let small : length answer ≤ last_depth b tree.answer = subst (λ o. length answer ≤ last_depth b o) (sym at) (omega arith) in
        let stands : MissesIn w b formula tree answer = elim (each_set w b formula tree bounded places answer found.0 small) [
          | inl reaching ↦ absurd (missed (reaches w answer formula) found.1 reaching)
          | inr missing ↦ missing.1
        ] in
        (stands, λ faults m. found.2 faults (missing_allowed faults m) (ap not m.misses))

    pub is_accepted : IsAccepted w b formula tree
    is_accepted = record {
      allowed = allowed_answer tree.answer is.answer;
      places = places;
      first = first_in tree.answer refl is.answer;
    }

-- two lists with the same items are one
same_items : {X : Type 0} (xs ys : List X) → length xs ≡ length ys
    → ((i : ℕ) (x y : X) → slice_get xs i ≡ Some x → slice_get ys i ≡ Some y → x ≡ y) → xs ≡ ys
same_items [] [] size each = refl
same_items [] (y ∷ ys) size each = absurd (none_some size)
  where
    none_some : {n : ℕ} → 0 ≡ suc n → ⊥
    none_some e = omega (arith, e)
same_items (x ∷ xs) [] size each = absurd (some_none size)
  where
    some_none : {n : ℕ} → suc n ≡ 0 → ⊥
    some_none e = omega (arith, e)
same_items (x ∷ xs) (y ∷ ys) size each =
    let heads : x ≡ y = each 0 x y refl refl in
    let tails : xs ≡ ys = same_items xs ys (omega (arith, size)) (λ i u v u_is v_is. each (suc i) u v u_is v_is) in
    ap (λ z. z ∷ xs) heads ∙ ap (λ zs. y ∷ zs) tails

module _ {State Note Fact : Type 0} (w : World State Note Fact) (b : Bounds) (formula : Formula Fact) (last : ℕ) where
  abbrev placed : List Parts → List Parts → Node → Place
  placed faults excluded x = record { node = x; faults = faults; excluded = excluded }

  -- all that stands beneath the node has grown
  abbrev pub AreGrown : ℕ → List Parts → List Parts → Node → Type 0
  AreGrown d faults excluded x =
      (path : List ℕ) (q : Place) (at : ℕ) → at ≡ d + length path → place_from (placed faults excluded x) path ≡ Some q → IsGrown w b formula last at q

  reach_one : (faults : List Parts) (r s : List ℕ) → IsReachFor w b formula faults r → IsReachFor w b formula faults s → r ≡ s
  reach_one faults r s h k =
      let points : h.0 ≡ k.0 = some-one h.0 k.0 (sym h.1 ∙ k.1) in
      sharp_one w faults k.0 r s (subst (λ ps. IsSharp w faults ps r) points h.2) k.2

  abbrev Same : ℕ → Type 0
  Same n =
      (d : ℕ) (faults excluded : List Parts) (x y : Node) → d + n ≡ last → AreGrown d faults excluded x → AreGrown d faults excluded y → x ≡ y

  rolled : (x y : Node) (u : Node-F Node) → out-Node x ≡ u → out-Node y ≡ u → x ≡ y
  rolled x y u x_is y_is = sym (roll-out-Node x) ∙ ap roll-Node (x_is ∙ sym y_is) ∙ roll-out-Node y

  module _ (d : ℕ) (faults excluded : List Parts) (x y : Node) (xs : AreGrown d faults excluded x) (ys : AreGrown d faults excluded y)
      (reach reach2 : List ℕ) (edges edges2 : List Parts) (kids kids2 : List Node)
      (x_is : out-Node x ≡ Node-F.Branch reach edges kids) (y_is : out-Node y ≡ Node-F.Branch reach2 edges2 kids2)
      (x_has : IsGrownBranch w b formula last d faults excluded reach edges kids)
      (y_has : IsGrownBranch w b formula last d faults excluded reach2 edges2 kids2) where
    reaches_same : reach ≡ reach2
    reaches_same = reach_one faults reach reach2 x_has.sharp y_has.sharp

    edges_same : edges ≡ edges2
    edges_same =
        required_one w faults b reach2 excluded edges edges2 (subst (λ r. AreRequired w faults b r excluded edges) reaches_same x_has.required)
        y_has.required

    kid_grown : (z : Node) (zs : AreGrown d faults excluded z) (r : List ℕ) (es : List Parts) (ks : List Node) (i : ℕ) (edge : Parts) (kid : Node)
        → out-Node z ≡ Node-F.Branch r es ks → slice_get es i ≡ Some edge → slice_get ks i ≡ Some kid
        → AreGrown (d + 1) (inserted edge faults) (excluded ++ take i es) kid
    kid_grown z zs r es ks i edge kid z_is edge_is kid_is path q at far go =
        zs (i ∷ path) q at (omega (arith, far))
        (from-kid (placed faults excluded z) (kid_of (placed faults excluded z) es i edge kid) i path
        (kid-some (placed faults excluded z) r es ks i edge kid z_is edge_is kid_is) ∙ go)

    kids_same : (n : ℕ) → Same n → d + suc n ≡ last → kids ≡ kids2
    kids_same n ih sum =
        same_items kids kids2 (x_has.each ∙ ap length edges_same ∙ sym y_has.each) (λ i u v u_is v_is.
        let e = item edges i (omega (arith, slice_get_within kids i u u_is, x_has.each)) in
        let e2 : slice_get edges2 i ≡ Some e.0 = ap (λ es. slice_get es i) (sym edges_same) ∙ e.1 in
        let v_grown : AreGrown (d + 1) (inserted e.0 faults) (excluded ++ take i edges) v =
        subst (λ es. AreGrown (d + 1) (inserted e.0 faults) (excluded ++ take i es) v) (sym edges_same)
        (kid_grown y ys reach2 edges2 kids2 i e.0 v y_is e2 v_is) in
        ih (d + 1) (inserted e.0 faults) (excluded ++ take i edges) u v (omega (arith, sum))
        (kid_grown x xs reach edges kids i e.0 u x_is e.1 u_is) v_grown)

    branches_same : (n : ℕ) → Same n → d + suc n ≡ last → x ≡ y
    branches_same n ih sum =
        rolled x y (Node-F.Branch reach2 edges2 kids2)
        (x_is ∙ ap (λ r. Node-F.Branch r edges kids) reaches_same ∙ ap (λ es. Node-F.Branch reach2 es kids) edges_same
        ∙ ap (λ ks. Node-F.Branch reach2 edges2 ks) (kids_same n ih sum)) y_is

  never_both : (r : Bool) → r ≡ true → r ≡ false → ⊥
  never_both r t f = false≢true (sym f ∙ t)

  not_here : {d : ℕ} → d ≡ last → d < last → ⊥
  not_here here above = omega (arith, here, above)

  not_above : {d : ℕ} → d + 0 ≡ last → d < last → ⊥
  not_above sum above = omega (arith, sum, above)

  by_nodes : (n : ℕ) → ((m : ℕ) → n ≡ suc m → Same m) → (d : ℕ) (faults excluded : List Parts) (x y : Node) (u v : Node-F Node)
      → out-Node x ≡ u → out-Node y ≡ v → d + n ≡ last → AreGrown d faults excluded x → AreGrown d faults excluded y
      → IsGrownNode w b formula last d faults excluded u → IsGrownNode w b formula last d faults excluded v → x ≡ y
  by_nodes n ih d faults excluded x y Node-F.Misses Node-F.Misses x_is y_is sum xs ys x_has y_has = rolled x y Node-F.Misses x_is y_is
  by_nodes n ih d faults excluded x y Node-F.Reaches Node-F.Reaches x_is y_is sum xs ys x_has y_has = rolled x y Node-F.Reaches x_is y_is
  by_nodes n ih d faults excluded x y Node-F.Misses Node-F.Reaches x_is y_is sum xs ys x_has y_has =
      absurd (never_both (reaches w faults formula) y_has.truth x_has.truth)
  by_nodes n ih d faults excluded x y Node-F.Reaches Node-F.Misses x_is y_is sum xs ys x_has y_has =
      absurd (never_both (reaches w faults formula) x_has.truth y_has.truth)
  by_nodes n ih d faults excluded x y Node-F.Misses (Node-F.Branch r es ks) x_is y_is sum xs ys x_has y_has =
      absurd (not_here x_has.here y_has.above)
  by_nodes n ih d faults excluded x y Node-F.Reaches (Node-F.Branch r es ks) x_is y_is sum xs ys x_has y_has =
      absurd (not_here x_has.here y_has.above)
  by_nodes n ih d faults excluded x y (Node-F.Branch r es ks) Node-F.Misses x_is y_is sum xs ys x_has y_has =
      absurd (not_here y_has.here x_has.above)
  by_nodes n ih d faults excluded x y (Node-F.Branch r es ks) Node-F.Reaches x_is y_is sum xs ys x_has y_has =
      absurd (not_here y_has.here x_has.above)
  by_nodes zero ih d faults excluded x y (Node-F.Branch r es ks) (Node-F.Branch r2 es2 ks2) x_is y_is sum xs ys x_has y_has =
      absurd (not_above sum x_has.above)
  by_nodes (suc n) ih d faults excluded x y (Node-F.Branch r es ks) (Node-F.Branch r2 es2 ks2) x_is y_is sum xs ys x_has y_has =
      branches_same d faults excluded x y xs ys r r2 es es2 ks ks2 x_is y_is x_has y_has n (ih n refl) sum

  pub same : (n : ℕ) → Same n
  same zero d faults excluded x y sum xs ys =
      by_nodes zero (λ m e. absurd (zero-suc m e)) d faults excluded x y (out-Node x) (out-Node y) refl refl sum xs ys
      (xs [] (placed faults excluded x) d (omega arith) refl) (ys [] (placed faults excluded y) d (omega arith) refl)
  same (suc n) d faults excluded x y sum xs ys =
      by_nodes (suc n) (λ m e. subst Same (suc-one n m e) (same n)) d faults excluded x y (out-Node x) (out-Node y) refl refl sum xs ys
      (xs [] (placed faults excluded x) d (omega arith) refl) (ys [] (placed faults excluded y) d (omega arith) refl)

module _ {State Note Fact : Type 0} (w : World State Note Fact) (b : Bounds) (formula : Formula Fact) where
  all_grown : (tree : Tree) (last : ℕ) → last_depth b tree.answer ≡ last → IsTreeOf w b formula tree → AreGrown w b formula last 0 [] [] tree.root
  all_grown tree last is grown path q at far go =
      let near : length path ≡ at = omega (arith, far) in
      subst (λ k. IsGrown w b formula k at q) is (subst (λ d. IsGrown w b formula (last_depth b tree.answer) d q) near (grown.places path q go))

  -- two trees of a search are one
  pub tree_one : (one other : Tree) → IsTreeOf w b formula one → IsTreeOf w b formula other → one ≡ other
  tree_one one other h k =
      let answers : one.answer ≡ other.answer = first_is_one b (λ faults. not (reaches w faults formula)) one.answer other.answer h.answer k.answer in
      let roots : one.root ≡ other.root =
      same w b formula (last_depth b other.answer) (last_depth b other.answer) 0 [] [] one.root other.root (omega arith)
      (all_grown one (last_depth b other.answer) (ap (last_depth b) answers) h) (all_grown other (last_depth b other.answer) refl k) in
      ap (λ a. record { answer = a; root = one.root }) answers ∙ ap (λ r. record { answer = other.answer; root = r }) roots
