-- What is found where the nodes of a tree are judged one after another, and what it says of the tree.
use Rattle.std.proofs.Common.{◌≡◌, ℕ, ◌+◌, ◌<◌, ◌≤◌, Bool, true, false, List, [], ◌∷◌, ◌++◌, length, get_or}
use Rattle.std.proofs.Common.{refl, sym, ap, ◌∙◌, subst, arith, inl, inr}
use Rattle.std.specs.Prelude.{◌⊎◌, slice_get, Option, None, Some, MatchOption}
use Rattle.std.proofs.lemmas.Bool.{both_ways, cases_lt, false≢true}
use Rattle.std.proofs.lemmas.Option.{none-some, same_Some, slice_get_within, slice_get-get_or, get_or_from_slice_get}
use Rattle.std.proofs.lemmas.List.{get_or_append_left, length-append}
use Rattle.std.proofs.Math.Seq.{get_or-append_seam}
use Rattle.lf_faults.specs.declared.fault.Parts.{Parts}
use Rattle.lf_faults.specs.declared.spec.Bounds.{Bounds}
use Rattle.lf_faults.specs.Faults.{set_is_before}
use Rattle.lf_sim.specs.Runs.{World}
use Rattle.lf_outcome.specs.declared.formula.Formula.{Formula}
use Rattle.lf_outcome.specs.Truth.{reaches}
use Rattle.lf_tree.specs.declared.tree.Tree.{Tree}
use Rattle.lf_tree.specs.declared.tree.Node.{Node, out-Node}
use Rattle.lf_tree.specs.declared.tree.Node.TheVariants as kind
use Rattle.lf_tree.specs.declared.tree.Node.TheOpen.{Node-F}
use Rattle.lf_certificate.specs.declared.reason.Reason.{Reason}
use Rattle.lf_certificate.specs.Places.{Place}
use Rattle.lf_certificate.specs.Accepted.{IsRightNode}
use Rattle.lf_check.specs.declared.found.Found.{Found}
use Rattle.lf_check.specs.declared.found.Found.TheVariants as found
use Rattle.lf_check.specs.Nodes.{IsFaultAt, place_of}
use Rattle.lf_check.specs.Walks.{IsFirstOf, Lowers}
use Rattle.lf_check.specs.Rows.{ways_of, StandsAt, edges_in, edges_of, IsBarred, IsSetAt, AreSets}
use Rattle.lf_check.specs.Rows as rows
use Rattle.lf_check.proofs.FirstsLemmas.{none_some, not_before, not_itself}
use Rattle.lf_check.proofs.NodeLemmas.{opened-Misses, opened-Reaches, opened-Branch}
use Rattle.lf_check.proofs.RowLemmas.{place_one, faults_at}

abbrev is_other : Node-F Node → Bool
is_other Node-F.Misses = false
is_other Node-F.Reaches = true
is_other (Node-F.Branch reach edges kids) = true

-- one set more
pub sets-more : (tree : Tree) (sets news : List (Option (List Parts))) (set : Option (List Parts)) → AreSets tree sets
    → IsSetAt tree (length sets) set → news ≡ sets ++ set ∷ [] → AreSets tree news
sets-more tree sets news set are here is at o has =
    let told : get_or news at None ≡ o = get_or_from_slice_get news at o None has in
    let same : get_or news at None ≡ get_or (sets ++ set ∷ []) at None = ap (λ xs. get_or xs at None) is in
    let long : length news ≡ length sets + 1 = ap length is ∙ length-append sets (set ∷ []) in
    let within : at < length news = slice_get_within news at o has in
    elim (cases_lt at (length sets)) [
      | inl less ↦ are at o (slice_get-get_or sets at None less ∙ ap Some (sym (get_or_append_left sets (set ∷ []) None at less) ∙ sym same ∙ told))
      | inr more ↦
          let last : length sets ≡ at = omega arith in
          let own : set ≡ o =
          sym (get_or-append_seam sets set [] None) ∙ ap (λ k. get_or (sets ++ set ∷ []) k None) last ∙ sym same ∙ told in
          subst (λ k. IsSetAt tree k o) last (subst (IsSetAt tree (length sets)) own here)
    ]

-- where a part ends
pub same_end : (to at near len n : ℕ) → (to < near → to ≡ len) → to ≤ near → to ≡ at → len ≡ n → (at ≡ near) ⊎ (at ≡ n)
same_end to at near len n whole far same count = elim (cases_lt to near) [
  | inl less ↦ inr (sym same ∙ whole less ∙ count)
  | inr more ↦ inl (omega arith)
]

-- The first of some sets
pub first-same : (P Q : List Parts → Type 0) (o : Option (List Parts)) → ((s : List Parts) → P s → Q s) → ((s : List Parts) → Q s → P s)
    → IsFirstOf P o → IsFirstOf Q o
first-same P Q None to back h = λ s q. h s (back s q)
first-same P Q (Some x) to back h = (to x h.0, λ s q. h.1 s (back s q))

-- of some and of others, where the first of each is known
pub first-both : (P Q : List Parts → Type 0) (a o c : Option (List Parts)) → IsFirstOf P a → IsFirstOf Q o
    → MatchOption o (c ≡ a) (λ set. Lowers (λ one. set ≡ one) a c) → IsFirstOf (λ s. P s ⊎ Q s) c
first-both P Q a None c h none same =
    subst (IsFirstOf (λ s. P s ⊎ Q s)) (sym same) (first-same P (λ s. P s ⊎ Q s) a (λ s p. inl p)
    (λ s k. elim k [ inl p ↦ p | inr q ↦ absurd (none s q) ]) h)
first-both P Q a (Some set) None h k lowers = absurd (lowers set (inr refl))
first-both P Q None (Some set) (Some x) h k lowers =
    let same : set ≡ x = elim lowers.0 [ inl e ↦ absurd (none_some x e) | inr e ↦ e ] in (
      inr (subst Q same k.0),
      λ s pq. elim pq [ inl p ↦ absurd (h s p) | inr q ↦ subst (λ y. set_is_before s y ≡ false) same (k.1 s q) ],
    )
first-both P Q (Some y) (Some set) (Some x) h k lowers = (
  elim lowers.0 [ inl e ↦ inl (subst P (same_Some y x e) h.0) | inr e ↦ inr (subst Q e k.0) ],
  λ s pq. elim pq [
    | inl p ↦ not_before y x s (lowers.1 y (inl refl)) (h.1 s p)
    | inr q ↦ not_before set x s (lowers.1 set (inr refl)) (k.1 s q)
  ],
)

module _ {State Note Fact : Type 0} (w : World State Note Fact) (b : Bounds) (formula : Formula Fact) (last : ℕ) (tree : Tree)
    (sets : List (Option (List Parts))) where
  abbrev IsRightAt : ℕ → Type 0
  IsRightAt = rows.IsRightAt w b formula last tree sets

  abbrev FailsAt : ℕ → Reason → Type 0
  FailsAt = rows.FailsAt w b formula last tree

  abbrev MissesAt : ℕ → List Parts → Type 0
  MissesAt = rows.MissesAt w formula last tree sets

  abbrev AreRightWithin : ℕ → ℕ → Type 0
  AreRightWithin = rows.AreRightWithin w b formula last tree sets

  abbrev MissesWithin : ℕ → ℕ → List Parts → Type 0
  MissesWithin = rows.MissesWithin w formula last tree sets

  -- Nothing is found where there is no node,
  pub found-none : (from : ℕ) → rows.IsFound w b formula last tree sets from from (found.Passes None)
  found-none from = (
    λ at low high. let never : ⊥ = omega arith in absurd never,
    λ s m. let low : from ≤ m.0 = m.1 in let high : m.0 < from = m.2 in omega arith,
  )

  -- what is found goes on,
  module _ (from mid to : ℕ) (start : from ≤ mid) (end : mid ≤ to) where
    all_right : AreRightWithin from mid → AreRightWithin mid to → AreRightWithin from to
    all_right h k at low high = elim (cases_lt at mid) [ inl less ↦ h at low less | inr more ↦ k at more high ]

    all_missing : (s : List Parts) → MissesWithin from mid s ⊎ MissesWithin mid to s → MissesWithin from to s
    all_missing s k = elim k [
      | inl m ↦ let high : m.0 < mid = m.2 in (m.0, m.1, omega arith, m.3)
      | inr m ↦ let low : mid ≤ m.0 = m.1 in (m.0, omega arith, m.2, m.3)
    ]

    some_missing : (s : List Parts) → MissesWithin from to s → MissesWithin from mid s ⊎ MissesWithin mid to s
    some_missing s m = elim (cases_lt m.0 mid) [ inl less ↦ inl (m.0, m.1, less, m.3) | inr more ↦ inr (m.0, more, m.2, m.3) ]

    pub found-more : (a o c : Option (List Parts)) → rows.IsFound w b formula last tree sets from mid (found.Passes a)
        → rows.IsFound w b formula last tree sets mid to (found.Passes o)
        → MatchOption o (c ≡ a) (λ set. Lowers (λ one. set ≡ one) a c) → rows.IsFound w b formula last tree sets from to (found.Passes c)
    found-more a o c h k lowers = (
      all_right h.0 k.0,
      first-same (λ s. MissesWithin from mid s ⊎ MissesWithin mid to s) (MissesWithin from to) c all_missing some_missing
          (first-both (MissesWithin from mid) (MissesWithin mid to) a o c h.1 k.1 lowers),
    )

    -- to the first that fails
    pub found-stop : (all at : ℕ) (a : Option (List Parts)) (why : Reason) → to ≤ all
        → rows.IsFound w b formula last tree sets from mid (found.Passes a)
        → rows.IsFound w b formula last tree sets mid to (found.Fails at why)
        → rows.IsFound w b formula last tree sets from all (found.Fails at why)
    found-stop all at a why far h k =
        let low : mid ≤ at = k.0 in
        let high : at < to = k.1 in (
          omega arith,
          omega arith,
          λ here near before. elim (cases_lt here mid) [ inl less ↦ h.0 here near less | inr more ↦ k.2 here more before ],
          k.3,
        )

  -- past the last node there is nothing
  past_last : (at : ℕ) (o : Option (List Parts)) → length sets ≤ at → slice_get sets at ≡ Some o → ⊥
  past_last at o far is = let within : at < length sets = slice_get_within sets at o is in omega arith

  pub found-far : (from to far : ℕ) (a : Option (List Parts)) → length sets ≤ to → to ≤ far
      → rows.IsFound w b formula last tree sets from to (found.Passes a) → rows.IsFound w b formula last tree sets from far (found.Passes a)
  found-far from to far a all more h = (
    λ at low high. elim (cases_lt at to) [
      | inl less ↦ h.0 at low less
      | inr past ↦ λ way p set stands is. absurd (past_last at (Some set) (omega (arith, past, all)) is)
    ],
    first-same (MissesWithin from to) (MissesWithin from far) a
        (λ s m. let high : m.0 < to = m.2 in (m.0, m.1, omega arith, m.3))
        (λ s m. elim (cases_lt m.0 to) [
          | inl less ↦ (m.0, m.1, less, m.3)
          | inr past ↦ absurd (past_last m.0 (Some s) (omega (arith, past, all)) m.3.set_is)
        ]) h.1,
  )

  -- what fails is found in all
  pub found-all : (to at : ℕ) (why : Reason) → rows.IsFound w b formula last tree sets 0 to (found.Fails at why)
      → rows.IsFoundInAll w b formula last tree sets (found.Fails at why)
  found-all to at why h = let high : at < to = h.1 in (to + length sets, omega arith, (h.0, omega arith, h.2, h.3))

  pub found-part : (from to far n : ℕ) (a : Option (List Parts)) → (to ≡ far) ⊎ (to ≡ n) → n ≡ length sets → to ≤ far
      → rows.IsFound w b formula last tree sets from to (found.Passes a) → rows.IsFound w b formula last tree sets from far (found.Passes a)
  found-part from to far n a (inl same) count more h = subst (λ k. rows.IsFound w b formula last tree sets from k (found.Passes a)) same h
  found-part from to far n a (inr same) count more h = found-far from to far a (omega (arith, same, count)) more h

  pub found-end : (from to far n : ℕ) (f : Found) → (to ≡ far) ⊎ (to ≡ n) → n ≡ length sets → to ≤ far
      → rows.IsFound w b formula last tree sets from to f → rows.IsFound w b formula last tree sets from far f
  found-end from to far n (found.Fails at why) ends count more h = let high : at < to = h.1 in (h.0, omega arith, h.2, h.3)
  found-end from to far n (found.Passes a) ends count more h = found-part from to far n a ends count more h

  -- What is found at one node: nothing where it has no set,
  one_node : (at here : ℕ) → at ≤ here → here < at + 1 → at ≡ here
  one_node at here low high = omega arith

  pub found-unset : (at : ℕ) → slice_get sets at ≡ Some None → rows.IsFound w b formula last tree sets at (at + 1) (found.Passes None)
  found-unset at is = (
    λ here low high way p set stands has.
        let same : at ≡ here = one_node at here low high in
        let both : Some None ≡ Some (Some set) = sym is ∙ ap (slice_get sets) same ∙ has in
        absurd (none-some set (same_Some None (Some set) both)),
    λ s m.
        let same : at ≡ m.0 = one_node at m.0 m.1 m.2 in
        let both : Some None ≡ Some (Some s) = sym is ∙ ap (slice_get sets) same ∙ m.3.set_is in
        none-some s (same_Some None (Some s) both),
  )

  module _ (at : ℕ) (set : List Parts) (is : slice_get sets at ≡ Some (Some set)) (stood : IsSetAt tree at (Some set)) where
    own_set : (s : List Parts) → slice_get sets at ≡ Some (Some s) → set ≡ s
    own_set s other = same_Some set s (same_Some (Some set) (Some s) (sym is ∙ other))

    -- what is wrong with it
    pub found-fails : (why : Reason)
        → ((way : List ℕ) (p : Place) → StandsAt tree at way p → IsFaultAt w b formula last (length way) p (Some why))
        → rows.IsFound w b formula last tree sets at (at + 1) (found.Fails at why)
    found-fails why fault = (
      omega arith,
      omega arith,
      λ here low high. let never : ⊥ = omega arith in absurd never,
      record { way = stood.0; place = stood.1; stands = stood.2; fails = fault stood.0 stood.1 stood.2 },
    )

    module _ (right : (way : List ℕ) (p : Place) → StandsAt tree at way p → IsFaultAt w b formula last (length way) p None) where
      right_here : AreRightWithin at (at + 1)
      right_here here low high way p found stands has =
          right way p (subst (λ k. StandsAt tree k way p) (sym (one_node at here low high)) stands)

      opened_right : (y : Node-F Node) → out-Node stood.1.node ≡ y
          → IsRightNode w b formula last (length stood.0) stood.1.faults stood.1.excluded y
      opened_right y opened =
          subst (IsRightNode w b formula last (length stood.0) stood.1.faults stood.1.excluded) opened (right stood.0 stood.1 stood.2)

      -- a node that is right and misses: its set
      pub found-Misses : stood.1.node ≡ kind.Misses → rows.IsFound w b formula last tree sets at (at + 1) (found.Passes (Some set))
      found-Misses misses =
          let leaf = opened_right Node-F.Misses (opened-Misses stood.1.node misses) in (
            right_here,
            (
              (
                at,
                omega arith,
                omega arith,
                record {
                  way = stood.0;
                  way_is = stood.2.way_is;
                  set_is = is;
                  deep = leaf.here;
                  misses = subst (λ s. reaches w s formula ≡ false) stood.3 leaf.truth;
                },
              ),
              λ s m.
                  let same : at ≡ m.0 = one_node at m.0 m.1 m.2 in
                  let one : set ≡ s = own_set s (ap (slice_get sets) same ∙ m.3.set_is) in
                  subst (λ x. set_is_before x set ≡ false) one (not_itself set),
            ),
          )

      -- and no set of any other
      no_miss : (y : Node-F Node) → out-Node stood.1.node ≡ y → (Node-F.Misses ≡ y → ⊥) → (s : List Parts) → MissesWithin at (at + 1) s → ⊥
      no_miss y opened other s m =
          let same : at ≡ m.0 = one_node at m.0 m.1 m.2 in
          let one : set ≡ s = own_set s (ap (slice_get sets) same ∙ m.3.set_is) in
          let way_is : stood.0 ≡ m.3.way = same_Some stood.0 m.3.way (sym stood.2.way_is ∙ ap (slice_get (ways_of tree)) same ∙ m.3.way_is) in
          let deep : length stood.0 ≡ last = ap length way_is ∙ m.3.deep in
          let never : reaches w stood.1.faults formula ≡ false = ap (λ x. reaches w x formula) (stood.3 ∙ one) ∙ m.3.misses in
          by_level y other (opened_right y opened) deep never
        where
          by_level : (z : Node-F Node) → (Node-F.Misses ≡ z → ⊥)
              → IsRightNode w b formula last (length stood.0) stood.1.faults stood.1.excluded z → length stood.0 ≡ last
              → reaches w stood.1.faults formula ≡ false → ⊥
          by_level Node-F.Misses other h deep never = other refl
          by_level Node-F.Reaches other h deep never = both_ways (reaches w stood.1.faults formula) never h.truth
          by_level (Node-F.Branch reach edges kids) other h deep never =
              let above : length stood.0 < last = h.above in
              omega arith

      pub found-other : (y : Node-F Node) → out-Node stood.1.node ≡ y → (Node-F.Misses ≡ y → ⊥)
          → rows.IsFound w b formula last tree sets at (at + 1) (found.Passes None)
      found-other y opened other = (right_here, no_miss y opened other)

-- The same, as it is found
module _ {State Note Fact : Type 0} (w : World State Note Fact) (b : Bounds) (formula : Formula Fact) (last : ℕ) (tree : Tree)
    (sets : List (Option (List Parts))) (at : ℕ) (set : List Parts) (is : slice_get sets at ≡ Some (Some set))
    (stood : IsSetAt tree at (Some set)) (o : Option Reason)
    (fault : (way : List ℕ) (p : Place) → StandsAt tree at way p → IsFaultAt w b formula last (length way) p o) where
  fault_is : (other : Option Reason) → o ≡ other → (way : List ℕ) (p : Place) → StandsAt tree at way p
      → IsFaultAt w b formula last (length way) p other
  fault_is other same way p stands = subst (IsFaultAt w b formula last (length way) p) same (fault way p stands)

  pub here-fails : (why : Reason) → o ≡ Some why → rows.IsFound w b formula last tree sets at (at + 1) (found.Fails at why)
  here-fails why same = found-fails w b formula last tree sets at set is stood why (fault_is (Some why) same)

  module _ (none : o ≡ None) (node : Node) (node_is : node ≡ stood.1.node) (first : Option (List Parts)) where
    passes : (given : Option (List Parts)) → first ≡ given → rows.IsFound w b formula last tree sets at (at + 1) (found.Passes given)
        → rows.IsFound w b formula last tree sets at (at + 1) (found.Passes first)
    passes given same h = subst (λ x. rows.IsFound w b formula last tree sets at (at + 1) (found.Passes x)) (sym same) h

    pub here-Misses : node ≡ kind.Misses → first ≡ Some set → rows.IsFound w b formula last tree sets at (at + 1) (found.Passes first)
    here-Misses it same =
        passes (Some set) same (found-Misses w b formula last tree sets at set is stood (fault_is None none) (sym node_is ∙ it))

    pub here-Reaches : node ≡ kind.Reaches → first ≡ None → rows.IsFound w b formula last tree sets at (at + 1) (found.Passes first)
    here-Reaches it same =
        passes None same (found-other w b formula last tree sets at set is stood (fault_is None none) Node-F.Reaches
        (opened-Reaches stood.1.node (sym node_is ∙ it)) (λ e. false≢true (ap is_other e)))

    pub here-Branch : (reach : List ℕ) (edges : List Parts) (kids : List Node) → node ≡ kind.Branch reach edges kids → first ≡ None
        → rows.IsFound w b formula last tree sets at (at + 1) (found.Passes first)
    here-Branch reach edges kids it same =
        passes None same (found-other w b formula last tree sets at set is stood (fault_is None none) (Node-F.Branch reach edges kids)
        (opened-Branch stood.1.node reach edges kids (sym node_is ∙ it)) (λ e. false≢true (ap is_other e)))

-- what is wrong at a place, by what is read of it
pub fault_read : {State Note Fact : Type 0} (w : World State Note Fact) (b : Bounds) (formula : Formula Fact) (last : ℕ) (tree : Tree) (at depth : ℕ)
    (node : Node) (set ran excluded : List Parts) (found : Option Reason) (way : List ℕ) (p : Place) → StandsAt tree at way p → node ≡ p.node
    → IsSetAt tree at (Some set) → ran ≡ set → depth ≡ length set → excluded ≡ p.excluded
    → IsFaultAt w b formula last depth (place_of node ran excluded) found → IsFaultAt w b formula last (length way) p found
fault_read w b formula last tree at depth node set ran excluded found way p stands node_is stood ran_is deep excluded_is h =
    let one = place_one tree at stood.0 way stood.1 p stood.2 stands in
    let faults_are : ran ≡ p.faults = ran_is ∙ sym stood.3 ∙ ap (λ (q : Place). q.faults) one.1 in
    let same : place_of node ran excluded ≡ p =
    ap (λ n. place_of n ran excluded) node_is ∙ ap (λ fs. place_of p.node fs excluded) faults_are
    ∙ ap (λ xs. place_of p.node p.faults xs) excluded_is in
    let long : depth ≡ length way =
    deep ∙ ap length (sym stood.3) ∙ ap (λ (q : Place). length q.faults) one.1 ∙ faults_at tree at way p stands in
    subst (λ d. IsFaultAt w b formula last d p found) long (subst (λ q. IsFaultAt w b formula last depth q found) same h)
