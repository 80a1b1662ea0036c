-- What is found in the list of all nodes of a tree is what stands in the tree.
use Rattle.std.proofs.Common.{◌≡◌, ℕ, zero, suc, ◌+◌, ◌<◌, ◌≤◌, List, [], length, refl, sym, ap, ◌∙◌, subst, arith, inl, inr}
use Rattle.std.specs.Prelude.{slice_get, slice_index_or, Option, None, Some}
use Rattle.std.specs.List.{Contains}
use Rattle.std.proofs.lemmas.Bool.{cases_lt}
use Rattle.std.proofs.lemmas.Option.{same_Some, slice_get_within, slice_get-get_or}
use Rattle.lf_faults.specs.declared.fault.Parts.{Parts}
use Rattle.lf_faults.specs.declared.spec.Bounds.{Bounds}
use Rattle.lf_faults.specs.Allowed.{CanAdd, IsInLimits}
use Rattle.lf_faults.proofs.Laws.{length-inserted}
use Rattle.lf_sim.specs.Runs.{World}
use Rattle.lf_outcome.specs.declared.formula.Formula.{Formula}
use Rattle.lf_cone.proofs.Laws.{required_few}
use Rattle.lf_tree.specs.declared.tree.Tree.{Tree}
use Rattle.lf_tree.specs.declared.tree.Node.{Node, out-Node}
use Rattle.lf_tree.specs.declared.tree.Node.TheOpen.{Node-F}
use Rattle.lf_certificate.specs.declared.reason.Reason.{Reason}
use Rattle.lf_certificate.specs.declared.reason.Reason.TheVariants as reason
use Rattle.lf_certificate.specs.Places.{Place, place_at, root_of}
use Rattle.lf_certificate.specs.Accepted.{IsRight, IsRightNode, AreRight, MissesIn, IsFirstIn, IsAllowedAnswer, IsAccepted, last_depth}
use Rattle.lf_certificate.specs.Faults.{Fails, FailsFirst, FailsFirstFrom, IsFirstFault}
use Rattle.lf_certificate.proofs.Laws.{right_fails_not, fault_beneath_root, fault_at_end, accepted_where, first_in_one}
use Rattle.lf_check.specs.declared.found.Found.TheVariants as found
use Rattle.lf_check.specs.Rows.{ways_of, StandsAt, edges_in, IsBarred, AreSets, IsFound, AreRightWithin, MissesWithin}
use Rattle.lf_check.specs.Walks.{IsFirstOf}
use Rattle.lf_check.proofs.FoundLemmas.{first-same}
use Rattle.lf_check.proofs.RowLemmas.{place_one}
use Rattle.lf_check.proofs.WayLemmas.{has_node, stands_before}

module _ {State Note Fact : Type 0} (w : World State Note Fact) (b : Bounds) (formula : Formula Fact) (last : ℕ) where
  -- an edge of a right branch can be added to its set
  edge_added : (depth : ℕ) (p : Place) (y : Node-F Node) (edge : Parts) → IsRightNode w b formula last depth p.faults p.excluded y
      → Contains (edges_in y) edge → CanAdd b p.faults edge
  edge_added depth p Node-F.Misses edge h among = let few : among.0 < length {A = Parts} [] = among.1 in absurd (omega (arith, few))
  edge_added depth p Node-F.Reaches edge h among = let few : among.0 < length {A = Parts} [] = among.1 in absurd (omega (arith, few))
  edge_added depth p (Node-F.Branch reach edges kids) edge h among = ((h.required.each edge).0 among).allowed

  -- and it has no more edges than there are faults
  few_edges : (depth : ℕ) (p : Place) (y : Node-F Node) → IsInLimits b → IsRightNode w b formula last depth p.faults p.excluded y
      → length (edges_in y) ≤ 3840
  few_edges depth p Node-F.Misses limits h = let none : length {A = Parts} [] ≡ 0 = refl in omega (arith, none)
  few_edges depth p Node-F.Reaches limits h = let none : length {A = Parts} [] ≡ 0 = refl in omega (arith, none)
  few_edges depth p (Node-F.Branch reach edges kids) limits h = required_few w p.faults b reach p.excluded edges limits h.required

  module _ (tree : Tree) (sets : List (Option (List Parts))) (limits : IsInLimits b) (are : AreSets tree sets)
      (count : length sets ≡ length (ways_of tree)) where
    -- so what is barred comes after a place that isn't right
    not_barred : (at : ℕ)
        → ((j : ℕ) (way : List ℕ) (p : Place) → j < at → StandsAt tree j way p → IsRight w b formula last (length way) p) → IsBarred tree at → ⊥
    not_barred at right bar =
        let here = right bar.above bar.way bar.place bar.before bar.stands in
        elim bar.wrong [
          | inl f ↦
              let added = edge_added (length bar.way) bar.place (out-Node bar.place.node) f.edge here f.among in
              let few : length bar.place.faults < 6 = omega (arith, length-inserted f.edge bar.place.faults, added.1.budget, limits.budget) in
              f.full (added.0, few)
          | inr crowded ↦ omega (arith, crowded, few_edges (length bar.way) bar.place (out-Node bar.place.node) limits here)
        ]

    -- each node with a place has a set, or is barred
    set_there : (at : ℕ) (way : List ℕ) (p : Place) → StandsAt tree at way p → (o : Option (List Parts)) × (slice_get sets at ≡ Some o)
    set_there at way p stands =
        let within : at < length (ways_of tree) = slice_get_within (ways_of tree) at way stands.way_is in
        let few : at < length sets = omega (arith, count) in
        (slice_index_or sets at None, slice_get-get_or sets at None few)

    right_at : (at : ℕ) (way : List ℕ) (p : Place) (o : Option (List Parts)) → slice_get sets at ≡ Some o
        → ((j : ℕ) (v : List ℕ) (q : Place) → j < at → StandsAt tree j v q → IsRight w b formula last (length v) q)
        → ((s : List Parts) → slice_get sets at ≡ Some (Some s) → IsRight w b formula last (length way) p) → StandsAt tree at way p
        → IsRight w b formula last (length way) p
    right_at at way p None is before own stands = absurd (not_barred at before (are at None is way p stands))
    right_at at way p (Some s) is before own stands = own s is

    -- where the nodes with sets are right, so are all that have places
    right_to : (n k : ℕ) → k ≤ n → AreRightWithin w b formula last tree sets 0 n → (at : ℕ) (way : List ℕ) (p : Place) → at < k
        → StandsAt tree at way p → IsRight w b formula last (length way) p
    right_to n zero far all at way p less stands = let never : ⊥ = omega arith in absurd never
    right_to n (suc k) far all at way p less stands = elim (cases_lt at k) [
      | inl before ↦ right_to n k (omega arith) all at way p before stands
      | inr more ↦
          let s = set_there at way p stands in
          right_at at way p s.0 s.1 (λ j v q before there. right_to n k (omega arith) all j v q (omega arith) there)
          (λ t is. all at (omega arith) (omega arith) way p t stands is) stands
    ]

    -- The first that fails is the first of the tree
    pub fails_first : (n at : ℕ) (why : Reason) (way : List ℕ) → IsFound w b formula last tree sets 0 n (found.Fails at why)
        → slice_get (ways_of tree) at ≡ Some way → FailsFirstFrom w b formula last 0 (root_of tree) why way
    fails_first n at why way f is =
        let here = f.3 in
        let same : here.way ≡ way = same_Some here.way way (sym here.stands.way_is ∙ is) in
        let deep : length here.way ≡ 0 + length way = let e = ap length same in omega arith in
        record {
          place = here.place;
          leads = ap (place_at tree) (sym same) ∙ here.stands.leads;
          fails = subst (λ d. FailsFirst w b formula last d here.place why) deep here.fails;
          before = λ other q earlier leads reason fails.
              let h = has_node tree other q leads in
              let less : h.at < at = stands_before tree h.at at other way earlier h.way_is is in
              let flat : 0 + length other ≡ length other = omega arith in
              right_fails_not w b formula last (length other) q
              (right_to at at (omega arith) f.2 h.at other q less (record { way_is = h.way_is; leads = leads })) reason
              (subst (λ d. Fails w b formula last d q reason) flat fails);
        }

    -- and where none fails
    module _ (n : ℕ) (whole : length (ways_of tree) ≤ n) (first : Option (List Parts))
        (f : IsFound w b formula last tree sets 0 n (found.Passes first)) where
      right_there : (at : ℕ) (way : List ℕ) (p : Place) → StandsAt tree at way p → IsRight w b formula last (length way) p
      right_there at way p stands =
          let within : at < length (ways_of tree) = slice_get_within (ways_of tree) at way stands.way_is in
          let few : at < n = omega (arith, whole) in
          right_to n n (omega arith) f.0 at way p few stands

      -- all is right
      pub all_right : AreRight w b formula last 0 (root_of tree)
      all_right way q deep far leads =
          let h = has_node tree way q leads in
          let same : length way ≡ deep = omega (arith, far) in
          subst (λ d. IsRight w b formula last d q) same (right_there h.at way q (record { way_is = h.way_is; leads = leads }))

      missing : last ≡ last_depth b tree.answer → (s : List Parts) → MissesWithin w formula last tree sets 0 n s → MissesIn w b formula tree s
      missing deep s m =
          let stood = are m.0 (Some s) m.3.set_is in
          let same : stood.0 ≡ m.3.way = same_Some stood.0 m.3.way (sym stood.2.way_is ∙ m.3.way_is) in
          record {
            path = stood.0;
            place = stood.1;
            leads = stood.2.leads;
            here = omega (arith, ap length same, m.3.deep, deep);
            same = stood.3;
            misses = m.3.misses;
          }

      missed : last ≡ last_depth b tree.answer → (s : List Parts) → MissesIn w b formula tree s → MissesWithin w formula last tree sets 0 n s
      missed deep s m =
          let h = has_node tree m.path m.place m.leads in
          let stands : StandsAt tree h.at m.path m.place = record { way_is = h.way_is; leads = m.leads } in
          let within : h.at < length (ways_of tree) = slice_get_within (ways_of tree) h.at m.path h.way_is in
          let o = set_there h.at m.path m.place stands in (
            h.at,
            omega arith,
            omega (arith, whole),
            record {
              way = m.path;
              way_is = h.way_is;
              set_is = o.1 ∙ ap Some (by_set h.at stands o.0 o.1);
              deep = omega (arith, m.here, deep);
              misses = m.misses;
            },
          )
        where
          by_set : (at : ℕ) → StandsAt tree at m.path m.place → (o : Option (List Parts)) → slice_get sets at ≡ Some o → o ≡ Some s
          by_set at stands None is =
              absurd (not_barred at (λ j v q before there. right_there j v q there) (are at None is m.path m.place stands))
          by_set at stands (Some t) is =
              let stood = are at (Some t) is in
              let one = place_one tree at stood.0 m.path stood.1 m.place stood.2 stands in
              ap Some (sym stood.3 ∙ ap (λ (p : Place). p.faults) one.1 ∙ m.same)

      -- and this is the first of the sets that miss
      pub first_in : last ≡ last_depth b tree.answer → IsFirstIn w b formula tree first
      first_in deep = by first (first-same (MissesWithin w formula last tree sets 0 n) (MissesIn w b formula tree) first (missing deep) (missed deep) f.1)
        where
          by : (o : Option (List Parts)) → IsFirstOf (MissesIn w b formula tree) o → IsFirstIn w b formula tree o
          by None h = h
          by (Some s) h = h

-- The verdict
module _ {State Note Fact : Type 0} (w : World State Note Fact) (b : Bounds) (formula : Formula Fact) (last : ℕ) (tree : Tree)
    (sets : List (Option (List Parts))) (limits : IsInLimits b) (are : AreSets tree sets) (count : length sets ≡ length (ways_of tree))
    (allowed : IsAllowedAnswer b tree.answer) (deep : last ≡ last_depth b tree.answer) where
  pub fault_found : (n at : ℕ) (why : Reason) (way : List ℕ) → IsFound w b formula last tree sets 0 n (found.Fails at why)
      → slice_get (ways_of tree) at ≡ Some way → IsFirstFault w b formula tree why way
  fault_found n at why way f is =
      fault_beneath_root w b formula tree why way allowed
      (subst (λ d. FailsFirstFrom w b formula d 0 (root_of tree) why way) deep (fails_first w b formula last tree sets limits are count n at why way f is))

  module _ (n : ℕ) (whole : length (ways_of tree) ≤ n) (first : Option (List Parts)) (f : IsFound w b formula last tree sets 0 n (found.Passes first)) where
    right_root : AreRight w b formula (last_depth b tree.answer) 0 (root_of tree)
    right_root = subst (λ d. AreRight w b formula d 0 (root_of tree)) deep (all_right w b formula last tree sets limits are count n whole first f)

    first_is : IsFirstIn w b formula tree first
    first_is = first_in w b formula last tree sets limits are count n whole first f deep

    pub none_found : first ≡ tree.answer → IsAccepted w b formula tree
    none_found same = accepted_where w b formula tree allowed right_root (subst (IsFirstIn w b formula tree) same first_is)

    pub other_first : (first ≡ tree.answer → ⊥) → IsFirstFault w b formula tree reason.AnswerNotFirst []
    other_first other =
        fault_at_end w b formula tree allowed right_root (λ h. other (first_in_one w b formula tree first tree.answer first_is h))
