-- What an accepted tree shows at each of its places.
use Rattle.std.proofs.Common.{◌≡◌, ℕ, ◌-◌, ◌<◌, ◌≤◌, true, false, List, [], ◌++◌, length}
use Rattle.std.proofs.Common.{refl, sym, ap, ◌∙◌, subst, arith, inl, inr}
use Rattle.std.specs.Prelude.{◌⊎◌, Option, None, Some}
use Rattle.std.specs.List.{Contains}
use Rattle.std.proofs.lemmas.List.{length-append}
use Rattle.lf_faults.specs.declared.fault.Parts.{Parts}
use Rattle.lf_faults.specs.declared.spec.Bounds.{Bounds}
use Rattle.lf_faults.specs.Allowed.{IsAllowed, IsSubset}
use Rattle.lf_faults.proofs.Laws.{empty_allowed}
use Rattle.lf_sim.specs.Runs.{World}
use Rattle.lf_outcome.specs.declared.formula.Formula.{Formula}
use Rattle.lf_outcome.specs.Truth.{reaches}
use Rattle.lf_tree.specs.declared.tree.Tree.{Tree}
use Rattle.lf_tree.specs.declared.tree.Node.{Node, out-Node}
use Rattle.lf_tree.specs.declared.tree.Node.TheOpen.{Node-F}
use Rattle.lf_certificate.specs.Places.{Place, place_at, root_of}
use Rattle.lf_certificate.specs.Accepted.{AreRight, IsBounded, IsFirstIn, MissesIn, IsRight, IsRightNode, Covers, last_depth, covered_below}
use Rattle.lf_certificate.proofs.AllowedLemmas.{place_allowed}
use Rattle.lf_certificate.proofs.AnswerLemmas.{reaches_or}
use Rattle.lf_certificate.proofs.Covering.{StandsLast, claim}
use Rattle.lf_certificate.proofs.PlacesLemmas.{place-append}

module _ {State Note Fact : Type 0} (w : World State Note Fact) (b : Bounds) (formula : Formula Fact) where
  -- a right place isn't past the last depth
  pub not_past : (last d : ℕ) (faults excluded : List Parts) (y : Node-F Node) → IsRightNode w b formula last d faults excluded y → d ≤ last
  not_past last d faults excluded Node-F.Misses right = omega (arith, right.here)
  not_past last d faults excluded Node-F.Reaches right = omega (arith, right.here)
  not_past last d faults excluded (Node-F.Branch reach edges kids) right = omega (arith, right.above)

module _ {State Note Fact : Type 0} (w : World State Note Fact) (b : Bounds) (formula : Formula Fact) (tree : Tree) (bounded : IsBounded w b)
    (places : (path : List ℕ) (p : Place) → place_at tree path ≡ Some p → IsRight w b formula (last_depth b tree.answer) (length path) p) where
  pub pauses_last : 1 ≤ w.pause_length
  pauses_last = omega (arith, bounded.pause_length, bounded.limits.pause_length.0)

  -- all beneath a place of the tree is right
  pub right_beneath : (path : List ℕ) (p : Place) → place_at tree path ≡ Some p
      → AreRight w b formula (last_depth b tree.answer) (length path) p
  right_beneath path p leads rest q at far go =
      let same : length (path ++ rest) ≡ at = length-append path rest ∙ sym far in
      subst (λ d. IsRight w b formula (last_depth b tree.answer) d q) same
      (places (path ++ rest) q (place-append (root_of tree) p path rest leads ∙ go))

  -- its set is allowed, and as large as it is deep
  pub set_at : (path : List ℕ) (p : Place) → place_at tree path ≡ Some p → IsAllowed b p.faults × (length p.faults ≡ length path)
  set_at path p leads =
      let found = place_allowed w b formula (last_depth b tree.answer) path 0 (root_of tree) p (right_beneath [] (root_of tree) refl) refl
      (empty_allowed b) leads in
      (found.0, omega (arith, found.1))

  module _ (path : List ℕ) (p : Place) (leads : place_at tree path ≡ Some p) (wider : List Parts) (allowed : IsAllowed b wider)
      (holds : IsSubset p.faults wider) (avoids : (f : Parts) → Contains p.excluded f → Contains wider f → ⊥) where
    -- an allowed set that is to be covered reaches, or stands in the tree
    either : length wider ≤ last_depth b tree.answer → (reaches w wider formula ≡ true)
        ⊎ StandsLast w b formula (last_depth b tree.answer) pauses_last (length path) p wider
    either few =
        let here = set_at path p leads in
        let deep : length path ≤ last_depth b tree.answer =
        not_past w b formula (last_depth b tree.answer) (length path) p.faults p.excluded (out-Node p.node) (places path p leads) in
        claim w b formula (last_depth b tree.answer) pauses_last (last_depth b tree.answer - length path) (length path) p (omega (arith, deep))
        here.1 here.0 (right_beneath path p leads) wider (record { allowed = allowed; holds = holds; avoids = avoids; few = few })

    stands_in : StandsLast w b formula (last_depth b tree.answer) pauses_last (length path) p wider → reaches w wider formula ≡ false
        → MissesIn w b formula tree wider
    stands_in stands missing = record {
      path = path ++ stands.path;
      place = stands.place;
      leads = place-append (root_of tree) p path stands.path leads ∙ stands.leads;
      here = omega (arith, length-append path stands.path, stands.here);
      same = stands.same;
      misses = missing;
    }

    -- one that stands there is as large as the tree is deep
    large : StandsLast w b formula (last_depth b tree.answer) pauses_last (length path) p wider → length wider ≡ last_depth b tree.answer
    large stands =
        let here = set_at (path ++ stands.path) stands.place (place-append (root_of tree) p path stands.path leads ∙ stands.leads) in
        ap length (sym stands.same) ∙ here.1 ∙ length-append path stands.path ∙ stands.here

    not_there : (answer : Option (List Parts)) → tree.answer ≡ answer → IsFirstIn w b formula tree answer → length wider < covered_below b answer
        → (reaches w wider formula ≡ true)
    not_there None is first few =
        let short : length wider ≤ last_depth b tree.answer = subst (λ o. length wider ≤ last_depth b o) (sym is) (omega (arith, few)) in
        elim (reaches_or (reaches w wider formula)) [
          | inl reaching ↦ reaching
          | inr missing ↦ elim (either short) [
            | inl reaching ↦ reaching
            | inr stands ↦ absurd (first wider (stands_in stands missing))
          ]
        ]
    not_there (Some answer) is first few =
        let short : length wider ≤ last_depth b tree.answer = subst (λ o. length wider ≤ last_depth b o) (sym is) (omega (arith, few)) in
        elim (either short) [
          | inl reaching ↦ reaching
          | inr stands ↦
              let size : length wider ≡ length answer = large stands ∙ ap (last_depth b) is in
              let never : ⊥ = omega (arith, size, few) in
              absurd never
        ]

  -- what the place is to cover reaches
  pub covers : IsFirstIn w b formula tree tree.answer → (path : List ℕ) (p : Place) → place_at tree path ≡ Some p
      → Covers w b formula p.faults p.excluded (covered_below b tree.answer)
  covers first path p leads wider allowed holds avoids few =
      not_there path p leads wider allowed holds avoids tree.answer refl first few
