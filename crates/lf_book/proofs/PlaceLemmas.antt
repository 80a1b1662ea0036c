-- The tree that marks become has a place for each answered set, and no other.
use Rattle.std.proofs.Common.{◌≡◌, ℕ, zero, suc, ◌<◌, Bool, true, false, refl, sym, ap, ◌∙◌, subst, arith, List, [], ◌∷◌, ◌++◌, length, take}
use Rattle.std.specs.Prelude.{◌↔◌, nat_lt, slice_get, Option, None, Some, IsSome}
use Rattle.std.specs.Option.{option_map, option_and_then}
use Rattle.std.proofs.lemmas.Option.{slice_get_within}
use Rattle.lf_faults.specs.declared.fault.Parts.{Parts}
use Rattle.lf_faults.specs.declared.spec.Bounds.{Bounds}
use Rattle.lf_faults.specs.Faults.{inserted}
use Rattle.lf_sim.specs.Runs.{World}
use Rattle.lf_outcome.specs.declared.formula.Formula.{Formula}
use Rattle.lf_tree.specs.declared.tree.Tree.{Tree}
use Rattle.lf_tree.specs.declared.tree.Node.{Node, out-Node}
use Rattle.lf_tree.specs.declared.tree.Node.TheOpen.{Node-F}
use Rattle.lf_certificate.specs.Accepted.{last_depth}
use Rattle.lf_certificate.specs.Grown.{IsTreeOf, IsGrownNode}
use Rattle.lf_certificate.specs.Places.{Place, kid_in, place_from, place_at, root_of}
use Rattle.lf_marks.specs.Counting.{OfKind}
use Rattle.lf_marks.specs.Steps.{Mark, Marking, IsAnswer}
use Rattle.lf_marks.specs.Steps as mark
use Rattle.lf_marks.specs.Nodes.{node_along, said, shown}
use Rattle.lf_marks.specs.Nodes as nodes

-- a branch has a kid for each edge
abbrev IsEven : Node-F Node → Type 0
IsEven x = (reach : List ℕ) (es : List Parts) (ks : List Node) → x ≡ Node-F.Branch reach es ks → length ks ≡ length es

-- and so has each branch beneath a place
abbrev AreEven : Place → Type 0
AreEven q = (path : List ℕ) (r : Place) → place_from q path ≡ Some r → IsEven (out-Node r.node)

-- an item stands within a list
item_there : {X : Type 0} (xs : List X) (i : ℕ) → i < length xs → IsSome (slice_get xs i)
item_there [] i h = absurd (omega (arith, h))
item_there (x ∷ xs) zero h = refl
item_there (x ∷ xs) (suc i) h = item_there xs i (omega (arith, h))

none_some : (o : Option Parts) → o ≡ None → IsSome o → ⊥
none_some None is h = let never : false ≡ true = h in cc
none_some (Some x) is h = let never : Some x ≡ None = is in cc

-- a place has a kid where its node has one
module _ (faults excluded : List Parts) (path : List ℕ) where
  abbrev kid_place : List Parts → ℕ → Parts → Node → Place
  kid_place es i edge kid = record { node = kid; faults = inserted edge faults; excluded = excluded ++ take i es }

  picks : (es : List Parts) (i : ℕ) (e : Option Parts) (k : Option Node) → (IsSome k → IsSome e)
      → ((edge : Parts) (kid : Node) → e ≡ Some edge → k ≡ Some kid
      → IsSome (place_from (kid_place es i edge kid) path) ↔ IsSome (node_along kid path))
      → IsSome (option_and_then (λ q. place_from q path) (option_and_then (λ edge. option_map (λ kid. kid_place es i edge kid) k) e))
      ↔ IsSome (option_and_then (λ kid. node_along kid path) k)
  picks es i None None each below = (λ h. h, λ h. h)
  picks es i (Some edge) None each below = (λ h. h, λ h. h)
  picks es i None (Some kid) each below = absurd (none_some None refl (each refl))
  picks es i (Some edge) (Some kid) each below = below edge kid refl refl

  kids_alike : (x : Node-F Node) (i : ℕ) → IsEven x
      → ((q : Place) → kid_in x faults excluded i ≡ Some q → IsSome (place_from q path) ↔ IsSome (node_along q.node path))
      → IsSome (option_and_then (λ q. place_from q path) (kid_in x faults excluded i))
      ↔ IsSome (option_and_then (λ kid. node_along kid path) (nodes.kid_in x i))
  kids_alike Node-F.Misses i even below = (λ h. h, λ h. h)
  kids_alike Node-F.Reaches i even below = (λ h. h, λ h. h)
  kids_alike (Node-F.Branch reach es ks) i even below =
      picks es i (slice_get es i) (slice_get ks i) each (λ edge kid e k. below (kid_place es i edge kid)
      (ap (λ o. option_and_then (λ edge. option_map (λ kid. kid_place es i edge kid) (slice_get ks i)) o) e
      ∙ ap (λ o. option_map (λ kid. kid_place es i edge kid) o) k))
    where
      each : IsSome (slice_get ks i) → IsSome (slice_get es i)
      each h = item_there es i (within (slice_get ks i) refl h)
        where
          within : (o : Option Node) → slice_get ks i ≡ o → IsSome o → i < length es
          within None is some = absurd cc
          within (Some kid) is some = omega (arith, slice_get_within ks i kid is, even reach es ks refl)

-- a path leads to a place where it leads to a node
along : (path : List ℕ) (q : Place) → AreEven q → IsSome (place_from q path) ↔ IsSome (node_along q.node path)
along [] q even = (λ h. refl, λ h. refl)
along (i ∷ path) q even =
    kids_alike q.faults q.excluded path (out-Node q.node) i (even [] q refl) (λ kid is. along path kid (λ more r leads.
    even (i ∷ more) r (ap (λ o. option_and_then (λ k. place_from k more) o) is ∙ leads)))

-- what the tree shows is answered
shown_answer : (above : Bool) (o : Option Mark) → IsSome (shown above o) ↔ OfKind IsAnswer o
shown_answer above None = (λ h. absurd cc, λ h. absurd h)
shown_answer above (Some mark.Waiting) = (λ h. absurd cc, λ h. absurd h)
shown_answer above (Some mark.Open) = (λ h. absurd cc, λ h. absurd h)
shown_answer above (Some (mark.Claimed t)) = (λ h. absurd cc, λ h. absurd h)
shown_answer above (Some mark.Misses) = (λ h. tt, λ h. refl)
shown_answer above (Some mark.Reaches) = (λ h. tt, λ h. refl)
shown_answer above (Some (mark.Branch reach edges)) = (λ h. tt, λ h. refl)

said_some : (o : Option Node) → IsSome (option_map said o) ↔ IsSome o
said_some None = (λ h. h, λ h. h)
said_some (Some n) = (λ h. refl, λ h. refl)

module _ {Local Note Fact : Type 0} (w : World Local Note Fact) (b : Bounds) (formula : Formula Fact) where
  grown_even : (last depth : ℕ) (faults excluded : List Parts) (x : Node-F Node) → IsGrownNode w b formula last depth faults excluded x → IsEven x
  grown_even last depth faults excluded x h reach es ks is =
      (subst (λ y. IsGrownNode w b formula last depth faults excluded y) is h).each

  pub places_answered : (level : ℕ) (at : Marking) (tree : Tree) → IsTreeOf w b formula tree → nodes.IsTreeOf level at tree.root
      → (path : List ℕ) → IsSome (place_at tree path) ↔ OfKind IsAnswer (at path)
  places_answered level at tree grown marks path =
      let there = along path (root_of tree) (λ p r leads.
      grown_even (last_depth b tree.answer) (length p) r.faults r.excluded (out-Node r.node) (grown.places p r leads)) in
      let node = said_some (node_along tree.root path) in
      let answered = shown_answer (nat_lt (length path) level) (at path) in (
        λ h. answered.0 (subst IsSome (marks path) (node.1 (there.0 h))),
        λ h. there.1 (node.0 (subst IsSome (sym (marks path)) (answered.1 h))),
      )
