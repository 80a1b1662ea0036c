-- Induction on nodes.
use Rattle.std.proofs.Common.{ℕ, List, [], ◌∷◌, sym, subst, map}
use Rattle.std.specs.List.{AllByRecursion}
use Rattle.lf_faults.specs.declared.fault.Parts.{Parts}
use Rattle.lf_tree.specs.declared.tree.Node.{Node}
use Rattle.lf_tree.specs.declared.tree.Node.TheVariants.{rolls-Misses, rolls-Reaches, rolls-Branch}
use Rattle.lf_tree.specs.declared.tree.Node.TheVariants as kind
use Rattle.lf_tree.specs.declared.tree.Node.TheOpen.{Node-F}
use Rattle.lf_tree.specs.declared.tree.Node.TheFolds.{ind-Node, map-Node}
use Rattle.lf_tree.specs.declared.tree.Node.TheViews.{roll-Node}

-- what holds of a node of which it holds of each kid, by kind
pub record Steps (Q : Node → Type 0) : Type 0 where
  pub misses : Q kind.Misses
  pub reaches : Q kind.Reaches
  pub branch : (reach : List ℕ) (edges : List Parts) (kids : List Node) → AllByRecursion Q kids → Q (kind.Branch reach edges kids)

module _ (Q : Node → Type 0) where
  each : (proved : List ((n : Node) × Q n)) → AllByRecursion Q (map (λ e. e.0) proved)
  each [] = tt
  each (e ∷ es) = (e.1, each es)

  -- one level, with a proof beside each kid
  layer : Steps Q → (y : Node-F ((n : Node) × Q n)) → Q (roll-Node (map-Node ((n : Node) × Q n) Node (λ e. e.0) y))
  layer steps Node-F.Misses = subst Q (sym rolls-Misses) steps.misses
  layer steps Node-F.Reaches = subst Q (sym rolls-Reaches) steps.reaches
  layer steps (Node-F.Branch reach edges proved) =
      subst Q (sym (rolls-Branch reach edges (map (λ e. e.0) proved))) (steps.branch reach edges (map (λ e. e.0) proved) (each proved))

  pub by_induction : Steps Q → (n : Node) → Q n
  by_induction steps = ind-Node Q (λ x y is. subst (λ z. Q (roll-Node z)) is (layer steps y))
