-- Folds of nodes, by their kinds, and how deep branches are.
use Rattle.std.proofs.Common.{◌≡◌, ◌≤◌, ℕ, ◌+◌, Bool, true, List, [], ◌∷◌, sym, ap, ◌∙◌, map, max, arith}
use Rattle.std.specs.List.{list_all, AllByRecursion, fold}
use Rattle.std.proofs.lemmas.Bool.{and_parts}
use Rattle.lf_faults.specs.declared.fault.Parts.{Parts}
use Rattle.lf_tree.specs.declared.tree.Node.{Node, fold-Node, fold-roll-Node}
use Rattle.lf_tree.specs.declared.tree.Node.TheVariants.{rolls-Misses, rolls-Reaches, rolls-Branch}
use Rattle.lf_tree.specs.declared.tree.Node.TheVariants as kind
use Rattle.lf_tree.specs.declared.tree.Node.TheOpen.{Node-F}
use Rattle.lf_tree.specs.Texts.{depth_step, depth_of}

-- the three kinds under a fold
module _ (A : Type 0) where
  pub fold-Misses : (step : Node-F A → A) → fold-Node A step kind.Misses ≡ step Node-F.Misses
  fold-Misses step = ap (fold-Node A step) (sym rolls-Misses) ∙ fold-roll-Node A step Node-F.Misses

  pub fold-Reaches : (step : Node-F A → A) → fold-Node A step kind.Reaches ≡ step Node-F.Reaches
  fold-Reaches step = ap (fold-Node A step) (sym rolls-Reaches) ∙ fold-roll-Node A step Node-F.Reaches

  pub fold-Branch : (step : Node-F A → A) (reach : List ℕ) (edges : List Parts) (kids : List Node)
      → fold-Node A step (kind.Branch reach edges kids) ≡ step (Node-F.Branch reach edges (map (fold-Node A step) kids))
  fold-Branch step reach edges kids =
      ap (fold-Node A step) (sym (rolls-Branch reach edges kids)) ∙ fold-roll-Node A step (Node-F.Branch reach edges kids)

-- the greatest number of a list is no less than where it starts, nor than any of them
first-le : (m : ℕ) (ns : List ℕ) → m ≤ fold max m ns
first-le m [] = omega arith
first-le m (n ∷ ns) = omega (arith, first-le (max m n) ns)

all-le : (m k : ℕ) (ns : List ℕ) → fold max m ns ≤ k → AllByRecursion (λ n. n ≤ k) ns
all-le m k [] h = tt
all-le m k (n ∷ ns) h = (omega (arith, first-le (max m n) ns), all-le (max m n) k ns h)

-- and no greater than what they are all at most
pub max-le : (m k : ℕ) (ns : List ℕ) → m ≤ k → AllByRecursion (λ n. n ≤ k) ns → fold max m ns ≤ k
max-le m k [] start h = start
max-le m k (n ∷ ns) start h = let here : n ≤ k = h.0 in max-le (max m n) k ns (omega arith) h.1

pub of_map : {A B : Type 0} (P : B → Type 0) (f : A → B) (xs : List A) → AllByRecursion P (map f xs) → AllByRecursion (λ x. P (f x)) xs
of_map P f [] h = tt
of_map P f (x ∷ xs) h = (h.0, of_map P f xs h.1)

pub to_map : {A B : Type 0} (P : B → Type 0) (f : A → B) (xs : List A) → AllByRecursion (λ x. P (f x)) xs → AllByRecursion P (map f xs)
to_map P f [] h = tt
to_map P f (x ∷ xs) h = (h.0, to_map P f xs h.1)

pub all_true : {A : Type 0} (test : A → Bool) (xs : List A) → list_all test xs ≡ true → AllByRecursion (λ x. test x ≡ true) xs
all_true test [] h = tt
all_true test (x ∷ xs) h = let p = and_parts _ _ h in (p.0, all_true test xs p.1)

-- from two facts of each element a third
pub both_of : {A : Type 0} (P Q R : A → Type 0) → ((x : A) → P x → Q x → R x) → (xs : List A) → AllByRecursion P xs → AllByRecursion Q xs → AllByRecursion R xs
both_of P Q R f [] p q = tt
both_of P Q R f (x ∷ xs) p q = (f x p.0 q.0, both_of P Q R f xs p.1 q.1)

pub each_of : {A : Type 0} (P R : A → Type 0) → ((x : A) → P x → R x) → (xs : List A) → AllByRecursion P xs → AllByRecursion R xs
each_of P R f [] p = tt
each_of P R f (x ∷ xs) p = (f x p.0, each_of P R f xs p.1)

-- a branch is deeper than each of its kids
pub depth-kids : (reach : List ℕ) (edges : List Parts) (kids : List Node) (room : ℕ) → depth_of (kind.Branch reach edges kids) ≤ room
    → (1 ≤ room) × ((k : ℕ) → room ≤ k + 1 → AllByRecursion (λ n. depth_of n ≤ k) kids)
depth-kids reach edges kids room h =
    let whole : depth_of (kind.Branch reach edges kids) ≡ fold max 0 (map depth_of kids) + 1 = fold-Branch ℕ depth_step reach edges kids in
    (omega arith, λ k far. of_map (λ n. n ≤ k) depth_of kids (all-le 0 k (map depth_of kids) (omega arith)))

pub depth-Branch-le : (reach : List ℕ) (edges : List Parts) (kids : List Node) (room : ℕ) → AllByRecursion (λ n. depth_of n ≤ room) kids
    → depth_of (kind.Branch reach edges kids) ≤ room + 1
depth-Branch-le reach edges kids room h =
    let whole : depth_of (kind.Branch reach edges kids) ≡ fold max 0 (map depth_of kids) + 1 = fold-Branch ℕ depth_step reach edges kids in
    let most : fold max 0 (map depth_of kids) ≤ room = max-le 0 room (map depth_of kids) (omega arith) (to_map (λ n. n ≤ room) depth_of kids h) in
    omega arith
