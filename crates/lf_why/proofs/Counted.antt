-- How many sets stand beneath a node, by its kind.
use Rattle.std.proofs.Common.{◌≡◌, ◌≤◌, ℕ, zero, suc, ◌-◌, List, [], ◌∷◌, refl, length, take, sym, ap, ◌∙◌, map, min, sum, arith}
use Rattle.std.proofs.lemmas.List.{take_all}
use Rattle.lf_faults.specs.declared.fault.Parts.{Parts}
use Rattle.lf_tree.specs.declared.tree.Node.{Node, fold-roll-Node}
use Rattle.lf_tree.specs.declared.tree.Node.TheVariants.{rolls-Misses, rolls-Reaches, rolls-Branch}
use Rattle.lf_tree.specs.declared.tree.Node.TheVariants as kind
use Rattle.lf_tree.specs.declared.tree.Node.TheOpen.{Node-F}
use Rattle.lf_why.specs.Levels.{sets_at, sets_step}

pub sets_at-Misses : (level : ℕ) → sets_at kind.Misses level ≡ sets_step Node-F.Misses level
sets_at-Misses level =
    ap (λ n. sets_at n level) (sym rolls-Misses) ∙ ap (λ count. count level) (fold-roll-Node (ℕ → ℕ) sets_step Node-F.Misses)

pub sets_at-Reaches : (level : ℕ) → sets_at kind.Reaches level ≡ sets_step Node-F.Reaches level
sets_at-Reaches level =
    ap (λ n. sets_at n level) (sym rolls-Reaches) ∙ ap (λ count. count level) (fold-roll-Node (ℕ → ℕ) sets_step Node-F.Reaches)

each_kid : (kids : List Node) (level : ℕ) → map (λ sets. sets level) (map sets_at kids) ≡ map (λ kid. sets_at kid level) kids
each_kid [] level = refl
each_kid (kid ∷ kids) level = ap (λ counts. sets_at kid level ∷ counts) (each_kid kids level)

pub sets_at-Branch-zero : (reach : List ℕ) (edges : List Parts) (kids : List Node) → sets_at (kind.Branch reach edges kids) zero ≡ 1
sets_at-Branch-zero reach edges kids =
    ap (λ n. sets_at n zero) (sym (rolls-Branch reach edges kids))
    ∙ ap (λ count. count zero) (fold-roll-Node (ℕ → ℕ) sets_step (Node-F.Branch reach edges kids))

pub sets_at-Branch : (reach : List ℕ) (edges : List Parts) (kids : List Node) (level : ℕ)
    → sets_at (kind.Branch reach edges kids) (suc level) ≡ sum (map (λ kid. sets_at kid level) kids)
sets_at-Branch reach edges kids level =
    ap (λ n. sets_at n (suc level)) (sym (rolls-Branch reach edges kids))
    ∙ ap (λ count. count (suc level)) (fold-roll-Node (ℕ → ℕ) sets_step (Node-F.Branch reach edges kids))
    ∙ ap sum (each_kid kids level)

-- at the node itself
pub itself : (n : Node) (reach : List ℕ) (edges : List Parts) (kids : List Node) (level : ℕ) → n ≡ kind.Branch reach edges kids → level ≡ 0
    → 1 ≡ min (sets_at n level) 18446744073709551615
itself n reach edges kids level is here =
    let one : sets_at n level ≡ 1 = ap (sets_at n) here ∙ ap (λ m. sets_at m 0) is ∙ sets_at-Branch-zero reach edges kids in
    omega (arith, one)

-- after the last kid
pub all_counted : (n : Node) (reach : List ℕ) (edges : List Parts) (kids xs : List Node) (level i count : ℕ) → n ≡ kind.Branch reach edges kids
    → xs ≡ kids → length xs ≤ i → 1 ≤ level → count ≡ min (sum (map (λ kid. sets_at kid (level - 1)) (take i xs))) 18446744073709551615
    → count ≡ min (sets_at n level) 18446744073709551615
all_counted n reach edges kids xs level i count is same far beneath h =
    let whole : sum (map (λ kid. sets_at kid (level - 1)) (take i xs)) ≡ sum (map (λ kid. sets_at kid (level - 1)) kids) =
    ap (λ (ys : List Node). sum (map (λ kid. sets_at kid (level - 1)) ys)) (take_all i xs far ∙ same) in
    let deeper : level ≡ suc (level - 1) = omega (arith, beneath) in
    let by_kind : sets_at n level ≡ sum (map (λ kid. sets_at kid (level - 1)) kids) =
    ap (λ m. sets_at m level) is ∙ ap (sets_at (kind.Branch reach edges kids)) deeper ∙ sets_at-Branch reach edges kids (level - 1) in
    omega (arith, whole, by_kind, h)
