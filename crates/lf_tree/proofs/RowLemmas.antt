-- The rows of a tree, kid by kid.
use Rattle.std.proofs.Common.{◌≡◌, ℕ, ◌+◌, ◌<◌, ◌≤◌, List, [], ◌∷◌, ◌++◌, length, length-append, get_or}
use Rattle.std.proofs.Common.{drop, map, refl, sym, ap, ◌∙◌, append_assoc, inl, inr, arith}
use Rattle.std.specs.Prelude.{◌⊎◌, Some}
use Rattle.std.proofs.lemmas.List.{append-nil, drop_more, drop_all, length-map, map-append}
use Rattle.lf_faults.specs.declared.fault.Parts.{Parts}
use Rattle.lf_tree.specs.declared.tree.Node.{Node, para-roll-Node}
use Rattle.lf_tree.specs.declared.tree.Node.TheVariants.{rolls-Misses, rolls-Reaches, rolls-Branch}
use Rattle.lf_tree.specs.declared.tree.Node.TheVariants as kind
use Rattle.lf_tree.specs.declared.tree.Node.TheOpen.{Node-F}
use Rattle.lf_tree.specs.Rows.{Seen, beneath, beneath_step, of_kids, seen}
use Rattle.lf_tree.specs.declared.preorder.Row.{Row}

-- the rows of kids, each with all beneath it
abbrev pub kids_rows : ℕ → ℕ → ℕ → ℕ → List Node → List Seen
kids_rows place depth next kid kids = of_kids place depth next kid (map (λ n. (n, beneath n)) kids)

pub beneath-Misses : beneath kind.Misses ≡ (λ place depth next. [])
beneath-Misses = ap beneath (sym rolls-Misses) ∙ para-roll-Node (ℕ → ℕ → ℕ → List Seen) beneath_step Node-F.Misses

pub beneath-Reaches : beneath kind.Reaches ≡ (λ place depth next. [])
beneath-Reaches = ap beneath (sym rolls-Reaches) ∙ para-roll-Node (ℕ → ℕ → ℕ → List Seen) beneath_step Node-F.Reaches

pub beneath-Branch : (reach : List ℕ) (edges : List Parts) (kids : List Node) (place depth next : ℕ)
    → beneath (kind.Branch reach edges kids) place depth next ≡ kids_rows place depth next 0 kids
beneath-Branch reach edges kids place depth next =
    ap (λ n. beneath n place depth next) (sym (rolls-Branch reach edges kids))
    ∙ ap (λ b. b place depth next) (para-roll-Node (ℕ → ℕ → ℕ → List Seen) beneath_step (Node-F.Branch reach edges kids))

-- the nodes of rows
pub nodes-seen : (rows : List Row) → map (λ (row : Row). row.node.now) rows ≡ map (λ (r : Seen). r.node) (map seen rows)
nodes-seen [] = refl
nodes-seen (row ∷ rows) = ap (λ ns. row.node.now ∷ ns) (nodes-seen rows)

-- the row of a kid
abbrev pub kid_row : ℕ → ℕ → ℕ → Node → Seen
kid_row place depth kid n = record { parent = Some place; kid = kid; depth = depth + 1; node = n }

-- a kid more: its row, and all beneath it
pub rows-more : (place depth next i at start after : ℕ) (xs : List Node) (x : Node) (row : Row) (before mid now : List Row) (whole : List Seen)
    → i < length xs → x ≡ get_or xs i x → seen row ≡ kid_row place depth i x
    → next ≡ length before → at ≡ length before → start ≡ length mid → after ≡ length now
    → map seen before ++ kids_rows place depth next i (drop i xs) ≡ whole
    → mid ≡ before ++ (row ∷ []) → map seen now ≡ map seen mid ++ beneath x at (depth + 1) start
    → map seen now ++ kids_rows place depth after (i + 1) (drop (i + 1) xs) ≡ whole
rows-more place depth next i at start after xs x row before mid now whole here item shows counted at_counted mid_counted now_counted was pushed put =
    let below : List Seen = beneath x next (depth + 1) (next + 1) in
    let all : List Seen = kid_row place depth i x ∷ below in
    let more : ℕ → List Seen = λ k. kids_rows place depth k (i + 1) (drop (i + 1) xs) in
    let at_next : at ≡ next = omega arith in
    let start_next : start ≡ next + 1 = omega (arith, ap length pushed, length-append before (row ∷ [])) in
    let mid_is : map seen mid ≡ map seen before ++ (kid_row place depth i x ∷ []) =
    ap (map seen) pushed ∙ map-append seen before (row ∷ []) ∙ ap (λ r. map seen before ++ (r ∷ [])) shows in
    let put_is : map seen now ≡ map seen mid ++ below =
    put ∙ ap (λ k. map seen mid ++ beneath x k (depth + 1) start) at_next ∙ ap (λ k. map seen mid ++ beneath x next (depth + 1) k) start_next in
    let now_is : map seen now ≡ map seen before ++ all =
    put_is ∙ ap (λ rs. rs ++ below) mid_is ∙ append_assoc (map seen before) (kid_row place depth i x ∷ []) below in
    let size : length now ≡ length before + length all =
    sym (length-map now seen) ∙ ap length now_is ∙ length-append (map seen before) all ∙ ap (λ k. k + length all) (length-map before seen) in
    let after_is : after ≡ next + length all = omega (arith, size) in
    let one : kids_rows place depth next i (drop i xs) ≡ all ++ more (next + length all) =
    ap (λ ys. kids_rows place depth next i ys) (drop_more xs i x here)
    ∙ ap (λ y. (kid_row place depth i y ∷ beneath y next (depth + 1) (next + 1))
    ++ more (next + length (kid_row place depth i y ∷ beneath y next (depth + 1) (next + 1)))) (sym item) in
    ap (λ k. map seen now ++ more k) after_is
    ∙ ap (λ rs. rs ++ more (next + length all)) now_is
    ∙ append_assoc (map seen before) all (more (next + length all))
    ∙ ap (λ rs. map seen before ++ rs) (sym one)
    ∙ was

-- the rows only grow
pub rows-grow : (before mid now : List Row) (row : Row) (below : List Seen) → mid ≡ before ++ (row ∷ []) → map seen now ≡ map seen mid ++ below
    → length before < length now
rows-grow before mid now row below pushed put =
    omega (
      arith,
      ap length pushed,
      length-append before (row ∷ []),
      ap length put,
      length-append (map seen mid) below,
      length-map now seen,
      length-map mid seen,
    )

-- after the last
pub rows-last : (place depth next i : ℕ) (xs : List Node) (now whole : List Seen) → length xs ≤ i
    → now ++ kids_rows place depth next i (drop i xs) ≡ whole → now ≡ whole
rows-last place depth next i xs now whole far was =
    sym (append-nil now) ∙ ap (λ rs. now ++ rs) (sym (ap (λ ys. kids_rows place depth next i ys) (drop_all i xs far))) ∙ was

-- at first all kids are still to come
pub rows-first : (n : Node) (reach : List ℕ) (edges : List Parts) (kids ks : List Node) (place depth next : ℕ) (before : List Seen)
    → n ≡ kind.Branch reach edges kids → ks ≡ kids
    → before ++ kids_rows place depth next 0 (drop 0 ks) ≡ before ++ beneath n place depth next
rows-first n reach edges kids ks place depth next before is read =
    ap (λ ns. before ++ kids_rows place depth next 0 ns) read
    ∙ ap (λ rs. before ++ rs) (sym (ap (λ m. beneath m place depth next) is ∙ beneath-Branch reach edges kids place depth next))

-- beneath a leaf there is none
pub rows-none : (n : Node) (place depth next : ℕ) (before : List Seen) → (n ≡ kind.Misses) ⊎ (n ≡ kind.Reaches)
    → before ≡ before ++ beneath n place depth next
rows-none n place depth next before leaf =
    let none : beneath n place depth next ≡ [] = elim leaf [
      | inl is ↦ ap (λ m. beneath m place depth next) is ∙ ap (λ b. b place depth next) beneath-Misses
      | inr is ↦ ap (λ m. beneath m place depth next) is ∙ ap (λ b. b place depth next) beneath-Reaches
    ] in
    sym (append-nil before) ∙ ap (λ rs. before ++ rs) (sym none)
