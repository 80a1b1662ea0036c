-- Where the row of each kid stands, and that this fixes the rows of a tree.
use Rattle.std.proofs.Common.{◌≡◌, ℕ, zero, suc, ◌+◌, List, [], ◌∷◌, ◌++◌, length, length-append, append_assoc, take, drop, map, sum}
use Rattle.std.proofs.Common.{refl, sym, ap, subst, ◌∙◌, add-one, arith}
use Rattle.std.specs.Prelude.{None, Some}
use Rattle.std.specs.List.{AllByRecursion, slice_get}
use Rattle.std.proofs.Math.Nat.{zero-add}
use Rattle.std.proofs.Math.Seq.{take-add, take-length}
use Rattle.std.proofs.lemmas.List.{append-nil}
use Rattle.std.proofs.lemmas.List.Sums.{sum_by-cons}
use Rattle.lf_faults.specs.declared.fault.Parts.{Parts}
use Rattle.lf_tree.specs.declared.tree.Tree.{Tree}
use Rattle.lf_tree.specs.declared.tree.Node.{Node}
use Rattle.lf_tree.specs.declared.tree.Node.TheVariants as kind
use Rattle.lf_tree.specs.Counts.{nodes_in}
use Rattle.lf_tree.specs.Heirs.{kids_of}
use Rattle.lf_tree.specs.Preorder.{AreRows, HaveKids, place_of_kid}
use Rattle.lf_tree.specs.Rows.{Seen, beneath, rows_of}
use Rattle.lf_tree.proofs.HangLemmas.{is_counted, length-rows_of}
use Rattle.lf_tree.proofs.Inductions.{by_induction}
use Rattle.lf_tree.proofs.KindLemmas.{nodes_in-Branch, nodes_in-Misses, nodes_in-Reaches}
use Rattle.lf_tree.proofs.LinkLemmas.{kids_of-Branch, kids_of-Misses, kids_of-Reaches}
use Rattle.lf_tree.proofs.PlacedLists.{AllFrom, all_from-append, all_from-at, get-left, get-right, get-drop, drop-drop}
use Rattle.lf_tree.proofs.RowLemmas.{beneath-Branch, beneath-Misses, beneath-Reaches, kid_row, kids_rows}

sum-cons : (n : ℕ) (ns : List ℕ) → sum (n ∷ ns) ≡ n + sum ns
sum-cons n ns = sum_by-cons (λ (x : ℕ). x) n ns

-- the row of a kid among the rows of the kids
kid-row : (place depth next kid at : ℕ) (kids : List Node) (n : Node) → slice_get kids at ≡ Some n
    → slice_get (kids_rows place depth next kid kids) (sum (map nodes_in (take at kids))) ≡ Some (kid_row place depth (kid + at) n)
kid-row place depth next kid at [] n is = absurd (cc)
kid-row place depth next kid zero (k ∷ ks) n is =
    let same : k ≡ n = cc in
    let here : kid ≡ kid + 0 = omega arith in
    ap (λ m. Some (kid_row place depth kid m)) same ∙ ap (λ i. Some (kid_row place depth i n)) here
kid-row place depth next kid (suc at) (k ∷ ks) n is =
    let one : List Seen = kid_row place depth kid k ∷ beneath k next (depth + 1) (next + 1) in
    let rest : List Seen = kids_rows place depth (next + length one) (kid + 1) ks in
    let size : length one ≡ nodes_in k = sym (add-one (length (beneath k next (depth + 1) (next + 1)))) ∙ is_counted k next (depth + 1) (next + 1) in
    let before : ℕ = sum (map nodes_in (take at ks)) in
    let far : sum (map nodes_in (take (suc at) (k ∷ ks))) ≡ length one + before =
    sum-cons (nodes_in k) (map nodes_in (take at ks)) ∙ ap (λ m. m + before) (sym size) in
    let on : (kid + 1) + at ≡ kid + suc at = omega arith in
    ap (slice_get (one ++ rest)) far ∙ get-right one rest before
    ∙ kid-row place depth (next + length one) (kid + 1) at ks n is ∙ ap (λ i. Some (kid_row place depth i n)) on

-- each kid of the node at a place of the list has its row
abbrev HasKids : List Seen → ℕ → Seen → Type 0
HasKids rows place branch = (kid : ℕ) (n : Node) → slice_get (kids_of branch.node) kid ≡ Some n
    → slice_get rows (place_of_kid place (kids_of branch.node) kid) ≡ Some (kid_row place branch.depth kid n)

-- so have the node's and all that is beneath it, wherever they stand in the list
abbrev AllHaveKids : Node → Type 0
AllHaveKids n = (at : ℕ) (row : Seen) (rows before after : List Seen) → row.node ≡ n
    → rows ≡ before ++ ((row ∷ beneath n at row.depth (at + 1)) ++ after) → at ≡ length before
    → AllFrom (HasKids rows) at (row ∷ beneath n at row.depth (at + 1))

no-kid : (kids : List Node) (kid : ℕ) (m : Node) → kids ≡ [] → slice_get kids kid ≡ Some m → ⊥
no-kid [] kid m none there = absurd (cc)
no-kid (k ∷ ks) kid m none there = absurd (cc)

have-leaf : (n : Node) → kids_of n ≡ [] → ((at depth next : ℕ) → beneath n at depth next ≡ []) → AllHaveKids n
have-leaf n none nothing at row rows before after is whole counted =
    let childless : HasKids rows at row = λ kid m there. absurd (no-kid (kids_of row.node) kid m (ap kids_of is ∙ none) there) in
    subst (λ rs. AllFrom (HasKids rows) at (row ∷ rs)) (sym (nothing at row.depth (at + 1))) (childless, tt)

have-kids : (place depth next kid : ℕ) (kids : List Node) (rows before after : List Seen) → AllByRecursion AllHaveKids kids
    → rows ≡ before ++ (kids_rows place depth next kid kids ++ after) → next ≡ length before
    → AllFrom (HasKids rows) next (kids_rows place depth next kid kids)
have-kids place depth next kid [] rows before after all whole counted = tt
have-kids place depth next kid (k ∷ ks) rows before after all whole counted =
    let row : Seen = kid_row place depth kid k in
    let one : List Seen = row ∷ beneath k next (depth + 1) (next + 1) in
    let rest : List Seen = kids_rows place depth (next + length one) (kid + 1) ks in
    let whole_is : rows ≡ before ++ (one ++ (rest ++ after)) = whole ∙ ap (λ rs. before ++ rs) (append_assoc one rest after) in
    let first : AllFrom (HasKids rows) next one = all.0 next row rows before (rest ++ after) refl whole_is counted in
    let later : AllFrom (HasKids rows) (next + length one) rest =
    have-kids place depth (next + length one) (kid + 1) ks rows (before ++ one) after all.1 (whole_is ∙ sym (append_assoc before one (rest ++ after)))
    (omega (arith, counted, length-append before one)) in
    all_from-append (HasKids rows) next (next + length one) one rest refl first later

have-branch : (reach : List ℕ) (edges : List Parts) (kids : List Node) → AllByRecursion AllHaveKids kids → AllHaveKids (kind.Branch reach edges kids)
have-branch reach edges kids all at row rows before after is whole counted =
    let n : Node = kind.Branch reach edges kids in
    let below : List Seen = kids_rows at row.depth (at + 1) 0 kids in
    let below_is : beneath n at row.depth (at + 1) ≡ below = beneath-Branch reach edges kids at row.depth (at + 1) in
    let kids_are : kids_of row.node ≡ kids = ap kids_of is ∙ kids_of-Branch reach edges kids in
    let one : length (row ∷ []) ≡ 1 = refl in
    let counted_on : at + 1 ≡ length (before ++ (row ∷ [])) = omega (arith, counted, one, length-append before (row ∷ [])) in
    let whole_is : rows ≡ (before ++ (row ∷ [])) ++ (below ++ after) =
    whole ∙ ap (λ rs. before ++ ((row ∷ rs) ++ after)) below_is ∙ sym (append_assoc before (row ∷ []) (below ++ after)) in
    let own : HasKids rows at row = λ kid m there.
    let place : ℕ = sum (map nodes_in (take kid kids)) in
    let it : slice_get kids kid ≡ Some m = ap (λ ks. slice_get ks kid) (sym kids_are) ∙ there in
    let far : place_of_kid at (kids_of row.node) kid ≡ length (before ++ (row ∷ [])) + place =
    ap (λ ks. place_of_kid at ks kid) kids_are ∙ ap (λ i. i + place) counted_on in
    ap (λ rs. slice_get rs (place_of_kid at (kids_of row.node) kid)) whole_is
    ∙ ap (slice_get ((before ++ (row ∷ [])) ++ (below ++ after))) far
    ∙ get-right (before ++ (row ∷ [])) (below ++ after) place
    ∙ get-left below after place (kid_row at row.depth kid m)
    (kid-row at row.depth (at + 1) 0 kid kids m it ∙ ap (λ i. Some (kid_row at row.depth i m)) (zero-add kid)) in
    subst (λ rs. AllFrom (HasKids rows) at (row ∷ rs)) (sym below_is)
    (own, have-kids at row.depth (at + 1) 0 kids rows (before ++ (row ∷ [])) after all whole_is counted_on)

all_have : (n : Node) → AllHaveKids n
all_have = by_induction AllHaveKids (record {
  misses = have-leaf kind.Misses kids_of-Misses (λ at depth next. ap (λ b. b at depth next) beneath-Misses);
  reaches = have-leaf kind.Reaches kids_of-Reaches (λ at depth next. ap (λ b. b at depth next) beneath-Reaches);
  branch = have-branch;
})

pub are-rows : (tree : Tree) → AreRows tree (rows_of tree)
are-rows tree =
    let root : Seen = record { parent = None; kid = 0; depth = 0; node = tree.root } in
    let all : AllFrom (HasKids (rows_of tree)) 0 (rows_of tree) =
    all_have tree.root 0 root (rows_of tree) [] [] refl (sym (append-nil (rows_of tree))) refl in
    record {
      count = length-rows_of tree;
      first = refl;
      kids = λ place kid branch n there is.
          subst (λ at. HasKids (rows_of tree) at branch) (zero-add place) (all_from-at (HasKids (rows_of tree)) 0 (rows_of tree) all place branch there)
          kid n is;
    }

-- a list in which each kid has its row
module _ (rows : List Seen) (have : HaveKids rows) where
  -- has the rows of all that is beneath a node behind its own
  abbrev IsFixed : Node → Type 0
  IsFixed n = (at : ℕ) (row : Seen) → slice_get rows at ≡ Some row → row.node ≡ n
      → take (nodes_in n) (drop at rows) ≡ row ∷ beneath n at row.depth (at + 1)

  fixed-leaf : (n : Node) → nodes_in n ≡ 1 → ((at depth next : ℕ) → beneath n at depth next ≡ []) → IsFixed n
  fixed-leaf n one nothing at row there is =
      ap (λ m. take m (drop at rows)) one ∙ ap (take 1) (get-drop rows at row there) ∙ ap (λ rs. row ∷ rs) (sym (nothing at row.depth (at + 1)))

  fixed-kids : (place depth next kid : ℕ) (kids : List Node) → AllByRecursion IsFixed kids
      → ((at : ℕ) (n : Node) → slice_get kids at ≡ Some n → slice_get rows (next + sum (map nodes_in (take at kids))) ≡ Some (kid_row place depth (kid + at) n))
      → take (sum (map nodes_in kids)) (drop next rows) ≡ kids_rows place depth next kid kids
  fixed-kids place depth next kid [] all there = refl
  fixed-kids place depth next kid (k ∷ ks) all there =
      let row : Seen = kid_row place depth kid k in
      let one : List Seen = row ∷ beneath k next (depth + 1) (next + 1) in
      let more : ℕ = sum (map nodes_in ks) in
      let size : length one ≡ nodes_in k = sym (add-one (length (beneath k next (depth + 1) (next + 1)))) ∙ is_counted k next (depth + 1) (next + 1) in
      let after : next + nodes_in k ≡ next + length one = ap (λ m. next + m) (sym size) in
      let first_at : next + 0 ≡ next = omega arith in
      let first_kid : kid + 0 ≡ kid = omega arith in
      let here : slice_get rows next ≡ Some row =
      ap (slice_get rows) (sym first_at) ∙ there 0 k refl ∙ ap (λ i. Some (kid_row place depth i k)) first_kid in
      let first : take (nodes_in k) (drop next rows) ≡ one = all.0 next row here refl in
      let later : take more (drop (next + length one) rows) ≡ kids_rows place depth (next + length one) (kid + 1) ks =
      fixed-kids place depth (next + length one) (kid + 1) ks all.1 (λ at n is.
      let on : ℕ = sum (map nodes_in (take at ks)) in
      let far : (next + length one) + on ≡ next + sum (map nodes_in (take (suc at) (k ∷ ks))) =
      omega (arith, size, sum-cons (nodes_in k) (map nodes_in (take at ks))) in
      let younger : kid + suc at ≡ (kid + 1) + at = omega arith in
      ap (slice_get rows) far ∙ there (suc at) n is ∙ ap (λ i. Some (kid_row place depth i n)) younger) in
      ap (λ m. take m (drop next rows)) (sum-cons (nodes_in k) (map nodes_in ks))
      ∙ take-add (nodes_in k) more (drop next rows)
      ∙ ap (λ rs. rs ++ take more (drop (nodes_in k) (drop next rows))) first
      ∙ ap (λ rs. one ++ take more rs) (drop-drop (nodes_in k) next rows)
      ∙ ap (λ m. one ++ take more (drop m rows)) after
      ∙ ap (λ rs. one ++ rs) later

  fixed-branch : (reach : List ℕ) (edges : List Parts) (kids : List Node) → AllByRecursion IsFixed kids → IsFixed (kind.Branch reach edges kids)
  fixed-branch reach edges kids all at row there is =
      let n : Node = kind.Branch reach edges kids in
      let kids_are : kids_of row.node ≡ kids = ap kids_of is ∙ kids_of-Branch reach edges kids in
      let below : take (sum (map nodes_in kids)) (drop (at + 1) rows) ≡ kids_rows at row.depth (at + 1) 0 kids =
      fixed-kids at row.depth (at + 1) 0 kids all (λ kid m it.
      ap (λ ks. slice_get rows (place_of_kid at ks kid)) (sym kids_are)
      ∙ have at kid row m there (ap (λ ks. slice_get ks kid) kids_are ∙ it)
      ∙ ap (λ i. Some (kid_row at row.depth i m)) (sym (zero-add kid))) in
      let size : nodes_in n ≡ suc (sum (map nodes_in kids)) = omega (arith, nodes_in-Branch reach edges kids) in
      ap (λ m. take m (drop at rows)) size
      ∙ ap (take (suc (sum (map nodes_in kids)))) (get-drop rows at row there)
      ∙ ap (λ rs. row ∷ rs) (below ∙ sym (beneath-Branch reach edges kids at row.depth (at + 1)))

  pub fixed : (n : Node) → IsFixed n
  fixed = by_induction IsFixed (record {
    misses = fixed-leaf kind.Misses nodes_in-Misses (λ at depth next. ap (λ b. b at depth next) beneath-Misses);
    reaches = fixed-leaf kind.Reaches nodes_in-Reaches (λ at depth next. ap (λ b. b at depth next) beneath-Reaches);
    branch = fixed-branch;
  })

pub rows-are-one : (tree : Tree) (rows : List Seen) → AreRows tree rows → rows ≡ rows_of tree
rows-are-one tree rows are =
    sym (take-length rows) ∙ ap (λ m. take m rows) are.count
    ∙ fixed rows are.kids tree.root 0 (record { parent = None; kid = 0; depth = 0; node = tree.root }) are.first refl
