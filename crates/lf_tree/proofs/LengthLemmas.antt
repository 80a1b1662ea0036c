-- How long the text of a list is.
use Rattle.std.proofs.Common.{◌≡◌, ℕ, ◌+◌, ◌/◌, ◌%◌, ◌<◌, ◌≤◌, List, [], ◌∷◌, ◌++◌}
use Rattle.std.proofs.Common.{length, length-append, take, ap, sym, subst, ◌∙◌, map, max, min, arith, refl}
use Rattle.std.specs.Fmt.{decimal}
use Rattle.std.proofs.lemmas.Fmt.{decimal_digit, decimal_step}
use Rattle.lf_faults.specs.declared.fault.Parts.{Parts}
use Rattle.lf_faults.specs.declared.fault.Parts.TheVariants.{Omit, Crash, Pause}
use Rattle.lf_faults.specs.Faults.{IsFault}
use Rattle.lf_faults.specs.Texts.{node_at_step, spelling}
use Rattle.lf_tree.specs.declared.tree.Tree.{Tree}
use Rattle.lf_tree.specs.declared.tree.Node.{Node}
use Rattle.lf_tree.specs.declared.tree.Node.TheVariants as kind
use Rattle.lf_tree.proofs.KindLemmas.{node_text-Branch}
use Rattle.std.specs.List.{list_any, sum_by}
use Rattle.std.proofs.lemmas.List.{take_all}
use Rattle.std.proofs.lemmas.List.Sums.{sum_by-cons}
use Rattle.lf_tree.specs.Texts.{answer_faults, answer_text, faults_text, format_of, has_pause, in_brackets, is_pause, node_text, quoted, tree_text, with_commas}
use Rattle.std.specs.Prelude.{Bool, true, false, ◌||◌, codes, if◌then◌else◌}

module _ {X : Type 0} (f : X → List ℕ) where
  -- the length of the items, each with the comma or the bracket that follows it
  abbrev pub items_length : List X → ℕ
  items_length xs = sum_by (λ x. length (f x) + 1) xs

  length-with_commas : (x : X) (xs : List X) → length (with_commas (map f (x ∷ xs))) + 1 ≡ items_length (x ∷ xs)
  length-with_commas x [] =
      let sum : items_length (x ∷ []) ≡ (length (f x) + 1) + 0 = sum_by-cons (λ z. length (f z) + 1) x [] in
      let text : length (with_commas (map f (x ∷ []))) ≡ length (f x) = refl in
      omega (arith, sum, text)
  length-with_commas x (y ∷ ys) =
      let rest : List ℕ = with_commas (map f (y ∷ ys)) in
      let inner : length rest + 1 ≡ items_length (y ∷ ys) = length-with_commas y ys in
      let text : length (with_commas (map f (x ∷ y ∷ ys))) ≡ length (f x ++ (codes "," ++ rest)) = refl in
      let comma : length (codes "," ++ rest) ≡ 1 + length rest = length-append (codes ",") rest in
      let sum : items_length (x ∷ y ∷ ys) ≡ (length (f x) + 1) + items_length (y ∷ ys) =
      sum_by-cons (λ z. length (f z) + 1) x (y ∷ ys) in
      omega (arith, inner, text, comma, sum, length-append (f x) (codes "," ++ rest))

  pub length-in_brackets : (xs : List X) → length (in_brackets (map f xs)) ≡ 1 + max 1 (items_length xs)
  length-in_brackets [] = refl
  length-in_brackets (x ∷ xs) =
      let inner : length (with_commas (map f (x ∷ xs))) + 1 ≡ items_length (x ∷ xs) = length-with_commas x xs in
      let text : length (in_brackets (map f (x ∷ xs))) ≡ 1 + length (with_commas (map f (x ∷ xs)) ++ codes "]") =
      length-append (codes "[") (with_commas (map f (x ∷ xs)) ++ codes "]") in
      omega (arith, inner, text, length-append (with_commas (map f (x ∷ xs))) (codes "]"))

  -- after the last item
  pub length-all : (xs ys : List X) (i items result : ℕ) → ys ≡ xs → length ys ≤ i → items ≡ min (items_length (take i ys)) 16777217
      → result ≡ min (1 + max 1 items) 16777217 → result ≡ min (length (in_brackets (map f xs))) 16777217
  length-all xs ys i items result same far h is =
      let whole : items_length (take i ys) ≡ items_length xs = ap items_length (take_all i ys far ∙ same) in
      omega (arith, whole, h, is, length-in_brackets xs)

-- a number of one digit, and one of two
pub one_digit : (n : ℕ) → n < 10 → length (decimal n) ≡ 1
one_digit n low = ap length (decimal_digit n low)

pub two_bytes : (n : ℕ) → 10 ≤ n → n < 100 → decimal n ≡ (48 + n / 10) ∷ (48 + n % 10) ∷ []
two_bytes n low high = decimal_step n low (omega arith) ∙ ap (λ ds. ds ++ ((48 + n % 10) ∷ [])) (decimal_digit (n / 10) (omega arith))

pub two_digits : (n : ℕ) → 10 ≤ n → n < 100 → length (decimal n) ≡ 2
two_digits n low high = ap length (two_bytes n low high)

length-at_step : (node step : ℕ) → node < 8 → length (node_at_step node step) ≡ 3 + length (decimal step)
length-at_step node step low =
    omega (arith, one_digit node (omega arith), length-append (decimal node) (codes " @" ++ decimal step), length-append (codes " @") (decimal step))

length-quoted : (f : Parts) → length (quoted f) ≡ 2 + length (spelling f)
length-quoted f = omega (arith, length-append (codes "\"") (spelling f ++ codes "\""), length-append (spelling f) (codes "\""))

-- the length of a fault in quotes
pub length-omission : (f : Parts) (from to step digits : ℕ) → Omit from to step ≡ f → IsFault f → digits ≡ length (decimal step)
    → 12 + digits ≡ length (quoted f)
length-omission f from to step digits is fault number =
    let ranges : IsFault (Omit from to step) = subst IsFault (sym is) fault in
    let from_low : from < 8 = ranges.0 in
    let to_low : to < 8 = ranges.1 in
    let receiver : List ℕ = node_at_step to step in
    let whole : length (quoted f) ≡ length (quoted (Omit from to step)) = ap (λ g. length (quoted g)) (sym is) in
    let word : length (spelling (Omit from to step)) ≡ 5 + length (decimal from ++ (codes ">" ++ receiver)) =
    length-append (codes "omit ") (decimal from ++ (codes ">" ++ receiver)) in
    let sender : length (decimal from ++ (codes ">" ++ receiver)) ≡ length (decimal from) + length (codes ">" ++ receiver) =
    length-append (decimal from) (codes ">" ++ receiver) in
    let arrow : length (codes ">" ++ receiver) ≡ 1 + length receiver = length-append (codes ">") receiver in
    omega (arith, number, whole, length-quoted (Omit from to step), word, sender, arrow, one_digit from (omega arith), length-at_step to step to_low)

pub length-crash : (f : Parts) (node step digits : ℕ) → Crash node step ≡ f → IsFault f → digits ≡ length (decimal step)
    → 11 + digits ≡ length (quoted f)
length-crash f node step digits is fault number =
    let ranges : IsFault (Crash node step) = subst IsFault (sym is) fault in
    let low : node < 8 = ranges.0 in
    let whole : length (quoted f) ≡ length (quoted (Crash node step)) = ap (λ g. length (quoted g)) (sym is) in
    let word : length (spelling (Crash node step)) ≡ 6 + length (node_at_step node step) = length-append (codes "crash ") (node_at_step node step) in
    omega (arith, number, whole, length-quoted (Crash node step), word, length-at_step node step low)

pub length-pause : (f : Parts) (node step digits : ℕ) → Pause node step ≡ f → IsFault f → digits ≡ length (decimal step)
    → 11 + digits ≡ length (quoted f)
length-pause f node step digits is fault number =
    let ranges : IsFault (Pause node step) = subst IsFault (sym is) fault in
    let low : node < 8 = ranges.0 in
    let whole : length (quoted f) ≡ length (quoted (Pause node step)) = ap (λ g. length (quoted g)) (sym is) in
    let word : length (spelling (Pause node step)) ≡ 6 + length (node_at_step node step) = length-append (codes "pause ") (node_at_step node step) in
    omega (arith, number, whole, length-quoted (Pause node step), word, length-at_step node step low)

-- three texts, each after a key, and the closing brace
length-three : (a b c x y z e : List ℕ) → length (a ++ (x ++ (b ++ (y ++ (c ++ (z ++ e))))))
    ≡ length a + length b + length c + length e + length x + length y + length z
length-three a b c x y z e =
    omega (
      arith,
      length-append a (x ++ (b ++ (y ++ (c ++ (z ++ e))))),
      length-append x (b ++ (y ++ (c ++ (z ++ e)))),
      length-append b (y ++ (c ++ (z ++ e))),
      length-append y (c ++ (z ++ e)),
      length-append c (z ++ e),
      length-append z e,
    )

-- the length of a branch, by its lists as read
pub length-Branch : (n : Node) (reach : List ℕ) (edges es : List Parts) (kids ks : List Node) → n ≡ kind.Branch reach edges kids
    → es ≡ edges → ks ≡ kids
    → length (node_text n) ≡ 27 + length (faults_text es) + length (in_brackets (map node_text ks)) + length (in_brackets (map decimal reach))
length-Branch n reach edges es kids ks is edges_read kids_read =
    let whole : length (node_text n) ≡ length (node_text (kind.Branch reach edges kids)) = ap (λ m. length (node_text m)) is in
    let first : length (faults_text es) ≡ length (faults_text edges) = ap (λ fs. length (faults_text fs)) edges_read in
    let second : length (in_brackets (map node_text ks)) ≡ length (in_brackets (map node_text kids)) =
    ap (λ (ns : List Node). length (in_brackets (map node_text ns))) kids_read in
    omega (
      arith,
      whole,
      first,
      second,
      ap length (node_text-Branch reach edges kids),
      length-three (codes "{\"edges\":") (codes ",\"kids\":") (codes ",\"reach\":") (faults_text edges) (in_brackets (map node_text kids))
          (in_brackets (map decimal reach)) (codes "}"),
    )

format_digit : (b : Bool) → length (decimal (if b then 2 else 1)) ≡ 1
format_digit true = one_digit 2 (omega arith)
format_digit false = one_digit 1 (omega arith)

-- the length of a tree's text
pub length-tree : (tree : Tree) → length (tree_text tree) ≡ 30 + length (answer_text tree.answer) + length (node_text tree.root)
length-tree tree =
    omega (
      arith,
      format_digit (list_any is_pause (answer_faults tree.answer) || has_pause tree.root),
      length-three (codes "{\"answer\":") (codes ",\"format\":") (codes ",\"root\":") (answer_text tree.answer) (decimal (format_of tree))
          (node_text tree.root) (codes "}"),
    )

-- a number of two digits
pub tens_and_units : (n : ℕ) → 10 ≤ n → n < 100 → decimal n ≡ decimal (n / 10) ++ decimal (n % 10)
tens_and_units n low high =
    decimal_step n low (omega arith) ∙ ap (λ ds. decimal (n / 10) ++ ds) (sym (decimal_digit (n % 10) (omega arith)))
