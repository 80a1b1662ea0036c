-- Parts, and the numbers of their topics.
use Rattle.std.proofs.Common.{◌≡◌, ℕ, zero, suc, ◌+◌, ◌<◌, List, [], ◌∷◌, ◌++◌, length, length-append, append_assoc, refl, sym, ap, ◌∙◌, take, get_or, cond, count_by, append-nil, arith}
use Rattle.std.specs.Prelude.{Some, slice_get}
use Rattle.std.specs.List.{flat_map}
use Rattle.std.proofs.lemmas.List.{take_more}
use Rattle.std.proofs.lemmas.List.Sums.{sum_by-append}
use Rattle.std.proofs.lemmas.Grind.{flat_map-append}
use Rattle.lf_rules.specs.declared.topic.Topic.{Topic}
use Rattle.lf_promises.specs.declared.promise.Many.TheVariants as manys
use Rattle.lf_promises.specs.declared.promise.Promise.{Promise}
use Rattle.lf_parts.specs.declared.leaf.Leaf.{Leaf}
use Rattle.lf_parts.specs.declared.leaf.Leaf.TheVariants as kinds
use Rattle.lf_parts.specs.declared.part.Part.{Part}
use Rattle.lf_parts.specs.declared.part.Part.TheVariants as parts
use Rattle.lf_parts.specs.Leaves.{leaves}
use Rattle.lf_parts.specs.Parts.{is_one_value, part_of, parts_from, parts_of, topics_of}

-- the topics of leaves, and how many parts ask for one value
abbrev topics : List Leaf → List Topic
topics = flat_map topics_of

abbrev count : List Part → ℕ
count = count_by is_one_value

-- what leaves behind others say
pub parts-append : (n : ℕ) (xs ys : List Leaf) → parts_from n (xs ++ ys) ≡ parts_from n xs ++ parts_from (n + length (topics xs)) ys
parts-append n [] ys = let same : n ≡ n + 0 = omega arith in ap (λ m. parts_from m ys) same
parts-append n (x ∷ xs) ys =
    let k = n + length (topics_of x) in
    let same : k + length (topics xs) ≡ n + length (topics (x ∷ xs)) = omega (arith, length-append (topics_of x) (topics xs)) in
    ap (λ ps. part_of n x ∷ ps) (parts-append k xs ys ∙ ap (λ m. parts_from k xs ++ parts_from m ys) same)

-- a part asks for one value where its leaf has a topic
abbrev as_number : Part → ℕ
as_number p = cond (is_one_value p) 1 0

number-is : (n : ℕ) (x : Leaf) → as_number (part_of n x) ≡ length (topics_of x)
number-is n (kinds.Nodes manys.Each fact of) = refl
number-is n (kinds.Nodes manys.No fact of) = refl
number-is n (kinds.Nodes manys.Some fact of) = refl
number-is n (kinds.Nodes manys.AtMostOne fact of) = refl
number-is n (kinds.At m fact) = refl
number-is n (kinds.One topic) = refl

count-part : (n : ℕ) (x : Leaf) (ps : List Part) → count (part_of n x ∷ ps) ≡ length (topics_of x) + count ps
count-part n x ps = omega (arith, sum_by-append as_number (part_of n x ∷ []) ps, number-is n x)

count-parts : (n : ℕ) (xs : List Leaf) → count (parts_from n xs) ≡ length (topics xs)
count-parts n [] = refl
count-parts n (x ∷ xs) =
    let k = n + length (topics_of x) in
    omega (arith, count-part n x (parts_from k xs), count-parts k xs, length-append (topics_of x) (topics xs))

-- leaves after others whose parts stand behind other parts
pub parts-next : (before : List Part) (xs ys : List Leaf)
    → (before ++ parts_from (count before) xs) ++ parts_from (count (before ++ parts_from (count before) xs)) ys
    ≡ before ++ parts_from (count before) (xs ++ ys)
parts-next before xs ys =
    let n = count before in
    let same : count (before ++ parts_from n xs) ≡ n + length (topics xs) =
    omega (arith, sum_by-append as_number before (parts_from n xs), count-parts n xs) in
    ap (λ m. (before ++ parts_from n xs) ++ parts_from m ys) same
    ∙ append_assoc before (parts_from n xs) (parts_from (n + length (topics xs)) ys)
    ∙ ap (λ ps. before ++ ps) (sym (parts-append n xs ys))

-- promises in turn, as a loop takes them
module _ (ps : List Promise) (i : ℕ) (p : Promise) (there : i < length ps) (is : p ≡ get_or ps i p) where
  taken : take (i + 1) ps ≡ take i ps ++ p ∷ []
  taken = take_more ps i p there ∙ ap (λ x. take i ps ++ x ∷ []) (sym is)

  pub leaves-on : flat_map leaves (take (i + 1) ps) ≡ flat_map leaves (take i ps) ++ leaves p
  leaves-on = ap (flat_map leaves) taken ∙ flat_map-append leaves (take i ps) (p ∷ []) ∙ ap (λ xs. flat_map leaves (take i ps) ++ xs) (append-nil (leaves p))

  pub parts-on : (before now : List Part) → now ≡ before ++ parts_from (count before) (flat_map leaves (take i ps))
      → now ++ parts_from (count now) (leaves p) ≡ before ++ parts_from (count before) (flat_map leaves (take (i + 1) ps))
  parts-on before now are =
      ap (λ ps. ps ++ parts_from (count ps) (leaves p)) are ∙ parts-next before (flat_map leaves (take i ps)) (leaves p)
      ∙ ap (λ xs. before ++ parts_from (count before) xs) (sym leaves-on)

-- ---- place by place

length-parts : (n : ℕ) (xs : List Leaf) → length (parts_from n xs) ≡ length xs
length-parts n [] = refl
length-parts n (x ∷ xs) = ap suc (length-parts (n + length (topics_of x)) xs)

pub as_many : (p : Promise) → length (parts_of p) ≡ length (leaves p)
as_many p = length-parts 0 (leaves p)

part-at : (n : ℕ) (xs : List Leaf) (i : ℕ) (x : Leaf) → slice_get xs i ≡ Some x
    → slice_get (parts_from n xs) i ≡ Some (part_of (n + length (topics (take i xs))) x)
part-at n [] i x there = absurd cc
part-at n (y ∷ ys) zero x there =
    let same : y ≡ x = cc in
    let none : n ≡ n + 0 = omega arith in
    ap (λ z. Some (part_of n z)) same ∙ ap (λ m. Some (part_of m x)) none
part-at n (y ∷ ys) (suc i) x there =
    let k = n + length (topics_of y) in
    let same : k + length (topics (take i ys)) ≡ n + length (topics (y ∷ take i ys)) =
    omega (arith, length-append (topics_of y) (topics (take i ys))) in
    part-at k ys i x there ∙ ap (λ m. Some (part_of m x)) same

pub each_part : (p : Promise) (i : ℕ) (x : Leaf) → slice_get (leaves p) i ≡ Some x
    → slice_get (parts_of p) i ≡ Some (part_of (length (topics (take i (leaves p)))) x)
each_part p i x there =
    let same : 0 + length (topics (take i (leaves p))) ≡ length (topics (take i (leaves p))) = omega arith in
    part-at 0 (leaves p) i x there ∙ ap (λ m. Some (part_of m x)) same

-- the topic of a leaf among those of all leaves
behind : (xs ys : List Topic) (i : ℕ) → slice_get (xs ++ ys) (length xs + i) ≡ slice_get ys i
behind [] ys i = let same : 0 + i ≡ i = omega arith in ap (slice_get ys) same
behind (x ∷ xs) ys i =
    let same : length (x ∷ xs) + i ≡ suc (length xs + i) = omega arith in
    ap (slice_get (x ∷ (xs ++ ys))) same ∙ behind xs ys i

topic-at : (xs : List Leaf) (i : ℕ) (topic : Topic) → slice_get xs i ≡ Some (kinds.One topic)
    → slice_get (topics xs) (length (topics (take i xs))) ≡ Some topic
topic-at [] i topic there = absurd cc
topic-at (y ∷ ys) zero topic there =
    let same : y ≡ kinds.One topic = cc in
    ap (λ z. slice_get (topics (z ∷ ys)) 0) same
topic-at (y ∷ ys) (suc i) topic there =
    ap (slice_get (topics (y ∷ ys))) (length-append (topics_of y) (topics (take i ys)))
    ∙ behind (topics_of y) (topics ys) (length (topics (take i ys))) ∙ topic-at ys i topic there

pub numbered : (p : Promise) (i number : ℕ) (topic : Topic) → slice_get (leaves p) i ≡ Some (kinds.One topic)
    → slice_get (parts_of p) i ≡ Some (parts.One number) → slice_get (topics (leaves p)) number ≡ Some topic
numbered p i number topic there is =
    let k = length (topics (take i (leaves p))) in
    let one : Some (parts.One number) ≡ Some (parts.One k) = sym is ∙ each_part p i (kinds.One topic) there in
    let same : number ≡ k = cc in
    ap (slice_get (topics (leaves p))) same ∙ topic-at (leaves p) i topic there
