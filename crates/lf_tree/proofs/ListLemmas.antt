-- The text of a list, item by item.
use Rattle.std.proofs.Common.{◌≡◌, ℕ, zero, suc, ◌+◌, ◌<◌, ◌≤◌, List, [], ◌∷◌, ◌++◌, length}
use Rattle.std.proofs.Common.{get_or, drop, refl, sym, ap, ◌∙◌, map, append_assoc, add-one, false, ne_eqb, arith}
use Rattle.std.specs.Prelude.{◌==◌, codes, if◌then◌else◌}
use Rattle.std.proofs.lemmas.List.{append-nil, drop_more, drop_all}
use Rattle.lf_tree.specs.Texts.{in_brackets, with_commas}

-- the texts, a comma before each
abbrev pub after_commas : List (List ℕ) → List ℕ
after_commas [] = []
after_commas (text ∷ texts) = codes "," ++ (text ++ after_commas texts)

-- what is still to come of the texts, once so many are written
abbrev pub still_to_come : ℕ → List (List ℕ) → List ℕ
still_to_come zero texts = with_commas texts
still_to_come (suc written) texts = after_commas texts

with_commas-first : (text : List ℕ) (texts : List (List ℕ)) → with_commas (text ∷ texts) ≡ text ++ after_commas texts
with_commas-first text [] = sym (append-nil text)
with_commas-first text (next ∷ texts) = ap (λ x. text ++ (codes "," ++ x)) (with_commas-first next texts)

still-one : (written : ℕ) (text : List ℕ) (texts : List (List ℕ))
    → still_to_come written (text ∷ texts) ≡ (if written == 0 then [] else codes ",") ++ (text ++ after_commas texts)
still-one zero text texts = with_commas-first text texts
still-one (suc written) text texts =
    let not_first : (suc written == 0) ≡ false = ne_eqb (suc written) 0 (λ e. absurd (omega (arith, e))) in
    ap (λ b. (if b then [] else codes ",") ++ (text ++ after_commas texts)) (sym not_first)

still-none : (written : ℕ) → still_to_come written [] ≡ []
still-none zero = refl
still-none (suc written) = refl

after-more : (written : ℕ) (texts : List (List ℕ)) → still_to_come (written + 1) texts ≡ after_commas texts
after-more written texts = ap (λ k. still_to_come k texts) (add-one written)

module _ {X : Type 0} (f : X → List ℕ) where
  -- at first the whole list is still to come
  pub list-first : (xs ys : List X) (before now : List ℕ) → ys ≡ xs → now ≡ before ++ codes "["
      → now ++ (still_to_come 0 (map f (drop 0 ys)) ++ codes "]") ≡ before ++ in_brackets (map f xs)
  list-first xs ys before now same is =
      ap (λ t. t ++ (with_commas (map f ys) ++ codes "]")) is
      ∙ append_assoc before (codes "[") (with_commas (map f ys) ++ codes "]")
      ∙ ap (λ zs. before ++ in_brackets (map f zs)) same

  -- one item more
  pub list-more : (xs : List X) (i : ℕ) (x d : X) (before mid now whole : List ℕ) → i < length xs → x ≡ get_or xs i d
      → before ++ (still_to_come i (map f (drop i xs)) ++ codes "]") ≡ whole
      → mid ≡ before ++ (if i == 0 then [] else codes ",") → now ≡ mid ++ f x
      → now ++ (still_to_come (i + 1) (map f (drop (i + 1) xs)) ++ codes "]") ≡ whole
  list-more xs i x d before mid now whole here same was comma item =
      let sep : List ℕ = if i == 0 then [] else codes "," in
      let more : List (List ℕ) = map f (drop (i + 1) xs) in
      let one : still_to_come i (map f (drop i xs)) ≡ sep ++ (f x ++ after_commas more) =
      ap (λ ys. still_to_come i (map f ys)) (drop_more xs i d here) ∙ still-one i (f (get_or xs i d)) more
      ∙ ap (λ y. sep ++ (f y ++ after_commas more)) (sym same) in
      let now_is : now ≡ (before ++ sep) ++ f x = item ∙ ap (λ t. t ++ f x) comma in
      ap (λ t. now ++ (t ++ codes "]")) (after-more i more)
      ∙ ap (λ t. t ++ (after_commas more ++ codes "]")) now_is
      ∙ append_assoc (before ++ sep) (f x) (after_commas more ++ codes "]")
      ∙ append_assoc before sep (f x ++ (after_commas more ++ codes "]"))
      ∙ ap (λ t. before ++ (sep ++ t)) (sym (append_assoc (f x) (after_commas more) (codes "]")))
      ∙ ap (λ t. before ++ t) (sym (append_assoc sep (f x ++ after_commas more) (codes "]")))
      ∙ ap (λ t. before ++ (t ++ codes "]")) (sym one)
      ∙ was

  -- after the last
  pub list-last : (xs : List X) (i : ℕ) (before now whole : List ℕ) → length xs ≤ i
      → before ++ (still_to_come i (map f (drop i xs)) ++ codes "]") ≡ whole → now ≡ before ++ codes "]" → now ≡ whole
  list-last xs i before now whole far was is =
      is ∙ ap (λ t. before ++ (t ++ codes "]")) (sym (ap (λ ys. still_to_come i (map f ys)) (drop_all i xs far) ∙ still-none i)) ∙ was

-- seven pieces, one after another
pub seven : (before t u v w x y now a b c d e f g : List ℕ) → t ≡ before ++ a → u ≡ t ++ b → v ≡ u ++ c → w ≡ v ++ d → x ≡ w ++ e → y ≡ x ++ f
    → now ≡ y ++ g → now ≡ before ++ (a ++ (b ++ (c ++ (d ++ (e ++ (f ++ g))))))
seven before t u v w x y now a b c d e f g one two three four five six last =
    let flat : now ≡ ((((((before ++ a) ++ b) ++ c) ++ d) ++ e) ++ f) ++ g = cc in
    flat ∙ simp append_assoc
