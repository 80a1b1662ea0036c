-- Combinations and their numbers.
use Rattle.std.proofs.Common.{◌≡◌, ℕ, ◌+◌, ◌*◌, ◌/◌, ◌%◌, ◌<◌, ◌≤◌, List, [], ◌∷◌, ◌++◌, String, Global, string_bytes, length, get_or}
use Rattle.std.proofs.Common.{drop, map, append_assoc, sym, ap, subst, ◌∙◌, arith, mul-pos, mul_comm, mul_assoc, div-add-mod', refl}
use Rattle.std.proofs.lemmas.List.{at_drop_more, map-append}
use Rattle.std.proofs.lemmas.Nat.{div-mul-add, mod-mul-add, div_below, mod_below, mul-add-lt, mul-le}
use Rattle.lf_sweep.specs.declared.varied.Varied.{Varied}
use Rattle.lf_sweep.specs.Words.{count_of, word_at}
use Rattle.lf_sweep.specs.Combinations.{ArePlaces, combinations, number_of, places_at, words_at}

-- there is one combination at least
pub some_combinations : (vs : List Varied) → 0 < combinations vs
some_combinations [] = omega arith
some_combinations (v ∷ vs) = mul-pos v.some (some_combinations vs)

-- and no fewer with one more that varies
pub more_combinations : (v : Varied) (vs : List Varied) → combinations vs ≤ count_of v.words * combinations vs
more_combinations v vs =
    let least : 1 * combinations vs ≤ count_of v.words * combinations vs =
    mul-le 1 (combinations vs) (count_of v.words) (combinations vs) v.some (omega arith) in
    omega (arith, least)

-- the combinations of those behind the first
pub behind_first : (n c below : ℕ) → 0 < n → below ≡ n * c → below / n ≡ c
behind_first n c below some is =
    let turned : below ≡ c * n + 0 = is ∙ mul_comm n c ∙ (omega arith) in
    ap (λ b. b / n) turned ∙ div-mul-add c n 0 some

-- the first digit of a number, and what is left of it
pub first_digit : (n c left : ℕ) → 0 < c → left < n * c → left / c < n
first_digit n c left some below = div_below left c n some below

pub places_numbered : (vs : List Varied) (n : ℕ) → n < combinations vs → ArePlaces vs (places_at vs n) × (number_of vs (places_at vs n) ≡ n)
places_numbered [] n below = (tt, omega (arith, below))
places_numbered (v ∷ vs) n below =
    let some = some_combinations vs in
    let rest = places_numbered vs (n % combinations vs) (mod_below n (combinations vs) some) in (
      (first_digit (count_of v.words) (combinations vs) n some below, rest.0),
      ap (λ x. n / combinations vs * combinations vs + x) rest.1 ∙ div-add-mod' n (combinations vs),
    )

number_below : (vs : List Varied) (ds : List ℕ) → ArePlaces vs ds → number_of vs ds < combinations vs
number_below [] [] are = omega arith
number_below [] (d ∷ ds) are = absurd are
number_below (v ∷ vs) [] are = absurd are
number_below (v ∷ vs) (d ∷ ds) are =
    subst (λ c. d * combinations vs + number_of vs ds < c) (mul_comm (combinations vs) (count_of v.words))
    (mul-add-lt d (combinations vs) (number_of vs ds) (count_of v.words) are.0 (number_below vs ds are.1))

pub places_one : (vs : List Varied) (ds : List ℕ) → ArePlaces vs ds → places_at vs (number_of vs ds) ≡ ds
places_one [] [] are = refl
places_one [] (d ∷ ds) are = absurd are
places_one (v ∷ vs) [] are = absurd are
places_one (v ∷ vs) (d ∷ ds) are =
    let below = number_below vs ds are.1 in
    rw (div-mul-add d (combinations vs) (number_of vs ds) below, mod-mul-add d (combinations vs) (number_of vs ds) below, places_one vs ds are.1) refl

grown : (p c : ℕ) → 0 < c → p ≤ p * c
grown p c some = let least : p * 1 ≤ p * c = mul-le p 1 p c (omega arith) (omega (arith, some)) in omega (arith, least)

module _ (vs : List Varied) (v : Varied) (i : ℕ) (inside : i < length vs) (is : v ≡ get_or vs i v) where
  -- the combinations of the others of which v is the first
  behind : combinations (drop i vs) ≡ count_of v.words * combinations (drop (i + 1) vs)
  behind = at_drop_more combinations vs i v inside ∙ ap (λ (x : Varied). count_of x.words * combinations (drop (i + 1) vs)) (sym is)

  -- once there are too many combinations, those that are still to come make them no fewer
  pub too_many : (count n most : ℕ) → n ≡ count_of v.words → count * combinations (drop i vs) ≡ combinations vs → most < count * n
      → most < combinations vs
  too_many count n most size all over =
      let rest = combinations (drop (i + 1) vs) in
      let whole : count * n * rest ≡ combinations vs =
      ap (λ m. count * m * rest) size ∙ mul_assoc count (count_of v.words) rest ∙ ap (λ x. count * x) (sym behind) ∙ all in
      let least : count * n ≤ combinations vs = subst (λ x. count * n ≤ x) whole (grown (count * n) rest (some_combinations (drop (i + 1) vs))) in
      omega (arith, over, least)

  -- the combinations of those behind v
  pub next_base : (n below : ℕ) → n ≡ count_of v.words → below ≡ combinations (drop i vs) → below / n ≡ combinations (drop (i + 1) vs)
  next_base n below size base =
      behind_first n (combinations (drop (i + 1) vs)) below (subst (λ m. 0 < m) (sym size) v.some)
      (base ∙ behind ∙ ap (λ m. m * combinations (drop (i + 1) vs)) (sym size))

  -- the place of v's value
  pub next_place : (n below left : ℕ) → n ≡ count_of v.words → below ≡ combinations (drop i vs) → left < below → left / (below / n) < count_of v.words
  next_place n below left size base inner =
      rw (next_base n below size base)
      (first_digit (count_of v.words) (combinations (drop (i + 1) vs)) left (some_combinations (drop (i + 1) vs))
      (subst (λ b. left < b) (base ∙ behind) inner))

  pub next_left : (n below left : ℕ) → n ≡ count_of v.words → below ≡ combinations (drop i vs) → left % (below / n) < below / n
  next_left n below left size base =
      mod_below left (below / n) (subst (λ b. 0 < b) (sym (next_base n below size base)) (some_combinations (drop (i + 1) vs)))

  -- the values, with that of v
  pub next_words : (words pushed : List (String Global)) (word : String Global) (all : List (List ℕ)) (base left : ℕ)
      → pushed ≡ words ++ word ∷ [] → base ≡ combinations (drop (i + 1) vs) → string_bytes word ≡ word_at v.words (left / base)
      → map string_bytes words ++ words_at (drop i vs) left ≡ all
      → map string_bytes pushed ++ words_at (drop (i + 1) vs) (left % base) ≡ all
  next_words words pushed word all base left pushed_is base_is word_is so_far =
      let rest = words_at (drop (i + 1) vs) (left % base) in
      let first : words_at (drop i vs) left
      ≡ word_at v.words (left / combinations (drop (i + 1) vs)) ∷ words_at (drop (i + 1) vs) (left % combinations (drop (i + 1) vs)) =
      at_drop_more (λ xs. words_at xs left) vs i v inside
      ∙ ap (λ (x : Varied). word_at x.words (left / combinations (drop (i + 1) vs)) ∷ words_at (drop (i + 1) vs) (left % combinations (drop (i + 1) vs)))
      (sym is) in
      let here : string_bytes word ∷ rest ≡ words_at (drop i vs) left =
      ap (λ w. w ∷ rest) word_is ∙ ap (λ b. word_at v.words (left / b) ∷ words_at (drop (i + 1) vs) (left % b)) base_is ∙ sym first in
      ap (λ l. map string_bytes l ++ rest) pushed_is ∙ ap (λ l. l ++ rest) (map-append string_bytes words (word ∷ []))
      ∙ append_assoc (map string_bytes words) (string_bytes word ∷ []) rest
      ∙ ap (λ l. map string_bytes words ++ l) here ∙ so_far
