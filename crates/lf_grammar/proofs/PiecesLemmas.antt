-- How a text falls into pieces, where its reader takes several bytes at once, and what its tokens are.
use Rattle.std.proofs.Common.{◌≡◌, ℕ, zero, suc, ◌+◌, ◌*◌, ◌-◌, ◌<◌, ◌≤◌, Bool, true, false, List, [], ◌∷◌, ◌++◌, take, drop, length}
use Rattle.std.proofs.Common.{slice_index_or, Some, None, Ok, Err, refl, sym, ap, ◌∙◌, arith, append_assoc, append-nil}
use Rattle.std.specs.List.{fold, prefix_len}
use Rattle.std.specs.Prelude.{All}
use Rattle.std.proofs.lemmas.Bool.{le-leb}
use Rattle.std.proofs.lemmas.Bool.Decides.{nat_tests}
use Rattle.std.proofs.lemmas.List.{get_or-take}
use Rattle.std.proofs.lemmas.List.Sums.{prefix_len_passes}
use Rattle.std.proofs.lemmas.List.Folds.{length-prefix_len}
use Rattle.lf_grammar.specs.declared.bytes.Class.TheVariants as classes
use Rattle.lf_grammar.specs.declared.token_error.TokenError.{TokenError}
use Rattle.lf_grammar.specs.declared.sign.Sign.{Sign}
use Rattle.lf_grammar.specs.declared.token.Token.{Token}
use Rattle.lf_grammar.specs.Bytes.{has, is_blank, is_digit, is_letter, is_of_word}
use Rattle.lf_grammar.specs.Signs.{single, pair}
use Rattle.lf_grammar.specs.Tokens.{Piece, Number, Word, Mark, Part, Nothing, Digits, Letters, First, Both, joined, begun, marked, ended}
use Rattle.lf_grammar.specs.Tokens.{pieces, value_behind, Reading, token_of, open_after, in_room, tokens_behind, behind_tokens, ◌>>=◌}
use Rattle.lf_grammar.specs.declared.token.Token.TheVariants as tokens
use Rattle.lf_grammar.specs.declared.token_error.TokenError.TheVariants as faults

one-first : (n : ℕ) → 1 + n ≡ suc n
one-first n = omega arith

-- bytes that a part goes on with, taken at once
module _ {A : Type 0} (test : ℕ → Bool) (more : A → ℕ → A) (part : A → Part) (piece : A → Piece) where
  abbrev Spans : A → List ℕ → Type 0
  Spans a bs = pieces (part a) bs ≡ piece (fold more a (take (prefix_len test bs) bs)) ∷ pieces Nothing (drop (prefix_len test bs) bs)

  abbrev taken : A → List ℕ → ℕ → List Piece
  taken a bs n = piece (fold more a (take n bs)) ∷ pieces Nothing (drop n bs)

  span-more : ((a : A) (b : ℕ) → test b ≡ true → joined (part a) b ≡ Some (part (more a b))) → ((a : A) (b : ℕ) → test b ≡ false → joined (part a) b ≡ None)
      → ((a : A) → ended (part a) ≡ piece a ∷ []) → (a : A) (b : ℕ) (bs : List ℕ) → Spans (more a b) bs → (so : Bool) → test b ≡ so → Spans a (b ∷ bs)
  span-more goes stops ends a b bs rest true h =
      let longer : prefix_len test (b ∷ bs) ≡ suc (prefix_len test bs) = rw h (one-first (prefix_len test bs)) in
      let begins : pieces (part a) (b ∷ bs) ≡ pieces (part (more a b)) bs = rw (goes a b h) refl in
      begins ∙ rest ∙ sym (ap (taken a (b ∷ bs)) longer)
  span-more goes stops ends a b bs rest false h =
      let none : prefix_len test (b ∷ bs) ≡ 0 = rw h refl in
      let begins : pieces (part a) (b ∷ bs) ≡ piece a ∷ pieces (begun b) bs = rw (stops a b h, ends a) refl in
      begins ∙ sym (ap (taken a (b ∷ bs)) none)

  span : ((a : A) (b : ℕ) → test b ≡ true → joined (part a) b ≡ Some (part (more a b))) → ((a : A) (b : ℕ) → test b ≡ false → joined (part a) b ≡ None)
      → ((a : A) → ended (part a) ≡ piece a ∷ []) → (a : A) (bs : List ℕ) → Spans a bs
  span goes stops ends a [] = rw (ends a) refl
  span goes stops ends a (b ∷ bs) = span-more goes stops ends a b bs (span goes stops ends (more a b) bs) (test b) refl

pieces-digits : (n : ℕ) (bs : List ℕ)
    → pieces (Digits n) bs ≡ Number (value_behind n (take (prefix_len is_digit bs) bs)) ∷ pieces Nothing (drop (prefix_len is_digit bs) bs)
pieces-digits = span is_digit (λ n b. 10 * n + (b - 48)) Digits Number (λ n b h. rw h refl) (λ n b h. rw h refl) (λ n. refl)

grown : (word bs : List ℕ) → fold (λ word b. word ++ b ∷ []) word bs ≡ word ++ bs
grown word [] = sym (append-nil word)
grown word (b ∷ bs) = grown (word ++ b ∷ []) bs ∙ append_assoc word (b ∷ []) bs

pieces-letters : (word bs : List ℕ)
    → pieces (Letters word) bs ≡ Word (word ++ take (prefix_len is_of_word bs) bs) ∷ pieces Nothing (drop (prefix_len is_of_word bs) bs)
pieces-letters word bs =
    span is_of_word (λ word b. word ++ b ∷ []) Letters Word (λ word b h. rw h refl) (λ word b h. rw h refl) (λ word. refl) word bs
    ∙ ap (λ all. Word all ∷ pieces Nothing (drop (prefix_len is_of_word bs) bs)) (grown word (take (prefix_len is_of_word bs) bs))

begun-digit : (b : ℕ) → is_blank b ≡ false → is_digit b ≡ true → begun b ≡ Digits (b - 48)
begun-digit b blank digit = rw (blank, digit) refl

begun-letter : (b : ℕ) → is_blank b ≡ false → is_digit b ≡ false → is_letter b ≡ true → begun b ≡ Letters (b ∷ [])
begun-letter b blank digit letter = rw (blank, digit, letter) refl

begun-first : (b : ℕ) → is_blank b ≡ false → is_digit b ≡ false → is_letter b ≡ false → begun b ≡ First b
begun-first b blank digit letter = rw (blank, digit, letter) refl

-- a blank is passed over
pub next-blank : (b : ℕ) (bs : List ℕ) → is_blank b ≡ true → pieces Nothing (b ∷ bs) ≡ pieces Nothing bs
next-blank b bs blank = rw blank refl

-- a number, as its reader takes it
pub next-number : (b k : ℕ) (bs more after : List ℕ) → is_blank b ≡ false → is_digit b ≡ true → k ≡ prefix_len (has classes.Digit) bs
    → more ≡ take k bs → after ≡ drop k bs → pieces Nothing (b ∷ bs) ≡ Number (value_behind (b - 48) more) ∷ pieces Nothing after
next-number b k bs more after blank digit count front back =
    ap (λ part. pieces part bs) (begun-digit b blank digit) ∙ rw (front, back, count) (pieces-digits (b - 48) bs)

-- a word, as its reader takes it
pub next-word : (b k : ℕ) (bs more after : List ℕ) → is_blank b ≡ false → is_digit b ≡ false → is_letter b ≡ true → k ≡ prefix_len (has classes.OfWord) bs
    → more ≡ take k bs → after ≡ drop k bs → pieces Nothing (b ∷ bs) ≡ Word (b ∷ more) ∷ pieces Nothing after
next-word b k bs more after blank digit letter count front back =
    ap (λ part. pieces part bs) (begun-letter b blank digit letter) ∙ rw (front, back, count) (pieces-letters (b ∷ []) bs)

pieces-both : (sign : Sign) (bs : List ℕ) → pieces (Both sign) bs ≡ Mark sign ∷ pieces Nothing bs
pieces-both sign [] = refl
pieces-both sign (b ∷ bs) = refl

-- two bytes that are a sign together
pub next-pair : (a b : ℕ) (bs : List ℕ) (sign : Sign) → is_blank a ≡ false → is_digit a ≡ false → is_letter a ≡ false → pair a b ≡ Some sign
    → pieces Nothing (a ∷ b ∷ bs) ≡ Mark sign ∷ pieces Nothing bs
next-pair a b bs sign blank digit letter is =
    ap (λ part. pieces part (b ∷ bs)) (begun-first a blank digit letter) ∙ rw is (pieces-both sign bs)

-- one that is a sign, or none, by itself
pub next-alone : (a b : ℕ) (bs : List ℕ) → is_blank a ≡ false → is_digit a ≡ false → is_letter a ≡ false → pair a b ≡ None
    → pieces Nothing (a ∷ b ∷ bs) ≡ marked (single a) ∷ pieces Nothing (b ∷ bs)
next-alone a b bs blank digit letter is = ap (λ part. pieces part (b ∷ bs)) (begun-first a blank digit letter) ∙ rw is refl

pub next-last : (a : ℕ) → is_blank a ≡ false → is_digit a ≡ false → is_letter a ≡ false → pieces Nothing (a ∷ []) ≡ marked (single a) ∷ []
next-last a blank digit letter = ap (λ part. pieces part []) (begun-first a blank digit letter)

pub small : (n : ℕ) → n ≤ 255 → token_of (Number n) ≡ Ok (tokens.Number n)
small n h = rw (le-leb n 255 h) refl

pub large : (n : ℕ) → 256 ≤ n → token_of (Number n) ≡ Err faults.TooLarge
large n h = grind (arith, nat_tests)

-- more digits make no number smaller
value-grows : (n : ℕ) (bs : List ℕ) → n ≤ value_behind n bs
value-grows n [] = omega arith
value-grows n (b ∷ bs) = let longer = value-grows (10 * n + (b - 48)) bs in omega (arith, longer)

pub value-prefix : (n : ℕ) (bs : List ℕ) (i : ℕ) → value_behind n (take i bs) ≤ value_behind n bs
value-prefix n bs zero = value-grows n bs
value-prefix n [] (suc i) = omega arith
value-prefix n (b ∷ bs) (suc i) = value-prefix (10 * n + (b - 48)) bs i

-- letters, digits and _ are ASCII
low : (b : ℕ) → is_of_word b ≡ true → b < 128
low b h = grind (arith, nat_tests)

pub first-low : (b : ℕ) → is_letter b ≡ true → b < 128
first-low b h = low b (rw h refl)

pub all-low : (bs : List ℕ) (k : ℕ) → k ≡ prefix_len (has classes.OfWord) bs → All (λ b. b < 128) (take k bs)
all-low bs k count i d early =
    let shorter : i < prefix_len is_of_word bs = omega (arith, early, length-prefix_len is_of_word bs, ap (λ n. length (take n bs)) count) in
    rw (get_or-take k bs i d (omega (arith, shorter, count))) (low (slice_index_or bs i d) (prefix_len_passes is_of_word bs i d shorter))

-- a token in front of the rest
pub reads-token : (ts : List Token) (depth after : ℕ) (x : Piece) (xs : List Piece) (t : Token) → token_of x ≡ Ok t → open_after depth t ≡ Ok after
    → in_room (length ts) t ≡ Ok t
    → behind_tokens ts (tokens_behind (length ts) depth (x ∷ xs)) ≡ behind_tokens (ts ++ t ∷ []) (tokens_behind (length ts + 1) after xs)
reads-token ts depth after x xs t is opens room = rw (is, opens, room) (joined-behind (tokens_behind (length ts + 1) after xs))
  where
    joined-behind : (r : Reading (List Token)) → behind_tokens ts (r >>= λ rest. Ok (t ∷ rest)) ≡ behind_tokens (ts ++ t ∷ []) r
    joined-behind (Ok rest) = ap Ok (sym (append_assoc ts (t ∷ []) rest))
    joined-behind (Err e) = refl

pub reads-fault : (ts : List Token) (depth : ℕ) (x : Piece) (xs : List Piece) (e : TokenError) → token_of x ≡ Err e
    → behind_tokens ts (tokens_behind (length ts) depth (x ∷ xs)) ≡ Err e
reads-fault ts depth x xs e is = rw is refl

pub reads-deep : (ts : List Token) (depth : ℕ) (x : Piece) (xs : List Piece) (t : Token) (e : TokenError) → token_of x ≡ Ok t → open_after depth t ≡ Err e
    → behind_tokens ts (tokens_behind (length ts) depth (x ∷ xs)) ≡ Err e
reads-deep ts depth x xs t e is deep = rw (is, deep) refl

pub reads-many : (ts : List Token) (depth after : ℕ) (x : Piece) (xs : List Piece) (t : Token) (e : TokenError) → token_of x ≡ Ok t
    → open_after depth t ≡ Ok after → in_room (length ts) t ≡ Err e → behind_tokens ts (tokens_behind (length ts) depth (x ∷ xs)) ≡ Err e
reads-many ts depth after x xs t e is opens many = rw (is, opens, many) refl

pub reads-all : (ts : List Token) (depth : ℕ) → behind_tokens ts (tokens_behind (length ts) depth []) ≡ Ok ts
reads-all ts depth = ap Ok (append-nil ts)
