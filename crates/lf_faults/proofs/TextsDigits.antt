-- Decimal numbers of one and two digits, and what is no such number.
use Rattle.std.proofs.Common.{◌≡◌, ◌≢◌, ℕ, ◌+◌, ◌*◌, ◌/◌, ◌%◌, ◌<◌, ◌≤◌, List, [], ◌∷◌, ◌++◌, length, get_or, sym, ap, ◌∙◌, inl, inr, arith}
use Rattle.std.proofs.lemmas.Bool.{cases_lt}
use Rattle.std.proofs.lemmas.List.{append-nil}
use Rattle.std.proofs.lemmas.Fmt.{decimal_digit, decimal_step, first_decimal}
use Rattle.std.specs.Fmt.{decimal}

-- a digit is one byte
pub digit_first : (digit : ℕ) (rest : List ℕ) → digit < 10 → decimal digit ++ rest ≡ (48 + digit) ∷ rest
digit_first digit rest low = ap (λ ds. ds ++ rest) (decimal_digit digit low)

heads : (x y : ℕ) (xs ys : List ℕ) → x ∷ xs ≡ y ∷ ys → x ≡ y
heads x y xs ys e = cc

tails : (x y : ℕ) (xs ys : List ℕ) → x ∷ xs ≡ y ∷ ys → xs ≡ ys
tails x y xs ys e = cc

-- a text that begins with a digit shows which, and what follows
pub digit_parts : (d e : ℕ) (xs ys : List ℕ) → d < 10 → e < 10 → decimal d ++ xs ≡ decimal e ++ ys → (d ≡ e) × (xs ≡ ys)
digit_parts d e xs ys d_low e_low same =
    let bytes : (48 + d) ∷ xs ≡ (48 + e) ∷ ys = sym (digit_first d xs d_low) ∙ same ∙ digit_first e ys e_low in
    let byte : 48 + d ≡ 48 + e = heads (48 + d) (48 + e) xs ys bytes in
    (omega arith, tails (48 + d) (48 + e) xs ys bytes)

-- two digits
pub tens_and_units : (n : ℕ) → 10 ≤ n → n < 100 → decimal n ≡ decimal (n / 10) ++ decimal (n % 10)
tens_and_units n low high =
    decimal_step n low (omega arith) ∙ ap (λ ds. decimal (n / 10) ++ ds) (sym (decimal_digit (n % 10) (omega arith)))

pub from_digits : (d e : ℕ) → 1 ≤ d → d < 10 → e < 10 → decimal (10 * d + e) ≡ decimal d ++ decimal e
from_digits d e d_one d_low e_low =
    let tens : (10 * d + e) / 10 ≡ d = omega arith in
    let units : (10 * d + e) % 10 ≡ e = omega arith in
    tens_and_units (10 * d + e) (omega arith) (omega arith) ∙ ap (λ n. decimal n ++ decimal ((10 * d + e) % 10)) tens ∙ ap (λ n. decimal d ++ decimal n) units

-- a text that begins with no digit is no number
pub no_digit : (bs : List ℕ) → ((d : ℕ) (rest : List ℕ) → d < 10 → bs ≢ decimal d ++ rest) → (n : ℕ) → 1 ≤ n → n < 100 → bs ≢ decimal n
no_digit bs none n one high same =
    elim (cases_lt n 10) [
      | inl low ↦ none n [] low (same ∙ sym (append-nil (decimal n)))
      | inr ten ↦ none (n / 10) (decimal (n % 10)) (omega arith) (same ∙ tens_and_units n ten high)
    ]

-- nor is one that begins with a zero, but for zero
pub zero_first : (bs rest : List ℕ) (d : ℕ) → bs ≡ decimal d ++ rest → d ≡ 0 → (n : ℕ) → 1 ≤ n → n < 100 → bs ≢ decimal n
zero_first bs rest d is zero n one high same =
    let begins : bs ≡ (48 + 0) ∷ rest = is ∙ ap (λ k. decimal k ++ rest) zero ∙ digit_first 0 rest (omega arith) in
    let first : get_or (decimal n) 0 0 ≡ 48 = ap (λ ds. get_or ds 0 0) (sym same ∙ begins) in
    omega (arith, first, first_decimal n (omega arith) (omega arith))

-- nor is a digit that is followed by something else than a digit
pub no_second : (bs rest : List ℕ) (d : ℕ) → d < 10 → bs ≡ decimal d ++ rest → 0 < length rest
    → ((e : ℕ) (more : List ℕ) → e < 10 → rest ≢ decimal e ++ more) → (n : ℕ) → 1 ≤ n → n < 100 → bs ≢ decimal n
no_second bs rest d d_low is filled none n one high same =
    elim (cases_lt n 10) [
      | inl low ↦
          let bare : rest ≡ [] = (digit_parts d n rest [] d_low low (sym is ∙ same ∙ sym (append-nil (decimal n)))).1 in
          omega (arith, ap length bare)
      | inr ten ↦
          let second : rest ≡ decimal (n % 10) =
          (digit_parts d (n / 10) rest (decimal (n % 10)) d_low (omega arith) (sym is ∙ same ∙ tens_and_units n ten high)).1 in
          none (n % 10) [] (omega arith) (second ∙ sym (append-nil (decimal (n % 10))))
    ]

-- nor are two digits that are followed by anything
pub too_long : (bs rest more : List ℕ) (d e : ℕ) → d < 10 → e < 10 → bs ≡ decimal d ++ rest → rest ≡ decimal e ++ more → 0 < length more → (n : ℕ) → 1 ≤ n
    → n < 100 → bs ≢ decimal n
too_long bs rest more d e d_low e_low is rest_is filled n one high same =
    elim (cases_lt n 10) [
      | inl low ↦
          let bare : rest ≡ [] = (digit_parts d n rest [] d_low low (sym is ∙ same ∙ sym (append-nil (decimal n)))).1 in
          let byte : (48 + e) ∷ more ≡ [] = sym (digit_first e more e_low) ∙ sym rest_is ∙ bare in
          cc
      | inr ten ↦
          let second : rest ≡ decimal (n % 10) =
          (digit_parts d (n / 10) rest (decimal (n % 10)) d_low (omega arith) (sym is ∙ same ∙ tens_and_units n ten high)).1 in
          let bare : more ≡ [] = (digit_parts e (n % 10) more [] e_low (omega arith) (sym rest_is ∙ second ∙ sym (append-nil (decimal (n % 10))))).1 in
          omega (arith, ap length bare)
    ]
