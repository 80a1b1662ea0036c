-- A text of a fault has no comma and no line feed.
use Rattle.std.proofs.Common.{◌≡◌, ◌≢◌, ℕ, ◌+◌, ◌/◌, ◌%◌, ◌<◌, Bool, true, false, ◌||◌, ◌==◌, nat_lt, List, ◌++◌, codes, refl, sym, ap, ◌∙◌, inl, inr, arith}
use Rattle.std.specs.List.{list_all, All}
use Rattle.std.specs.Fmt.{decimal}
use Rattle.std.proofs.lemmas.Bool.{cases_lt, and_from}
use Rattle.std.proofs.lemmas.Bool.Decides.{nat_tests}
use Rattle.std.proofs.lemmas.Fmt.{decimal_digit}
use Rattle.std.proofs.lemmas.List.Elements.{All-weaker}
use Rattle.std.proofs.lemmas.List.Folds.{list_all-append}
use Rattle.std.proofs.lemmas.List.Sums.{AllPass-from_list_all}
use Rattle.lf_faults.specs.declared.fault.Parts.{Parts}
use Rattle.lf_faults.specs.declared.fault.Parts.TheVariants.{Omit, Crash, Pause}
use Rattle.lf_faults.specs.Faults.{IsFault}
use Rattle.lf_faults.specs.Texts.{node_at_step, spelling}
use Rattle.lf_faults.proofs.TextsDigits.{tens_and_units}

-- a space, or above the comma, which is 44
abbrev is_plain : ℕ → Bool
is_plain b = (b == 32) || nat_lt 44 b

plain_byte : (d : ℕ) → is_plain (48 + d) ≡ true
plain_byte d = grind (arith, nat_tests)

plain_both : (xs ys : List ℕ) → list_all is_plain xs ≡ true → list_all is_plain ys ≡ true → list_all is_plain (xs ++ ys) ≡ true
plain_both xs ys xs_plain ys_plain = list_all-append is_plain xs ys ∙ and_from (list_all is_plain xs) (list_all is_plain ys) xs_plain ys_plain

plain_digit : (d : ℕ) → d < 10 → list_all is_plain (decimal d) ≡ true
plain_digit d low = ap (list_all is_plain) (decimal_digit d low) ∙ and_from (is_plain (48 + d)) true (plain_byte d) refl

plain_number : (n : ℕ) → n < 100 → list_all is_plain (decimal n) ≡ true
plain_number n high =
    elim (cases_lt n 10) [
      | inl low ↦ plain_digit n low
      | inr ten ↦
          ap (list_all is_plain) (tens_and_units n ten high)
          ∙ plain_both (decimal (n / 10)) (decimal (n % 10)) (plain_digit (n / 10) (omega arith)) (plain_digit (n % 10) (omega arith))
    ]

plain_place : (node step : ℕ) → node < 10 → step < 100 → list_all is_plain (node_at_step node step) ≡ true
plain_place node step low high =
    plain_both (decimal node) (codes " @" ++ decimal step) (plain_digit node low) (plain_both (codes " @") (decimal step) refl (plain_number step high))

plain_text : (f : Parts) → IsFault f → list_all is_plain (spelling f) ≡ true
plain_text (Omit from to step) h =
    plain_both (codes "omit ") (decimal from ++ (codes ">" ++ node_at_step to step)) refl
    (plain_both (decimal from) (codes ">" ++ node_at_step to step) (plain_digit from (omega arith))
    (plain_both (codes ">") (node_at_step to step) refl (plain_place to step (omega arith) (omega arith))))
plain_text (Crash node step) h = plain_both (codes "crash ") (node_at_step node step) refl (plain_place node step (omega arith) (omega arith))
plain_text (Pause node step) h = plain_both (codes "pause ") (node_at_step node step) refl (plain_place node step (omega arith) (omega arith))

neither : (b : ℕ) → is_plain b ≡ true → (b ≢ 44) × (b ≢ 10)
neither b plain = (
  (λ same. let wrong : false ≡ true = ap is_plain (sym same) ∙ plain in cc),
  (λ same. let wrong : false ≡ true = ap is_plain (sym same) ∙ plain in cc),
)

-- each byte is neither a comma nor a line feed
pub spelling_bytes : (f : Parts) → IsFault f → All (λ b. (b ≢ 44) × (b ≢ 10)) (spelling f)
spelling_bytes f h =
    All-weaker (λ b. is_plain b ≡ true) (λ b. (b ≢ 44) × (b ≢ 10)) neither (spelling f) (AllPass-from_list_all is_plain (spelling f) (plain_text f h))
