-- The bytes of a tree's text: no letter of a fault needs an escape, and all of them are ASCII.
use Rattle.std.proofs.Common.{◌≡◌, ℕ, ◌<◌, ◌≤◌, ◌^◌, Bool, true, ◌&&◌, ◌==◌, not, nat_le, nat_lt, List, [], ◌∷◌, ◌++◌, refl, sym, ap, ap₂, ◌∙◌, arith, decimal}
use Rattle.std.specs.Prelude.{codes}
use Rattle.std.specs.Str.Parse.{AllDigits}
use Rattle.std.proofs.lemmas.Bool.{and_from, and_parts, le-leb, lt-ltb, leb-true, eq-eqb, ne_eqb, true≢false}
use Rattle.std.proofs.lemmas.Fmt.{decimal_is_IsNumeral}
use Rattle.std.proofs.lemmas.Str.Parse.{digit_from_value}
use Rattle.json.specs.Print.{escape}
use Rattle.json.proofs.Printed.Strings.{escape_byte_plain}
use Rattle.json.proofs.Printed.Utf8.{are_ascii}
use Rattle.lf_faults.specs.declared.fault.Parts.{Parts}
use Rattle.lf_faults.specs.declared.fault.Parts.TheVariants.{Omit, Crash, Pause}
use Rattle.lf_faults.specs.Faults.{IsFault}
use Rattle.lf_faults.specs.Texts.{spelling, node_at_step}

-- a letter that stands for itself in a string
abbrev pub is_plain : ℕ → Bool
is_plain b = nat_le 32 b && (not (b == 34) && (not (b == 92) && nat_lt b 128))

abbrev pub are_plain : List ℕ → Bool
are_plain [] = true
are_plain (b ∷ bs) = is_plain b && are_plain bs

plain-append : (xs ys : List ℕ) → are_plain xs ≡ true → are_plain ys ≡ true → are_plain (xs ++ ys) ≡ true
plain-append [] ys h k = k
plain-append (x ∷ xs) ys h k = let p = and_parts _ _ h in and_from _ _ p.0 (plain-append xs ys p.1 k)

pub ascii-append : (xs ys : List ℕ) → are_ascii xs ≡ true → are_ascii ys ≡ true → are_ascii (xs ++ ys) ≡ true
ascii-append [] ys h k = k
ascii-append (x ∷ xs) ys h k = let p = and_parts _ _ h in and_from _ _ p.0 (ascii-append xs ys p.1 k)

pub ascii-plain : (xs : List ℕ) → are_plain xs ≡ true → are_ascii xs ≡ true
ascii-plain [] h = refl
ascii-plain (x ∷ xs) h =
    let p = and_parts (is_plain x) (are_plain xs) h in
    let low = and_parts (nat_le 32 x) (not (x == 34) && (not (x == 92) && nat_lt x 128)) p.0 in
    let quote = and_parts (not (x == 34)) (not (x == 92) && nat_lt x 128) low.1 in
    let slash = and_parts (not (x == 92)) (nat_lt x 128) quote.1 in
    and_from _ _ slash.1 (ascii-plain xs p.1)

differs : (x n : ℕ) → not (x == n) ≡ true → x ≡ n → ⊥
differs x n h same = true≢false (sym h ∙ ap not (eq-eqb x n same))

pub escape-plain : (xs : List ℕ) → are_plain xs ≡ true → escape xs ≡ xs
escape-plain [] h = refl
escape-plain (x ∷ xs) h =
    let p = and_parts _ _ h in
    let low = and_parts _ _ p.0 in
    let quote = and_parts _ _ low.1 in
    let slash = and_parts _ _ quote.1 in
    ap₂ (λ (a b : List ℕ). a ++ b) (escape_byte_plain x (differs x 34 quote.0) (differs x 92 slash.0) (leb-true 32 x low.0)) (escape-plain xs p.1)

plain-digits : (ds : List ℕ) → AllDigits 10 ds → are_plain ds ≡ true
plain-digits [] h = refl
plain-digits (d ∷ ds) h =
    let is = digit_from_value d h.0 in
    and_from _ _
    (and_from _ _ (le-leb 32 d (omega (arith, is))) (and_from _ _ (ap not (ne_eqb d 34 (λ e. omega (arith, is))))
    (and_from _ _ (ap not (ne_eqb d 92 (λ e. omega (arith, is)))) (lt-ltb d 128 (omega (arith, is))))))
    (plain-digits ds h.1)

pub plain-decimal : (n : ℕ) → n < 2 ^ 64 → are_plain (decimal n) ≡ true
plain-decimal n h = plain-digits (decimal n) (decimal_is_IsNumeral n h).0.1

plain-point : (node step : ℕ) → node < 8 → step ≤ 48 → are_plain (node_at_step node step) ≡ true
plain-point node step h k =
    plain-append (decimal node) (codes " @" ++ decimal step) (plain-decimal node (omega arith)) (plain-decimal step (omega arith))

pub plain-spelling : (f : Parts) → IsFault f → are_plain (spelling f) ≡ true
plain-spelling (Omit from to step) h =
    plain-append (decimal from) (codes ">" ++ node_at_step to step) (plain-decimal from (omega (arith, h.0))) (plain-point to step h.1 h.4)
plain-spelling (Crash node step) h = plain-point node step h.0 h.2
plain-spelling (Pause node step) h = plain-point node step h.0 h.2
