use Rattle.std.proofs.Common.{◌≡◌, ◌∷◌, ◌+◌, ◌<◌, ap, length, sym, ◌∙◌, get_or, arith}
use Rattle.lf_faults.proofs.TextsDigits.{digit_first}
use Rattle.lf_faults.proofs.text.read_digit.Goals as goal

pub returns-in_err-first : goal.returns-in_err-first
returns-in_err-first c =
    rw c.from_residual.ensures (λ digit rest low same. omega (arith, ap length (same ∙ digit_first digit rest low), c.in_err-first.ensures.cases))

pub returns-then-not-is_ascii_digit : goal.returns-then-not-is_ascii_digit
returns-then-not-is_ascii_digit c = λ digit rest low same.
    let begins : c.in_ok-first.first.now ≡ 48 + digit = ap (λ ds. get_or ds 0 0) (sym c.in_ok-first.ensures.cases.0 ∙ same ∙ digit_first digit rest low) in
    omega (arith, c.if-not-is_ascii_digit.ensures.cases)

pub returns : goal.returns
returns c =
    let first : c.in_ok-first.first.now ≡ 48 + c.from.result = omega (arith, c.if-not-is_ascii_digit.ensures.cases) in
    let low : c.from.result < 10 = omega (arith, c.if-not-is_ascii_digit.ensures.cases) in
    (low, c.in_ok-first.ensures.cases.0 ∙ ap (λ b. b ∷ c.in_ok-first.rest.now) first ∙ sym (digit_first c.from.result c.in_ok-first.rest.now low))
