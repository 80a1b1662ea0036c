use Rattle.std.proofs.Common.{◌≡◌, ℕ, ◌<◌, ◌≤◌, ◌==◌, Bool, false, true, length, List, [], ◌∷◌, ◌++◌, refl, ap, sym, ◌∙◌, arith}
use Rattle.std.proofs.lemmas.Bool.Decides.{nat_tests}
use Rattle.std.proofs.lemmas.List.{append-nil}
use Rattle.std.specs.Fmt.{decimal}
use Rattle.lf_faults.proofs.TextsDigits.{no_digit, zero_first, no_second, too_long, from_digits}
use Rattle.lf_faults.proofs.text.read_step.Goals as goal

-- what `is_empty` says
filled : (n : ℕ) (empty : Bool) → empty ≡ (n == 0) → empty ≡ false → 0 < n
filled n empty is no_more = grind (arith, nat_tests)

bare : (rest : List ℕ) (empty : Bool) → empty ≡ (length rest == 0) → empty ≡ true → rest ≡ []
bare [] empty is none = refl
bare (x ∷ xs) empty is none = absurd (grind (arith, nat_tests))

pub returns-in_err-first : goal.returns-in_err-first
returns-in_err-first c = rw c.from_residual.ensures (no_digit c.args.bytes.now c.in_err-first.ensures)

pub returns-then-first-eq0 : goal.returns-then-first-eq0
returns-then-first-eq0 c = zero_first c.args.bytes.now c.in_ok-first.rest.now c.in_ok-first.first c.in_ok-first.ensures.1 c.if-first-eq0.true

pub returns-in_err-second : goal.returns-in_err-second
returns-in_err-second c =
    rw c.from_residual-in_err-second.ensures
    (no_second c.args.bytes.now c.in_ok-first.rest.now c.in_ok-first.first c.in_ok-first.ensures.0 c.in_ok-first.ensures.1
    (filled _ _ c.is_empty.ensures c.if-is_empty.false) c.in_err-second.ensures)

pub returns-then-is_empty-2 : goal.returns-then-is_empty-2
returns-then-is_empty-2 c =
    let first : c.in_ok-first.first < 10 = c.in_ok-first.ensures.0 in
    let second : c.in_ok-second.second < 10 = c.in_ok-second.ensures.0 in
    let some : 1 ≤ c.in_ok-first.first = omega arith in
    let ends : c.in_ok-second.rest.now ≡ [] = bare _ _ c.is_empty-2.ensures c.if-is_empty-2.true in
    let units : c.in_ok-first.rest.now ≡ decimal c.in_ok-second.second =
    c.in_ok-second.ensures.1 ∙ ap (λ ds. decimal c.in_ok-second.second ++ ds) ends ∙ append-nil (decimal c.in_ok-second.second) in (
      omega arith,
      omega arith,
      c.in_ok-first.ensures.1 ∙ ap (λ ds. decimal c.in_ok-first.first ++ ds) units
          ∙ sym (from_digits c.in_ok-first.first c.in_ok-second.second some first second),
    )

pub returns-else-is_empty-2 : goal.returns-else-is_empty-2
returns-else-is_empty-2 c =
    too_long c.args.bytes.now c.in_ok-first.rest.now c.in_ok-second.rest.now c.in_ok-first.first c.in_ok-second.second c.in_ok-first.ensures.0
    c.in_ok-second.ensures.0 c.in_ok-first.ensures.1 c.in_ok-second.ensures.1 (filled _ _ c.is_empty-2.ensures c.if-is_empty-2.false)
