use Rattle.std.proofs.Common.{◌+◌, ◌*◌, ◌-◌, refl, arith}
use Rattle.std.proofs.lemmas.List.Sums.{fold_more}
use Rattle.lf_grammar.proofs.PiecesLemmas.{value-prefix}
use Rattle.lf_grammar.proofs.tokenizing.number.Goals as goal

pub returns-then-value-gt255 : goal.returns-then-value-gt255
returns-then-value-gt255 c =
    let start = c.args.first - 48 in
    let more = c.args.more.now in
    let i = c.loop-digit.digit-index in
    let step = fold_more (λ n b. 10 * n + (b - 48)) start more i 0 c.loop-digit-test.true in
    let whole = value-prefix start more (i + 1) in (
      refl,
      omega (
        arith,
        step,
        whole,
        c.loop-digit.invariant.value,
        c.saturating_sub.ensures,
        c.saturating_sub-in-loop-digit.ensures,
        c.from.ensures,
        c.if-value-gt255.true,
      ),
    )
