use Rattle.std.proofs.Common.{◌≡◌, ◌<◌, ◌==◌, ℕ, length, Bool, true, false, subst, sym, ◌∙◌, eqb, lit<, arith}
use Rattle.std.specs.Iterator.{AlwaysYields}
use Rattle.std.specs.List.{slice_split}
use Rattle.std.specs.Str.Iter.{split_steps}
use Rattle.std.specs.Str.Pattern.{FindsChar}
use Rattle.std.proofs.lemmas.Bool.Decides.{nat_tests}
use Rattle.std.proofs.lemmas.Iterator.Splits.{YieldsList-from_str_split}
use Rattle.lf_trace.proofs.Pieces.{IsReading, at_end, at_first, empty_named, further, named, named_empty, none_named, one_named, stops, yields_none}
use Rattle.lf_trace.proofs.Pieces.{yields_some}
use Rattle.lf_trace.proofs.naming.read_faults.Goals as goal

empty_from : (n : ℕ) (empty : Bool) → empty ≡ (n == 0) → empty ≡ true → n ≡ 0
empty_from n empty is says = grind (arith, nat_tests)

some_from : (n : ℕ) (empty : Bool) → empty ≡ (n == 0) → empty ≡ false → 0 < n
some_from n empty is says = grind (arith, nat_tests)

pub returns-then-is_empty : goal.returns-then-is_empty
returns-then-is_empty c =
    let none : length c.args.words.now ≡ 0 = empty_from (length c.args.words.now) c.is_empty.result c.is_empty.ensures c.if-is_empty.true in
    one_named c.args.words.now c.empty-set.result
    (λ set. (
      (λ is. named_empty c.args.words.now none set (sym c.empty-set.ensures ∙ is)),
      (λ names. c.empty-set.ensures ∙ empty_named c.args.words.now none set names),
    ))

pub pieces-init : goal.pieces-init
pieces-init c =
    let words = c.args.words.now in
    let pieces = slice_split (λ b. eqb b 44) words in
    let split = c.split-piece-items.ensures in
    let runs = (YieldsList-from_str_split 44 words (lit< tt) split.text split.has_more split.pattern).runs in (
      pieces,
      subst (λ s. AlwaysYields (split_steps FindsChar (λ a b. b ≡ a)) (λ x. x.now) s pieces)
          (sym c.into_iter-piece-iterator.ensures.into_iter_gives) runs,
      subst (IsReading words pieces) (sym c.empty-set.ensures)
          (at_first words (some_from (length words) c.is_empty.result c.is_empty.ensures c.if-is_empty.false)),
    )

pub returns-in_err-set : goal.returns-in_err-set
returns-in_err-set c =
    let taken =
    yields_some (split_steps FindsChar (λ a b. b ≡ a)) (λ x. x.now) c.pieces.piece-iterator c.next.new.self c.in-Some.piece
    c.pieces.invariant.0 c.pieces.invariant.1 c.in-Some.ensures.steps in
    let reading = subst (λ ps. IsReading c.args.words.now ps c.pieces.set) taken.1 c.pieces.invariant.2 in
    none_named c.args.words.now c.from_residual.result c.from_residual.ensures
    (stops c.args.words.now c.in-Some.piece.now taken.0 c.pieces.set reading c.added.result c.added.ensures c.in_err-set.was)

pub pieces-preserved : goal.pieces-preserved
pieces-preserved c =
    let taken =
    yields_some (split_steps FindsChar (λ a b. b ≡ a)) (λ x. x.now) c.pieces.piece-iterator c.next.new.self c.in-Some.piece
    c.pieces.invariant.0 c.pieces.invariant.1 c.in-Some.ensures.steps in
    let reading = subst (λ ps. IsReading c.args.words.now ps c.pieces.set) taken.1 c.pieces.invariant.2 in (
      taken.0,
      taken.2,
      further c.args.words.now c.in-Some.piece.now taken.0 c.pieces.set reading c.added.result c.added.ensures c.in_ok-set.set c.in_ok-set.was,
    )

pub returns : goal.returns
returns c =
    let bare =
    yields_none (split_steps FindsChar (λ a b. b ≡ a)) (λ x. x.now) c.pieces.piece-iterator c.next.new.self
    c.pieces.invariant.0 c.pieces.invariant.1 c.in-None.ensures.steps in
    let reading = subst (λ ps. IsReading c.args.words.now ps c.pieces.set) bare c.pieces.invariant.2 in
    one_named c.args.words.now c.pieces.set
    (λ set. (named c.args.words.now c.pieces.set reading set, at_end c.args.words.now c.pieces.set reading set))
