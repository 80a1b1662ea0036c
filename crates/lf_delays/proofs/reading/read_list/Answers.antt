use Rattle.std.proofs.Common.{◌≡◌, ◌<◌, ◌==◌, ℕ, length, Bool, false, subst, sym, eqb, lit<, arith}
use Rattle.std.specs.Iterator.{AlwaysYields}
use Rattle.std.specs.List.{slice_split}
use Rattle.std.specs.Str.Iter.{split_steps}
use Rattle.std.specs.Str.Pattern.{FindsChar}
use Rattle.std.proofs.lemmas.Bool.Decides.{nat_tests}
use Rattle.std.proofs.lemmas.Iterator.Splits.{YieldsList-from_str_split}
use Rattle.lf_delays.specs.Delays.{IsNew}
use Rattle.lf_delays.proofs.Pieces.{IsReading, at_end, at_first, further, stops, yields_none, yields_some}
use Rattle.lf_delays.proofs.reading.read_list.Goals as goal

some_from : (n : ℕ) (empty : Bool) → empty ≡ (n == 0) → empty ≡ false → 0 < n
some_from n empty is says = grind (arith, nat_tests)

pub pieces-init : goal.pieces-init
pieces-init c =
    let text = c.args.text.now in
    let pieces = slice_split (λ b. eqb b 44) text in
    let split = c.split-piece-items.ensures in
    let runs = (YieldsList-from_str_split 44 text (lit< tt) split.text split.has_more split.pattern).runs in (
      pieces,
      subst (λ s. AlwaysYields (split_steps FindsChar (λ a b. b ≡ a)) (λ x. x.now) s pieces)
          (sym c.into_iter-piece-iterator.ensures.into_iter_gives) runs,
      subst (λ ds. IsReading c.args.network.now text ds pieces) (sym c.new-delays.ensures.items)
          (at_first c.args.network.now text (some_from (length text) c.is_empty.result c.is_empty.ensures c.if-is_empty.false)),
    )

pub pieces-preserved : goal.pieces-preserved
pieces-preserved c =
    let timing = c.args.network.now in
    let ds = c.pieces.delays.items in
    let d = c.in-Some-read_new.delay in
    let taken =
    yields_some (split_steps FindsChar (λ a b. b ≡ a)) (λ x. x.now) c.pieces.piece-iterator c.next.new.self c.in-Some.piece
    c.pieces.invariant.0 c.pieces.invariant.1 c.in-Some.ensures.steps in
    let reading = subst (IsReading timing c.args.text.now ds) taken.1 c.pieces.invariant.2 in
    let new : IsNew ds d = subst (λ xs. IsNew xs d) c.as_slice.ensures.value c.in-Some-read_new.ensures.1 in (
      taken.0,
      taken.2,
      subst (λ xs. IsReading timing c.args.text.now xs taken.0) (sym c.in_ok-push-in-Some-read_new.ensures.items)
          (further timing c.keeps_limits.ensures c.args.text.now c.in-Some.piece.now taken.0 ds reading d
          c.in-Some-read_new.ensures.0 new c.in-Some-read_new.ensures.2),
    )

pub returns-in-None-read_new : goal.returns-in-None-read_new
returns-in-None-read_new c =
    let timing = c.args.network.now in
    let ds = c.pieces.delays.items in
    let taken =
    yields_some (split_steps FindsChar (λ a b. b ≡ a)) (λ x. x.now) c.pieces.piece-iterator c.next.new.self c.in-Some.piece
    c.pieces.invariant.0 c.pieces.invariant.1 c.in-Some.ensures.steps in
    let reading = subst (IsReading timing c.args.text.now ds) taken.1 c.pieces.invariant.2 in
    stops timing c.keeps_limits.ensures c.args.text.now c.in-Some.piece.now taken.0 ds reading
    (λ d is new. c.in-None-read_new.ensures d is (subst (λ xs. IsNew xs d) (sym c.as_slice.ensures.value) new))

pub returns : goal.returns
returns c =
    let timing = c.args.network.now in
    let ds = c.pieces.delays.items in
    let bare =
    yields_none (split_steps FindsChar (λ a b. b ≡ a)) (λ x. x.now) c.pieces.piece-iterator c.next.new.self
    c.pieces.invariant.0 c.pieces.invariant.1 c.in-None.ensures.steps in
    let reading = subst (IsReading timing c.args.text.now ds) bare c.pieces.invariant.2 in
    (reading.are, at_end timing c.args.text.now ds reading)
