use Rattle.std.proofs.Common.{◌∷◌, ap, sym, ◌∙◌}
use Rattle.std.proofs.lemmas.Bool.{false≢true}
use Rattle.lf_sweep.specs.Listed.{has_mark}
use Rattle.lf_sweep.proofs.ReadingLemmas.{cut_once}
use Rattle.lf_sweep.proofs.reading.range_in.Goals as goal

pub returns-then-has_mark : goal.returns-then-has_mark
returns-then-has_mark c first last range =
    let same = cut_once 46 c.args.text.now c.in_ok-first.first.now c.in_ok-first.rest.now first (46 ∷ last) c.in_ok-first.ensures range.0 in
    false≢true (sym range.1 ∙ ap has_mark (sym same.0) ∙ ap has_mark (sym c.as_bytes.ensures.value) ∙ sym c.has_mark.ensures ∙ c.if-has_mark.true)

pub returns-in-None : goal.returns-in-None
returns-in-None c first last range =
    let same = cut_once 46 c.args.text.now c.in_ok-first.first.now c.in_ok-first.rest.now first (46 ∷ last) c.in_ok-first.ensures range.0 in
    c.in-None.ensures last same.1
