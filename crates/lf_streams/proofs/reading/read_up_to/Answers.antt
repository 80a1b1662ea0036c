use Rattle.std.proofs.Common.{◌+◌, ◌++◌, length, take, sym, ap, subst, ◌≤◌, ◌∙◌}
use Rattle.std.proofs.KnownBytes.{Consumes-trans, Consumes-kept}
use Rattle.std.proofs.lemmas.List.{take-append-le}
use Rattle.lf_streams.proofs.Pieces.{taken_from, taken_more, within_limit}
use Rattle.lf_streams.proofs.reading.read_up_to.Goals as goal

pub chunks-preserved : goal.chunks-preserved
chunks-preserved g c =
    let before = c.chunks.invariant in
    let read = c.in_ok-taken.ensures in
    let n = c.in_ok-taken.taken in
    let held = c.chunks.bytes.items in
    let few = within_limit held c.read.new.buf c.chunks.chunk n c.min-wanted.result c.chunks.bytes.len c.len.result c.len-in-chunks.result c.args.limit
    read.bound.0 c.read.auto.buf c.min-wanted.ensures c.chunks.bytes.ok.0 c.len-in-chunks.ensures c.len.ensures c.chunks-test.true in
    record {
      taken = taken_more _ _ _ _ held c.read.new.buf _ n c.in_ok-extend_from_slice.ensures.items read.bound.0 before.taken read.bytes.0;
      few = subst (λ l. length l ≤ c.args.limit + 1)
          (sym (c.in_ok-extend_from_slice.ensures.items ∙ ap (λ l. held ++ l) (take-append-le n c.read.new.buf _ read.bound.0))) few;
      well = read.well ∙ before.well;
    }

pub returns-in_err-taken-clause-taken : goal.returns-in_err-taken-clause-taken
returns-in_err-taken-clause-taken g c =
    let before = c.chunks.invariant in
    taken_from _ _ c.chunks.bytes.items (c.args.limit + 1) before.few (Consumes-kept _ _ _ _ before.taken c.in_err-taken.ensures.bytes)

pub returns-in_err-extend_from_slice-clause-taken : goal.returns-in_err-extend_from_slice-clause-taken
returns-in_err-extend_from_slice-clause-taken g c =
    let read = c.in_ok-taken.ensures in
    let n = c.in_ok-taken.taken in
    let held = c.chunks.bytes.items in
    let few = within_limit held c.read.new.buf c.chunks.chunk n c.min-wanted.result c.chunks.bytes.len c.len.result c.len-in-chunks.result c.args.limit
    read.bound.0 c.read.auto.buf c.min-wanted.ensures c.chunks.bytes.ok.0 c.len-in-chunks.ensures c.len.ensures c.chunks-test.true in
    taken_from _ _ (held ++ take n c.read.new.buf) (c.args.limit + 1) few (Consumes-trans _ _ _ _ _ c.chunks.invariant.taken read.bytes.0)
