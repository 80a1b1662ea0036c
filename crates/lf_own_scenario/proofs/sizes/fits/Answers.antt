use Rattle.std.proofs.Common.{ℕ, refl, ap, sym, ◌∙◌, ◌&&◌, min}
use Rattle.std.specs.Prelude.{nat_le}
use Rattle.std.proofs.lemmas.Bool.{le-leb, lt-leb}
use Rattle.lf_outcome.specs.Measures.{atoms_of, depth_of}
use Rattle.lf_own_scenario.specs.Spans.{spanned_at}
use Rattle.lf_own_scenario.proofs.SizeLemmas.{depth-steady, atoms-steady, both-small}
use Rattle.lf_own_scenario.proofs.SpanLemmas.{spanned-atoms, spanned-depth}
use Rattle.lf_own_scenario.proofs.sizes.fits.Goals as goal

pub returns-then-depth-le-DEEPEST : goal.returns-then-depth-le-DEEPEST
returns-then-depth-le-DEEPEST c =
    let s = c.args.scene.now in
    let p = c.args.promise.now in
    ap (λ b. b && nat_le c.atoms.result 4096) (sym (le-leb c.depth.result 8 c.if-depth-le-DEEPEST.true))
    ∙ both-small (depth_of (spanned_at s 0 p s.horizon)) (atoms_of (spanned_at s 0 p s.horizon)) c.depth.result c.atoms.result
    (c.depth.ensures ∙ ap (λ (k : ℕ). min k 4294967295) (depth-steady s p 0 0 0 s.horizon ∙ sym (spanned-depth s 0 p s.horizon)))
    (c.atoms.ensures ∙ ap (λ (k : ℕ). min k 4294967295) (atoms-steady s p 0 0 0 s.horizon ∙ sym (spanned-atoms s 0 p s.horizon)))

pub returns-else-depth-le-DEEPEST : goal.returns-else-depth-le-DEEPEST
returns-else-depth-le-DEEPEST c =
    let s = c.args.scene.now in
    let p = c.args.promise.now in
    let deep = lt-leb c.depth.result 8 c.if-depth-le-DEEPEST.false in
    let count = min (atoms_of (spanned_at s 0 p s.horizon)) 4294967295 in
    deep ∙ ap (λ b. b && nat_le count 4096) (sym deep)
    ∙ both-small (depth_of (spanned_at s 0 p s.horizon)) (atoms_of (spanned_at s 0 p s.horizon)) c.depth.result count
    (c.depth.ensures ∙ ap (λ (k : ℕ). min k 4294967295) (depth-steady s p 0 0 0 s.horizon ∙ sym (spanned-depth s 0 p s.horizon))) refl
