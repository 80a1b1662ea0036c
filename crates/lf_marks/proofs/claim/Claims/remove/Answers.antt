use Rattle.std.proofs.Common.{◌≡◌, ℕ, ◌+◌, ◌-◌, ◌≤◌, sym, ap, ◌∙◌, arith, List, length, take, drop}
use Rattle.std.proofs.lemmas.List.{take-append-drop, drop_at, length-take}
use Rattle.std.proofs.lemmas.List.Edits.{remove-append_right}
use Rattle.std.specs.List.{remove}
use Rattle.lf_marks.specs.declared.claim.Claim.{Claim}
use Rattle.lf_marks.proofs.claim.Claims.remove.Goals as goal

-- what is taken out behind the first claims is taken out of the others
behind : (claims : List Claim) (gone index : ℕ) → gone ≤ length claims → drop gone (remove claims (gone + index)) ≡ remove (drop gone claims) index
behind claims gone index within =
    let front : length (take gone claims) ≡ gone = omega (arith, length-take gone claims, within) in
    let parts = take-append-drop gone claims in
    ap (λ (cs : List Claim). drop gone (remove cs (gone + index))) (sym parts)
    ∙ ap (drop gone) (remove-append_right (take gone claims) (drop gone claims) gone (gone + index) front (omega arith))
    ∙ drop_at (take gone claims) (remove (drop gone claims) (gone + index - gone)) gone front
    ∙ ap (remove (drop gone claims)) (omega arith)

pub returns-then-index-gt0-clause-items : goal.returns-then-index-gt0-clause-items
returns-then-index-gt0-clause-items c =
    let m = c.args.self.now in
    ap (drop m.gone) c.remove.ensures.items ∙ behind m.list.items m.gone c.args.index m.within
