use Rattle.std.proofs.Common.{◌≡◌, ◌∙◌, true, false, ap, inl, inr}
use Rattle.std.specs.Prelude.{not}
use Rattle.std.proofs.lemmas.Bool.{both_ways, cases_Bool}
use Rattle.lf_sim.specs.declared.sends.Sends.TheVariants.{Same}
use Rattle.lf_sim.proofs.TurnsLemmas.{either-same, told-by}
use Rattle.lf_sim.proofs.difference.Difference.between.Goals as goal

pub returns-else-same_note : goal.returns-else-same_note
returns-else-same_note g c =
    let same = c.in-Same-Same in
    let told = c.either.ensures in
    let r = c.same_state-state.result in
    let alike : c.either.result.state ≡ false → r ≡ true = λ off. elim (cases_Bool r) [
      | inl on ↦ on
      | inr apart ↦ absurd (both_ways c.either.result.state off (told.state ∙ ap not apart))
    ] in
    told-by c.either.result c.args.one.now c.args.other.now (Same same.to same.note) (Same same.to_others same.other) same.is-0 same.is-1
    (λ off. c.same_state-state.ensures (alike off))
    (either-same c.either.result same.to same.to_others same.note same.other told.one told.other)
