use Rattle.std.proofs.Common.{◌≡◌, true, false, sym, ap, ◌∙◌, inl, inr}
use Rattle.std.specs.Prelude.{not}
use Rattle.std.proofs.lemmas.Bool.{both_ways, cases_Bool}
use Rattle.lf_faults.specs.Faults.{set_wakes}
use Rattle.lf_sim.specs.Settings.{world_of}
use Rattle.lf_sim.proofs.ChangesLemmas.{ignores-by}
use Rattle.lf_sim.proofs.change.Change.heeds.Goals as goal

pub returns : goal.returns
returns g c heard =
    let w = world_of c.args.self.now.setting.now in
    let to = c.args.self.now.to.now.set in
    let node = c.args.node in
    let step = c.args.step in
    let r = c.ignores_letters.result in
    let deaf : r ≡ true = elim (cases_Bool r) [ inl on ↦ on | inr off ↦ absurd (both_ways (not r) heard (ap not off)) ] in
    let awake : set_wakes w.pause_length to node step ≡ false =
    ap (λ l. set_wakes l to node step) (sym c.pause_length.ensures.value) ∙ sym c.wakes.ensures ∙ c.if-wakes.false in
    ignores-by w to node step c.args.run.now c.state_at.result.now awake c.state_at.ensures (c.ignores_letters.ensures deaf)
