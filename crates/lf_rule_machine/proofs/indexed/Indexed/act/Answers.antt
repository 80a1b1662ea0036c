use Rattle.std.proofs.Common.{◌≡◌, ap, ◌∙◌, sym, map, true}
use Rattle.std.specs.Arc.{arc_value}
use Rattle.std.specs.List.{fold}
use Rattle.lf_rules.specs.Forms.{is_well_formed}
use Rattle.lf_rule_machine.specs.Choices.{take_at, chosen}
use Rattle.lf_rule_machine.proofs.Laws.{chosen-acts}
use Rattle.std.specs.Prelude.{slice_get}
use Rattle.lf_rule_machine.specs.Moments.{seen, row_of, given_here}
use Rattle.lf_rule_machine.specs.Indexes.{row_for}
use Rattle.lf_rule_machine.proofs.IndexesLemmas.{row_for-chosen}
use Rattle.lf_rule_machine.proofs.indexed.Indexed.act.Goals as goal

pub returns : goal.returns
returns c =
    let self = c.args.self.now in
    let at = seen c.args.at.now in
    let d = arc_value self.rules in
    let is : c.definition.result.now ≡ d = c.definition.ensures.value ∙ c.deref.ensures in
    let formed : is_well_formed d ≡ true = ap is_well_formed (sym is) ∙ c.definition.ensures.well_formed in
    let row : c.row_for-numbers.result.now ≡ chosen d at.nodes at.me (given_here at) c.args.event =
    c.row_for-numbers.ensures
    ∙ ap (λ rows. row_for (map (λ r. r.items) rows) at.me c.args.event) c.as_slice.ensures.value
    ∙ ap (λ rows. row_for rows at.me c.args.event) self.indexed
    ∙ row_for-chosen d self.nodes self.given formed at.me c.args.event
    ∙ ap (λ given. chosen d self.nodes at.me (row_of (slice_get given at.me)) c.args.event) (sym c.requires.given)
    ∙ ap (λ nodes. chosen d nodes at.me (given_here at) c.args.event) (sym c.requires.nodes)
    in
    c.go_through.ensures
    ∙ ap (λ definition. fold (take_at definition at) c.args.turn.now c.row_for-numbers.result.now) is
    ∙ ap (λ numbers. fold (take_at d at) c.args.turn.now numbers) row
    ∙ chosen-acts d at c.args.event c.args.turn.now
