use Rattle.std.proofs.Common.{[], ◌∷◌, sym, ap, ◌∙◌}
use Rattle.lf_protocols.specs.declared.fact.Fact.TheVariants.{Has}
use Rattle.lf_outcome.specs.declared.formula.Formula.TheVariants as kind
use Rattle.lf_outcome.specs.Named.{each_shows, formula_of}
use Rattle.lf_outcome.proofs.outcome.named.Goals as goal

pub returns-in_ok-from_array-in-Delivered : goal.returns-in_ok-from_array-in-Delivered
returns-in_ok-from_array-in-Delivered c =
    ap kind.Any (c.from_vec.ensures ∙ c.in_ok-from_array-in-Delivered.ensures.items
    ∙ ap (λ has. has ∷ c.in_ok-lacks-in-Delivered.lacks ∷ []) c.in_ok-has-in-Delivered.ensures
    ∙ ap (λ lacks. each_shows c.args.nodes c.args.horizon Has ∷ lacks ∷ []) c.in_ok-lacks-in-Delivered.ensures)
    ∙ sym (ap (λ o. formula_of o c.args.nodes c.args.horizon) c.in-Delivered.is)
