use Rattle.std.proofs.Common.{rules, [], ap, ◌∙◌}
use Rattle.toml.specs.View.{table_view}
use Rattle.lf_own_scenario.specs.Machines.{kind_of}
use Rattle.lf_own_scenario.proofs.ReadingLemmas.{chosen-whole}
use Rattle.lf_own_scenario.proofs.reader.chosen_in.Goals as goal

pub returns-clause-value : goal.returns-clause-value
returns-clause-value c =
    let file = c.args.file.now in
    let given = c.in_ok-given.given.items in
    chosen-whole file (table_view c.args.table.now) c.in_ok-bounds.field-0 given c.in_ok-protocol.protocol (search rules) (search rules) (search rules)
    (c.in_ok-protocol.ensures ∙ ap (λ vs. kind_of file c.nodes-nodes.result vs []) c.as_slice.ensures.value
    ∙ ap (λ n. kind_of file n given []) c.nodes-nodes.ensures.value)
