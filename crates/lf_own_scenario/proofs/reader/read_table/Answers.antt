use Rattle.std.proofs.Common.{rules}
use Rattle.toml.specs.View.{table_view}
use Rattle.lf_own_scenario.proofs.ReadingLemmas.{asked-whole}
use Rattle.lf_own_scenario.proofs.reader.read_table.Goals as goal

pub returns : goal.returns
returns c =
    asked-whole c.args.file.now (table_view c.args.table.now)
    (record { described = c.in_ok-described.field-0.described; given = c.in_ok-described.field-0.given.items })
    c.in_ok-formula.field-0 c.in_ok-links.links c.in_ok-described-2.described c.assembled.result (search rules) (search rules) (search rules)
    (search rules) c.assembled.ensures
