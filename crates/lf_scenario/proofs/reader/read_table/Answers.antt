use Rattle.std.proofs.Common.{rules, sym}
use Rattle.toml.specs.View.{table_view}
use Rattle.lf_scenario.proofs.AskedLemmas.{asked_in-whole}
use Rattle.lf_scenario.proofs.reader.read_table.Goals as goal

pub returns : goal.returns
returns c =
    asked_in-whole (table_view c.args.table.now) c.in_ok-described.described c.in_ok-formula.formula c.in_ok-links.links c.assembled.result
    (sym c.in_ok-described.ensures.value) c.in_ok-formula.ensures.ok (search rules) c.assembled.ensures
