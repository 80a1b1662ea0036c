use Rattle.std.proofs.Common.{◌≡◌, true, sym, ap, subst, ◌∙◌}
use Rattle.toml.specs.View.{table_view}
use Rattle.lf_protocol_file.specs.declared.section.Naming.TheVariants as namings
use Rattle.lf_protocol_file.specs.declared.draft.Draft.{Draft}
use Rattle.lf_protocol_file.specs.Entries.{with_naming}
use Rattle.lf_protocol_file.specs.Written.{is_whole}
use Rattle.lf_protocol_file.proofs.WholeFiles.{read-whole}
use Rattle.lf_protocol_file.proofs.reader.read_table.Goals as goal

pub returns-clause-whole : goal.returns-clause-whole
returns-clause-whole c =
    let ms = table_view c.args.table.now in
    let promised = ap (λ (d : Draft). with_naming namings.Outcomes d ms) (sym c.in_ok-chained.ensures) ∙ c.in_ok-promised.ensures in
    subst (λ d. is_whole d ≡ true) (sym c.declared_by.ensures)
    (read-whole ms c.in_ok-name.name c.in_ok-declared.declared c.in_ok-ruled.ruled c.in_ok-promised.promised c.in_ok-traced.traced
    c.in_ok-declared.ensures c.in_ok-ruled.ensures promised c.in_ok-traced.ensures)
