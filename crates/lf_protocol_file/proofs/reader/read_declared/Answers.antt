use Rattle.toml.specs.View.{table_view}
use Rattle.lf_protocol_file.proofs.reader.read_declared.Goals as goal

pub returns-in-Ok-clause-no_document : goal.returns-in-Ok-clause-no_document
returns-in-Ok-clause-no_document c = λ short none. absurd (none (table_view c.in-Ok.table)
    (record { text = c.in-Ok.ensures.ok.0; members = c.in-Ok.ensures.ok.1 }))
