use Rattle.std.proofs.Common.{string_bytes}
use Rattle.std.proofs.lemmas.Str.{IsUtf8-had}
use Rattle.toml.specs.View.{table_view}
use Rattle.lf_sweep.proofs.MemberLemmas.{document_of}
use Rattle.lf_sweep.proofs.TextLemmas.{dated}
use Rattle.lf_sweep.proofs.placed.text_with.Goals as goal

pub returns-in-Ok-table_to_string : goal.returns-in-Ok-table_to_string
returns-in-Ok-table_to_string c =
    let text = c.in-Ok-table_to_string.text in
    record {
      members = table_view c.in-Ok.table;
      held = c.in-Ok.ensures.ok;
      dated = dated _ (table_view c.put.new.scenario) c.table_to_string.result text c.in-Ok-table_to_string.is c.in_ok-put.ensures
          c.table_to_string.ensures.dates;
      document =
          document_of _ (table_view c.put.new.scenario) (string_bytes text) c.in_ok-put.ensures (IsUtf8-had _ text.ok)
          c.in-Ok-table_to_string.ensures.text
          c.in-Ok-table_to_string.ensures.reads_back;
    }
