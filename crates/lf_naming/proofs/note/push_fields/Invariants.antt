use Rattle.std.proofs.Common.{◌≡◌, ◌++◌, map, take, string_bytes}
use Rattle.std.specs.List.{enumerate_from, join_with_byte}
use Rattle.lf_naming.specs.Texts.{field_text}
use Rattle.lf_naming.proofs.note.push_fields.Given as goal

-- the fields so far
abbrev pub invariant-fields : goal.invariant-fields
invariant-fields l =
    string_bytes l.text
    ≡ string_bytes l.initial.text ++ join_with_byte 44 (map (field_text l.definition l.note) (take l.place (enumerate_from 0 l.kinds)))
