-- How the values, states and notes of a protocol of rules are told in a trace.
use Rattle.std.specs.Prelude.{ℕ, Bool, true, false, ◌==◌, min, List, [], ◌∷◌, ◌++◌, codes, map, filter, Option, None, Some, slice_get, if◌then◌else◌}
use Rattle.std.specs.Char.{to_ascii_lowercase}
use Rattle.std.specs.Fmt.{decimal}
use Rattle.std.specs.List.{enumerate_from, join_with_byte, range_with_len}
use Rattle.lf_rules.specs.declared.kind.Kind.{Kind}
use Rattle.lf_rules.specs.declared.kind.Kind.TheVariants as kinds
use Rattle.lf_rules.specs.declared.table.Cells.{Cells}
use Rattle.lf_rules.specs.declared.table.Cells.TheVariants as cells
use Rattle.lf_rules.specs.declared.definition.NoteForm.{NoteForm}
use Rattle.lf_rules.specs.declared.definition.Variable.{Variable}
use Rattle.lf_rules.specs.declared.definition.Definition.{Definition}
use Rattle.lf_rules.specs.Tables.{count_of, is_one, others_of, cell_of}
use Rattle.lf_rule_machine.specs.declared.state.State.{State}
use Rattle.lf_rule_machine.specs.declared.state.Note.{Note}
use Rattle.lf_rule_machine.specs.declared.state.Packet.{Packet}
use Rattle.lf_rule_machine.specs.Sets.{has, is_true}
use Rattle.lf_rule_machine.specs.States.{notes_in}
use Rattle.lf_rule_machine.specs.Values.{zero_or}
use Rattle.lf_naming.specs.Names.{not_if, or_nothing, word_name}
use Rattle.lf_naming.specs.Pieces.{pieces}

-- a truth value
abbrev pub truth_text : Bool → List ℕ
truth_text true = codes "true"
truth_text false = codes "false"

-- the nodes of a set, ascending; their numbers with a comma (44) between any two; and these in braces
abbrev pub members : ℕ → List ℕ
members set = filter (has set) (range_with_len 0 8)

abbrev pub members_text : ℕ → List ℕ
members_text set = join_with_byte 44 (map decimal (members set))

abbrev pub set_text : ℕ → List ℕ
set_text set = codes "{" ++ (members_text set ++ codes "}")

-- a value of a kind
abbrev pub value_text : Definition → Kind → ℕ → List ℕ
value_text d kinds.Flag v = truth_text (is_true v)
value_text d kinds.Nodes v = set_text v
value_text d (kinds.UpTo most) v = decimal v
value_text d (kinds.Word of words) v = word_name (slice_get d.variables of) v

-- a variable without words of its own: a flag is its name, or `not_` and its name, and one of another kind is `NAME=VALUE`
abbrev pub plain_text : Definition → List ℕ → Kind → ℕ → List ℕ
plain_text d name kinds.Flag v = not_if (v == 0) name
plain_text d name kind v = name ++ (codes "=" ++ value_text d kind v)

-- a variable with these words of its own, where there are any, is its word
abbrev pub worded_text : Definition → Variable → List (List ℕ) → ℕ → List ℕ
worded_text d x [] v = plain_text d x.name x.kind v
worded_text d x (word ∷ words) v = or_nothing (slice_get (word ∷ words) v)

abbrev pub variable_text : Definition → Variable → ℕ → List ℕ
variable_text d x v = worded_text d x x.words v

-- how many cells of a table are shown: of one with a cell for each node, those of the nodes that there are
abbrev pub shown_of : ℕ → Cells → ℕ
shown_of nodes cells.EachNode = min nodes 8
shown_of nodes other = count_of other

-- the value of the k-th cell of the variable with number i
abbrev pub cell_value : Definition → State → ℕ → ℕ → ℕ
cell_value d s i k = zero_or (slice_get s.values (cell_of i (others_of d i) k))

abbrev pub cell_text : Definition → State → ℕ → Variable → ℕ → List ℕ
cell_text d s i x k = value_text d x.kind (cell_value d s i k)

-- the cells of a table among so many nodes, in order, with a comma (44) between any two; and the table, which is `NAME=[VALUE,VALUE]`
abbrev pub cells_text : Definition → ℕ → State → ℕ → Variable → List ℕ
cells_text d nodes s i x = join_with_byte 44 (map (cell_text d s i x) (range_with_len 0 (shown_of nodes x.cells)))

abbrev pub table_text : Definition → ℕ → State → ℕ → Variable → List ℕ
table_text d nodes s i x = x.name ++ (codes "=[" ++ (cells_text d nodes s i x ++ codes "]"))

-- the variable with a number, in a state; nothing where there is none
abbrev pub found_text : Definition → ℕ → State → ℕ → Option Variable → List ℕ
found_text d nodes s i None = []
found_text d nodes s i (Some x) = if is_one x.cells then variable_text d x (zero_or (slice_get s.values i)) else table_text d nodes s i x

abbrev pub shown_text : Definition → ℕ → State → ℕ → List ℕ
shown_text d nodes s i = found_text d nodes s i (slice_get d.variables i)

-- a state among so many nodes: the variables that a trace shows, in order, with a blank (32) between any two
abbrev pub state_text : Definition → ℕ → State → List ℕ
state_text d nodes s = join_with_byte 32 (map (shown_text d nodes s) d.trace)

-- the value of a note's field with a number and a kind, and the values of fields of these kinds, with a comma between any two
abbrev pub field_text : Definition → Note → ℕ × Kind → List ℕ
field_text d note field = value_text d field.1 (zero_or (slice_get note.fields field.0))

abbrev pub fields_text : Definition → List Kind → Note → List ℕ
fields_text d fields note = join_with_byte 44 (map (field_text d note) (enumerate_from 0 fields))

-- the values of fields in parentheses, where there are any
abbrev pub if_fields : Definition → List Kind → Note → List ℕ
if_fields d [] note = []
if_fields d (field ∷ fields) note = codes "(" ++ (fields_text d (field ∷ fields) note ++ codes ")")

-- a note of a form: the form's name in small letters, and then its fields
abbrev pub form_text : Definition → NoteForm → Note → List ℕ
form_text d form note = map to_ascii_lowercase form.name ++ if_fields d form.fields note

-- a note of the form with its number; nothing where there is none
abbrev pub formed_text : Definition → Option NoteForm → Note → List ℕ
formed_text d None note = []
formed_text d (Some form) note = form_text d form note

abbrev pub note_text : Definition → Note → List ℕ
note_text d note = formed_text d (slice_get d.notes note.form) note

-- notes, in order, with a plus (43) between any two: those of a packet
abbrev pub notes_text : Definition → List (Option Note) → List ℕ
notes_text d notes = pieces 43 (note_text d) (notes_in notes)

abbrev pub packet_text : Definition → Packet → List ℕ
packet_text d p = notes_text d p.notes
