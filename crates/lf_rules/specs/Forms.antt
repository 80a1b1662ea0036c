-- When a definition is well formed: all that has a number is there, each expression is of the sort that its place wants, and nothing passes its limit.
use Rattle.std.specs.Prelude.{ℕ, ◌+◌, Bool, true, false, not, ◌&&◌, ◌||◌, ◌==◌, nat_lt, nat_le}
use Rattle.std.specs.Prelude.{List, [], ◌∷◌, length, map, sum, Option, None, Some, slice_get}
use Rattle.std.specs.List.{list_all, list_any}
use Rattle.lf_rules.specs.declared.kind.Kind.{Kind}
use Rattle.lf_rules.specs.declared.kind.Kind.TheVariants as kinds
use Rattle.lf_rules.specs.declared.sort.Sort.{Sort}
use Rattle.lf_rules.specs.declared.sort.Sort.TheVariants as sorts
use Rattle.lf_rules.specs.declared.sort.Scope.{Scope}
use Rattle.lf_rules.specs.declared.sort.Scope.TheVariants as scopes
use Rattle.lf_rules.specs.declared.sort.Within.{Within}
use Rattle.lf_rules.specs.declared.sort.Within.TheVariants as withins
use Rattle.lf_rules.specs.declared.table.Cells.{Cells}
use Rattle.lf_rules.specs.declared.table.Cells.TheVariants as cells
use Rattle.lf_rules.specs.Terms.{Term}
use Rattle.lf_rules.specs.Trees.{has_it}
use Rattle.lf_rules.specs.declared.rule.Target.{Target}
use Rattle.lf_rules.specs.declared.rule.Target.TheVariants as targets
use Rattle.lf_rules.specs.declared.rule.Event.{Event}
use Rattle.lf_rules.specs.declared.rule.Event.TheVariants as events
use Rattle.lf_rules.specs.declared.rule.Assignment.{Assignment}
use Rattle.lf_rules.specs.declared.rule.Send.{Send}
use Rattle.lf_rules.specs.declared.rule.Rule.{Rule}
use Rattle.lf_rules.specs.declared.rule.Chain.{Chain}
use Rattle.lf_rules.specs.declared.definition.Variable.{Variable}
use Rattle.lf_rules.specs.declared.definition.NoteForm.{NoteForm}
use Rattle.lf_rules.specs.declared.definition.Value.{Value}
use Rattle.lf_rules.specs.declared.definition.Value.TheVariants as values
use Rattle.lf_rules.specs.declared.definition.Given.{Given}
use Rattle.lf_rules.specs.declared.definition.Given.TheVariants as givens
use Rattle.lf_rules.specs.declared.definition.Constant.{Constant}
use Rattle.lf_rules.specs.declared.definition.Named.{Named}
use Rattle.lf_rules.specs.declared.definition.Guard.{Guard}
use Rattle.lf_rules.specs.declared.definition.Definition.{Definition}
use Rattle.lf_rules.specs.Kinds.{sort_of}
use Rattle.lf_rules.specs.Tables.{is_one, is_each_node, is_cells, cells_in, is_table}
use Rattle.lf_rules.specs.Sorts.{same_sort, is_a}

-- a length from a least to a most
abbrev pub is_from : ℕ → ℕ → ℕ → Bool
is_from least most n = nat_le least n && nat_le n most

-- a variable has so many words
abbrev pub has_words : Option Variable → ℕ → Bool
has_words None words = false
has_words (Some x) words = length x.words == words

-- words are those of a variable that has them
abbrev pub is_kind : Definition → Kind → Bool
is_kind d kinds.Flag = true
is_kind d kinds.Nodes = true
is_kind d (kinds.UpTo most) = nat_le 1 most
is_kind d (kinds.Word of words) = is_from 2 16 words && has_words (slice_get d.variables of) words

-- a variable with words of its own has these as its values
abbrev pub is_word_of : ℕ → Kind → Bool
is_word_of i (kinds.Word of words) = of == i
is_word_of i other = false

abbrev pub is_variable : Definition → ℕ → Variable → Bool
is_variable d i x = is_kind d x.kind && (is_cells x.cells && (length x.words == 0 || is_word_of i x.kind))

abbrev pub are_variables : Definition → ℕ → List Variable → Bool
are_variables d i [] = true
are_variables d i (x ∷ xs) = is_variable d i x && are_variables d (i + 1) xs

abbrev pub is_form : Definition → NoteForm → Bool
is_form d form = nat_le (length form.fields) 7 && list_all (is_kind d) form.fields

-- a constant is a number, a truth value or a set, for all nodes or for each of up to 8
abbrev pub is_value : Definition → Sort → Value → Bool
is_value d sort (values.Number n) = same_sort sort sorts.Number
is_value d sort (values.Truth b) = same_sort sort sorts.Truth
is_value d sort (values.Nodes e) = same_sort sort sorts.Nodes && is_a d scopes.Given withins.Nothing sorts.Nodes e

abbrev pub is_given : Definition → Sort → Given → Bool
is_given d sort (givens.One v) = is_value d sort v
is_given d sort (givens.Each vs) = is_from 1 8 (length vs) && list_all (is_value d sort) vs

abbrev pub is_constant : Definition → Constant → Bool
is_constant d x = is_given d x.sort x.value

abbrev pub is_let : Definition → Named → Bool
is_let d x = is_a d scopes.Let withins.Nothing x.sort x.value

abbrev pub is_fact : Definition → Guard → Bool
is_fact d x = is_a d scopes.Fact withins.Nothing sorts.Truth x.value

-- a value goes to a cell, or to a field, of its kind
abbrev pub is_assigned : Definition → Scope → Within → Option Variable → Term → Bool
is_assigned d scope within None e = false
is_assigned d scope within (Some x) e = is_a d scope within (sort_of x.kind) e

-- a variable that is set as a whole is no table
abbrev pub is_whole : Option Variable → Bool
is_whole None = false
is_whole (Some x) = is_one x.cells

-- of a table with a cell for each node the value may name the node
abbrev pub within_of : Cells → Within
within_of cells.EachNode = withins.Receiver
within_of other = withins.Nothing

abbrev pub is_set : Definition → Scope → Target → Term → Bool
is_set d scope (targets.Variable i) e = is_whole (slice_get d.variables i) && is_assigned d scope withins.Nothing (slice_get d.variables i) e
is_set d scope (targets.Cell t place) e =
    is_table d t
    && (is_a d scope withins.Nothing sorts.Number place && is_assigned d scope (within_of t.cells) (slice_get d.variables t.of) e)
is_set d scope (targets.Cells t places) e =
    is_table d t
    && (is_each_node t.cells
    && (is_a d scope withins.Nothing sorts.Nodes places && is_assigned d scope withins.Receiver (slice_get d.variables t.of) e))

abbrev pub is_assignment : Definition → Scope → Assignment → Bool
is_assignment d scope x = is_set d scope x.target x.value

abbrev pub are_fields : Definition → Scope → List Kind → List Term → Bool
are_fields d scope [] [] = true
are_fields d scope [] (e ∷ es) = false
are_fields d scope (kind ∷ kinds) [] = false
are_fields d scope (kind ∷ kinds) (e ∷ es) = is_a d scope withins.Receiver (sort_of kind) e && are_fields d scope kinds es

abbrev pub are_sent : Definition → Scope → Option NoteForm → List Term → Bool
are_sent d scope None es = false
are_sent d scope (Some form) es = are_fields d scope form.fields es

abbrev pub same_truth : Bool → Bool → Bool
same_truth true b = b
same_truth false b = not b

-- a note whose fields name the receiver says so
abbrev pub is_send : Definition → Scope → Send → Bool
is_send d scope x =
    are_sent d scope (slice_get d.notes x.form) x.fields
    && (is_a d scope withins.Nothing sorts.Nodes x.to && same_truth x.each (list_any has_it x.fields))

abbrev pub is_rule_in : Definition → Scope → ℕ → Rule → Bool
is_rule_in d scope sends x =
    is_a d scope withins.Nothing sorts.Truth x.guard
    && (nat_le (length x.sets) 16 && (list_all (is_assignment d scope) x.sets
    && (nat_le (length x.sends) sends && list_all (is_send d scope) x.sends)))

-- an event is one of a note that there is
abbrev pub is_event : Definition → Event → Bool
is_event d (events.Note form) = nat_lt form (length d.notes)
is_event d other = true

abbrev pub scope_of : Event → Scope
scope_of (events.Note form) = scopes.Note form
scope_of other = scopes.Plain

-- nothing is sent at the start and on waking
abbrev pub sends_of : Event → ℕ
sends_of events.Start = 0
sends_of events.Wake = 0
sends_of other = 8

abbrev pub is_chain : Definition → Chain → Bool
is_chain d x =
    is_a d scopes.Who withins.Nothing sorts.Nodes x.who
    && (is_event d x.on && (nat_le 1 (length x.rules) && list_all (is_rule_in d (scope_of x.on) (sends_of x.on)) x.rules))

-- how many rules there are in all
abbrev pub rules_in : List Chain → ℕ
rules_in chains = sum (map (λ x. length x.rules) chains)

abbrev pub is_shown : Definition → ℕ → Bool
is_shown d i = nat_lt i (length d.variables)

-- the limits of what there is in all
abbrev pub is_in_limits : Definition → Bool
is_in_limits d =
    is_from 1 32 (length d.variables)
    && (nat_le (cells_in d) 64 && (nat_le (length d.notes) 16 && (nat_le (length d.given) 16 && (nat_le (length d.lets) 16
    && (nat_le (length d.facts) 32 && (nat_le (rules_in d.chains) 128 && is_from 1 32 (length d.trace)))))))

abbrev pub is_well_formed : Definition → Bool
is_well_formed d =
    is_in_limits d
    && (are_variables d 0 d.variables && (list_all (is_form d) d.notes && (list_all (is_constant d) d.given
    && (list_all (is_let d) d.lets && (list_all (is_fact d) d.facts && (list_all (is_chain d) d.chains
    && list_all (is_shown d) d.trace))))))
