-- What a node does at an event: which rules are taken, and what they do.
use Rattle.std.specs.Prelude.{ℕ, ◌+◌, Bool, true, false, not, ◌&&◌, ◌||◌, ◌==◌, nat_lt, if◌then◌else◌, min}
use Rattle.std.specs.Prelude.{List, [], ◌∷◌, Option, None, Some, slice_set, slice_get, replicate}
use Rattle.std.specs.List.{fold, range_with_len}
use Rattle.lf_sim.specs.declared.out.Stepped.{Stepped}
use Rattle.lf_sim.specs.Outs.{note_to, with_note}
use Rattle.lf_rules.specs.declared.kind.Kind.{Kind}
use Rattle.lf_rules.specs.Terms.{Term}
use Rattle.lf_rules.specs.declared.rule.Event.{Event}
use Rattle.lf_rules.specs.declared.rule.Event.TheVariants as events
use Rattle.lf_rules.specs.declared.table.Table.{Table}
use Rattle.lf_rules.specs.declared.rule.Target.{Target}
use Rattle.lf_rules.specs.declared.rule.Target.TheVariants as targets
use Rattle.lf_rules.specs.declared.rule.Assignment.{Assignment}
use Rattle.lf_rules.specs.declared.rule.Send.{Send}
use Rattle.lf_rules.specs.declared.rule.Rule.{Rule}
use Rattle.lf_rules.specs.declared.rule.Chain.{Chain}
use Rattle.lf_rules.specs.declared.definition.Variable.{Variable}
use Rattle.lf_rules.specs.declared.definition.NoteForm.{NoteForm}
use Rattle.lf_rules.specs.declared.definition.Definition.{Definition}
use Rattle.lf_rules.specs.Kinds.{most_of}
use Rattle.lf_rule_machine.specs.Moments.{Moment, with_it, given_here}
use Rattle.lf_rule_machine.specs.Places.{cell_at}
use Rattle.lf_rule_machine.specs.declared.state.State.{State}
use Rattle.lf_rule_machine.specs.declared.state.Note.{Note}
use Rattle.lf_rule_machine.specs.declared.state.Packet.{Packet}
use Rattle.lf_rule_machine.specs.Sets.{is_true, has}
use Rattle.lf_rule_machine.specs.States.{packed, loses, packet_of}
use Rattle.lf_rule_machine.specs.Values.{value_of, fixed_value}

-- a value past the greatest of its kind becomes that one, and clamped is remembered
abbrev pub fitted : Kind → ℕ → ℕ
fitted kind v = min v (most_of kind)

abbrev pub remembered : Kind → ℕ → State → State
remembered kind v s = record { values = s.values; clamped = s.clamped || nat_lt (most_of kind) v; replaced = s.replaced }

-- clamped is remembered where a cell isn't there, too
abbrev pub missed : State → State
missed s = record { values = s.values; clamped = true; replaced = s.replaced }

-- a cell with a new value
abbrev pub with_value : ℕ → ℕ → State → State
with_value i v s = record { values = slice_set s.values i v; clamped = s.clamped; replaced = s.replaced }

-- a cell gets a value, which is fitted to its kind
abbrev pub set_fitted : State → Kind → ℕ → ℕ → State
set_fitted s kind i v = with_value i (fitted kind v) (remembered kind v s)

-- the events are the same
abbrev pub same_event : Event → Event → Bool
same_event events.Start events.Start = true
same_event events.Wake events.Wake = true
same_event events.Begin events.Begin = true
same_event (events.Note a) (events.Note b) = a == b
same_event events.End events.End = true
same_event one other = false

-- a node goes through a chain at its event, and where it is in its set, which is worked out at each node
abbrev pub is_passed : ℕ → ℕ → List ℕ → Event → Chain → Bool
is_passed nodes me given event chain = same_event chain.on event && has (fixed_value nodes given chain.who) me

abbrev pub kinds_of : Option NoteForm → List Kind
kinds_of None = []
kinds_of (Some form) = form.fields

-- a note for m is put into the packet for m: that a note is lost by that is remembered
abbrev pub place_in : Note → Stepped State Packet → ℕ → Packet → Stepped State Packet
place_in note turn m packet = record {
  state = record {
    values = turn.state.values;
    clamped = turn.state.clamped;
    replaced = turn.state.replaced || loses packet note;
  };
  out = with_note turn.out m (packed packet note);
}

abbrev pub place : Note → Stepped State Packet → ℕ → Stepped State Packet
place note turn m = place_in note turn m (packet_of (note_to turn.out m))

-- a note's fields as they are worked out, with the state that this leaves
pub record Draft : Type 0 where
  pub state : State
  pub fields : List ℕ

module _ (at : Moment) where
  -- for each node of the set but this one the note is put
  abbrev pub is_receiver : ℕ → ℕ → Bool
  is_receiver set m = has set m && not (m == at.me)

  abbrev pub put : ℕ → Note → Stepped State Packet → ℕ → Stepped State Packet
  put set note turn m = if is_receiver set m then place note turn m else turn

  abbrev pub put_all : ℕ → Note → Stepped State Packet → Stepped State Packet
  put_all set note turn = fold (put set note) turn (range_with_len 0 at.nodes)

module _ (d : Definition) (at : Moment) where
  -- a variable gets a value: a number of none does nothing
  abbrev pub set_variable : State → ℕ → Option Variable → Term → State
  set_variable s i None e = s
  set_variable s i (Some x) e = set_fitted s x.kind i (value_of d at s e)

  -- the cell at a place gets a value that is worked out with the place for it. Where there is no such cell, no value is worked out
  abbrev pub set_found : State → Kind → Term → ℕ → Option ℕ → State
  set_found s kind e place None = missed s
  set_found s kind e place (Some i) = set_fitted s kind i (value_of d (with_it at place) s e)

  abbrev pub set_cell : Table → Option Variable → Term → State → ℕ → State
  set_cell t None e s place = s
  set_cell t (Some x) e s place = set_found s x.kind e place (cell_at at.nodes t place)

  -- the cells of a set of nodes, one after another, each on the state that the ones before left
  abbrev pub set_member : ℕ → Table → Option Variable → Term → State → ℕ → State
  set_member set t found e s n = if has set n then set_cell t found e s n else s

  abbrev pub set_each : ℕ → Table → Option Variable → Term → State → State
  set_each set t found e s = fold (set_member set t found e) s (range_with_len 0 at.nodes)

  -- the place, or the set of places, is worked out first
  abbrev pub assign_to : State → Target → Term → State
  assign_to s (targets.Variable i) e = set_variable s i (slice_get d.variables i) e
  assign_to s (targets.Cell t place) e = set_cell t (slice_get d.variables t.of) e s (value_of d at s place)
  assign_to s (targets.Cells t places) e = set_each (value_of d at s places) t (slice_get d.variables t.of) e s

  abbrev pub assign : State → Assignment → State
  assign s a = assign_to s a.target a.value

  -- a note's field gets a value: one past the form's fields does nothing
  abbrev pub fill_as : Draft → ℕ → Option Kind → Term → Draft
  fill_as draft k None e = draft
  fill_as draft k (Some kind) e = record {
    state = remembered kind (value_of d at draft.state e) draft.state;
    fields = slice_set draft.fields k (fitted kind (value_of d at draft.state e));
  }

  -- the fields from the k-th on, from the left
  abbrev pub fill : List Kind → Draft → ℕ → List Term → Draft
  fill kinds draft k [] = draft
  fill kinds draft k (e ∷ es) = fill kinds (fill_as draft k (slice_get kinds k) e) (k + 1) es

  abbrev pub drafted : State → Send → Draft
  drafted s x = fill (kinds_of (slice_get d.notes x.form)) (record { state = s; fields = replicate 7 0 }) 0 x.fields

module _ (d : Definition) (at : Moment) where
  -- where no field names the receiver, a send works out its fields, then its set of nodes, and then puts the note
  abbrev pub put_draft : Stepped State Packet → Send → Draft → Stepped State Packet
  put_draft turn x draft =
      put_all at (value_of d at draft.state x.to) (record { form = x.form; fields = draft.fields }) (record { state = draft.state; out = turn.out })

  -- where one does, it works out its set of nodes, and then for each of them but this one the fields, with it that node, and puts the note
  abbrev pub place_draft : Stepped State Packet → Send → ℕ → Draft → Stepped State Packet
  place_draft turn x m draft = place (record { form = x.form; fields = draft.fields }) (record { state = draft.state; out = turn.out }) m

  abbrev pub send_one : ℕ → Send → Stepped State Packet → ℕ → Stepped State Packet
  send_one set x turn m = if is_receiver at set m then place_draft turn x m (drafted d (with_it at m) turn.state x) else turn

  abbrev pub send_each : ℕ → Send → Stepped State Packet → Stepped State Packet
  send_each set x turn = fold (send_one set x) turn (range_with_len 0 at.nodes)

  abbrev pub send : Stepped State Packet → Send → Stepped State Packet
  send turn x = if x.each then send_each (value_of d at turn.state x.to) x turn else put_draft turn x (drafted d at turn.state x)

  -- a rule that is taken makes its assignments from the left, and then its sends from the left
  abbrev pub do_rule : Stepped State Packet → Rule → Stepped State Packet
  do_rule turn rule = fold send (record { state = fold (assign d at) turn.state rule.sets; out = turn.out }) rule.sends

  -- of a chain the first rule is taken whose guard is true
  abbrev pub first_true : State → List Rule → Option Rule
  first_true s [] = None
  first_true s (rule ∷ rules) = if is_true (value_of d at s rule.guard) then Some rule else first_true s rules

  abbrev pub do_found : Stepped State Packet → Option Rule → Stepped State Packet
  do_found turn None = turn
  do_found turn (Some rule) = do_rule turn rule

  abbrev pub take_first : Stepped State Packet → List Rule → Stepped State Packet
  take_first turn rules = do_found turn (first_true turn.state rules)

  -- a chain that isn't gone through does nothing
  abbrev pub pass : Event → Stepped State Packet → Chain → Stepped State Packet
  pass event turn chain = if is_passed at.nodes at.me (given_here at) event chain then take_first turn chain.rules else turn

  -- an event goes through the chains in order
  unfoldable pub act : Event → Stepped State Packet → Stepped State Packet
  act event turn = fold (pass event) turn d.chains
