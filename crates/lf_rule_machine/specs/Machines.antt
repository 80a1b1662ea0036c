-- A protocol of rules as a machine, among so many nodes and with the values that the constants have at each node.
use Rattle.std.specs.Prelude.{ℕ, Bool, not, ◌&&◌, ◌==◌, List, Option, None, Some, if◌then◌else◌, slice_get, replicate}
use Rattle.std.specs.List.{fold}
use Rattle.lf_sim.specs.declared.entry.Entry.{Entry}
use Rattle.lf_sim.specs.declared.letter.Letter.{Letter}
use Rattle.lf_sim.specs.declared.out.Stepped.{Stepped}
use Rattle.lf_sim.specs.Machines.{Rules}
use Rattle.lf_sim.specs.Outs.{nothing}
use Rattle.lf_rules.specs.declared.rule.Event.{Event}
use Rattle.lf_rules.specs.declared.rule.Event.TheVariants as events
use Rattle.lf_rules.specs.declared.definition.Given.{Given}
use Rattle.lf_rules.specs.declared.definition.Definition.{Definition}
use Rattle.lf_rules.specs.Forms.{is_from}
use Rattle.lf_rule_machine.specs.Moments.{Moment}
use Rattle.lf_rule_machine.specs.declared.state.State.{State}
use Rattle.lf_rule_machine.specs.declared.state.Note.{Note}
use Rattle.lf_rule_machine.specs.declared.state.Packet.{Packet}
use Rattle.lf_rule_machine.specs.declared.fact.Told.{Told}
use Rattle.lf_rule_machine.specs.declared.fact.Told.TheVariants as tolds
use Rattle.lf_rule_machine.specs.declared.fact.Fact.{Fact}
use Rattle.lf_rules.specs.declared.topic.Topic.{Topic}
use Rattle.lf_rule_machine.specs.Sets.{is_true}
use Rattle.lf_rule_machine.specs.States.{zeros}
use Rattle.lf_rule_machine.specs.Values.{zero_or, value_of, value_of_fact}
use Rattle.lf_rule_machine.specs.Events.{act}
use Rattle.lf_rule_machine.specs.Constants.{are_given}

-- a protocol of rules with so many nodes and these values is a machine
abbrev pub is_machine : Definition → ℕ → List Given → Bool
is_machine d nodes given = is_from 2 8 nodes && are_given d nodes d.given given

abbrev pub no_fields : List ℕ
no_fields = replicate 7 0

-- a state, and no note yet
abbrev pub opened : State → Stepped State Packet
opened s = record { state = s; out = nothing }

-- a moment of node n's step t, in which it is no node's
abbrev pub moment : ℕ → List (List ℕ) → ℕ → ℕ → ℕ → List ℕ → Moment
moment nodes given n t sender fields =
    record { nodes = nodes; me = n; given = given; step = t; sender = sender; fields = fields; it = 0 }

module _ (d : Definition) (nodes : ℕ) (given : List (List ℕ)) where
  -- an event without a letter
  abbrev pub act_alone : ℕ → ℕ → Event → Stepped State Packet → Stepped State Packet
  act_alone n t event turn = act d (moment nodes given n t 0 no_fields) event turn

  -- a step: before the letters, each letter, and after the letters
  abbrev pub begin_of : ℕ → ℕ → State → Stepped State Packet
  begin_of n t s = act_alone n t events.Begin (opened s)

  -- a note by a sender is an event, and a place without a note none
  abbrev pub hear_note : ℕ → ℕ → ℕ → Stepped State Packet → Option Note → Stepped State Packet
  hear_note n t from turn None = turn
  hear_note n t from turn (Some note) = act d (moment nodes given n t from note.fields) (events.Note note.form) turn

  -- the notes of a packet are heard in their order
  abbrev pub hear_of : ℕ → ℕ → Stepped State Packet → Letter Packet → Stepped State Packet
  hear_of n t turn letter = fold (hear_note n t letter.from) turn letter.note.notes

  abbrev pub end_of : ℕ → ℕ → Stepped State Packet → Stepped State Packet
  end_of n t turn = act_alone n t events.End turn

  -- the letters are heard in the order of the inbox
  abbrev pub step_of : ℕ → ℕ → State → List (Letter Packet) → Stepped State Packet
  step_of n t s inbox = end_of n t (fold (hear_of n t) (begin_of n t s) inbox)

  -- the start is what its event makes of zeros, with step 0; waking is its event at the step of waking
  abbrev pub start_of : ℕ → State
  start_of n = (act_alone n 0 events.Start (opened zeros)).state

  abbrev pub wake_of : ℕ → ℕ → State → State
  wake_of n t s = (act_alone n t events.Wake (opened s)).state

  -- what is told of a state
  abbrev pub is_told : ℕ → State → Told → Bool
  is_told n s (tolds.Named i) = is_true (value_of_fact d (moment nodes given n 0 0 no_fields) s (slice_get d.facts i))
  is_told n s (tolds.Word variable word) = zero_or (slice_get s.values variable) == word
  is_told n s (tolds.Flag variable) = is_true (zero_or (slice_get s.values variable))
  is_told n s tolds.Clamped = s.clamped
  is_told n s tolds.Replaced = s.replaced

  abbrev pub shows_of : ℕ → State → Fact → Bool
  shows_of n s fact = if fact.denied then not (is_told n s fact.told) else is_told n s fact.told

  -- what a state enters under a topic: where the guard is true, a value for a key
  abbrev pub entry_by : ℕ → State → Option Topic → Option Entry
  entry_by n s None = None
  entry_by n s (Some topic) =
      let at = moment nodes given n 0 0 no_fields in
      if is_true (value_of d at s topic.guard) then Some (record { key = value_of d at s topic.key; value = value_of d at s topic.value }) else None

  abbrev pub entry_of : List Topic → ℕ → State → ℕ → Option Entry
  entry_of topics n s i = entry_by n s (slice_get topics i)

  abbrev pub rules_by : List Topic → Rules State Packet Fact
  rules_by topics = record { nodes = nodes; start = start_of; step = step_of; wake = wake_of; shows = shows_of; entry = entry_of topics }
