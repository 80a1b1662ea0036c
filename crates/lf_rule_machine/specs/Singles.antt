-- What a node does where it sends another one a single note in a step: a note takes the place of the one that was there, whatever its form.
-- Told here is what speaks of the notes that are sent. The rest is that of Events and of Machines.
use Rattle.std.specs.Prelude.{ℕ, Bool, false, not, ◌||◌, if◌then◌else◌, List, Option, None, Some}
use Rattle.std.specs.List.{fold, range_with_len}
use Rattle.lf_sim.specs.declared.letter.Letter.{Letter}
use Rattle.lf_sim.specs.declared.out.Stepped.{Stepped}
use Rattle.lf_sim.specs.Machines.{Rules}
use Rattle.lf_sim.specs.Outs.{note_to, nothing, with_note}
use Rattle.lf_rules.specs.declared.rule.Event.{Event}
use Rattle.lf_rules.specs.declared.rule.Event.TheVariants as events
use Rattle.lf_rules.specs.declared.rule.Send.{Send}
use Rattle.lf_rules.specs.declared.rule.Rule.{Rule}
use Rattle.lf_rules.specs.declared.rule.Chain.{Chain}
use Rattle.lf_rules.specs.declared.definition.Definition.{Definition}
use Rattle.lf_rule_machine.specs.Moments.{Moment, with_it, given_here}
use Rattle.lf_rule_machine.specs.declared.state.State.{State}
use Rattle.lf_rule_machine.specs.declared.state.Note.{Note}
use Rattle.lf_rule_machine.specs.declared.fact.Fact.{Fact}
use Rattle.lf_rule_machine.specs.States.{zeros, same_note}
use Rattle.lf_rule_machine.specs.Values.{value_of}
use Rattle.lf_rule_machine.specs.Events.{is_passed, is_receiver, Draft, assign, drafted, first_true}
use Rattle.lf_rules.specs.declared.topic.Topic.{Topic}
use Rattle.lf_rule_machine.specs.Machines.{moment, no_fields, shows_of, entry_of}
use Rattle.lf_rule_machine.specs.Instances.{Instance}

-- there was another note
abbrev pub is_another : Option Note → Note → Bool
is_another None note = false
is_another (Some old) note = not (same_note old note)

-- a note for m: where there was another one, that is remembered
abbrev pub place : Note → Stepped State Note → ℕ → Stepped State Note
place note turn m = record {
  state = record {
    values = turn.state.values;
    clamped = turn.state.clamped;
    replaced = turn.state.replaced || is_another (note_to turn.out m) note;
  };
  out = with_note turn.out m note;
}

module _ (at : Moment) where
  -- for each node of the set but this one the note takes its place
  abbrev pub put : ℕ → Note → Stepped State Note → ℕ → Stepped State Note
  put set note turn m = if is_receiver at set m then place note turn m else turn

  abbrev pub put_all : ℕ → Note → Stepped State Note → Stepped State Note
  put_all set note turn = fold (put set note) turn (range_with_len 0 at.nodes)

module _ (d : Definition) (at : Moment) where
  -- where no field names the receiver, a send works out its fields, then its set of nodes, and then puts the note
  abbrev pub put_draft : Stepped State Note → Send → Draft → Stepped State Note
  put_draft turn x draft =
      put_all at (value_of d at draft.state x.to) (record { form = x.form; fields = draft.fields }) (record { state = draft.state; out = turn.out })

  -- where one does, it works out its set of nodes, and then for each of them but this one the fields, with it that node, and puts the note
  abbrev pub place_draft : Stepped State Note → Send → ℕ → Draft → Stepped State Note
  place_draft turn x m draft = place (record { form = x.form; fields = draft.fields }) (record { state = draft.state; out = turn.out }) m

  abbrev pub send_one : ℕ → Send → Stepped State Note → ℕ → Stepped State Note
  send_one set x turn m = if is_receiver at set m then place_draft turn x m (drafted d (with_it at m) turn.state x) else turn

  abbrev pub send_each : ℕ → Send → Stepped State Note → Stepped State Note
  send_each set x turn = fold (send_one set x) turn (range_with_len 0 at.nodes)

  abbrev pub send : Stepped State Note → Send → Stepped State Note
  send turn x = if x.each then send_each (value_of d at turn.state x.to) x turn else put_draft turn x (drafted d at turn.state x)

  -- a rule that is taken makes its assignments from the left, and then its sends from the left
  abbrev pub do_rule : Stepped State Note → Rule → Stepped State Note
  do_rule turn rule = fold send (record { state = fold (assign d at) turn.state rule.sets; out = turn.out }) rule.sends

  -- of a chain the first rule is taken whose guard is true
  abbrev pub do_found : Stepped State Note → Option Rule → Stepped State Note
  do_found turn None = turn
  do_found turn (Some rule) = do_rule turn rule

  abbrev pub take_first : Stepped State Note → List Rule → Stepped State Note
  take_first turn rules = do_found turn (first_true d at turn.state rules)

  -- a chain that isn't gone through does nothing
  abbrev pub pass : Event → Stepped State Note → Chain → Stepped State Note
  pass event turn chain = if is_passed at.nodes at.me (given_here at) event chain then take_first turn chain.rules else turn

  -- an event goes through the chains in order
  unfoldable pub act : Event → Stepped State Note → Stepped State Note
  act event turn = fold (pass event) turn d.chains

-- a state, and no note yet
abbrev pub opened : State → Stepped State Note
opened s = record { state = s; out = nothing }

module _ (d : Definition) (nodes : ℕ) (given : List (List ℕ)) where
  -- an event without a letter
  abbrev pub act_alone : ℕ → ℕ → Event → Stepped State Note → Stepped State Note
  act_alone n t event turn = act d (moment nodes given n t 0 no_fields) event turn

  -- a step: before the letters, each letter in the order of the inbox, and after the letters
  abbrev pub begin_of : ℕ → ℕ → State → Stepped State Note
  begin_of n t s = act_alone n t events.Begin (opened s)

  abbrev pub hear_of : ℕ → ℕ → Stepped State Note → Letter Note → Stepped State Note
  hear_of n t turn letter = act d (moment nodes given n t letter.from letter.note.fields) (events.Note letter.note.form) turn

  abbrev pub end_of : ℕ → ℕ → Stepped State Note → Stepped State Note
  end_of n t turn = act_alone n t events.End turn

  abbrev pub step_of : ℕ → ℕ → State → List (Letter Note) → Stepped State Note
  step_of n t s inbox = end_of n t (fold (hear_of n t) (begin_of n t s) inbox)

  -- the start and waking are events, too
  abbrev pub start_of : ℕ → State
  start_of n = (act_alone n 0 events.Start (opened zeros)).state

  abbrev pub wake_of : ℕ → ℕ → State → State
  wake_of n t s = (act_alone n t events.Wake (opened s)).state

  abbrev pub rules_by : List Topic → Rules State Note Fact
  rules_by topics =
      record { nodes = nodes; start = start_of; step = step_of; wake = wake_of; shows = shows_of d nodes given; entry = entry_of d nodes given topics }

-- the rules of a protocol where a node sends another one a single note in a step
abbrev pub rules_of_notes : Instance → Rules State Note Fact
rules_of_notes m = rules_by m.definition m.nodes m.given m.topics
