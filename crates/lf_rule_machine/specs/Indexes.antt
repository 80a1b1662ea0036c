-- The chains that each node goes through at each event, row by row.
use Rattle.std.specs.Prelude.{ℕ, zero, suc, ◌+◌, ◌*◌, ◌/◌, ◌%◌, nat_lt, List, [], map, Option, None, Some, if◌then◌else◌, slice_get}
use Rattle.std.specs.List.{range_with_len}
use Rattle.lf_rules.specs.declared.rule.Event.{Event}
use Rattle.lf_rules.specs.declared.rule.Event.TheVariants as events
use Rattle.lf_rules.specs.declared.definition.Definition.{Definition}
use Rattle.lf_rule_machine.specs.Choices.{chosen}
use Rattle.lf_rule_machine.specs.Moments.{row_of}

-- events by their numbers
abbrev pub number_of : Event → ℕ
number_of events.Start = 0
number_of events.Wake = 1
number_of events.Begin = 2
number_of events.End = 3
number_of (events.Note form) = suc (suc (suc (suc form)))

abbrev pub event_at : ℕ → Event
event_at zero = events.Start
event_at (suc zero) = events.Wake
event_at (suc (suc zero)) = events.Begin
event_at (suc (suc (suc zero))) = events.End
event_at (suc (suc (suc (suc form)))) = events.Note form

-- the row of the event with number a and node n stands at place a * 8 + n
abbrev pub row_at : Definition → ℕ → List (List ℕ) → ℕ → List ℕ
row_at d nodes given k = chosen d nodes (k % 8) (row_of (slice_get given (k % 8))) (event_at (k / 8))

-- for 8 nodes, and 16 forms of notes
abbrev pub rows_of : Definition → ℕ → List (List ℕ) → List (List ℕ)
rows_of d nodes given = map (row_at d nodes given) (range_with_len 0 160)

abbrev pub row_or_none : Option (List ℕ) → List ℕ
row_or_none None = []
row_or_none (Some row) = row

-- the row for a node and an event
abbrev pub row_for : List (List ℕ) → ℕ → Event → List ℕ
row_for rows n event = if nat_lt n 8 then row_or_none (slice_get rows (number_of event * 8 + n)) else []
