-- What a packet is in other words: some notes, in order.
use Rattle.std.specs.Prelude.{◌≡◌, ◌≤◌, ◌-◌, ℕ, Bool, true, not, ◌&&◌, ◌==◌, nat_lt, if◌then◌else◌, List, [], ◌∷◌, ◌++◌, length, map, replicate}
use Rattle.std.specs.Prelude.{None, Some}
use Rattle.std.specs.List.{list_any}
use Rattle.lf_rule_machine.specs.declared.state.Note.{Note}
use Rattle.lf_rule_machine.specs.declared.state.Packet.{Packet}
use Rattle.lf_rule_machine.specs.States.{same_note}

-- the packet of at most four notes
abbrev pub packet_with : List Note → Packet
packet_with xs = record { notes = map Some xs ++ replicate (4 - length xs) None }

-- some notes have one of a form
abbrev pub has_form : List Note → ℕ → Bool
has_form xs form = list_any (λ x. x.form == form) xs

-- each has a form of its own
abbrev pub are_of_other_forms : List Note → Bool
are_of_other_forms [] = true
are_of_other_forms (x ∷ xs) = not (has_form xs x.form) && are_of_other_forms xs

-- one note in the place of another one of its form
abbrev pub instead : Note → Note → Note
instead note x = if x.form == note.form then note else x

-- a note among others: in the place of the one of its form, or else behind them, where they are fewer than four
abbrev pub among : List Note → Note → List Note
among xs note =
    if has_form xs note.form then map (instead note) xs
    else if nat_lt (length xs) 4 then xs ++ note ∷ []
    else xs

-- whether a note is lost by that: another one of its form, or this one
abbrev pub is_lost_among : List Note → Note → Bool
is_lost_among xs note =
    if has_form xs note.form then list_any (λ x. (x.form == note.form) && not (same_note x note)) xs
    else not (nat_lt (length xs) 4)

-- what a node sends another one in a step: one to four notes, each of a form of its own
pub record IsPacket (p : Packet) : Type 0 where
  pub notes : List Note
  pub is : p ≡ packet_with notes
  pub some : 1 ≤ length notes
  pub few : length notes ≤ 4
  pub forms : are_of_other_forms notes ≡ true
