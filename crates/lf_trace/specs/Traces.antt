-- A run told line by line.
use Rattle.std.specs.Prelude.{ℕ, suc, not, ◌||◌, ◌==◌, nat_lt, if◌then◌else◌, List, [], ◌++◌, codes, Option, Some, None}
use Rattle.std.specs.Fmt.{decimal}
use Rattle.lf_faults.specs.declared.fault.Parts.{Parts}
use Rattle.lf_faults.specs.Faults.{set_omits}
use Rattle.lf_protocols.specs.declared.fact.Fact.{Fact}
use Rattle.lf_protocols.specs.declared.protocol.Kind.{Kind}
use Rattle.lf_protocols.specs.declared.note.Note.{Note}
use Rattle.lf_protocols.specs.declared.state.State.{State}
use Rattle.lf_sim.specs.Runs.{World, each_below, is_up, sent, view}
use Rattle.lf_outcome.specs.declared.formula.Formula.{Formula}
use Rattle.lf_outcome.specs.Truth.{reaches}
use Rattle.lf_trace.specs.Lines.{line}
use Rattle.lf_trace.specs.Words.{Words, words_of}

module _ {S N F : Type 0} (w : World S N F) (faults : List Parts) where
  -- the note that arrives at m at u is lost: u lies past the last step, or m isn't up then
  abbrev pub fate_at : ℕ → ℕ → List ℕ
  fate_at m u = if nat_lt w.horizon u || not (is_up w faults m u) then codes "lost" else decimal u

  -- what becomes of the note that n sends to m at t: an omission loses it, else nobody receives it, else it arrives
  abbrev pub fate : ℕ → ℕ → ℕ → List ℕ
  fate t n m = if set_omits faults n m t then codes "omitted" else fate_at m (w.arrival n m t)

  abbrev pub end_word : Formula F → List ℕ
  end_word formula = if reaches w faults formula then codes "reaches" else codes "misses"

-- by the words of states and notes
module _ {S N F : Type 0} (words : Words S N) (w : World S N F) (faults : List Parts) where
  -- a node's state after the step, or `down` where it isn't up
  abbrev pub standing : ℕ → ℕ → List ℕ
  standing t n = if is_up w faults n t then words.state (view w faults n t) else codes "down"

  -- `N WORDS`
  abbrev pub node_line : ℕ → ℕ → List ℕ
  node_line t n = decimal n ++ (codes " " ++ line (standing t n))

  -- `N>M NOTE ARRIVAL`
  abbrev pub note_line : ℕ → ℕ → ℕ → N → List ℕ
  note_line t n m note =
      decimal n ++ (codes ">" ++ (decimal m ++ (codes " " ++ (words.note note ++ (codes " " ++ line (fate w faults t n m))))))

  -- the line of what was sent, if anything was
  abbrev pub sent_line : ℕ → ℕ → ℕ → Option N → List ℕ
  sent_line t n m None = []
  sent_line t n m (Some note) = note_line t n m note

  -- the line of the slot from n to m, another node, at t
  abbrev pub slot_line : ℕ → ℕ → ℕ → List ℕ
  slot_line t n m = if n == m then [] else sent_line t n m (sent w faults n m t)

  -- the lines of what n sends at t, by receiver
  abbrev pub sender_lines : ℕ → ℕ → List ℕ
  sender_lines t n = each_below (slot_line t n) w.rules.nodes

  -- the lines of what is sent at t, by sender
  abbrev pub note_lines : ℕ → List ℕ
  note_lines t = each_below (sender_lines t) w.rules.nodes

  -- `step T`; then the nodes, in order; then the notes, by sender and then by receiver
  abbrev pub step_lines_by : ℕ → List ℕ
  step_lines_by t = codes "step " ++ line (decimal t) ++ each_below (node_line t) w.rules.nodes ++ note_lines t

  -- the steps 1 to the last, and then whether the faults reach the outcome
  abbrev pub trace_by : Formula F → List ℕ
  trace_by formula = each_below (λ past. step_lines_by (suc past)) w.horizon ++ line (end_word w faults formula)

-- by those of a protocol
abbrev pub step_lines : Kind → World State Note Fact → List Parts → ℕ → List ℕ
step_lines k = step_lines_by (words_of k)

abbrev pub trace : Kind → World State Note Fact → List Parts → Formula Fact → List ℕ
trace k = trace_by (words_of k)
