-- No step takes a cell's value past the greatest of its kind.
use Rattle.std.proofs.Common.{◌≡◌, ℕ, zero, suc, ◌≤◌, true, List, [], ◌∷◌, replicate, refl, sym, subst, arith}
use Rattle.std.specs.Prelude.{Option, None, Some, slice_get}
use Rattle.std.specs.List.{fold}
use Rattle.lf_sim.specs.declared.letter.Letter.{Letter}
use Rattle.lf_sim.specs.declared.out.Stepped.{Stepped}
use Rattle.lf_rules.specs.declared.rule.Event.TheVariants as events
use Rattle.lf_rules.specs.declared.definition.Definition.{Definition}
use Rattle.lf_rules.specs.Kinds.{most_of}
use Rattle.lf_rules.specs.Tables.{others_of, cell_of}
use Rattle.lf_rules.specs.Forms.{is_well_formed}
use Rattle.lf_rule_machine.specs.declared.state.State.{State}
use Rattle.lf_rule_machine.specs.declared.state.Note.{Note}
use Rattle.lf_rule_machine.specs.declared.state.Packet.{Packet}
use Rattle.lf_rule_machine.specs.States.{zeros}
use Rattle.lf_rule_machine.specs.Values.{zero_or}
use Rattle.lf_rule_machine.specs.Ranges.{IsInRange}
use Rattle.lf_rule_machine.proofs.Laws.{act-ranged}
use Rattle.lf_rule_machine.specs.Machines.{no_fields, opened, moment, begin_of, hear_note, hear_of, step_of, start_of, wake_of}

zero-there : (k i : ℕ) → zero_or (slice_get (replicate k 0) i) ≡ 0
zero-there zero i = refl
zero-there (suc k) zero = refl
zero-there (suc k) (suc i) = zero-there k i

fold-keeps : {A B : Type 0} (P : B → Type 0) (f : B → A → B) → ((b : B) (x : A) → P b → P (f b x)) → (b : B) (xs : List A) → P b → P (fold f b xs)
fold-keeps P f keeps b [] h = h
fold-keeps P f keeps b (x ∷ xs) h = fold-keeps P f keeps (f b x) xs (keeps b x h)

module _ (d : Definition) (nodes : ℕ) (given : List (List ℕ)) (formed : is_well_formed d ≡ true) where
  zeros-ranged : IsInRange d zeros
  zeros-ranged = λ i x is k low. subst (λ v. v ≤ most_of x.kind) (sym (zero-there 64 (cell_of i (others_of d i) k))) (omega arith)

  pub start-ranged : (n : ℕ) → IsInRange d (start_of d nodes given n)
  start-ranged n = act-ranged d (moment nodes given n 0 0 no_fields) events.Start (opened zeros) formed zeros-ranged

  pub wake-ranged : (n t : ℕ) (s : State) → IsInRange d s → IsInRange d (wake_of d nodes given n t s)
  wake-ranged n t s ranged = act-ranged d (moment nodes given n t 0 no_fields) events.Wake (opened s) formed ranged

  noted-ranged : (n t from : ℕ) (turn : Stepped State Packet) (note : Option Note) → IsInRange d turn.state
      → IsInRange d (hear_note d nodes given n t from turn note).state
  noted-ranged n t from turn None ranged = ranged
  noted-ranged n t from turn (Some note) ranged = act-ranged d (moment nodes given n t from note.fields) (events.Note note.form) turn formed ranged

  pub step-ranged : (n t : ℕ) (s : State) (inbox : List (Letter Packet)) → IsInRange d s → IsInRange d (step_of d nodes given n t s inbox).state
  step-ranged n t s inbox ranged =
      act-ranged d (moment nodes given n t 0 no_fields) events.End _ formed
      (fold-keeps (λ turn. IsInRange d turn.state) (hear_of d nodes given n t)
      (λ turn letter heard. fold-keeps (λ turn. IsInRange d turn.state) (hear_note d nodes given n t letter.from) (noted-ranged n t letter.from) turn
      letter.note.notes heard)
      (begin_of d nodes given n t s) inbox
      (act-ranged d (moment nodes given n t 0 no_fields) events.Begin (opened s) formed ranged))
