-- What the threads share that judge the parts of a tree says the same to each of them.
use mathlib.Core.List.{List, [], ◌∷◌}
use mir.Syntax.{Sym}
use denote.RattleType.{RattleType}
use denote.Ref.{NamedLft}
use denote.Param.{param}
use denote.Param.Send.{IsSend, IsSync, sendable, struct_send, struct_sync, recorded_send, recorded_sync, shr_send, shr_sync, param_sync}
use denote.Struct.Declared.{shape}
use denote.Struct.Field.{shr_ref_field}
use denote.Struct.Tuple as tuple
use Rattle.std.proofs.Crossing.{crosses}
use Rattle.std.specs.contracts.alloc.Global as global
use Rattle.lf_outcome.proofs.Laws.{formulas_cross}
use Rattle.lf_protocols.specs.contracts.protocol.Protocol as protocol
use Rattle.lf_protocols.specs.contracts.state.State as state
use Rattle.lf_protocols.specs.contracts.note.Note as note
use Rattle.lf_protocols.specs.contracts.fact.Fact as fact
use Rattle.lf_protocols.specs.contracts.machine.ProtocolMachine.TheImpl as machine
use Rattle.lf_protocols.specs.contracts.state.StatePartialEq.TheImpl as states
use Rattle.lf_protocols.specs.contracts.note.NotePartialEq.TheImpl as notes
use Rattle.lf_protocols.specs.contracts.fact.FactPartialEq.TheImpl as facts
use Rattle.lf_protocols.proofs.Laws.{protocols_cross}
use Rattle.lf_tree.proofs.Laws.{nodes_cross}
use Rattle.lf_check.specs.contracts.failing.FirstFailing as failing
use Rattle.lf_check.specs.contracts.places.Places as places
use Rattle.lf_check.specs.contracts.site.Judged as judged
use Rattle.lf_check.specs.contracts.tally.Tally as tally

global_sync : IsSync global.the_row
global_sync = search (crosses, sendable) depth 60 fits 20000

abbrev judged_row : NamedLft → RattleType
judged_row a = judged.the_row a protocol.the_row state.the_row note.the_row fact.the_row machine.ghosts states.ghosts notes.ghosts facts.ghosts

judged_sync : (a : NamedLft) → IsSync (judged_row a)
judged_sync a = search (protocols_cross, formulas_cross, crosses, sendable) depth 60 fits 20000

places_sync : (a : NamedLft) → IsSync (places.the_row a)
places_sync a = search (nodes_cross, crosses, sendable) depth 60 fits 20000

failing_sync : IsSync failing.the_row
failing_sync = search (crosses, sendable) depth 60 fits 20000

tally_sync : (a : NamedLft) (W : RattleType) → IsSync W → IsSync (tally.the_row a (param 0 W))
tally_sync a W watches = recorded_sync (tally.the_field a (param 0 W)).row _ _ (tally.the_type a (param 0 W)).to_one
    (struct_sync (shape (tally.the_type a (param 0 W)))
    (shr_sync _ _ _ (param_sync 0 W watches), (search (crosses, sendable), (search (crosses, sendable), tt))))

module _ (name : Sym) (W : RattleType) (a b c d e f g h : NamedLft) where
  abbrev rows : List RattleType
  rows = (shr_ref_field a global.the_row tt).row ∷ (shr_ref_field b (judged_row c) tt).row ∷ (shr_ref_field d (places.the_row e) tt).row
      ∷ (shr_ref_field f failing.the_row tt).row ∷ (shr_ref_field g (tally.the_row h (param 0 W)) tt).row ∷ []

  pub captured_send : IsSync W → IsSend (tuple.TupleAt name rows)
  captured_send watches = recorded_send (tuple.field_at name rows).row _ _ (tuple.type_at name rows).to_one
      (struct_send (shape (tuple.type_at name rows)) (
        shr_send _ _ _ global_sync,
        (
          shr_send _ _ _ (judged_sync c),
          (
            shr_send _ _ _ (places_sync e),
            (shr_send _ _ _ failing_sync, (shr_send _ _ _ (tally_sync h W watches), tt)),
          ),
        ),
      ))

  pub captured_sync : IsSync W → IsSync (tuple.TupleAt name rows)
  captured_sync watches = recorded_sync (tuple.field_at name rows).row _ _ (tuple.type_at name rows).to_one
      (struct_sync (shape (tuple.type_at name rows)) (
        shr_sync _ _ _ global_sync,
        (
          shr_sync _ _ _ (judged_sync c),
          (
            shr_sync _ _ _ (places_sync e),
            (shr_sync _ _ _ failing_sync, (shr_sync _ _ _ (tally_sync h W watches), tt)),
          ),
        ),
      ))
