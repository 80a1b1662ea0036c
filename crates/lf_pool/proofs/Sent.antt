-- What workers share says the same to every thread, and so does a worker's share.
use mathlib.Core.List.{List, [], ◌∷◌}
use mir.Syntax.{Sym}
use denote.Builtin as builtin
use denote.RattleType.{RattleType}
use denote.Ref.{NamedLft}
use denote.Param.Send.{IsSend, IsSync, struct_send, struct_sync, recorded_send, recorded_sync, shr_send, mut_send, sendable}
use denote.Struct.Declared.{shape}
use denote.Struct.Field.{shr_ref_field, mut_ref_field}
use denote.Struct.Tuple as tuple
use Rattle.std.proofs.Crossing.{crosses}
use Rattle.std.proofs.sync.ledger.Book.TheSendSync as total
use Rattle.std.proofs.sync.ledger.Share.TheSendSync as part
use Rattle.std.proofs.sync.Mutex.TheSendSync as mutex
use Rattle.std.proofs.sync.Condvar.TheSendSync as condvar
use Rattle.std.specs.declared.sync.ledger.Ledger as ledger
use Rattle.lf_pool.specs.declared.searched.Searched as searched
use Rattle.lf_book.specs.contracts.book.Book as book
use Rattle.lf_marks.specs.contracts.grown.Answer as answer
use Rattle.lf_marks.specs.contracts.marks.Marks as marks
use Rattle.lf_outcome.proofs.Laws.{formulas_cross}
use Rattle.lf_pool.specs.contracts.hands.Hands as hands
use Rattle.lf_pool.specs.contracts.locked.hand.Claim as claim
use Rattle.lf_pool.specs.contracts.locked.hand.Found as found
use Rattle.lf_pool.specs.contracts.locked.Locked as locked
use Rattle.lf_pool.specs.contracts.share.Share as share
use Rattle.lf_pool.specs.contracts.shared.SharedBook as shared
use Rattle.lf_outcome.specs.contracts.scenario.Scenario as scenario
use Rattle.lf_protocols.proofs.Laws.{protocols_cross}
use Rattle.lf_tree.proofs.Laws.{nodes_cross}
use Rattle.lf_work.specs.contracts.finding.Finding as finding
use Rattle.lf_work.specs.contracts.job.Job as job
use Rattle.lf_work.specs.contracts.scratch.Scratch as scratch
use Rattle.lf_work.specs.contracts.spent.Spent as spent

scenario_send : IsSend scenario.the_row
scenario_send = search (protocols_cross, crosses, formulas_cross, sendable) depth 60 fits 20000

scenario_sync : IsSync scenario.the_row
scenario_sync = search (protocols_cross, crosses, formulas_cross, sendable) depth 60 fits 20000

marks_send : IsSend (marks.the_field).row
marks_send = search (crosses, nodes_cross, sendable) depth 60 fits 20000

book_send : IsSend (book.the_field).row
book_send = search (scenario_send, scenario_sync, marks_send, crosses, sendable) depth 60 fits 20000

job_send : IsSend (job.the_field).row
job_send = search (scenario_send, scenario_sync, crosses, sendable) depth 60 fits 20000

spent_send : IsSend (spent.the_field).row
spent_send = search (scenario_send, scenario_sync, crosses, sendable) depth 60 fits 20000

answer_send : IsSend (answer.the_field).row
answer_send = search (crosses, nodes_cross, sendable) depth 60 fits 20000

finding_send : IsSend (finding.the_field).row
finding_send = search (job_send, answer_send, crosses, sendable) depth 60 fits 20000

claim_send : IsSend (claim.the_field).row
claim_send = search (job_send, crosses, sendable) depth 60 fits 20000

found_send : IsSend (found.the_field).row
found_send = search (finding_send, crosses, sendable) depth 60 fits 20000

hands_send : IsSend hands.the_row
hands_send = search (claim_send, found_send, crosses, sendable) depth 60 fits 20000

scratch_send : IsSend (scratch.the_field).row
scratch_send = search (spent_send, scenario_send, scenario_sync, protocols_cross, crosses, formulas_cross, sendable) depth 60 fits 20000

module _ (T : RattleType) (s : searched.Ghosts T.Denot) (l : ledger.Ghosts T.Denot) where
  locked_send : IsSend (locked.the_row T s l)
  locked_send = recorded_send (locked.the_field T s l).row _ _ (locked.the_type T s l).to_one
      (struct_send (shape (locked.the_type T s l)) (book_send, (total.the_send T l, tt)))

  pub shared_sync : IsSync (shared.the_row T s l)
  shared_sync = recorded_sync (shared.the_field T s l).row _ _ (shared.the_type T s l).to_one
      (struct_sync (shape (shared.the_type T s l))
      (mutex.the_sync (locked.the_row T s l) locked_send, (condvar.the_field_sync, (search (crosses, sendable), tt))))

  pub share_send : IsSend (share.the_row T s l)
  share_send = recorded_send (share.the_field T s l).row _ _ (share.the_type T s l).to_one
      (struct_send (shape (share.the_type T s l)) (
        search (crosses, sendable),
        (
          part.the_send T l,
          (
            scratch_send,
            (search (hands_send, crosses, sendable), (search (spent_send, crosses, sendable), (search (crosses, sendable), tt))),
          ),
        ),
      ))

-- what a worker's thread is given
module _ (name : Sym) (R S X G : RattleType) (a b c d : NamedLft) (r : builtin.One R.mir) (s : builtin.One S.mir) (x : builtin.One X.mir)
    (g : builtin.One G.mir) where
  abbrev rows : List RattleType
  rows = (shr_ref_field a R r).row ∷ (shr_ref_field b S s).row ∷ (mut_ref_field c X x).row ∷ (shr_ref_field d G g).row ∷ []

  pub captured_send : IsSync R → IsSync S → IsSend X → IsSync G → IsSend (tuple.TupleAt name rows)
  captured_send rs ss xs gs = recorded_send (tuple.field_at name rows).row _ _ (tuple.type_at name rows).to_one
      (struct_send (shape (tuple.type_at name rows)) (shr_send _ _ R rs, (shr_send _ _ S ss, (mut_send _ _ X xs, (shr_send _ _ G gs, tt)))))
