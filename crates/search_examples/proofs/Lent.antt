-- What a worker's thread is lent may go to it.
use mathlib.Core.List.{List, [], ◌∷◌}
use mir.Syntax.{Sym}
use denote.Builtin as builtin
use denote.RattleType.{RattleType}
use denote.Ref.{NamedLft}
use denote.Param.Send.{IsSend, IsSync, struct_send, recorded_send, shr_send, mut_slice_send}
use denote.Struct.Declared.{shape}
use denote.Struct.Field.{shr_ref_field, mut_slice_field}
use denote.Struct.Tuple as tuple
use Rattle.std.specs.declared.sync.ledger.Ledger as ledger
use Rattle.lf_pool.proofs.Laws.{workers_cross}
use Rattle.lf_pool.specs.declared.searched.Searched as searched
use Rattle.lf_pool.specs.contracts.share.Share as share
use Rattle.lf_pool.specs.contracts.shared.SharedBook as shared

module _ (T : RattleType) (s : searched.Ghosts T.Denot) (l : ledger.Ghosts T.Denot) where
  pub shared_sync : IsSync (shared.the_row T s l)
  shared_sync = search workers_cross

  pub share_send : IsSend (share.the_row T s l)
  share_send = search workers_cross

-- two borrows, a slice of its own, and a third borrow
module _ (name : Sym) (R S X G : RattleType) (a b c d : NamedLft) (r : builtin.One R.mir) (s : builtin.One S.mir) (x : builtin.One X.mir)
    (g : builtin.One G.mir) where
  abbrev rows : List RattleType
  rows = (shr_ref_field a R r).row ∷ (shr_ref_field b S s).row ∷ (mut_slice_field c X x).row ∷ (shr_ref_field d G g).row ∷ []

  pub lent_send : IsSync R → IsSync S → IsSend X → IsSync G → IsSend (tuple.TupleAt name rows)
  lent_send rs ss xs gs = recorded_send (tuple.field_at name rows).row _ _ (tuple.type_at name rows).to_one
      (struct_send (shape (tuple.type_at name rows)) (shr_send _ _ R rs, (shr_send _ _ S ss, (mut_slice_send _ _ X xs, (shr_send _ _ G gs, tt)))))
