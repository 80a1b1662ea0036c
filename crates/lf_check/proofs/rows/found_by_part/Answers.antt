use denote.Exit as exit
use denote.Param.Send.{copied_send, copied_sync, arg_send, arg_sync}
use Rattle.lf_check.proofs.Crossing.{captured_send, captured_sync}
use Rattle.lf_check.proofs.rows.found_by_part.Goals as goal

pub in_each-requires-send-F : goal.in_each-requires-send-F
in_each-requires-send-F g c κs within = copied_send _ _ (arg_send _ exit.no _ (captured_send _ _ _ _ _ _ _ _ _ _ c.type_bounds.sync-W))

pub in_each-requires-sync-F : goal.in_each-requires-sync-F
in_each-requires-sync-F g c κs within = copied_sync _ _ (arg_sync _ exit.no _ (captured_sync _ _ _ _ _ _ _ _ _ _ c.type_bounds.sync-W))
