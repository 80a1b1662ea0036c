use denote.Exit as exit
use denote.Param.{param}
use denote.Param.Send.{IsSync, param_send, arg_send, sendable}
use Rattle.std.proofs.Crossing.{crosses}
use Rattle.search_examples.specs.contracts.waits.Holding as holding
use Rattle.search_examples.proofs.Lent.{lent_send, share_send, shared_sync}
use Rattle.search_examples.proofs.waits.turns.Goals as goal

holding_sync : IsSync holding.the_row
holding_sync = search (crosses, sendable) depth 60 fits 20000

pub join-waiting-requires-send-F : goal.join-waiting-requires-send-F
join-waiting-requires-send-F g c κs within =
    let L = param 0 g.row.L in
    param_send 1 _
    (arg_send _ exit.no _
    (lent_send _ _ _ _ _ _ _ _ _ _ _ _ _ c.type_bounds.sync-R (shared_sync L g.L.Searched g.L.Ledger) (share_send L g.L.Searched g.L.Ledger) holding_sync))
