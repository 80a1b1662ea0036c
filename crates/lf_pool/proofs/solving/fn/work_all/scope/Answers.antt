use denote.Exit as exit
use denote.Param.{param}
use denote.Param.Send.{IsSync, param_send, arg_send}
use Rattle.std.proofs.Common.{rules}
use Rattle.lf_pool.proofs.Sent.{captured_send, share_send, shared_sync}
use Rattle.lf_pool.proofs.solving.fn.work_all.scope.Goals as goal

pub spawn-requires-send-F : goal.spawn-requires-send-F
spawn-requires-send-F g c = λ κs within.
    let rt : IsSync (param 1 g.row.R) = search (rules, c.requires) parts 8 in
    let gate : IsSync (param 2 g.row.G) = search (rules, c.requires) parts 8 in
    let L = param 0 g.row.L in
    param_send 1 _ (arg_send _ exit.no
    _ (captured_send _ _ _ _ _ _ _ _ _ _ _ _ _ rt (shared_sync L g.L.Searched g.L.Ledger) (share_send L g.L.Searched g.L.Ledger) gate))
