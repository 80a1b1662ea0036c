use Rattle.std.proofs.Common.{lit<}
use Rattle.lf_sweep.proofs.MemberLemmas.{more_zeros}
use Rattle.lf_sweep.proofs.value.seed_text.Goals as goal

pub zeros-preserved : goal.zeros-preserved
zeros-preserved c = more_zeros c.zeros._i _ _ _ c.zeros.invariant (c.push.ensures.ascii (lit< tt)) c.in_ok-push.ensures.bytes
