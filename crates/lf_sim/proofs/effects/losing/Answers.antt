use Rattle.std.proofs.Common.{◌<◌, false, refl, arith}
use Rattle.std.proofs.lemmas.List.{get_or-replicate}
use Rattle.lf_sim.specs.Effects.{link_place}
use Rattle.lf_sim.proofs.effects.losing.Goals as goal

pub loop-fault-init : goal.loop-fault-init
loop-fault-init c =
    record {
      long = refl;
      filled = λ n m a b. let inside : link_place n m < 64 = omega arith in get_or-replicate 64 (link_place n m) false false inside;
    }
