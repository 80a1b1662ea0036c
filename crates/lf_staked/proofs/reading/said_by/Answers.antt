use Rattle.std.proofs.Common.{rules}
use Rattle.toml.specs.View.{table_view}
use Rattle.lf_sim.specs.Settings.{world_of}
use Rattle.lf_staked.proofs.StakesLemmas.{not-refused}
use Rattle.lf_staked.proofs.reading.said_by.Goals as goal

pub unreachable-requires : goal.unreachable-requires
unreachable-requires c =
    not-refused (world_of c.args.setting.now) c.args.sets.now c.args.file.now (table_view c.args.table.now) c.in-Err.field-0 c.requires.is_read
    (c.in-Err.ensures (search rules))
