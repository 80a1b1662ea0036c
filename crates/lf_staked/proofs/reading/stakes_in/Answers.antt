use Rattle.std.proofs.Common.{rules, sym, subst}
use Rattle.toml.specs.View.{table_view, view}
use Rattle.lf_sim.specs.Settings.{world_of}
use Rattle.lf_own_scenario.specs.Values.{Gives}
use Rattle.lf_staked.specs.Stakes.{outcome_stakes}
use Rattle.lf_staked.proofs.StakesLemmas.{stakes-from, stakes-missing}
use Rattle.lf_staked.proofs.reading.stakes_in.Goals as goal

pub returns-in-Some : goal.returns-in-Some
returns-in-Some c =
    subst (λ r. Gives (λ stakes. stakes.items) r c.outcome_stakes.result)
    (sym
    (stakes-from (world_of c.args.setting.now) c.args.sets.now c.args.file.now (table_view c.args.table.now)
    (record { described = c.in_ok-described.field-0.described; given = c.in_ok-described.field-0.given.items }) (view c.in-Some.value.now)
    c.in_ok-described.ensures.value (search rules)))
    (subst
    (λ scene. Gives (λ stakes. stakes.items)
    (outcome_stakes (world_of c.args.setting.now) scene c.args.sets.now c.args.file.now c.in_ok-described.field-0.given.items (view c.in-Some.value.now))
    c.outcome_stakes.result)
    (search rules)
    (subst
    (λ given. Gives (λ stakes. stakes.items)
    (outcome_stakes (world_of c.args.setting.now) c.scene_of.result c.args.sets.now c.args.file.now given (view c.in-Some.value.now))
    c.outcome_stakes.result)
    (search rules) c.outcome_stakes.ensures))

pub returns : goal.returns
returns c _ =
    stakes-missing (world_of c.args.setting.now) c.args.sets.now c.args.file.now (table_view c.args.table.now)
    (record { described = c.in_ok-described.field-0.described; given = c.in_ok-described.field-0.given.items }) c.in_ok-described.ensures.value (search rules)
