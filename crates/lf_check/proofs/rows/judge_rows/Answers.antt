use Rattle.std.proofs.Common.{arith}
use Rattle.std.proofs.lemmas.Bool.{both_ways}
use Rattle.lf_sim.specs.Settings.{world_of}
use Rattle.lf_check.proofs.AllLemmas.{all-fails, all-other, all-accepted, fails_within}
use Rattle.lf_check.proofs.rows.judge_rows.Goals as goal

pub put_way-requires-clause-at : goal.put_way-requires-clause-at
put_way-requires-clause-at g c =
    let s = c.args.setting.now in
    let places = c.in_ok-places.places in
    let few = fails_within (world_of s) s.spec c.args.formula.now c.last_depth.result c.args.tree.now places c.in_ok-places.ensures.places
    c.in_ok-places.ensures.tree c.settings_are_bounded.ensures.limits (c.is_allowed.ensures.0 c.if-not-is_allowed.false) c.last_depth.ensures
    c.in_ok-at.field-0 c.in_ok-at.ensures c.in-Fails.at c.in-Fails.reason c.in-Fails.is in
    omega (arith, few, places.rows.ok.0)

pub returns-in-Fails : goal.returns-in-Fails
returns-in-Fails g c =
    let s = c.args.setting.now in
    all-fails (world_of s) s.spec c.args.formula.now c.last_depth.result c.args.tree.now c.in_ok-places.places c.in_ok-places.ensures.places
    c.in_ok-places.ensures.tree c.settings_are_bounded.ensures.limits (c.is_allowed.ensures.0 c.if-not-is_allowed.false) c.last_depth.ensures
    c.in_ok-at.field-0 c.in_ok-at.ensures c.in-Fails.at c.in-Fails.reason c.in-Fails.is c.new-path.result.items c.put_way.new.way.items
    c.new-path.ensures.items c.in_ok-put_way-in-Fails.ensures

pub returns-then-are_same_answers : goal.returns-then-are_same_answers
returns-then-are_same_answers g c =
    let s = c.args.setting.now in
    all-accepted (world_of s) s.spec c.args.formula.now c.last_depth.result c.args.tree.now c.in_ok-places.places c.in_ok-places.ensures.places
    c.in_ok-places.ensures.tree c.settings_are_bounded.ensures.limits (c.is_allowed.ensures.0 c.if-not-is_allowed.false) c.last_depth.ensures
    c.in_ok-at.field-0 c.in_ok-at.ensures c.in-Passes.first c.in-Passes.is (c.are_same_answers.ensures.0 c.if-are_same_answers.true)

pub returns : goal.returns
returns g c =
    let s = c.args.setting.now in
    all-other (world_of s) s.spec c.args.formula.now c.last_depth.result c.args.tree.now c.in_ok-places.places c.in_ok-places.ensures.places
    c.in_ok-places.ensures.tree c.settings_are_bounded.ensures.limits (c.is_allowed.ensures.0 c.if-not-is_allowed.false) c.last_depth.ensures
    c.in_ok-at.field-0 c.in_ok-at.ensures c.in-Passes.first c.in-Passes.is
    (λ e. both_ways c.are_same_answers.result (c.if-are_same_answers.false) (c.are_same_answers.ensures.1 e)) c.new-path.result.items
    c.new-path.ensures.items
