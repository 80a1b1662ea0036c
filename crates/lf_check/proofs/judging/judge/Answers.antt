use Rattle.std.proofs.Common.{ap}
use Rattle.std.proofs.lemmas.Bool.{both_ways}
use Rattle.lf_sim.specs.Settings.{world_of}
use Rattle.lf_check.specs.Walks.{Stand, stand_of}
use Rattle.lf_check.proofs.VerdictLemmas.{from-root, first-fault, answer-fault, accepted}
use Rattle.lf_check.proofs.judging.judge.Goals as goal

pub returns-in-Some : goal.returns-in-Some
returns-in-Some g c =
    let s = c.args.setting.now in
    let tree = c.args.tree.now in
    let old : Stand = stand_of c.new-walk.result in
    let new : Stand = stand_of c.visit.new.walk in
    first-fault (world_of s) s.spec c.args.formula.now tree (c.is_allowed.ensures.0 c.if-not-is_allowed.false) old new c.new-walk.ensures.stand
    c.in_ok-found.found c.in-Some.reason c.in-Some.is
    (from-root (world_of s) s.spec c.args.formula.now tree c.last_depth.result c.empty.result old.excluded old new c.in_ok-found.found
    c.last_depth.ensures c.empty.ensures (ap (λ (x : Stand). x.excluded) c.new-walk.ensures.stand) c.in_ok-found.ensures.walk)

pub returns-then-not-are_same_answers : goal.returns-then-not-are_same_answers
returns-then-not-are_same_answers g c =
    let s = c.args.setting.now in
    let tree = c.args.tree.now in
    let old : Stand = stand_of c.new-walk.result in
    let new : Stand = stand_of c.visit.new.walk in
    answer-fault (world_of s) s.spec c.args.formula.now tree (c.is_allowed.ensures.0 c.if-not-is_allowed.false) old new c.new-walk.ensures.stand
    c.in_ok-found.found c.in_default.is
    (from-root (world_of s) s.spec c.args.formula.now tree c.last_depth.result c.empty.result old.excluded old new c.in_ok-found.found
    c.last_depth.ensures c.empty.ensures (ap (λ (x : Stand). x.excluded) c.new-walk.ensures.stand) c.in_ok-found.ensures.walk)
    (λ e. both_ways c.are_same_answers.result c.if-not-are_same_answers.true (c.are_same_answers.ensures.1 e))
    c.new-then-not-are_same_answers.result.items c.new-then-not-are_same_answers.ensures.items

pub returns : goal.returns
returns g c =
    let s = c.args.setting.now in
    let tree = c.args.tree.now in
    let old : Stand = stand_of c.new-walk.result in
    let new : Stand = stand_of c.visit.new.walk in
    accepted (world_of s) s.spec c.args.formula.now tree (c.is_allowed.ensures.0 c.if-not-is_allowed.false) old new c.new-walk.ensures.stand
    c.in_ok-found.found c.in_default.is
    (from-root (world_of s) s.spec c.args.formula.now tree c.last_depth.result c.empty.result old.excluded old new c.in_ok-found.found
    c.last_depth.ensures c.empty.ensures (ap (λ (x : Stand). x.excluded) c.new-walk.ensures.stand) c.in_ok-found.ensures.walk)
    (c.are_same_answers.ensures.0 c.if-not-are_same_answers.false)

pub visit-requires : goal.visit-requires
visit-requires g c = record { spent = c.new-walk.ensures.spent (world_of c.args.setting.now) }
