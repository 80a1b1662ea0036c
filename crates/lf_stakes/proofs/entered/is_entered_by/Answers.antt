use Rattle.std.proofs.Common.{◌≡◌, ℕ, ◌+◌, ◌<◌, Bool, false, sym, subst, ◌∙◌, rules, arith}
use Rattle.std.specs.Prelude.{is_some}
use Rattle.std.specs.List.{list_any, range_with_len}
use Rattle.lf_outcome.specs.Truth.{entered}
use Rattle.lf_sim.specs.Settings.{set_of, world_of}
use Rattle.lf_stakes.proofs.RangesLemmas.{none-more, some-any_range}
use Rattle.lf_stakes.proofs.entered.is_entered_by.Goals as goal

pub loop-past-preserved : goal.loop-past-preserved
loop-past-preserved c =
    let p : ℕ → Bool = λ t. is_some (entered (world_of c.args.setting.now) (set_of c.args.run.now) c.args.topic c.args.node t) in
    none-more p 1 c.loop-past.past (c.loop-past.past + 1) (omega arith) c.loop-past.invariant (sym c.is_entered_at.ensures ∙ c.if-is_entered_at.false)

pub returns-then-is_entered_at : goal.returns-then-is_entered_at
returns-then-is_entered_at c =
    let w = world_of c.args.setting.now in
    let p : ℕ → Bool = λ t. is_some (entered w (set_of c.args.run.now) c.args.topic c.args.node t) in
    let last : c.loop-past.past + 1 < 1 + w.horizon = search (rules, arith) in
    sym (some-any_range p 1 w.horizon (c.loop-past.past + 1) (omega arith) last (sym c.is_entered_at.ensures ∙ c.if-is_entered_at.true))

pub returns : goal.returns
returns c =
    let w = world_of c.args.setting.now in
    let p : ℕ → Bool = λ t. is_some (entered w (set_of c.args.run.now) c.args.topic c.args.node t) in
    let all : c.loop-past.past ≡ w.horizon = search (rules, arith) in
    sym (subst (λ n. list_any p (range_with_len 1 n) ≡ false) all c.loop-past.invariant)
