use Rattle.std.proofs.Common.{◌≡◌, sym, ◌∙◌, subst, true, arith}
use Rattle.std.proofs.lemmas.Bool.{both_ways, false≢true}
use Rattle.lf_faults.specs.Faults.{set_omits}
use Rattle.lf_sim.specs.Runs.{is_up}
use Rattle.lf_sim.specs.Settings.{world_of}
use Rattle.lf_cone.proofs.hearing.hears.Goals as goal

pub returns-then-last-arrival : goal.returns-then-last-arrival
returns-then-last-arrival g c = (
  λ h. absurd (false≢true h),
  λ s. absurd (omega (arith, c.if-last-arrival.true, c.arrival-arrival.ensures.value, s.2.arrives, s.1)),
)

pub returns-then-omits : goal.returns-then-omits
returns-then-omits g c = (
  λ h. absurd (false≢true h),
  λ s. absurd (both_ways (set_omits c.args.effects.now.set c.args.from c.args.to c.args.step) s.2.kept (sym c.omits.ensures ∙ c.if-omits.true)),
)

pub returns : goal.returns
returns g c =
    let w = world_of c.args.setting.now in
    let F = c.args.effects.now.set in (
      λ h. (
        c.arrival-arrival.result,
        omega (arith, c.if-last-arrival.false),
        record {
          apart = c.requires.apart;
          sends = c.requires.up;
          arrives = sym c.arrival-arrival.ensures.value;
          kept = sym c.omits.ensures ∙ c.if-omits.false;
          hears = sym c.goes.ensures.value ∙ h;
        },
      ),
      λ s. c.goes.ensures.value ∙ subst (λ u. is_up w F c.args.to u ≡ true) (sym (c.arrival-arrival.ensures.value ∙ s.2.arrives)) s.2.hears,
    )
