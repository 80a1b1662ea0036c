-- The late notes of a run, tried until none can be spared.
use Rattle.std.proofs.Common.{◌≡◌, List, sym, ap, ◌∙◌, subst}
use Rattle.lf_delays.specs.Answers.{IsOn}
use Rattle.lf_delays.specs.Windows.{under}
use Rattle.lf_delays.specs.declared.delay.Delay.{Delay}
use Rattle.lf_delays.specs.Delays.{delayed}
use Rattle.lf_delays.specs.Told.{told}
use Rattle.lf_delays.proofs.Laws.{delayed_is, delayed_of_same, tight_by, told_are, told_reach}
use Rattle.lf_faults.specs.declared.fault.Parts.{Parts}
use Rattle.lf_latency.specs.declared.arrivals.Arrivals.{Arrivals}
use Rattle.lf_latency.specs.Arrivals.{IsArrivals, IsTiming, arrival_in, choosing}
use Rattle.lf_outcome.specs.declared.scenario.Scenario.{Scenario}
use Rattle.lf_sim.specs.Settings.{world_of}
use Rattle.lf_delays.specs.Trials.{AreLeft, IsLike, IsTightBy, MissesBy, NoneSpared}
use Rattle.lf_delays.proofs.Leaving.{needed_of}
use Rattle.lf_delays.proofs.Trying.{chosen_world, left_like, like_back, like_chosen, none_like}

module _ (s : Scenario) (limits : IsTiming s.setting.network) (set : List Parts) where
  on : IsOn s.setting.network (world_of s.setting)
  on = record {
    nodes = s.setting.nodes_agree ∙ sym s.setting.network_agrees;
    horizon = sym s.setting.horizons_agree;
    eight = limits.nodes_at_most;
    short = limits.horizon_at_most;
  }

  -- the late notes of the run by arrivals are left at first,
  module _ (arrivals : Arrivals) (is : IsArrivals s.setting.network arrivals) (misses : MissesBy s set arrivals) where
    on_by : IsOn s.setting.network (under (world_of s.setting) (arrival_in arrivals))
    on_by = record { nodes = on.nodes; horizon = on.horizon; eight = on.eight; short = on.short }

    late : List Delay
    late = told (under (world_of s.setting) (arrival_in arrivals)) set s.setting.network.links

    late_left : AreLeft s set late
    unfolding late
    late_left = record {
      are = told_are s.setting.network (under (world_of s.setting) (arrival_in arrivals)) set on_by is.assigned;
      misses = told_reach s.setting.network (under (world_of s.setting) (arrival_in arrivals)) set on_by is.assigned s.formula ∙ misses;
    }

    pub first_left : (t : Scenario) (ds : List Delay) → t.setting.machine ≡ s.setting.machine → t.setting.network ≡ choosing s.setting.network arrivals
        → t.setting.spec ≡ s.setting.spec → t.formula ≡ s.formula → ds ≡ told (world_of t.setting) set t.setting.network.links → AreLeft t set ds
    unfolding late
    first_left t ds machine network spec formula told_so =
        left_like s t (like_chosen s t arrivals machine network spec formula) set ds
        (subst (AreLeft s set)
        (sym (told_so ∙ ap (λ w. told w set t.setting.network.links) (chosen_world s t arrivals machine network spec)
        ∙ ap (λ n. told (under (world_of s.setting) (arrival_in arrivals)) set n.links) network))
        late_left)

  -- and those that none can be spared of make a tight run
  module _ (t u : Scenario) (like : IsLike s t) (on_like : IsLike s u) (ds : List Delay) (left : AreLeft t set ds) (none : NoneSpared t set ds 0)
      (arrivals : Arrivals) (is : arrivals ≡ delayed u.setting.network ds) where
    left_of : AreLeft s set ds
    left_of = left_like t s (like_back s t like) set ds left

    by : arrivals ≡ delayed s.setting.network ds
    by = is ∙ delayed_of_same u.setting.network s.setting.network on_like.nodes on_like.horizon on_like.links ds

    pub last_is : IsArrivals s.setting.network arrivals
    last_is = subst (IsArrivals s.setting.network) (sym by) (delayed_is s.setting.network ds limits.nodes_at_most limits.horizon_at_most left_of.are)

    pub last_misses : MissesBy s set arrivals
    last_misses = subst (MissesBy s set) (sym by) left_of.misses

    pub last_tight : IsTightBy s set arrivals
    last_tight =
        subst (IsTightBy s set) (sym by)
        (tight_by s.setting.network (world_of s.setting) set s.formula on ds left_of.are left_of.misses
        (needed_of s set ds (none_like t s (like_back s t like) set ds none)))
