-- Scenarios that are the same but for when notes arrive.
use Rattle.std.proofs.Common.{◌≡◌, ℕ, ◌+◌, Bool, not, List, ◌++◌, take, drop, refl, sym, ap, ◌∙◌}
use Rattle.lf_delays.specs.Windows.{under}
use Rattle.lf_delays.specs.declared.delay.Delay.{Delay}
use Rattle.lf_delays.specs.Delays.{AreDelays, delayed}
use Rattle.lf_delays.proofs.Laws.{delayed_of_same, delays_of_same}
use Rattle.lf_faults.specs.declared.fault.Parts.{Parts}
use Rattle.lf_latency.specs.declared.arrivals.Arrivals.{Arrivals}
use Rattle.lf_latency.specs.Arrivals.{arrival_in, choosing}
use Rattle.lf_outcome.specs.Truth.{reaches}
use Rattle.lf_outcome.specs.declared.scenario.Scenario.{Scenario}
use Rattle.lf_sim.specs.Settings.{world_of}
use Rattle.lf_delays.specs.Trials.{AreLeft, IsLike, NoneSpared, reaches_where}

-- one is like itself, and like what is like it
pub like_self : (s : Scenario) → IsLike s s
like_self s = record { machine = refl; spec = refl; formula = refl; nodes = refl; horizon = refl; links = refl }

pub like_on : (s t u : Scenario) → IsLike s t → IsLike t u → IsLike s u
like_on s t u one two = record {
  machine = two.machine ∙ one.machine;
  spec = two.spec ∙ one.spec;
  formula = two.formula ∙ one.formula;
  nodes = two.nodes ∙ one.nodes;
  horizon = two.horizon ∙ one.horizon;
  links = two.links ∙ one.links;
}

-- also where notes arrive as chosen
pub like_chosen : (s t : Scenario) (arrivals : Arrivals) → t.setting.machine ≡ s.setting.machine
    → t.setting.network ≡ choosing s.setting.network arrivals → t.setting.spec ≡ s.setting.spec → t.formula ≡ s.formula → IsLike s t
like_chosen s t arrivals machine network spec formula = record {
  machine = machine;
  spec = spec;
  formula = formula;
  nodes = ap (λ n. n.nodes) network;
  horizon = ap (λ n. n.horizon) network;
  links = ap (λ n. n.links) network;
}

module _ (s t : Scenario) (like : IsLike s t) where
  -- where notes arrive as they are said to, they make one world
  worlds_like : (a : ℕ → ℕ → ℕ → ℕ) → under (world_of t.setting) a ≡ under (world_of s.setting) a
  worlds_like a = rw (like.machine, like.spec) refl

  pub reach_like : (set : List Parts) (ds : List Delay) → reaches_where t set ds ≡ reaches_where s set ds
  reach_like set ds =
      ap (λ arrivals. reaches (under (world_of t.setting) (arrival_in arrivals)) set t.formula)
      (delayed_of_same t.setting.network s.setting.network like.nodes like.horizon like.links ds)
      ∙ ap (λ w. reaches w set t.formula) (worlds_like (arrival_in (delayed s.setting.network ds)))
      ∙ ap (reaches (under (world_of s.setting) (arrival_in (delayed s.setting.network ds))) set) like.formula

  -- and have the same delays
  pub delays_like : (ds : List Delay) → AreDelays s.setting.network ds → AreDelays t.setting.network ds
  delays_like ds are = delays_of_same s.setting.network t.setting.network (sym like.nodes) (sym like.horizon) (sym like.links) ds are

-- the world of a scenario in which notes arrive as chosen
pub chosen_world : (s t : Scenario) (arrivals : Arrivals) → t.setting.machine ≡ s.setting.machine
    → t.setting.network ≡ choosing s.setting.network arrivals → t.setting.spec ≡ s.setting.spec
    → world_of t.setting ≡ under (world_of s.setting) (arrival_in arrivals)
chosen_world s t arrivals machine network spec = rw (machine, network, spec) refl

-- what a run of it says
pub tried : (s t : Scenario) (set : List Parts) (ds : List Delay) (arrivals : Arrivals) (reached : Bool) → t.setting.machine ≡ s.setting.machine
    → t.setting.network ≡ choosing s.setting.network arrivals → t.setting.spec ≡ s.setting.spec → t.formula ≡ s.formula
    → arrivals ≡ delayed s.setting.network ds → reached ≡ reaches (world_of t.setting) set t.formula
    → IsLike s t × (not reached ≡ not (reaches_where s set ds))
tried s t set ds arrivals reached machine network spec formula by is = (
  like_chosen s t arrivals machine network spec formula,
  ap not (is ∙ ap (λ w. reaches w set t.formula) (chosen_world s t arrivals machine network spec)
      ∙ ap (λ a. reaches (under (world_of s.setting) (arrival_in a)) set t.formula) by
      ∙ ap (reaches (under (world_of s.setting) (arrival_in (delayed s.setting.network ds))) set) formula),
)

pub like_back : (s t : Scenario) → IsLike s t → IsLike t s
like_back s t like = record {
  machine = sym like.machine;
  spec = sym like.spec;
  formula = sym like.formula;
  nodes = sym like.nodes;
  horizon = sym like.horizon;
  links = sym like.links;
}

-- what is left in the one is left in the other
pub left_like : (s t : Scenario) → IsLike s t → (set : List Parts) (ds : List Delay) → AreLeft s set ds → AreLeft t set ds
left_like s t like set ds left = record { are = delays_like s t like ds left.are; misses = reach_like s t like set ds ∙ left.misses }

pub none_like : (s t : Scenario) → IsLike s t → (set : List Parts) (ds : List Delay) → NoneSpared s set ds 0 → NoneSpared t set ds 0
none_like s t like set ds none k from inside = reach_like s t like set (take k ds ++ drop (k + 1) ds) ∙ none k from inside
