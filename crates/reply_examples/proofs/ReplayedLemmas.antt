-- A reply over every delay, and the run by the words that it shows.
use Rattle.std.proofs.Common.{◌≡◌, ℕ, List, ◌++◌, Option, Some, None, inl, inr, sym, ap, subst, ◌∙◌, arith, false}
use Rattle.lf_delays.specs.Answers.{IsFirstUnder}
use Rattle.lf_delays.specs.Told.{told}
use Rattle.lf_delays.specs.Tight.{IsTight}
use Rattle.lf_delays.specs.Windows.{under}
use Rattle.lf_delays.specs.Delays.{arrive_lines}
use Rattle.lf_faults.specs.declared.fault.Parts.{Parts}
use Rattle.lf_latency.specs.declared.arrivals.Arrivals.{Arrivals}
use Rattle.lf_latency.specs.Arrivals.{arrival_in}
use Rattle.lf_outcome.specs.declared.scenario.Scenario.{Scenario}
use Rattle.lf_outcome.specs.Sameness.{AreSame}
use Rattle.lf_outcome.proofs.Laws.{worlds_are_one}
use Rattle.lf_protocol_file.specs.declared.declared.Declared.{Declared}
use Rattle.lf_scenario.specs.Scenarios.{IsText}
use Rattle.lf_scenario.proofs.Laws.{scenarios_are_one}
use Rattle.lf_sim.specs.Settings.{world_of}
use Rattle.leastfault.specs.Delayed.{IsDelayedReply, IsEveryDelayReply, IsTightAnswer, RepliesEveryDelay, every_delay_report}
use Rattle.leastfault.specs.Known.{IsTextOf}
use Rattle.leastfault.specs.Replays.{EndsInMisses, IsReplayed}
use Rattle.leastfault.specs.Reports.{report}
use Rattle.leastfault.specs.Shown.{RepliesRun}
use Rattle.reply_examples.specs.Played.{IsNamedBy}
use Rattle.reply_examples.proofs.LineLemmas.{shown_once}

-- the reply to a scenario is one to each that is the same
module _ (t s : Scenario) (same : AreSame t s) where
  first_same : (x : Option (List Parts × Arrivals)) → IsFirstUnder t.setting.network t.setting.spec (world_of t.setting) t.formula x
      → IsFirstUnder s.setting.network s.setting.spec (world_of s.setting) s.formula x
  first_same x first =
      subst (λ f. IsFirstUnder s.setting.network s.setting.spec (world_of s.setting) f x) same.formula
      (subst (λ w. IsFirstUnder s.setting.network s.setting.spec w t.formula x) (worlds_are_one t s same)
      (subst (λ b. IsFirstUnder s.setting.network b (world_of t.setting) t.formula x) same.bounds
      (subst (λ n. IsFirstUnder n t.setting.spec (world_of t.setting) t.formula x) same.network first)))

  tight_same : (x : Option (List Parts × Arrivals)) → IsTightAnswer t x → IsTightAnswer s x
  tight_same None tight = tight
  tight_same (Some found) tight =
      subst (λ f. IsTight s.setting.network (under (world_of s.setting) (arrival_in found.1)) found.0 f) same.formula
      (subst (λ w. IsTight s.setting.network (under w (arrival_in found.1)) found.0 t.formula) (worlds_are_one t s same)
      (subst (λ n. IsTight n (under (world_of t.setting) (arrival_in found.1)) found.0 t.formula) same.network tight))

  report_same : (x : Option (List Parts × Arrivals)) → every_delay_report t x ≡ every_delay_report s x
  report_same None = ap (λ b. report b.budget None) same.bounds
  report_same (Some found) =
      ap (λ b. report b.budget (Some found.0)
      ++ arrive_lines (told (under (world_of t.setting) (arrival_in found.1)) found.0 t.setting.network.links)) same.bounds
      ∙ ap (λ n. report s.setting.spec.budget (Some found.0) ++ arrive_lines (told (under (world_of t.setting) (arrival_in found.1)) found.0 n.links))
      same.network
      ∙ ap (λ w. report s.setting.spec.budget (Some found.0) ++ arrive_lines (told (under w (arrival_in found.1)) found.0 s.setting.network.links))
      (worlds_are_one t s same)

  replies_same : (reply : List ℕ) (status : ℕ) → RepliesEveryDelay t reply status → RepliesEveryDelay s reply status
  replies_same reply status is = (is.0, first_same is.0 is.1, tight_same is.0 is.2, is.3 ∙ report_same is.0, is.4)

pub misses_again : (s : Scenario) (text reply faults delays again : List ℕ) (m n : ℕ)
    → ((known : Option Declared) (text reply : List ℕ) → IsTextOf known s text → RepliesEveryDelay s reply 1 → IsReplayed known faults text s reply)
    → IsText s text → IsEveryDelayReply None text reply m → m ≡ 1
    → IsNamedBy reply faults delays
    → IsDelayedReply None delays (RepliesRun false faults) text again n → EndsInMisses again n
misses_again s text reply faults delays again m n law reads (inl refused) one told_so run = absurd (omega (arith, refused.3, one))
misses_again s text reply faults delays again m n law reads (inr found) one told_so run =
    let t = found.0 in
    let same : AreSame t s = scenarios_are_one text t s found.1 reads in
    let replies : RepliesEveryDelay s reply 1 = subst (RepliesEveryDelay s reply) one (replies_same t s same reply m found.2) in
    let played = law None text reply reads replies in
    let once = shown_once 0 s.setting.spec.budget told_so.0 played.0 told_so.1 played.1 (sym told_so.2 ∙ played.2) in
    played.3 (told_so.3 ∙ once.0) false again n
    (subst (λ words. IsDelayedReply None words (RepliesRun false faults) text again n) (told_so.4 ∙ once.1) run)

-- what one text tells another tells that is the same
pub told_as : (wanted reply faults delays : List ℕ) → wanted ≡ reply
    → IsNamedBy wanted faults delays
    → IsNamedBy reply faults delays
told_as wanted reply faults delays same is = (is.0, is.1, sym same ∙ is.2, is.3, is.4)
