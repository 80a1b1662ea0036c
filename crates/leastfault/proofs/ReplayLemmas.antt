-- Replies over every delay: what is one of them, and the runs that play them again.
use Rattle.std.proofs.Common.{◌≡◌, ℕ, Bool, true, false, List, [], ◌∷◌, ◌++◌, refl, sym, ap, ◌∙◌, subst, arith, inl, inr}
use Rattle.std.specs.Prelude.{◌⊎◌, Option, None, Some, codes, if◌then◌else◌, unwrap_or}
use Rattle.std.specs.Option.{option_map}
use Rattle.std.proofs.lemmas.Bool.{both_ways}
use Rattle.lf_delays.specs.Answers.{IsFirstUnder, IsOn}
use Rattle.lf_delays.specs.Windows.{under}
use Rattle.lf_delays.specs.declared.delay.Delay.{Delay}
use Rattle.lf_delays.specs.Delays.{AreDelays, IsRead, Names as NamesDelays, arrive_lines, delayed, list_text}
use Rattle.lf_delays.specs.Told.{told}
use Rattle.lf_delays.proofs.Laws.{told_are, told_reach}
use Rattle.lf_faults.specs.declared.fault.Parts.{Parts}
use Rattle.lf_faults.specs.declared.spec.Bounds.{Bounds}
use Rattle.lf_faults.specs.Allowed.{IsAllowed, IsInLimits}
use Rattle.lf_faults.specs.Faults.{IsAscending, IsFault}
use Rattle.lf_faults.proofs.Laws.{admitted-fault, cases_sets, in_allowed-admitted, not_itself}
use Rattle.lf_latency.specs.declared.arrivals.Arrivals.{Arrivals}
use Rattle.lf_latency.specs.declared.network.Timing.{Timing}
use Rattle.lf_latency.specs.Arrivals.{IsAssignment, IsTiming, arrival_in}
use Rattle.lf_list.proofs.Laws.{each-from, each-in}
use Rattle.lf_outcome.specs.declared.formula.Formula.{Formula}
use Rattle.lf_outcome.specs.Truth.{reaches}
use Rattle.lf_outcome.specs.declared.scenario.Scenario.{Scenario}
use Rattle.lf_outcome.specs.Sameness.{AreSame}
use Rattle.lf_outcome.proofs.Laws.{worlds_are_one}
use Rattle.lf_sim.specs.Runs.{World}
use Rattle.lf_sim.specs.Settings.{world_of}
use Rattle.lf_trace.specs.Lines.{line}
use Rattle.lf_trace.specs.Namings.{AreDistinct, Names}
use Rattle.lf_trace.specs.Traces.{end_word}
use Rattle.lf_protocol_file.specs.declared.declared.Declared.{Declared}
use Rattle.leastfault.specs.Answers.{reaches_in}
use Rattle.leastfault.specs.Delayed.{HasDelays, IsDelayedReply, IsEveryDelayReply, RepliesEveryDelay, RepliesNoDelays, every_delay_report, late_report}
use Rattle.leastfault.specs.Known.{IsTextOf}
use Rattle.leastfault.specs.Replays.{AgreeButForDelays, EndsInMisses, IsReplayed, set_words}
use Rattle.leastfault.specs.Replies.{told_trace}
use Rattle.leastfault.specs.Reports.{refusal, report, run_status, search_status}
use Rattle.leastfault.specs.Shown.{RepliesRun}
use Rattle.leastfault.proofs.KnownLaws.{refusals_are_one, refused_is_no_text, scenarios_are_one}

abbrev set_of_answer : Option (List Parts × Arrivals) → Option (List Parts)
set_of_answer answer = option_map (λ found. found.0) answer

-- the answers over every delay are of one set
module _ {State Note Fact : Type 0} (timing : Timing) (b : Bounds) (w : World State Note Fact) (formula : Formula Fact) where
  abbrev reaches_by : List Parts × Arrivals → Bool
  reaches_by x = reaches (under w (arrival_in x.1)) x.0 formula

  sets_one : (x y : Option (List Parts × Arrivals)) → IsFirstUnder timing b w formula x → IsFirstUnder timing b w formula y
      → set_of_answer x ≡ set_of_answer y
  sets_one None None one two = refl
  sets_one None (Some y) one two = absurd (both_ways (reaches_by y) two.2 (one (arrival_in y.1) y.0 two.1.assigned two.0))
  sets_one (Some x) None one two = absurd (both_ways (reaches_by x) one.2 (two (arrival_in x.1) x.0 one.1.assigned one.0))
  sets_one (Some x) (Some y) one two = elim (cases_sets x.0 y.0) [
    | inl before ↦ absurd (both_ways (reaches_by x) one.2 (two.3 (arrival_in x.1) x.0 one.1.assigned one.0 before))
    | inr rest ↦ elim rest [
      | inl same ↦ ap Some same
      | inr after ↦ absurd (both_ways (reaches_by y) two.2 (one.3 (arrival_in y.1) y.0 two.1.assigned two.0 after))
    ]
  ]

first_of_same : (s t : Scenario) (x : Option (List Parts × Arrivals)) → AreSame s t
    → IsFirstUnder s.setting.network s.setting.spec (world_of s.setting) s.formula x
    → IsFirstUnder t.setting.network t.setting.spec (world_of t.setting) t.formula x
first_of_same s t x same first =
    subst (λ f. IsFirstUnder t.setting.network t.setting.spec (world_of t.setting) f x) same.formula
    (subst (λ w. IsFirstUnder t.setting.network t.setting.spec w s.formula x) (worlds_are_one s t same)
    (subst (λ b. IsFirstUnder t.setting.network b (world_of s.setting) s.formula x) same.bounds
    (subst (λ n. IsFirstUnder n s.setting.spec (world_of s.setting) s.formula x) same.network first)))

agree : (s t : Scenario) → AreSame s t → (x y : Option (List Parts × Arrivals)) → set_of_answer x ≡ set_of_answer y → (one other : List ℕ)
    → one ≡ every_delay_report s x → other ≡ every_delay_report t y → AgreeButForDelays one other
agree s t same None None e one other a b = inl (a ∙ ap (λ bounds. report bounds.budget None) same.bounds ∙ sym b)
agree s t same None (Some y) e one other a b = absurd (let never : None ≡ Some y.0 = e in cc)
agree s t same (Some x) None e one other a b = absurd (let never : Some x.0 ≡ None = e in cc)
agree s t same (Some x) (Some y) e one other a b =
    let sets : x.0 ≡ y.0 = ap (λ o. unwrap_or o x.0) e in
    let lines : Arrivals → Scenario → List Parts → List Delay = λ arrivals u set.
    told (under (world_of u.setting) (arrival_in arrivals)) set u.setting.network.links in
    inr (
      x.0,
      s.setting.spec.budget,
      lines x.1 s x.0,
      lines y.1 t y.0,
      a,
      b ∙ ap (λ set. report s.setting.spec.budget (Some set) ++ arrive_lines (lines y.1 t y.0)) (sym sets),
    )

pub every_delay_one : (known : Option Declared) (text one other : List ℕ) (m n : ℕ) → IsEveryDelayReply known text one m
    → IsEveryDelayReply known text other n → AgreeButForDelays one other × (m ≡ n)
every_delay_one known text one other m n (inl a) (inl b) =
    let same = refusals_are_one known text a.0 b.0 a.1 b.1 in
    (inl (a.2 ∙ ap refusal same ∙ sym b.2), a.3 ∙ sym b.3)
every_delay_one known text one other m n (inl a) (inr b) = absurd (refused_is_no_text known text a.0 b.0 a.1 b.1)
every_delay_one known text one other m n (inr a) (inl b) = absurd (refused_is_no_text known text b.0 a.0 b.1 a.1)
every_delay_one known text one other m n (inr a) (inr b) =
    let s = a.0 in
    let t = b.0 in
    let same = scenarios_are_one known text s t a.1 b.1 in
    let sets = sets_one t.setting.network t.setting.spec (world_of t.setting) t.formula a.2.0 b.2.0 (first_of_same s t a.2.0 same a.2.1) b.2.1 in
    (agree s t same a.2.0 b.2.0 sets one other a.2.3 b.2.3, a.2.4 ∙ ap search_status sets ∙ sym b.2.4)

-- the words of an allowed set name it
distinct : (set : List Parts) → IsAscending set → AreDistinct set
distinct [] ascending = tt
distinct (f ∷ fs) ascending = ((λ k. not_itself f (each-in _ fs ascending.0 f k)), distinct fs ascending.1)

named : (b : Bounds) (set : List Parts) (words : List ℕ) → IsInLimits b → IsAllowed b set → words ≡ set_words set → Names words set
named b set words limits allowed spelled =
    let few = allowed.budget in
    let most = limits.budget in
    record {
      named = set;
      list = record {
        faults = each-from IsFault set (λ f k. admitted-fault b f limits (in_allowed-admitted b set f allowed k));
        distinct = distinct set allowed.ascending;
        few = omega (arith, few, most);
      };
      joined = spelled;
      ascending = allowed.ascending;
      same = λ f. ((λ k. k), (λ k. k));
    }

-- a trace ends with whether the run reaches
trace_ends : (rules : Bool) (s : Scenario) (set : List Parts)
    → (lines : List ℕ) × (told_trace rules s set ≡ lines ++ line (end_word (world_of s.setting) set s.formula))
trace_ends false s set = (_, refl)
trace_ends true s set = (_, refl)

-- a reply with faults, and the run that plays it again
module _ (s : Scenario) (bounds : IsInLimits s.setting.spec) (timing : IsTiming s.setting.network)
    (lists_one : (timing : Timing) (one other : List Delay) → IsTiming timing → AreDelays timing one → AreDelays timing other
    → list_text one ≡ list_text other → one ≡ other)
    (words : List ℕ) (named_one : (one other : List Parts) → Names words one → Names words other → one ≡ other)
    (known : Option Declared) (text : List ℕ) (reads : IsTextOf known s text) where
  module _ (set : List Parts) (arrivals : Arrivals) (allowed : IsAllowed s.setting.spec set) (assigned : IsAssignment s.setting.network (arrival_in arrivals))
      (misses : reaches (under (world_of s.setting) (arrival_in arrivals)) set s.formula ≡ false) where
    abbrev late : List Delay
    late = told (under (world_of s.setting) (arrival_in arrivals)) set s.setting.network.links

    on : IsOn s.setting.network (under (world_of s.setting) (arrival_in arrivals))
    on = record {
      nodes = s.setting.nodes_agree ∙ sym s.setting.network_agrees;
      horizon = sym s.setting.horizons_agree;
      eight = timing.nodes_at_most;
      short = timing.horizon_at_most;
    }

    are : AreDelays s.setting.network late
    are = told_are s.setting.network (under (world_of s.setting) (arrival_in arrivals)) set on assigned

    module _ (t : Scenario) (same : AreSame s t) where
      are_too : AreDelays t.setting.network late
      are_too = subst (λ n. AreDelays n late) same.network are

      -- the words name the delays,
      not_refused : IsRead t.setting.network (list_text late) None → ⊥
      not_refused none =
          let arrivals_so = delayed t.setting.network late in
          let never : None ≡ Some arrivals_so =
          (none arrivals_so).1 (record { delays = late; are = are_too; spelled = refl; give = refl }) in cc

      -- and these alone,
      one_table : (other : Arrivals) → IsRead t.setting.network (list_text late) (Some other) → other ≡ delayed s.setting.network late
      one_table other read =
          let names : NamesDelays t.setting.network (list_text late) other = (read other).0 refl in
          let lists : late ≡ names.delays =
          lists_one t.setting.network late names.delays (subst IsTiming same.network timing) are_too names.are names.spelled in
          names.give ∙ ap (delayed t.setting.network) (sym lists) ∙ ap (λ n. delayed n late) (sym same.network)

      module _ (given : Scenario) (has : HasDelays (list_text late) t given) where
        table : has.0 ≡ delayed s.setting.network late
        table = one_table has.0 has.1

        world_is : world_of given.setting ≡ under (world_of s.setting) (arrival_in (delayed s.setting.network late))
        world_is =
            let is = has.2 in
            let there : world_of given.setting ≡ under (world_of t.setting) (arrival_in has.0) = rw (is.machine, is.network, is.spec) refl in
            there ∙ ap (λ a. under (world_of t.setting) (arrival_in a)) table
            ∙ ap (λ w. under w (arrival_in (delayed s.setting.network late))) (sym (worlds_are_one s t same))

        -- so the run misses
        again_misses : reaches_in given set ≡ false
        again_misses =
            let formula : given.formula ≡ s.formula = has.2.formula ∙ sym same.formula in
            ap (λ w. reaches w set given.formula) world_is
            ∙ ap (reaches (under (world_of s.setting) (arrival_in (delayed s.setting.network late))) set) formula
            ∙ told_reach s.setting.network (under (world_of s.setting) (arrival_in arrivals)) set on assigned s.formula ∙ misses

        allowed_too : IsAllowed given.setting.spec set
        allowed_too = subst (λ b. IsAllowed b set) (same.bounds ∙ sym has.2.spec) allowed

        ends : words ≡ set_words set → (rules : Bool) (again : List ℕ) (status : ℕ) → RepliesRun rules words given again status → EndsInMisses again status
        ends spelled rules again status (inl none) = absurd (none.0 set (named s.setting.spec set words bounds allowed spelled) allowed_too)
        ends spelled rules again status (inr trace) =
            let sets : trace.0 ≡ set = named_one trace.0 set trace.1 (named s.setting.spec set words bounds allowed spelled) in
            let fails : reaches_in given trace.0 ≡ false = ap (reaches_in given) sets ∙ again_misses in
            let last = trace_ends rules given trace.0 in (
              (last.0, trace.3 ∙ last.1 ∙ ap (λ b. last.0 ++ line (if b then codes "reaches" else codes "misses")) fails),
              trace.4 ∙ ap run_status fails,
            )

    replayed : (reply : List ℕ) → reply ≡ late_report s set arrivals → IsReplayed known words text s reply
    replayed reply is = (set, late, is, goes)
      where
        goes : words ≡ set_words set → (rules : Bool) (again : List ℕ) (status : ℕ)
            → IsDelayedReply known (list_text late) (RepliesRun rules words) text again status → EndsInMisses again status
        goes spelled rules again status (inl refused) = absurd (refused_is_no_text known text refused.0 s refused.1 reads)
        goes spelled rules again status (inr told_so) = of_text spelled rules again status told_so.0 told_so.1 told_so.2
          where
            of_text : words ≡ set_words set → (rules : Bool) (again : List ℕ) (status : ℕ) (t : Scenario) → IsTextOf known t text
                → RepliesNoDelays (list_text late) t again status
                ⊎ ((given : Scenario) × HasDelays (list_text late) t given × RepliesRun rules words given again status)
                → EndsInMisses again status
            of_text spelled rules again status t of (inl none) = absurd (not_refused t (scenarios_are_one known text s t reads of) none.0)
            of_text spelled rules again status t of (inr run) =
                ends t (scenarios_are_one known text s t reads of) run.0 run.1 spelled rules again status run.2

  of_answer : (reply : List ℕ) (answer : Option (List Parts × Arrivals))
      → IsFirstUnder s.setting.network s.setting.spec (world_of s.setting) s.formula answer → reply ≡ every_delay_report s answer
      → 1 ≡ search_status (set_of_answer answer) → IsReplayed known words text s reply
  of_answer reply None first is status = absurd (omega (arith, status))
  of_answer reply (Some found) first is status = replayed found.0 found.1 first.0 first.1.assigned first.2 reply is

  pub every_delay_replayed : (reply : List ℕ) → RepliesEveryDelay s reply 1 → IsReplayed known words text s reply
  every_delay_replayed reply told_so = of_answer reply told_so.0 told_so.1 told_so.3 told_so.4
