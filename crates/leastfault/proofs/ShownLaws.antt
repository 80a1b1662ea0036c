-- The reply of a run that is told as it is asked is one.
use Rattle.std.proofs.Common.{◌≡◌, ℕ, List, refl, sym, ap, ◌∙◌, subst, inl, inr, arith, false, true, string_bytes}
use Rattle.std.specs.Prelude.{◌⊎◌, Bool, Option, None, Some}
use Rattle.lf_trace.specs.Beside.{beside_by}
use Rattle.lf_trace.specs.Changes.{changes_by}
use Rattle.lf_delays.specs.Delays.{IsRead}
use Rattle.lf_faults.specs.declared.fault.Parts.{Parts}
use Rattle.lf_faults.specs.Allowed.{IsAllowed}
use Rattle.lf_latency.specs.declared.arrivals.Arrivals.{Arrivals}
use Rattle.lf_latency.specs.Arrivals.{choosing}
use Rattle.lf_outcome.specs.Truth.{reaches}
use Rattle.lf_outcome.specs.declared.scenario.Scenario.{Scenario}
use Rattle.lf_outcome.specs.Sameness.{AreSame}
use Rattle.lf_outcome.proofs.Laws.{worlds_are_one}
use Rattle.lf_sim.specs.Settings.{world_of}
use Rattle.lf_trace.specs.Namings.{Names}
use Rattle.lf_trace.specs.Words.{words_of}
use Rattle.lf_words.specs.declared.types.Shown.{Shown}
use Rattle.lf_words.specs.declared.types.Shown.TheVariants as shown
use Rattle.lf_protocol_file.specs.declared.declared.Declared.{Declared}
use Rattle.leastfault.specs.declared.shown.Told.{Told}
use Rattle.leastfault.specs.declared.shown.Told.TheVariants as told
use Rattle.leastfault.specs.Answers.{reaches_in}
use Rattle.leastfault.specs.Delayed.{HasDelays, IsChoosing, RepliesNoDelays}
use Rattle.leastfault.specs.Known.{IsTextOf}
use Rattle.leastfault.specs.Replies.{HasOneStatus, RepliesNoSet, RepliesRefusal, tells_rules}
use Rattle.leastfault.specs.Reports.{run_status}
use Rattle.leastfault.specs.Shown.{HasOneShown, IsDrawnReply, IsShownReply, NamesOnce, RepliesBeside, RepliesBesides, RepliesNamed}
use Rattle.leastfault.specs.Shown.{RepliesRun}
use Rattle.leastfault.proofs.KnownLaws.{refused_is_no_text, scenarios_are_one}
use Rattle.leastfault.proofs.Uniqueness.{refusals_one, told_one}

-- two replies are one; or where no contract tells their text, their status is, and with the status 2 they are
abbrev Agree : Bool → List ℕ → List ℕ → ℕ → ℕ → Type 0
Agree true one other m n = (one ≡ other) × (m ≡ n)
Agree false one other m n = (m ≡ n) × (m ≡ 2 → one ≡ other)

agree : (b : Bool) (one other : List ℕ) (m n : ℕ) → one ≡ other → m ≡ n → Agree b one other m n
agree true one other m n same ends = (same, ends)
agree false one other m n same ends = (ends, λ two. same)

-- so it is of the replies to scenarios that are the same
abbrev AgreeFor : Bool → (Scenario → List ℕ → ℕ → Type 0) → Type 0
AgreeFor b Replies =
    (s t : Scenario) → AreSame s t → (one other : List ℕ) (m n : ℕ) → Replies s one m → Replies t other n → Agree b one other m n

-- and then of those to a text
abbrev OfText : Option Declared → (Scenario → List ℕ → ℕ → Type 0) → List ℕ → List ℕ → ℕ → Type 0
OfText known Replies text reply status =
    RepliesRefusal known text reply status ⊎ ((s : Scenario) × IsTextOf known s text × Replies s reply status)

of_text : (b : Bool) (known : Option Declared) (Replies : Scenario → List ℕ → ℕ → Type 0) → AgreeFor b Replies
    → (text one other : List ℕ) (m n : ℕ) → OfText known Replies text one m → OfText known Replies text other n → Agree b one other m n
of_text b known Replies agrees text one other m n (inl x) (inl y) =
    let same = refusals_one known text one other m n x y in agree b one other m n same.0 same.1
of_text b known Replies agrees text one other m n (inl x) (inr y) = absurd (refused_is_no_text known text x.0 y.0 x.1 y.1)
of_text b known Replies agrees text one other m n (inr x) (inl y) = absurd (refused_is_no_text known text y.0 x.0 y.1 x.1)
of_text b known Replies agrees text one other m n (inr x) (inr y) =
    agrees x.0 y.0 (scenarios_are_one known text x.0 y.0 x.1 y.1) one other m n x.2 y.2

-- where notes arrive as words say, scenarios that are the same stay so
given_same : (s t a b : Scenario) (x y : Arrivals) → AreSame s t → x ≡ y → IsChoosing s x a → IsChoosing t y b → AreSame a b
given_same s t a b x y same arrive one other = record {
  protocol = one.machine ∙ same.protocol ∙ sym other.machine;
  network = one.network ∙ ap (λ network. choosing network x) same.network ∙ ap (choosing t.setting.network) arrive ∙ sym other.network;
  bounds = one.spec ∙ same.bounds ∙ sym other.spec;
  formula = one.formula ∙ same.formula ∙ sym other.formula;
  max_sets = one.max_sets ∙ same.max_sets ∙ sym other.max_sets;
}

abbrev Given : List ℕ → (Scenario → List ℕ → ℕ → Type 0) → Scenario → List ℕ → ℕ → Type 0
Given words Replies s reply status =
    RepliesNoDelays words s reply status ⊎ ((given : Scenario) × HasDelays words s given × Replies given reply status)

module _ (words : List ℕ) (s t : Scenario) (same : AreSame s t) where
  moved : (read : Option Arrivals) → IsRead s.setting.network words read → IsRead t.setting.network words read
  moved read is = subst (λ network. IsRead network words read) same.network is

  not_both : (x : Arrivals) → IsRead t.setting.network words None → IsRead t.setting.network words (Some x) → ⊥
  not_both x none some = let never : None ≡ Some x = (none x).1 ((some x).0 refl) in cc

  reads_one : (x y : Arrivals) → IsRead t.setting.network words (Some x) → IsRead t.setting.network words (Some y) → x ≡ y
  reads_one x y one other = let both : Some y ≡ Some x = (other x).1 ((one x).0 refl) in cc

  given_agree : (b : Bool) (Replies : Scenario → List ℕ → ℕ → Type 0) → AgreeFor b Replies → (one other : List ℕ) (m n : ℕ)
      → Given words Replies s one m → Given words Replies t other n → Agree b one other m n
  given_agree b Replies agrees one other m n (inl x) (inl y) = agree b one other m n (x.1 ∙ sym y.1) (x.2 ∙ sym y.2)
  given_agree b Replies agrees one other m n (inl x) (inr y) = absurd (not_both y.1.0 (moved None x.0) y.1.1)
  given_agree b Replies agrees one other m n (inr x) (inl y) = absurd (not_both x.1.0 y.0 (moved (Some x.1.0) x.1.1))
  given_agree b Replies agrees one other m n (inr x) (inr y) =
      agrees x.0 y.0
      (given_same s t x.0 y.0 x.1.0 y.1.0 same (reads_one x.1.0 y.1.0 (moved (Some x.1.0) x.1.1) y.1.1) x.1.2 y.1.2)
      one other m n x.2 y.2

delayed_agree : (words : List ℕ) (b : Bool) (Replies : Scenario → List ℕ → ℕ → Type 0) → AgreeFor b Replies → AgreeFor b (Given words Replies)
delayed_agree words b Replies agrees s t same one other m n x y = given_agree words s t same b Replies agrees one other m n x y

-- what is told of the run of one set is one
module _ (s t : Scenario) (same : AreSame s t) (x y : List Parts) (sets : x ≡ y) where
  reached_one : reaches_in s x ≡ reaches_in t y
  reached_one =
      ap (λ w. reaches w x s.formula) (worlds_are_one s t same) ∙ ap (reaches (world_of t.setting) x) same.formula ∙ ap (reaches_in t) sets

  changes_one : changes_by (words_of s.setting.machine) (world_of s.setting) x s.formula
      ≡ changes_by (words_of t.setting.machine) (world_of t.setting) y t.formula
  changes_one =
      ap (λ k. changes_by (words_of k) (world_of s.setting) x s.formula) same.protocol
      ∙ ap (λ w. changes_by (words_of t.setting.machine) w x s.formula) (worlds_are_one s t same)
      ∙ ap (changes_by (words_of t.setting.machine) (world_of t.setting) x) same.formula
      ∙ ap (λ set. changes_by (words_of t.setting.machine) (world_of t.setting) set t.formula) sets

  beside_one : (u v : List Parts) → u ≡ v → beside_by (words_of s.setting.machine) (world_of s.setting) u x s.formula
      ≡ beside_by (words_of t.setting.machine) (world_of t.setting) v y t.formula
  beside_one u v others =
      ap (λ k. beside_by (words_of k) (world_of s.setting) u x s.formula) same.protocol
      ∙ ap (λ w. beside_by (words_of t.setting.machine) w u x s.formula) (worlds_are_one s t same)
      ∙ ap (beside_by (words_of t.setting.machine) (world_of t.setting) u x) same.formula
      ∙ ap (λ set. beside_by (words_of t.setting.machine) (world_of t.setting) u set t.formula) sets
      ∙ ap (λ set. beside_by (words_of t.setting.machine) (world_of t.setting) set y t.formula) others

-- the status of a run isn't that of a refusal
not_refused : (b : Bool) → run_status b ≡ 2 → ⊥
not_refused false is = omega (arith, is)
not_refused true is = omega (arith, is)

-- which texts contracts tell
abbrev has_text : Told → Bool
has_text told.Changes = true
has_text told.Json = false
has_text told.Picture = false

-- words that name one set at most
module _ (words : List ℕ) (named_one : (one other : List Parts) → Names words one → Names words other → one ≡ other) where
  no_set : (s t : Scenario) → AreSame s t → (one other reply : List ℕ) (m n : ℕ) (set : List Parts) → RepliesNoSet words s one m → Names words set
      → IsAllowed t.setting.spec set → ⊥
  no_set s t same one other reply m n set none names fits =
      none.0 set names (subst (λ bounds. IsAllowed bounds set) (sym same.bounds) fits)

  told_agree : (told : Told) → AgreeFor (has_text told) (RepliesNamed told words)
  told_agree told s t same one other m n (inl x) (inl y) = agree (has_text told) one other m n (x.1 ∙ sym y.1) (x.2 ∙ sym y.2)
  told_agree told s t same one other m n (inl x) (inr y) = absurd (no_set s t same one other one m n y.0 x y.1 y.2)
  told_agree told s t same one other m n (inr x) (inl y) = absurd (y.0 x.0 x.1 (subst (λ bounds. IsAllowed bounds x.0) same.bounds x.2))
  told_agree told.Changes s t same one other m n (inr x) (inr y) =
      let sets = named_one x.0 y.0 x.1 y.1 in
      (x.3 ∙ changes_one s t same x.0 y.0 sets ∙ sym y.3, x.4 ∙ ap run_status (reached_one s t same x.0 y.0 sets) ∙ sym y.4)
  told_agree told.Json s t same one other m n (inr x) (inr y) =
      let sets = named_one x.0 y.0 x.1 y.1 in (
        x.4 ∙ ap run_status (reached_one s t same x.0 y.0 sets) ∙ sym y.4,
        λ two. absurd (not_refused (reaches_in s x.0) (sym x.4 ∙ two)),
      )
  told_agree told.Picture s t same one other m n (inr x) (inr y) =
      let sets = named_one x.0 y.0 x.1 y.1 in (
        x.4 ∙ ap run_status (reached_one s t same x.0 y.0 sets) ∙ sym y.4,
        λ two. absurd (not_refused (reaches_in s x.0) (sym x.4 ∙ two)),
      )

  run_agree : (rules : Bool) → AgreeFor true (RepliesRun rules words)
  run_agree rules s t same one other m n x y = told_one words named_one rules s t same one other m n x y

  module _ (others : List ℕ) (others_one : (one other : List Parts) → Names others one → Names others other → one ≡ other) where
    beside_agree : (s t : Scenario) → AreSame s t → (u v : List Parts) → u ≡ v → (one other : List ℕ) (m n : ℕ)
        → RepliesBeside others u s one m → RepliesBeside others v t other n → Agree true one other m n
    beside_agree s t same u v sets one other m n (inl x) (inl y) = (x.1 ∙ sym y.1, x.2 ∙ sym y.2)
    beside_agree s t same u v sets one other m n (inl x) (inr y) =
        absurd (x.0 y.0 y.1.0 (subst (λ bounds. IsAllowed bounds y.0) (sym same.bounds) y.1.1))
    beside_agree s t same u v sets one other m n (inr x) (inl y) =
        absurd (y.0 x.0 x.1.0 (subst (λ bounds. IsAllowed bounds x.0) same.bounds x.1.1))
    beside_agree s t same u v sets one other m n (inr x) (inr y) = (
      x.2 ∙ beside_one s t same u v sets x.0 y.0 (others_one x.0 y.0 x.1.0 y.1.0) ∙ sym y.2,
      x.3 ∙ ap run_status (reached_one s t same u v sets) ∙ sym y.3,
    )

    besides_agree : AgreeFor true (RepliesBesides others words)
    besides_agree s t same one other m n (inl x) (inl y) = (x.1 ∙ sym y.1, x.2 ∙ sym y.2)
    besides_agree s t same one other m n (inl x) (inr y) = absurd (no_set s t same one other one m n y.0 x y.1.0 y.1.1)
    besides_agree s t same one other m n (inr x) (inl y) = absurd (y.0 x.0 x.1.0 (subst (λ bounds. IsAllowed bounds x.0) same.bounds x.1.1))
    besides_agree s t same one other m n (inr x) (inr y) =
        beside_agree s t same x.0 y.0 (named_one x.0 y.0 x.1.0 y.1.0) one other m n x.2 y.2

  -- the replies to a text, by the seed or where notes arrive as words say
  pub shown_one : (how : Shown) → NamesOnce how → (known : Option Declared) (delays : Option (List ℕ)) (text : List ℕ)
      → HasOneShown how (IsShownReply known how delays words text)
  shown_one shown.Whole once known None text = λ one other m n x y.
      of_text true known (RepliesRun false words) (run_agree false) text one other m n x y
  shown_one shown.Whole once known (Some delays) text = λ one other m n x y.
      of_text true known (Given delays (RepliesRun false words)) (delayed_agree delays true (RepliesRun false words) (run_agree false)) text one other m n x y
  shown_one shown.Rules once known None text = λ one other m n x y.
      let rules = tells_rules known true in of_text true known (RepliesRun rules words) (run_agree rules) text one other m n x y
  shown_one shown.Rules once known (Some delays) text = λ one other m n x y.
      let rules = tells_rules known true in
      of_text true known (Given delays (RepliesRun rules words)) (delayed_agree delays true (RepliesRun rules words) (run_agree rules)) text one other m n x y
  shown_one shown.Changes once known None text = λ one other m n x y.
      of_text true known (RepliesNamed told.Changes words) (told_agree told.Changes) text one other m n x y
  shown_one shown.Changes once known (Some delays) text = λ one other m n x y.
      of_text true known (Given delays (RepliesNamed told.Changes words))
      (delayed_agree delays true (RepliesNamed told.Changes words) (told_agree told.Changes))
      text one other m n x y
  shown_one shown.Json once known None text = λ one other m n x y.
      of_text false known (RepliesNamed told.Json words) (told_agree told.Json) text one other m n x y
  shown_one shown.Json once known (Some delays) text = λ one other m n x y.
      of_text false known (Given delays (RepliesNamed told.Json words)) (delayed_agree delays false (RepliesNamed told.Json words) (told_agree told.Json))
      text one other m n x y
  shown_one (shown.Beside others) once known None text = λ one other m n x y.
      of_text true known (RepliesBesides (string_bytes others) words) (besides_agree (string_bytes others) once) text one other m n x y
  shown_one (shown.Beside others) once known (Some delays) text = λ one other m n x y.
      of_text true known (Given delays (RepliesBesides (string_bytes others) words))
      (delayed_agree delays true (RepliesBesides (string_bytes others) words) (besides_agree (string_bytes others) once)) text one other m n x y

  pub drawn_one : (known : Option Declared) (delays : Option (List ℕ)) (text : List ℕ) → HasOneStatus (IsDrawnReply known delays words text)
  drawn_one known None text one other m n x y =
      of_text false known (RepliesNamed told.Picture words) (told_agree told.Picture) text one other m n x y
  drawn_one known (Some delays) text one other m n x y =
      of_text false known (Given delays (RepliesNamed told.Picture words))
      (delayed_agree delays false (RepliesNamed told.Picture words) (told_agree told.Picture))
      text one other m n x y
