-- Replies where notes arrive as words say, and over every delay.
use Rattle.std.proofs.Common.{◌≡◌, ℕ, List, inl, inr, refl, ◌∙◌, subst, true, false, string_bytes}
use Rattle.std.specs.Prelude.{Bool, Option, None, Some, Result, Ok, Err}
use Rattle.lf_delays.specs.Answers.{IsFirstUnder}
use Rattle.lf_faults.specs.declared.fault.Parts.{Parts}
use Rattle.lf_latency.specs.declared.arrivals.Arrivals.{Arrivals}
use Rattle.lf_latency.specs.Arrivals.{IsArrivals}
use Rattle.lf_scenario.specs.Limits.{longest}
use Rattle.lf_outcome.specs.declared.scenario.Scenario.{Scenario}
use Rattle.lf_sim.specs.Settings.{world_of}
use Rattle.lf_delays.specs.Trials.{IsLike, IsTightBy, MissesBy}
use Rattle.lf_protocol_file.specs.declared.declared.Declared.{Declared}
use Rattle.leastfault.specs.declared.reply.Reply.{Reply}
use Rattle.leastfault.specs.Delayed.{HasDelays, IsAnswerAsked, IsDelayedReply, IsEveryDelayReply, IsGivenOf, IsGivenTo, RepliesEveryDelay, late_report}
use Rattle.leastfault.specs.Known.{IsTextOf}
use Rattle.leastfault.specs.Reports.{report}
use Rattle.leastfault.proofs.KnownLaws.{front_is_no_text, refused_by_front}
use Rattle.leastfault.proofs.ReplyLemmas.{GoesByFront, answer_by_front}

-- which value stands in a result
same_ok : {A B : Type 0} (r : Result A B) (x y : A) → r ≡ Ok x → r ≡ Ok y → x ≡ y
same_ok r x y one other = cc

same_err : {A B : Type 0} (r : Result A B) (x y : B) → r ≡ Err x → r ≡ Err y → x ≡ y
same_err r x y one other = cc

not_both : {A B : Type 0} (r : Result A B) (x : A) (y : B) → r ≡ Ok x → r ≡ Err y → ⊥
not_both r x y one other = cc

-- past the longest text, the bytes at the front say all
module _ (known : Option Declared) where
  pub delayed_by_front : (words : List ℕ) (Replies : Scenario → List ℕ → ℕ → Type 0) (reply : List ℕ) (status : ℕ)
      → GoesByFront longest (λ text. IsDelayedReply known words Replies text reply status)
  delayed_by_front words Replies reply status held more (inl refusal) =
      inl (refusal.0, refused_by_front known held refusal.0 more refusal.1, refusal.2, refusal.3)
  delayed_by_front words Replies reply status held more (inr is) = absurd (front_is_no_text known held is.0 more is.1)

  every_by_front : (reply : List ℕ) (status : ℕ) → GoesByFront longest (λ text. IsEveryDelayReply known text reply status)
  every_by_front reply status held more (inl refusal) =
      inl (refusal.0, refused_by_front known held refusal.0 more refusal.1, refusal.2, refusal.3)
  every_by_front reply status held more (inr is) = absurd (front_is_no_text known held is.0 more is.1)

  pub asked_by_front : (every : Bool) (reply : List ℕ) (status : ℕ) → GoesByFront longest (λ text. IsAnswerAsked known every text reply status)
  asked_by_front false reply status held more is = answer_by_front known reply status held more is
  asked_by_front true reply status held more is = every_by_front reply status held more is

  -- what a text's scenario is given is what the text is
  pub given_text : (words text : List ℕ) (s : Scenario) (r : Result Scenario (Reply ℕ)) → IsTextOf known s text → IsGivenTo s words r
      → IsGivenOf known words text r
  given_text words text s (Ok given) reads said = (s, reads, said)
  given_text words text s (Err reply) reads said = inr (s, reads, said)

  -- what is replied to the scenario that is given is the reply to the text
  pub given_of : (words text : List ℕ) (Replies : Scenario → List ℕ → ℕ → Type 0) (r : Result Scenario (Reply ℕ)) (given : Scenario)
      (reply : List ℕ) (status : ℕ) → r ≡ Ok given → IsGivenOf known words text r → Replies given reply status
      → IsDelayedReply known words Replies text reply status
  given_of words text Replies (Ok s) given reply status is from replied =
      let same : s ≡ given = same_ok (Ok s) s given refl is in
      inr (from.0, from.1, inr (given, subst (HasDelays words from.0) same from.2, replied))
  given_of words text Replies (Err r) given reply status is from replied = absurd (not_both (Err r) given r is refl)

  refused_reply : (words text : List ℕ) (Replies : Scenario → List ℕ → ℕ → Type 0) (r : Reply ℕ) → IsGivenOf known words text (Err r)
      → IsDelayedReply known words Replies text (string_bytes r.text) r.value
  refused_reply words text Replies r (inl refusal) = inl refusal
  refused_reply words text Replies r (inr none) = inr (none.0, none.1, inl none.2)

  pub not_given : (words text : List ℕ) (Replies : Scenario → List ℕ → ℕ → Type 0) (r : Result Scenario (Reply ℕ)) (made : Reply ℕ) → r ≡ Err made
      → IsGivenOf known words text r → IsDelayedReply known words Replies text (string_bytes made.text) made.value
  not_given words text Replies (Ok s) made is from = absurd (not_both (Ok s) s made refl is)
  not_given words text Replies (Err r) made is from =
      let same : r ≡ made = same_err (Err r) r made refl is in
      subst (λ (x : Reply ℕ). IsDelayedReply known words Replies text (string_bytes x.text) x.value) same (refused_reply words text Replies r from)

-- scenarios that are the same but for when notes arrive have one report of a set of faults where they arrive so
same_late : (s t : Scenario) (set : List Parts) (arrivals : Arrivals) → IsLike s t → late_report t set arrivals ≡ late_report s set arrivals
same_late s t set arrivals like = rw (like.machine, like.spec, like.links) refl

-- the report where there is an answer over every delay
pub late_of : (s t : Scenario) (set : List Parts) (given arrivals : Arrivals) (reply : List ℕ) (status : ℕ)
    → IsFirstUnder s.setting.network s.setting.spec (world_of s.setting) s.formula (Some (set, given)) → IsLike s t
    → IsArrivals s.setting.network arrivals → MissesBy s set arrivals → IsTightBy s set arrivals
    → reply ≡ late_report t set arrivals → status ≡ 1 → RepliesEveryDelay s reply status
late_of s t set given arrivals reply status first like is misses tight told ends =
    (Some (set, arrivals), (first.0, is, misses, first.3), tight, told ∙ same_late s t set arrivals like, ends)

-- and where there is none
pub never_of : (s : Scenario) (reply : List ℕ) (status : ℕ) → IsFirstUnder s.setting.network s.setting.spec (world_of s.setting) s.formula None
    → reply ≡ report s.setting.spec.budget None → status ≡ 0 → RepliesEveryDelay s reply status
never_of s reply status first told ends = (None, first, tt, told, ends)
