-- Replies to runs, told as it is asked.
use Rattle.std.proofs.Common.{◌≡◌, ℕ, List, inl, inr, sym, ◌∙◌, false, true, string_bytes}
use Rattle.std.specs.Prelude.{Option, None, Some}
use Rattle.lf_faults.specs.declared.fault.Parts.{Parts}
use Rattle.lf_scenario.specs.Limits.{longest}
use Rattle.lf_outcome.specs.declared.scenario.Scenario.{Scenario}
use Rattle.lf_words.specs.declared.types.Shown.{Shown}
use Rattle.lf_words.specs.declared.types.Shown.TheVariants as shown
use Rattle.lf_protocol_file.specs.declared.declared.Declared.{Declared}
use Rattle.leastfault.specs.declared.shown.Told.{Told}
use Rattle.leastfault.specs.declared.shown.Told.TheVariants as told
use Rattle.leastfault.specs.Replies.{RepliesNoSet, tells_rules}
use Rattle.leastfault.specs.Reports.{no_set_line}
use Rattle.leastfault.specs.Shown.{IsBesideReply, IsDrawnReply, IsSeededReply, IsShownReply, IsToldReply, RepliesNamed, RepliesShown}
use Rattle.leastfault.proofs.DelayedLemmas.{delayed_by_front}
use Rattle.leastfault.proofs.KnownLaws.{front_is_no_text, refused_by_front}
use Rattle.leastfault.proofs.ReplyLemmas.{GoesByFront, IsChoice, run_by_front}

-- the words name no allowed set
pub no_set_of : (words reply : List ℕ) (status : ℕ) (s : Scenario) (chosen : Option (List Parts)) → IsChoice words s.setting.spec chosen → chosen ≡ None
    → reply ≡ no_set_line → status ≡ 2 → RepliesNoSet words s reply status
no_set_of words reply status s chosen choice none is ends =
    (λ set names allowed. let never : None ≡ Some set = sym none ∙ (choice set).1 (names, allowed) in cc, is, ends)

-- past the longest text, the bytes at the front say all
module _ (known : Option Declared) where
  told_by_front : (told : Told) (words reply : List ℕ) (status : ℕ) → GoesByFront longest (λ text. IsToldReply told known words text reply status)
  told_by_front told words reply status held more (inl refusal) =
      inl (refusal.0, refused_by_front known held refusal.0 more refusal.1, refusal.2, refusal.3)
  told_by_front told words reply status held more (inr is) = absurd (front_is_no_text known held is.0 more is.1)

  beside_by_front : (other words reply : List ℕ) (status : ℕ) → GoesByFront longest (λ text. IsBesideReply other known words text reply status)
  beside_by_front other words reply status held more (inl refusal) =
      inl (refusal.0, refused_by_front known held refusal.0 more refusal.1, refusal.2, refusal.3)
  beside_by_front other words reply status held more (inr is) = absurd (front_is_no_text known held is.0 more is.1)

  seeded_by_front : (how : Shown) (words reply : List ℕ) (status : ℕ) → GoesByFront longest (λ text. IsSeededReply known how words text reply status)
  seeded_by_front shown.Whole words reply status held more is = run_by_front known false words reply status held more is
  seeded_by_front shown.Rules words reply status held more is = run_by_front known (tells_rules known true) words reply status held more is
  seeded_by_front shown.Changes words reply status held more is = told_by_front told.Changes words reply status held more is
  seeded_by_front shown.Json words reply status held more is = told_by_front told.Json words reply status held more is
  seeded_by_front (shown.Beside other) words reply status held more is = beside_by_front (string_bytes other) words reply status held more is

  pub shown_by_front : (how : Shown) (delays : Option (List ℕ)) (words reply : List ℕ) (status : ℕ)
      → GoesByFront longest (λ text. IsShownReply known how delays words text reply status)
  shown_by_front how None words reply status held more is = seeded_by_front how words reply status held more is
  shown_by_front how (Some delays) words reply status held more is =
      delayed_by_front known delays (RepliesShown (tells_rules known true) how words) reply status held more is

  pub drawn_by_front : (delays : Option (List ℕ)) (words reply : List ℕ) (status : ℕ)
      → GoesByFront longest (λ text. IsDrawnReply known delays words text reply status)
  drawn_by_front None words reply status held more is = told_by_front told.Picture words reply status held more is
  drawn_by_front (Some delays) words reply status held more is =
      delayed_by_front known delays (RepliesNamed told.Picture words) reply status held more is
