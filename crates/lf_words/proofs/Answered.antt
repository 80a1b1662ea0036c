-- What an answer says, from what is known of it for all words.
use Rattle.std.proofs.Common.{◌≡◌, ℕ, List, String, Global, map, true, codes, [], ◌∷◌, inr, subst, sym, arith}
use Rattle.std.specs.Prelude.{◌⊎◌, Option, None, Some, Result, Ok, Err, IfOk, MatchResult, IsErrAnd}
use Rattle.std.specs.String.{string_bytes}
use Rattle.clap.specs.Words.{Row, Text, first_of, subcommand_of}
use Rattle.clap.specs.declared.error.kind.ErrorKind.TheVariants as kind
use Rattle.lf_words.specs.Plain.{asks_help, asks_version, is_overwriting, is_plain, is_plain_command, is_unknown}
use Rattle.lf_words.specs.Statuses.{exit_status}
use Rattle.lf_words.specs.Commands.{program}
use Rattle.lf_words.specs.Words.{Answers, AreNamed, Asks, CanBeDone, IsAskedIn, IsBarred, IsPlainly, IsRefusal, IsWorkers, overwrites, workers_of}
use Rattle.lf_words.specs.Words.{IsOfWorkers, IsOverwriting}
use Rattle.lf_words.specs.declared.types.Asked.{Asked}
use Rattle.lf_words.specs.declared.types.Asked.TheVariants as asked
use Rattle.lf_words.specs.declared.unasked.Unasked.{Unasked}
use Rattle.lf_words.specs.declared.unasked.Unasked.TheVariants as unasked
use Rattle.lf_words.proofs.Plainly.{asks_plainly, refused_plainly, shared_is_refused, shared_refusal}
use Rattle.lf_words.proofs.Options.{overwriting_is_refused, overwriting_refusal, uncounted_is_refused, uncounted_refusal}
use Rattle.lf_words.proofs.Plainly.{help_is, one_status, takes_none, unknown_is, unknown_status, version_is}

pub bars_over : (a : Asked) (u : Unasked) → overwrites a ≡ true → IsOverwriting u → IsBarred a u
bars_over a (unasked.Told text) over is = absurd is
bars_over a (unasked.Wrong text) over is = absurd is
bars_over a (unasked.Workers text) over is = absurd is
bars_over a (unasked.Overwrites text) over is = over
bars_over a unasked.SharedInput over is = absurd is
bars_over a unasked.Memory over is = tt

barred : (words : List Text) (a : Asked) (u : Unasked) → Asks words a → IsBarred a u → IsRefusal words u
barred words a (unasked.Told text) asks bars = absurd bars
barred words a (unasked.Wrong text) asks bars = inr (inr (a, asks, bars))
barred words a (unasked.Workers text) asks bars = absurd bars
barred words a (unasked.Overwrites text) asks bars = (a, asks, bars)
barred words a unasked.SharedInput asks bars = (a, asks, bars)
barred words a unasked.Memory asks bars = tt

pub answers_possible : (words : List Text) (a : Asked) (r : Result Asked Unasked)
    → MatchResult r (λ b. (b ≡ a) × CanBeDone a) (IsBarred a) → Asks words a → Answers words r
answers_possible words a (Ok b) told asks = subst (λ x. Asks words x × CanBeDone x) (sym told.0) (asks, told.1)
answers_possible words a (Err u) told asks = barred words a u asks told

module _ (ws : List (String Global)) where
  pub plain_of : (r : Result Asked Unasked) → is_plain_command (map string_bytes ws) ≡ true → Answers (map string_bytes ws) r
      → MatchResult r (IsPlainly (map string_bytes ws)) (λ u. u ≡ unasked.Memory)
  plain_of (Ok a) plain asks = asks_plainly (map string_bytes ws) a plain asks.0
  plain_of (Err u) plain refusal = refused_plainly ws u plain refusal

  pub shared_of : (r : Result Asked Unasked) → map string_bytes ws ≡ codes "check" ∷ codes "-" ∷ codes "-" ∷ [] → Answers (map string_bytes ws) r
      → IsErrAnd r (λ u. (u ≡ unasked.SharedInput) ⊎ (u ≡ unasked.Memory))
  shared_of (Ok a) is asks = absurd (shared_is_refused (map string_bytes ws) a is asks.0 asks.1.apart)
  shared_of (Err u) is refusal = shared_refusal ws u is refusal

  pub overwriting_of : (r : Result Asked Unasked) → is_overwriting (map string_bytes ws) ≡ true → Answers (map string_bytes ws) r
      → IsErrAnd r IsOverwriting
  overwriting_of (Ok a) is asks = absurd (overwriting_is_refused ws a is asks.0 asks.1.kept)
  overwriting_of (Err u) is refusal = overwriting_refusal ws u is refusal

module _ (words : List Text) (file number : Text) where
  pub uncounted_of : (r : Result Asked Unasked) → words ≡ codes "search" ∷ file ∷ codes "--workers" ∷ number ∷ [] → is_plain file ≡ true
      → is_plain number ≡ true → ((n : ℕ) → ¬ AreNamed (Some number) n) → Answers words r
      → IsErrAnd r IsOfWorkers
  uncounted_of (Ok a) is plain plain_too none asks = absurd (uncounted_is_refused words file number a is plain plain_too none asks.0)
  uncounted_of (Err u) is plain plain_too none refusal = uncounted_refusal words file number u is plain plain_too none refusal

module _ (words : List Text) where
  pub help_of : (r : Result Asked Unasked) → asks_help words ≡ true → Answers words r → IsErrAnd r (λ u. (exit_status u ≡ 0) ⊎ (u ≡ unasked.Memory))
  help_of (Ok a) help asks = absurd (takes_none _ _ _ (help_is words help) asks.0.0)
  help_of (Err u) help refusal = one_status words kind.DisplayHelp u (help_is words help) refusal

  pub version_of : (r : Result Asked Unasked) → asks_version words ≡ true → Answers words r
      → IsErrAnd r (λ u. (exit_status u ≡ 0) ⊎ (u ≡ unasked.Memory))
  version_of (Ok a) version asks = absurd (takes_none _ _ _ (version_is words version) asks.0.0)
  version_of (Err u) version refusal = one_status words kind.DisplayVersion u (version_is words version) refusal

  pub unknown_of : (r : Result Asked Unasked) → is_unknown words ≡ true → Answers words r → IsErrAnd r (λ u. (exit_status u ≡ 2) ⊎ (u ≡ unasked.Memory))
  unknown_of (Ok a) unknown asks = absurd (takes_none _ _ _ (unknown_is words unknown) asks.0.0)
  unknown_of (Err u) unknown refusal = unknown_status words u unknown refusal

-- so many workers are asked for as may be
named_range : (o : Option Text) (n : ℕ) → AreNamed o n → IsWorkers n
named_range None n is = (omega (arith, is), omega (arith, is))
named_range (Some text) n is = is.2

asked_range : (words : List Text) (o : Option (Text × List Row)) (a : Asked) → IsAskedIn words o a → IsWorkers (workers_of a)
asked_range words None a h = elim h [ ]
asked_range words (Some p) (asked.Search file tree all workers quiet protocol) h = named_range (first_of (codes "workers") p.1) workers h.0.4
asked_range words (Some p) (asked.Run file faults shown delays protocol) h = (omega arith, omega arith)
asked_range words (Some p) (asked.Draw file faults delays protocol) h = (omega arith, omega arith)
asked_range words (Some p) (asked.Check file tree quiet protocol) h = (omega arith, omega arith)
asked_range words (Some p) (asked.Answer file quiet every_delay protocol) h = (omega arith, omega arith)
asked_range words (Some p) (asked.Why file quiet protocol) h = (omega arith, omega arith)
asked_range words (Some p) (asked.Protocol file) h = (omega arith, omega arith)

pub range_of : (words : List Text) (r : Result Asked Unasked) → Answers words r → IfOk r (λ a. IsWorkers (workers_of a))
range_of words (Ok a) asks = asked_range words (subcommand_of program words) a asks.0.1
range_of words (Err u) refusal = tt
