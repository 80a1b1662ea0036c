-- What holds of the words of each command that is read so.
use Rattle.std.proofs.Common.{◌≡◌, ◌∙◌, ◌⊎◌, ◌<◌, ℕ, List, [], ◌∷◌, Option, None, Some, inl, inr, refl, sym, ap, subst, true, codes, length, arith}
use Rattle.std.specs.Prelude.{IfOk, IsErrAnd, Result, Ok, Err, MatchResult}
use Rattle.std.specs.Result.{result_unwrap_or}
use Rattle.std.specs.Str.{bytes_eq}
use Rattle.std.proofs.lemmas.Bool.{false≢true, or_cases}
use Rattle.std.proofs.lemmas.Slice.Eq.{bytes_eq-Decides}
use Rattle.clap.specs.Words.{App, HasMatchesOf, IsAmong, Kinds, Row, Text, fault_of, found_of, is_simple, is_simple_and_free, matches_of, rows_of}
use Rattle.clap.specs.declared.error.kind.ErrorKind.{ErrorKind}
use Rattle.clap.specs.declared.error.kind.ErrorKind.TheVariants as kind
use Rattle.clap.specs.declared.parser.matches.ArgMatches.{ArgMatches}
use Rattle.lf_sweep.specs.declared.part.Part.{Part}
use Rattle.lf_sweep_words.specs.Help.{asks_help}
use Rattle.lf_sweep_words.specs.Statuses.{exit_status, status_of}
use Rattle.lf_sweep_words.specs.Words.{AnswersBy, AreNamed, HasStatus, IsNothing, IsNumber, IsPart, IsRefusalBy, IsToldFor}
use Rattle.lf_sweep_words.specs.declared.unasked.SweepUnasked.{SweepUnasked}
use Rattle.lf_sweep_words.specs.declared.unasked.SweepUnasked.TheVariants as unasked
use Rattle.lf_sweep_words.proofs.Cuts.{cut_once}

apart : (m n : ℕ) → m < n → m ≡ n → ⊥
apart m n less is = absurd (omega arith)

-- What has something of which there is nothing is nothing
pub nothing_by : {X Y : Type 0} (P : X → Type 0) (Q : Y → Type 0) (u : SweepUnasked) → ((y : Y) → Q y → (x : X) × P x) → IsNothing P u
    → IsNothing Q u
nothing_by P Q (unasked.Told text) part none = absurd none
nothing_by P Q (unasked.Wrong text) part none = λ y is. none (part y is).0 (part y is).1
nothing_by P Q unasked.Memory part none = tt

-- One number is named at most,
pub workers_once : (o : Option Text) (m n : ℕ) → AreNamed o m → AreNamed o n → m ≡ n
workers_once None m n is is_too = is ∙ sym is_too
workers_once (Some text) m n is is_too = sym is.0.1 ∙ is_too.0.1

-- and one part
pub part_once : (o : Option Text) (a b : Part) → IsPart o a → IsPart o b → (a.which ≡ b.which) × (a.parts ≡ b.parts)
part_once None a b is is_too = (is.0 ∙ sym is_too.0, is.1 ∙ sym is_too.1)
part_once (Some text) a b is is_too =
    let same = cut_once 47 text is.0 is.1 is_too.0 is_too.1 is.2 is_too.2 in
    let which = subst (λ t. IsNumber t a.which) same.0 is.3.0 in
    let parts = subst (λ t. IsNumber t a.parts) same.1 is.3.1 in
    (sym which.1 ∙ is_too.3.0.1, sym parts.1 ∙ is_too.3.1.1)

has_status : (kinds : Kinds) (k : ErrorKind) (n : ℕ) → IsAmong k kinds → n ≡ status_of k → HasStatus kinds n
has_status [] k n among status = elim among [ ]
has_status (x ∷ xs) k n (inl is) status = inl (status ∙ ap status_of is)
has_status (x ∷ xs) k n (inr later) status = inr (has_status xs k n later status)

-- Of a command line, and what its matches ask for
module _ {A : Type 0} (app : App) (P : List Row → A → Type 0) (words : List Text) where
  -- what is told of a refusal, by its kind
  is_refusal : (k : ErrorKind) (u : SweepUnasked) → IsToldFor k u → (k ≡ kind.OutOfMemory) ⊎ IsAmong k (fault_of app words)
      → IsRefusalBy app P words u
  is_refusal k (unasked.Told text) told (inl memory) = absurd (apart 0 3 (omega arith) (sym told ∙ ap status_of memory))
  is_refusal k (unasked.Told text) told (inr among) = has_status (fault_of app words) k 0 among (sym told)
  is_refusal k (unasked.Wrong text) told (inl memory) = absurd (apart 2 3 (omega arith) (sym told ∙ ap status_of memory))
  is_refusal k (unasked.Wrong text) told (inr among) = inl (has_status (fault_of app words) k 2 among (sym told))
  is_refusal k unasked.Memory told among = tt

  -- the same where memory may be wanting for the text
  is_refused : {E : Type 0} (k : ErrorKind) (r : Result SweepUnasked E) → IfOk r (IsToldFor k)
      → (k ≡ kind.OutOfMemory) ⊎ IsAmong k (fault_of app words) → IsRefusalBy app P words (result_unwrap_or r unasked.Memory)
  is_refused k (Ok u) told among = is_refusal k u told among
  is_refused k (Err e) told among = tt

  answers_by : (r : Result A SweepUnasked) → fault_of app words ≡ [] → MatchResult r (P (matches_of app words)) (IsNothing (P (matches_of app words)))
      → AnswersBy app P words r
  answers_by (Ok a) taken is = (taken, is)
  answers_by (Err (unasked.Told text)) taken none = absurd none
  answers_by (Err (unasked.Wrong text)) taken none = inr (taken, none)
  answers_by (Err unasked.Memory) taken none = tt

  module _ (built : App) (is : built ≡ app) where
    -- words that `clap` refuses
    pub refuses : {E : Type 0} (k : ErrorKind) (r : Result SweepUnasked E) → is_simple_and_free app ≡ true
        → (is_simple_and_free built ≡ true → (k ≡ kind.OutOfMemory) ⊎ IsAmong k (fault_of built words)) → IfOk r (IsToldFor k)
        → IsRefusalBy app P words (result_unwrap_or r unasked.Memory)
    refuses k r free kinds told =
        let Follows : App → Type 0 = λ a. (is_simple_and_free a ≡ true → (k ≡ kind.OutOfMemory) ⊎ IsAmong k (fault_of a words))
        → IsRefusalBy app P words (result_unwrap_or r unasked.Memory) in
        subst Follows (sym is) (λ h. is_refused k r told (h free)) kinds

    fault_is : is_simple_and_free app ≡ true → (is_simple_and_free built ≡ true → fault_of built words ≡ []) → fault_of app words ≡ []
    fault_is free kinds =
        let Follows : App → Type 0 = λ a. (is_simple_and_free a ≡ true → fault_of a words ≡ []) → fault_of app words ≡ [] in
        subst Follows (sym is) (λ h. h free) kinds

    rows_are : (m : ArgMatches) → is_simple app ≡ true → HasMatchesOf built words m → rows_of (found_of m) ≡ matches_of app words
    rows_are m simple matches =
        let Follows : App → Type 0 = λ a. HasMatchesOf a words m → rows_of (found_of m) ≡ matches_of app words in
        subst Follows (sym is) (λ h. (h simple).0) matches

    -- words that it takes
    pub answers : (m : ArgMatches) (r : Result A SweepUnasked) → is_simple app ≡ true → is_simple_and_free app ≡ true → HasMatchesOf built words m
        → (is_simple_and_free built ≡ true → fault_of built words ≡ [])
        → MatchResult r (P (rows_of (found_of m))) (IsNothing (P (rows_of (found_of m)))) → AnswersBy app P words r
    answers m r simple free matches kinds told =
        answers_by r (fault_is free kinds) (subst (λ rows. MatchResult r (P rows) (IsNothing (P rows))) (rows_are m simple matches) told)

abbrev none : Kinds
none = []

taken : (kinds : Kinds) → kinds ≡ kind.DisplayHelp ∷ [] → kinds ≡ none → ⊥
taken kinds some empty = apart 0 1 (omega arith) (ap length (sym empty ∙ some))

wrong : (kinds : Kinds) → kinds ≡ kind.DisplayHelp ∷ [] → HasStatus kinds 2 → ⊥
wrong kinds is has = go (subst (λ ks. HasStatus ks 2) is has)
  where
    go : HasStatus (kind.DisplayHelp ∷ []) 2 → ⊥
    go (inl two) = apart 0 2 (omega arith) (sym two)
    go (inr more) = more

help_is : (app : App) (words : List Text) → ((rest : List Text) → fault_of app (codes "--help" ∷ rest) ≡ kind.DisplayHelp ∷ [])
    → ((rest : List Text) → fault_of app (codes "-h" ∷ rest) ≡ kind.DisplayHelp ∷ []) → asks_help words ≡ true
    → fault_of app words ≡ kind.DisplayHelp ∷ []
help_is app [] long short help = absurd (false≢true help)
help_is app (word ∷ words) long short help = elim (or_cases (bytes_eq word (codes "--help")) (bytes_eq word (codes "-h")) help) [
  | inl is_long ↦ rw ((bytes_eq-Decides word (codes "--help")).0 is_long) (long words)
  | inr is_short ↦ rw ((bytes_eq-Decides word (codes "-h")).0 is_short) (short words)
]

helped : {A : Type 0} (app : App) (P : List Row → A → Type 0) (words : List Text) (r : Result A SweepUnasked)
    → fault_of app words ≡ kind.DisplayHelp ∷ [] → AnswersBy app P words r → IsErrAnd r (λ u. (exit_status u ≡ 0) ⊎ (u ≡ unasked.Memory))
helped app P words (Ok a) is asks = absurd (taken (fault_of app words) is asks.0)
helped app P words (Err (unasked.Told text)) is refusal = inl refl
helped app P words (Err (unasked.Wrong text)) is (inl two) = absurd (wrong (fault_of app words) is two)
helped app P words (Err (unasked.Wrong text)) is (inr nothing) = absurd (taken (fault_of app words) is nothing.0)
helped app P words (Err unasked.Memory) is refusal = inr refl

-- Words of which the first asks for help get it, where `clap` gives it for that word
pub help_of : {A : Type 0} (app : App) (P : List Row → A → Type 0) (words : List Text) (r : Result A SweepUnasked)
    → ((rest : List Text) → fault_of app (codes "--help" ∷ rest) ≡ kind.DisplayHelp ∷ [])
    → ((rest : List Text) → fault_of app (codes "-h" ∷ rest) ≡ kind.DisplayHelp ∷ []) → asks_help words ≡ true → AnswersBy app P words r
    → IsErrAnd r (λ u. (exit_status u ≡ 0) ⊎ (u ≡ unasked.Memory))
help_of app P words r long short help answered = helped app P words r (help_is app words long short help) answered
