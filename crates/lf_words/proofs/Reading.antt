-- From what `clap` answers to what words ask for.
use Rattle.std.proofs.Common.{◌≡◌, ◌∙◌, ◌⊎◌, ◌<◌, ℕ, List, [], ◌∷◌, Option, Some, None, inl, inr, refl, sym, ap, subst, true, false, arith}
use Rattle.std.specs.Prelude.{Bool, IfOk, Result, Ok, Err}
use Rattle.std.specs.Result.{result_unwrap_or}
use Rattle.clap.specs.Words.{App, HasKind, HasMatchesOf, IsAmong, Kinds, Row, Text, fault_of, is_simple, is_simple_and_free, subcommand_of, subcommand_rows_of}
use Rattle.clap.specs.declared.error.Error.{Error}
use Rattle.clap.specs.declared.error.kind.ErrorKind.{ErrorKind}
use Rattle.clap.specs.declared.error.kind.ErrorKind.TheVariants as kind
use Rattle.clap.specs.declared.parser.matches.ArgMatches.{ArgMatches}
use Rattle.clap.proofs.OnLiterals.{clap_on_literals}
use Rattle.lf_words.specs.Commands.{program}
use Rattle.lf_words.specs.Statuses.{status_of}
use Rattle.lf_words.specs.Words.{Asks, HasStatus, IsAnswer, IsAskedIn, IsRefusal, IsToldFor, IsUnread}
use Rattle.lf_words.specs.declared.types.Asked.{Asked}
use Rattle.lf_words.specs.declared.unasked.Unasked.{Unasked}
use Rattle.lf_words.specs.declared.unasked.Unasked.TheVariants as unasked

pub apart : (m n : ℕ) → m < n → m ≡ n → ⊥
apart m n less is = absurd (omega arith)

abbrev bit : Bool → ℕ
bit true = 1
bit false = 0

pub no_truth : false ≡ true → ⊥
no_truth h = apart 0 1 (omega arith) (ap bit h)

pub program_is_simple : is_simple program ≡ true
unfolding clap_on_literals
program_is_simple = refl

pub program_is_free : is_simple_and_free program ≡ true
unfolding clap_on_literals
program_is_free = refl

pub has_status : (kinds : Kinds) (k : ErrorKind) (n : ℕ) → IsAmong k kinds → n ≡ status_of k → HasStatus kinds n
has_status [] k n among status = elim among [ ]
has_status (x ∷ xs) k n (inl is) status = inl (status ∙ ap status_of is)
has_status (x ∷ xs) k n (inr later) status = inr (has_status xs k n later status)

-- what is told of a refusal, by its kind
pub is_refusal : (words : List Text) (k : ErrorKind) (u : Unasked) → IsToldFor k u
    → (k ≡ kind.OutOfMemory) ⊎ IsAmong k (fault_of program words) → IsRefusal words u
is_refusal words k (unasked.Told text) told (inl memory) = absurd (apart 0 3 (omega arith) (sym told ∙ ap status_of memory))
is_refusal words k (unasked.Told text) told (inr among) = has_status (fault_of program words) k 0 among (sym told)
is_refusal words k (unasked.Wrong text) told (inl memory) = absurd (apart 2 3 (omega arith) (sym told ∙ ap status_of memory))
is_refusal words k (unasked.Wrong text) told (inr among) = inl (has_status (fault_of program words) k 2 among (sym told))
is_refusal words k (unasked.Workers text) told among = absurd told
is_refusal words k (unasked.Overwrites text) told among = absurd told
is_refusal words k unasked.SharedInput told among = absurd told
is_refusal words k unasked.Memory told among = tt

-- the same where memory may be wanting for the text
pub is_refused : {E : Type 0} (words : List Text) (k : ErrorKind) (r : Result Unasked E) → IfOk r (IsToldFor k)
    → (k ≡ kind.OutOfMemory) ⊎ IsAmong k (fault_of program words) → IsRefusal words (result_unwrap_or r unasked.Memory)
is_refused words k (Ok u) told among = is_refusal words k u told among
is_refused words k (Err e) told among = tt

-- the same of words that are taken and ask for nothing
pub is_unread : (words : List Text) (u : Unasked) → IsUnread (subcommand_of program words) u → fault_of program words ≡ []
    → ((a : Asked) → Asks words a → ⊥) → IsRefusal words u
is_unread words (unasked.Told text) unread taken nothing = absurd unread
is_unread words (unasked.Wrong text) unread taken nothing = inr (inl (taken, nothing, unread))
is_unread words (unasked.Workers text) unread taken nothing = (taken, unread)
is_unread words (unasked.Overwrites text) unread taken nothing = absurd unread
is_unread words unasked.SharedInput unread taken nothing = absurd unread
is_unread words unasked.Memory unread taken nothing = absurd unread

pub fault_is_none : (app : App) (words : List Text) (m : ArgMatches) → app ≡ program
    → (is_simple_and_free app ≡ true → fault_of app words ≡ []) → fault_of program words ≡ []
fault_is_none app words m is kinds =
    let Follows : App → Type 0 = λ a. (is_simple_and_free a ≡ true → fault_of a words ≡ []) → fault_of program words ≡ [] in
    subst Follows (sym is) (λ h. h program_is_free) kinds

pub command_is : (app : App) (words : List Text) (m : ArgMatches) → app ≡ program → HasMatchesOf app words m
    → subcommand_rows_of m ≡ subcommand_of program words
command_is app words m is matches =
    let Follows : App → Type 0 = λ a. HasMatchesOf a words m → subcommand_rows_of m ≡ subcommand_of program words in
    subst Follows (sym is) (λ h. (h program_is_simple).1) matches

pub kinds_are : (app : App) (words : List Text) (e : Error) → app ≡ program
    → (is_simple_and_free app ≡ true → HasKind (fault_of app words) e) → HasKind (fault_of program words) e
kinds_are app words e is kinds =
    let Follows : App → Type 0 = λ a. (is_simple_and_free a ≡ true → HasKind (fault_of a words) e) → HasKind (fault_of program words) e in
    subst Follows (sym is) (λ h. h program_is_free) kinds

pub asks : (words : List Text) (command : Option (Text × List Row)) (o : Option Asked) (a : Asked) → fault_of program words ≡ []
    → command ≡ subcommand_of program words → IsAnswer (IsAskedIn words command) o → o ≡ Some a → Asks words a
asks words command o a fault is answer some =
    (fault, subst (λ x. IsAskedIn words x a) is (subst (λ x. IsAnswer (IsAskedIn words command) x) some answer))

pub asks_nothing : (words : List Text) (command : Option (Text × List Row)) (o : Option Asked) → command ≡ subcommand_of program words
    → IsAnswer (IsAskedIn words command) o → o ≡ None → (a : Asked) → Asks words a → ⊥
asks_nothing words command o is answer none a asked =
    subst (λ x. IsAnswer (IsAskedIn words command) x) none answer a (subst (λ x. IsAskedIn words x a) (sym is) asked.1)
