-- What the reader's calls say.
use Rattle.std.specs.Prelude.{◌≡◌, ◌≢◌, ◌<◌, ℕ, Bool, List, Option, Some, None, Result, MatchResult, MatchOption}
use Rattle.std.specs.Borrow.{Bor}
use Rattle.lf_grammar.specs.declared.token.Token.{Token}
use Rattle.lf_grammar.specs.declared.error.Unread.{Unread}
use Rattle.lf_grammar.specs.declared.error.Unread.TheVariants as faults
use Rattle.lf_grammar.specs.Places.{Context}
use Rattle.lf_promises.specs.declared.promise.Promise.{Promise}
use Rattle.lf_promises.specs.Fronts.{Found, found}
use Rattle.lf_promises.specs.Promises.{Next, read, steps}

-- a call gives what comes first, or nothing where nothing does
abbrev pub Begins : {A : Type 0} → Option (Found A) → Option (A × Bor (List Token)) → Type 0
Begins defined result = MatchOption result (defined ≡ None) (λ r. defined ≡ found r.0 r.1.now)

-- a call gives what is defined, or nothing where nothing is; or memory has run out
abbrev pub Gives : {A : Type 0} → Option A → Result A Unread → Type 0
Gives defined result = MatchResult result (λ x. defined ≡ Some x) (λ e. e ≢ faults.Memory → defined ≡ None)

-- a call gives what is defined, and the tokens behind it
abbrev pub Finds : {A : Type 0} → Option (Found A) → Result (A × Bor (List Token)) Unread → Type 0
Finds defined result = MatchResult result (λ r. defined ≡ found r.0 r.1.now) (λ e. e ≢ faults.Memory → defined ≡ None)

-- this is read, however many steps there are, if they are enough
pub record IsRead (at : Context) (timed : Bool) (next : Next) (ts : List Token) (o : Option (Found Promise)) : Type 0 where
  pub runs : (n : ℕ) → steps next ts < n → read at n timed next ts ≡ o

-- a call reads what is to be read
abbrev pub Reads : Context → Bool → Next → List Token → Result (Promise × Bor (List Token)) Unread → Type 0
Reads at timed next ts result =
    MatchResult result (λ r. IsRead at timed next ts (found r.0 r.1.now)) (λ e. e ≢ faults.Memory → IsRead at timed next ts None)
