-- What the reader's calls say.
use Rattle.std.specs.Prelude.{◌≡◌, ◌≢◌, ◌<◌, ℕ, List, Option, Some, None, Result, MatchResult}
use Rattle.std.specs.Borrow.{Bor}
use Rattle.lf_rules.specs.Terms.{term_of}
use Rattle.lf_grammar.specs.declared.token.Token.{Token}
use Rattle.lf_grammar.specs.declared.typed.Typed.{Typed}
use Rattle.lf_grammar.specs.declared.error.Unread.{Unread}
use Rattle.lf_grammar.specs.declared.error.Unread.TheVariants as faults
use Rattle.lf_grammar.specs.Places.{Context}
use Rattle.lf_grammar.specs.Typing.{Said}
use Rattle.lf_grammar.specs.Expressions.{Found, Next, read, steps}

-- what an expression says
abbrev pub said : Typed → Said
said x = record { term = term_of x.tree; sort = x.sort }

abbrev pub said_of : Option Typed → Option Said
said_of None = None
said_of (Some x) = Some (said x)

-- a call gives what is defined, or nothing where nothing is; or memory has run out
abbrev pub Gives : {A B : Type 0} → (A → B) → Option B → Result A Unread → Type 0
Gives view defined result = MatchResult result (λ x. defined ≡ Some (view x)) (λ e. e ≢ faults.Memory → defined ≡ None)

-- what is read, and the tokens behind it
abbrev pub found_by : Typed × Bor (List Token) → Found
found_by r = record { said = said r.0; rest = r.1.now }

abbrev pub Finds : Option Found → Result (Typed × Bor (List Token)) Unread → Type 0
Finds defined result = Gives found_by defined result

-- this is read, however many steps there are, if they are enough
pub record IsRead (at : Context) (next : Next) (ts : List Token) (o : Option Found) : Type 0 where
  pub runs : (n : ℕ) → steps next ts < n → read at n next ts ≡ o

-- a call reads what is to be read
abbrev pub Reads : Context → Next → List Token → Result (Typed × Bor (List Token)) Unread → Type 0
Reads at next ts result = MatchResult result (λ r. IsRead at next ts (Some (found_by r))) (λ e. e ≢ faults.Memory → IsRead at next ts None)
