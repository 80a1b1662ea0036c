-- What a unit of a promise begins with.
use Rattle.std.specs.Prelude.{ℕ, not, nat_lt, List, ◌∷◌, Option, Some, None, codes, if◌then◌else◌}
use Rattle.lf_rules.specs.declared.definition.Definition.{Definition}
use Rattle.lf_rule_machine.specs.declared.fact.Fact.{Fact}
use Rattle.lf_naming.specs.Facts.{fact_named}
use Rattle.lf_grammar.specs.declared.token.Token.{Token}
use Rattle.lf_grammar.specs.declared.token.Token.TheVariants as tokens
use Rattle.lf_grammar.specs.Typing.{◌>>=◌}
use Rattle.lf_grammar.specs.Fronts.{behind_word}
use Rattle.lf_grammar.specs.Expressions.{cases_of}
use Rattle.lf_promises.specs.declared.fronts.Time.{Time}
use Rattle.lf_promises.specs.declared.fronts.Time.TheVariants as times
use Rattle.lf_promises.specs.declared.promise.Many.{Many}
use Rattle.lf_promises.specs.declared.promise.Many.TheVariants as manys

-- what is read, and the tokens behind it
pub record Found (A : Type 0) : Type 0 where
  pub value : A
  pub rest : List Token

abbrev pub found : {A : Type 0} → A → List Token → Option (Found A)
found value rest = Some (record { value = value; rest = rest })

-- the word for the steps of which a unit speaks
unfoldable pub behind_time : List Token → Option (Found Time)
behind_time ts =
    cases_of (behind_word (codes "always") ts) (behind_word (codes "ever") ts >>= λ after. found times.Ever after) (λ after. found times.Always after)

unfoldable pub behind_at_most_one : List Token → Option (List Token)
behind_at_most_one ts = behind_word (codes "at") ts >>= λ most. behind_word (codes "most") most >>= λ single. behind_word (codes "one") single

-- the words for how many nodes are to show a fact
unfoldable pub behind_many : List Token → Option (Found Many)
behind_many ts =
    cases_of (behind_word (codes "each") ts)
    (cases_of (behind_word (codes "no") ts)
    (cases_of (behind_word (codes "some") ts)
    (behind_at_most_one ts >>= λ after. found manys.AtMostOne after)
    (λ after. found manys.Some after))
    (λ after. found manys.No after))
    (λ after. found manys.Each after)

-- the words for one value of something. A fact may be named `one`, too
unfoldable pub behind_one_value : List Token → Option (List Token)
behind_one_value ts = behind_word (codes "one") ts >>= λ after. behind_word (codes "value") after

-- the number of a node
unfoldable pub first_node : List Token → Option (Found ℕ)
first_node (tokens.Number n ∷ rest) = if nat_lt n 8 then found n rest else None
first_node other = None

-- the fact that a word names
unfoldable pub fact_of : Definition → List ℕ → Option Fact
fact_of d word = fact_named d word

unfoldable pub first_named : Definition → List Token → Option (Found Fact)
first_named d (tokens.Word word ∷ rest) = fact_of d word >>= λ fact. found fact rest
first_named d other = None

abbrev pub opposite : Fact → Fact
opposite fact = record { told = fact.told; denied = not fact.denied }

-- a fact, or the opposite of one behind `not`
unfoldable pub first_fact : Definition → List Token → Option (Found Fact)
first_fact d ts = cases_of (behind_word (codes "not") ts) (first_named d ts) (λ after. first_named d after >>= λ x. found (opposite x.value) x.rest)
