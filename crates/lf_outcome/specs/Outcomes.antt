-- The words of the outcomes, and which outcomes each protocol has.
use Rattle.std.specs.Prelude.{ℕ, List, [], ◌∷◌, Option, codes, find}
use Rattle.std.specs.Str.{bytes_eq}
use Rattle.lf_protocols.specs.declared.protocol.Kind.{Kind}
use Rattle.lf_protocols.specs.declared.protocol.Kind.TheVariants as kinds
use Rattle.lf_outcome.specs.declared.outcome.Outcome.{Outcome}
use Rattle.lf_outcome.specs.declared.outcome.Outcome.TheVariants.{Delivered, Agreement, Unblocked, OnePrimary, Durable}

abbrev pub outcome_word : Outcome → List ℕ
outcome_word Delivered = codes "delivered"
outcome_word Agreement = codes "agreement"
outcome_word Unblocked = codes "unblocked"
outcome_word OnePrimary = codes "one_primary"
outcome_word Durable = codes "durable"

-- the outcomes of the protocol
abbrev pub outcomes_of : Kind → List Outcome
outcomes_of (kinds.Retry nodes tries) = Delivered ∷ []
outcomes_of (kinds.Redundant nodes tries) = Delivered ∷ []
outcomes_of (kinds.TwoPhase nodes patience votes) = Agreement ∷ Unblocked ∷ []
outcomes_of (kinds.ThreePhase nodes patience votes) = Agreement ∷ Unblocked ∷ []
outcomes_of (kinds.PrimaryBackup nodes patience) = OnePrimary ∷ Durable ∷ []
outcomes_of (kinds.Ruled m) = []

-- the one of them that has the word
abbrev pub outcome_named : Kind → List ℕ → Option Outcome
outcome_named k word = find (λ o. bytes_eq word (outcome_word o)) (outcomes_of k)
