-- The numbers of refusals, and the keys that they name.
use Rattle.std.specs.Prelude.{ℕ, Option, Some, None}
use Rattle.lf_scenario.specs.declared.key.Key.{Key}
use Rattle.lf_scenario.specs.declared.key.Key.TheVariants as keys
use Rattle.lf_scenario.specs.declared.error.ScenarioError.{ScenarioError}
use Rattle.lf_scenario.specs.declared.error.ScenarioError.TheVariants as refusals

abbrev pub number_of : ScenarioError → ℕ
number_of refusals.TooLong = 1
number_of refusals.NoDocument = 2
number_of (refusals.Missing key) = 3
number_of refusals.UnknownKey = 4
number_of (refusals.OtherProtocol key) = 4
number_of refusals.UnknownLinkKey = 4
number_of (refusals.WrongKind key) = 5
number_of (refusals.OutOfRange key) = 6
number_of refusals.Seed = 7
number_of refusals.Link = 8
number_of refusals.Protocol = 9
number_of refusals.Outcome = 10
number_of refusals.Formula = 11
number_of refusals.Memory = 12

-- none where the text as a whole is refused, or for a key that scenarios don't have
abbrev pub key_of : ScenarioError → Option Key
key_of refusals.TooLong = None
key_of refusals.NoDocument = None
key_of (refusals.Missing key) = Some key
key_of refusals.UnknownKey = None
key_of (refusals.OtherProtocol key) = Some key
key_of refusals.UnknownLinkKey = Some keys.Links
key_of (refusals.WrongKind key) = Some key
key_of (refusals.OutOfRange key) = Some key
key_of refusals.Seed = Some keys.Seed
key_of refusals.Link = Some keys.Links
key_of refusals.Protocol = Some keys.Protocol
key_of refusals.Outcome = Some keys.Outcome
key_of refusals.Formula = Some keys.Outcome
key_of refusals.Memory = None
