-- Readers of one value. Each takes the key that a refusal names.
use Rattle.std.specs.Prelude.{ℕ, pos, negsuc, Bool, true, false, ◌&&◌, nat_le, if◌then◌else◌, List, Option, Some, None, Result, Ok, Err}
use Rattle.hex.specs.Hex.{decode_sized}
use Rattle.hex.specs.declared.error.FromHexError.{FromHexError}
use Rattle.toml.specs.Data.{Data, string, integer, Members, no_members, member, get_member}
use Rattle.lf_scenario.specs.Keys.{key_name, is_key_name}
use Rattle.lf_scenario.specs.declared.key.Key.{Key}
use Rattle.lf_scenario.specs.declared.error.ScenarioError.{ScenarioError}
use Rattle.lf_scenario.specs.declared.error.ScenarioError.TheVariants as refusals

-- what a reading gives: a value, or the refusal
abbrev pub Reading : Type 0 → Type 0
Reading A = Result A ScenarioError

-- the next step, where this one wasn't refused
infixl 10 ◌>>=◌
abbrev pub ◌>>=◌ : {A B : Type 0} → Reading A → (A → Reading B) → Reading B
Ok x >>= next = next x
Err e >>= next = Err e

-- a whole number from low to high
abbrev pub whole : ℕ → ℕ → Key → Data → Reading ℕ
whole low high key (integer (pos n)) = if nat_le low n && nat_le n high then Ok n else Err (refusals.OutOfRange key)
whole low high key (integer (negsuc n)) = Err (refusals.OutOfRange key)
whole low high key _ = Err (refusals.WrongKind key)

-- the bytes of 64 hexadecimal digits: byte i is that of the digits 2i and 2i + 1
abbrev pub seed_bytes : Result (List ℕ) FromHexError → Reading (List ℕ)
seed_bytes (Ok bytes) = Ok bytes
seed_bytes (Err e) = Err refusals.Seed

-- a text of 64 hexadecimal digits of either case
abbrev pub seed_in : Key → Data → Reading (List ℕ)
seed_in key (string text) = seed_bytes (decode_sized text 32)
seed_in key _ = Err (refusals.WrongKind key)

-- whether each key is one of a scenario's
abbrev pub all_known : Members → Bool
all_known no_members = true
all_known (member name d ms) = is_key_name name && all_known ms

-- the value of a key, where there is one, and else what stands for it
abbrev pub found_or : {A : Type 0} → Reading A → (Data → Reading A) → Option Data → Reading A
found_or missing read None = missing
found_or missing read (Some d) = read d

-- a key that has to be there
unfoldable pub required : {A : Type 0} → Members → Key → (Key → Data → Reading A) → Reading A
required ms key read = found_or (Err (refusals.Missing key)) (read key) (get_member (key_name key) ms)

-- a key that may be missing
unfoldable pub optional : {A : Type 0} → Members → Key → (Key → Data → Reading A) → A → Reading A
optional ms key read default = found_or (Ok default) (read key) (get_member (key_name key) ms)

-- a key that this protocol doesn't have: nothing stands for its value
unfoldable pub foreign : {A : Type 0} → Members → Key → A → Reading A
foreign ms key nothing = found_or (Ok nothing) (λ d. Err (refusals.OtherProtocol key)) (get_member (key_name key) ms)

-- a key of some protocols, which is required where the protocol has it
abbrev pub owned : {A : Type 0} → Bool → Members → Key → (Key → Data → Reading A) → A → Reading A
owned true ms key read nothing = required ms key read
owned false ms key read nothing = foreign ms key nothing

-- a key of some protocols, which may be missing where the protocol has it
abbrev pub chosen : {A : Type 0} → Bool → Members → Key → (Key → Data → Reading A) → A → Reading A
chosen true ms key read default = optional ms key read default
chosen false ms key read default = foreign ms key default

-- each key is one of a scenario's
unfoldable pub known : Members → Reading (Unit {0})
known ms = if all_known ms then Ok tt else Err refusals.UnknownKey
