-- The numbers of refusals, and the places that they name.
use Rattle.std.specs.Prelude.{ℕ, Bool, ◌&&◌, ◌||◌, ◌==◌, nat_le, if◌then◌else◌, codes, List, length, Option, Some, None}
use Rattle.std.specs.List.{list_all}
use Rattle.std.specs.Char.{is_ascii_alphanumeric}
use Rattle.lf_protocol_file.specs.declared.path.Path.{Path}
use Rattle.lf_protocol_file.specs.declared.path.Shown.{Shown}
use Rattle.lf_protocol_file.specs.declared.path.Shown.TheVariants as shapes
use Rattle.lf_protocol_file.specs.declared.fault.Fault.{Fault}
use Rattle.lf_protocol_file.specs.declared.fault.Fault.TheVariants as faults
use Rattle.lf_protocol_file.specs.declared.error.ProtocolError.{ProtocolError}
use Rattle.lf_protocol_file.specs.declared.error.ProtocolError.TheVariants as refusals

abbrev pub number_of : ProtocolError → ℕ
number_of refusals.TooLong = 1
number_of refusals.NoDocument = 2
number_of (refusals.Missing path) = 3
number_of (refusals.Unknown path) = 4
number_of (refusals.WrongKind path) = 5
number_of (refusals.PastLimit path) = 6
number_of (refusals.Unfit path) = 7
number_of refusals.Memory = 8

-- none where the text as a whole is refused
abbrev pub place_of : ProtocolError → Option Path
place_of refusals.TooLong = None
place_of refusals.NoDocument = None
place_of (refusals.Missing path) = Some path
place_of (refusals.Unknown path) = Some path
place_of (refusals.WrongKind path) = Some path
place_of (refusals.PastLimit path) = Some path
place_of (refusals.Unfit path) = Some path
place_of refusals.Memory = None

-- what is wrong with the value at a place
abbrev pub placed : Fault → Path → ProtocolError
placed faults.Missing path = refusals.Missing path
placed faults.WrongKind path = refusals.WrongKind path
placed faults.PastLimit path = refusals.PastLimit path
placed faults.Unfit path = refusals.Unfit path
placed faults.Memory path = refusals.Memory

-- a letter, a digit, _ or -
abbrev pub is_plain_byte : ℕ → Bool
is_plain_byte b = is_ascii_alphanumeric b || (b == 95 || b == 45)

abbrev pub is_plain : List ℕ → Bool
is_plain key = nat_le 1 (length key) && (nat_le (length key) 24 && list_all is_plain_byte key)

abbrev pub shown_text : Shown → List ℕ
shown_text (shapes.Plain key) = key
shown_text shapes.Other = codes "?"

-- how a key is shown
unfoldable pub shown : List ℕ → Shown
shown key = if is_plain key then shapes.Plain key else shapes.Other
