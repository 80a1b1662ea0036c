-- The replies to protocol files.
use Rattle.std.specs.Prelude.{◌≡◌, ◌⊎◌, ℕ, List, [], ◌++◌, codes, Option, Some, None}
use Rattle.std.specs.Fmt.{decimal}
use Rattle.lf_protocol_file.specs.declared.error.ProtocolError.{ProtocolError}
use Rattle.lf_protocol_file.specs.declared.path.Path.{Path}
use Rattle.lf_protocol_file.specs.Refusals.{number_of, place_of}
use Rattle.lf_protocol_file.specs.Spellings.{place_text}
use Rattle.lf_protocol_file.specs.declared.declared.Declared.{Declared}
use Rattle.lf_protocol_file.specs.Files.{IsRefused, IsText}
use Rattle.lf_trace.specs.Lines.{line}

-- one space and the place that is refused, where there is one
abbrev pub place_words : Option Path → List ℕ
place_words None = []
place_words (Some path) = codes " " ++ place_text path

-- `refused protocol`, the number of the refusal, and its place
abbrev pub protocol_refusal : ProtocolError → List ℕ
protocol_refusal e = codes "refused protocol " ++ (decimal (number_of e) ++ line (place_words (place_of e)))

-- `ok`
abbrev pub ok_line : List ℕ
ok_line = line (codes "ok")

-- `ok` where the text is a protocol file, with status 0
abbrev pub RepliesOk : List ℕ → List ℕ → ℕ → Type 0
RepliesOk text reply status = (file : Declared) × IsText file text × (reply ≡ ok_line) × (status ≡ 0)

-- the line of the refusal, where the text is refused as that of a protocol file, with status 2
abbrev pub RepliesProtocolRefusal : List ℕ → List ℕ → ℕ → Type 0
RepliesProtocolRefusal text reply status = (e : ProtocolError) × IsRefused text e × (reply ≡ protocol_refusal e) × (status ≡ 2)

-- the reply to the text of a protocol file
abbrev pub IsProtocolReply : List ℕ → List ℕ → ℕ → Type 0
IsProtocolReply text reply status = RepliesOk text reply status ⊎ RepliesProtocolRefusal text reply status
