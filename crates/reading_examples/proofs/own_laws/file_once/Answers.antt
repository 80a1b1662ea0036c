use Rattle.std.proofs.Common.{◌≡◌, ◌≢◌, ℕ, true, List, Result, Ok, Err, MatchResult, IfOk, IfErr}
use Rattle.toml.specs.Data.{Members}
use Rattle.lf_protocol_file.specs.declared.error.ProtocolError.{ProtocolError}
use Rattle.lf_protocol_file.specs.declared.error.ProtocolError.TheVariants as refusals
use Rattle.lf_protocol_file.specs.Files.{file_in, IsDocument, IsRefused, IsText}
use Rattle.lf_protocol_file.specs.Numbers.{AreNumbered}
use Rattle.lf_protocol_file.specs.declared.declared.Declared.{Declared}
use Rattle.lf_protocol_file.specs.Written.{is_whole}
use Rattle.reading_examples.proofs.own_laws.file_once.Goals as goal

-- what a reading is
IsReading : List ℕ → Result Declared ProtocolError → Type 0
IsReading text r = MatchResult r (λ file. IsText file text) (λ e. e ≢ refusals.Memory → IsRefused text e)

all_whole : (text : List ℕ) (r : Result Declared ProtocolError)
    → ((ms : Members) (file : Declared) → file_in ms ≡ Ok file → is_whole file ≡ true) → IsReading text r → IfOk r (λ file. is_whole file ≡ true)
unfolding IsReading
all_whole text (Ok file) law is = law is.members file is.said
all_whole text (Err e) law is = tt

all_numbered : (text : List ℕ) (r : Result Declared ProtocolError)
    → ((ms : Members) (file : Declared) → file_in ms ≡ Ok file → AreNumbered ms file) → IsReading text r
    → IfOk r (λ file. (ms : Members) × IsDocument text ms × AreNumbered ms file)
unfolding IsReading
all_numbered text (Ok file) law is = (is.members, is.document, law is.members file is.said)
all_numbered text (Err e) law is = tt

all_one : (text : List ℕ) (r : Result Declared ProtocolError) → ((e f : ProtocolError) → IsRefused text e → IsRefused text f → e ≡ f)
    → IsReading text r → IfErr r (λ e. e ≢ refusals.Memory → (other : ProtocolError) → IsRefused text other → e ≡ other)
unfolding IsReading
all_one text (Ok file) law is = tt
all_one text (Err e) law is = λ fits other refused. law e other (is fits) refused

all_none : (text : List ℕ) (r : Result Declared ProtocolError) → ((e : ProtocolError) (file : Declared) → IsRefused text e → ¬ (IsText file text))
    → IsReading text r → IfErr r (λ e. e ≢ refusals.Memory → (file : Declared) → ¬ (IsText file text))
unfolding IsReading
all_none text (Ok file) law is = tt
all_none text (Err e) law is = λ fits file. law e file (is fits)

pub returns-clause-whole : goal.returns-clause-whole
unfolding IsReading
returns-clause-whole c = all_whole c.args.text.now c.read_protocol.result c.files_are_whole.ensures c.read_protocol.ensures.reading

pub returns-clause-numbered : goal.returns-clause-numbered
unfolding IsReading
returns-clause-numbered c = all_numbered c.args.text.now c.read_protocol.result c.numbers_are_places.ensures c.read_protocol.ensures.reading

pub returns-clause-one : goal.returns-clause-one
unfolding IsReading
returns-clause-one c =
    all_one c.args.text.now c.read_protocol.result (c.refusals_are_one.ensures.one c.args.text.now) c.read_protocol.ensures.reading

pub returns-clause-none : goal.returns-clause-none
unfolding IsReading
returns-clause-none c =
    all_none c.args.text.now c.read_protocol.result (c.refusals_are_one.ensures.none c.args.text.now) c.read_protocol.ensures.reading
