-- What a command reads from files and from standard input, and what it writes.
use Rattle.std.specs.Prelude.{◌≡◌, ◌≢◌, ◌⊎◌, ℕ, ◌<◌, List, [], ◌∷◌, ◌++◌, length, take, Option, None, Some, IfOk, IfErr, Result, Err, if◌then◌else◌}
use Rattle.std.specs.Option.{option_map}
use Rattle.lf_scenario.specs.Limits.{longest}
use Rattle.lf_streams.specs.Files.{Adds, Desk}
use Rattle.lf_tree.specs.Texts.{most_bytes}
use Rattle.lf_words.specs.declared.types.Asked.{Asked}
use Rattle.lf_words.specs.Words.{file_of, is_input, protocol_file, written_to}
use Rattle.leastfault.specs.declared.fault.BytesFault.{BytesFault}
use Rattle.leastfault.specs.declared.fault.BytesFault.TheVariants as faults
use Rattle.leastfault.specs.declared.named.CommandTexts.{CommandTexts}
use Rattle.leastfault.specs.declared.reply.Certified.{Certified}
use Rattle.leastfault.specs.Commands.{certificate_of, tree_file}
use Rattle.leastfault.specs.Engines.{IsFront, OfHeld, tells_read, tells_write}

-- which file is read where a word names it, and standard input, which has no name, where the word is `-`
abbrev pub place_of : List ℕ → Option (List ℕ)
place_of word = if is_input word then None else Some word

-- which files a command reads, where it reads one: that of the protocol, which is a file also where it is `-`, that of the scenario, and that
-- of the certificate that is to be judged
abbrev pub protocol_place : Asked → Option (Option (List ℕ))
protocol_place a = option_map Some (protocol_file a)

abbrev pub scenario_place : Asked → Option (List ℕ)
scenario_place a = place_of (file_of a)

abbrev pub tree_place : Asked → Option (Option (List ℕ))
tree_place a = option_map place_of (tree_file a)

-- a read up to a limit, where there is one
abbrev pub read_of : Option (Option (List ℕ)) → ℕ → List (Option (List ℕ) × ℕ)
read_of None limit = []
read_of (Some name) limit = (name, limit) ∷ []

-- what a command reads, in this order
abbrev pub reads_of : Asked → List (Option (List ℕ) × ℕ)
reads_of a = read_of (protocol_place a) longest ++ ((scenario_place a, longest) ∷ read_of (tree_place a) most_bytes)

-- a certificate that goes into a file
abbrev pub filed_of : Option (List ℕ) → Option (List ℕ) → List (Option (List ℕ) × List ℕ)
filed_of None certificate = []
filed_of (Some file) None = []
filed_of (Some file) (Some certificate) = (Some file, certificate) ∷ []

-- what it writes, in this order: the certificate into the file that is named for it, where there is one, and the reply to standard output
abbrev pub writes_of : Asked → List ℕ → Certified → List (Option (List ℕ) × List ℕ)
writes_of a reply ended = filed_of (written_to a) (certificate_of ended) ++ ((None, reply) ∷ [])

-- what is said of a text that is read, where one is, is true of what the file held: where that isn't known, of some text
abbrev pub OfPlace : (Option (List ℕ) → Option (List ℕ)) → Option (Option (List ℕ)) → (Option (List ℕ) → Type 0) → Type 0
OfPlace holds None Says = Says None
OfPlace holds (Some name) Says = OfHeld (λ text. Says (Some text)) (holds name)

-- and so of the texts that a command reads
abbrev pub OfTexts : Asked → (Option (List ℕ) → Option (List ℕ)) → (Option (List ℕ) → List ℕ → Option (List ℕ) → Type 0) → Type 0
OfTexts a holds Says =
    OfPlace holds (protocol_place a)
    (λ protocol. OfHeld (λ text. OfPlace holds (tree_place a) (Says protocol text)) (holds (scenario_place a)))

-- the bytes are those at the front of what a place holds, where there is one
abbrev pub IsFrontAt : (Option (List ℕ) → Option (List ℕ)) → Option (Option (List ℕ)) → ℕ → Option (List ℕ) → Type 0
IsFrontAt holds None most None = Unit {0}
IsFrontAt holds None most (Some bytes) = ⊥
IsFrontAt holds (Some name) most None = ⊥
IsFrontAt holds (Some name) most (Some bytes) = IsFront most (holds name) bytes

-- and so of the texts that a command reads
abbrev pub AreFronts : Asked → (Option (List ℕ) → Option (List ℕ)) → CommandTexts → Type 0
AreFronts a holds texts =
    IsFrontAt holds (protocol_place a) longest (option_map (λ bytes. bytes.items) texts.protocol)
    × IsFront longest (holds (scenario_place a)) texts.scenario.items
    × IsFrontAt holds (tree_place a) most_bytes (option_map (λ bytes. bytes.items) texts.tree)

-- the first of these were read, and no others
abbrev pub AddsFront : {X : Type 0} → List X → Option (List X) → Option (List X) → Type 0
AddsFront {X = X} items old new = (front : List X) × (rest : List X) × (front ++ rest ≡ items) × Adds front old new

-- the first of these were written, and of the next one a part, from its front and not the whole, or nothing
abbrev pub AddsPart : List (Option (List ℕ) × List ℕ) → Option (List (Option (List ℕ) × List ℕ)) → Option (List (Option (List ℕ) × List ℕ)) → Type 0
AddsPart items old new =
    (front : List (Option (List ℕ) × List ℕ)) × (next : Option (List ℕ) × List ℕ) × (rest : List (Option (List ℕ) × List ℕ))
    × (front ++ (next ∷ rest) ≡ items)
    × (Adds front old new ⊎ ((n : ℕ) × (n < length next.1) × Adds (front ++ ((next.0, take n next.1) ∷ [])) old new))

-- texts were read, and nothing was written: what is said of them, and what was to be read
pub record WereRead {Y : Type 0} (IsOne : Y → Type 0) (items : List (Option (List ℕ) × ℕ)) (old new : Desk) (result : Result Y BytesFault) : Type 0 where
  pub one : IfOk result IsOne
  -- all of it was read, or the first ones until one failed
  pub whole : IfOk result (λ _. Adds items old.reads new.reads)
  pub front : AddsFront items old.reads new.reads
  -- `Read` says that a read failed, and any other fault is `Memory`
  pub source : new.read_failed ≡ tells_read result
  pub fault : IfErr result (λ e. (e ≡ faults.Read) ⊎ (e ≡ faults.Memory))
  pub held : new.holds ≡ old.holds
  pub unwritten : new.writes ≡ old.writes
  pub well : new.write_failed ≡ old.write_failed

-- a reply was written, and behind a certificate where there is one, and nothing was read; or a part of it all was
pub record WasDelivered (items : List (Option (List ℕ) × List ℕ)) (old new : Desk) (result : Result Unit BytesFault) : Type 0 where
  pub whole : IfOk result (λ _. Adds items old.writes new.writes)
  pub part : IfErr result (λ e. (e ≡ faults.Write) × AddsPart items old.writes new.writes)
  pub sink : new.write_failed ≡ tells_write result
  pub unread : new.reads ≡ old.reads
  pub well : new.read_failed ≡ old.read_failed

-- what a command comes to: which replies there are for texts, with what, and for which causes workers give no answer
pub record IsExecuted {X : Type 0} (a : Asked) (IsOne : Option (List ℕ) → List ℕ → Option (List ℕ) → X → Type 0)
    (IsCause : Option (List ℕ) → List ℕ → ℕ → Type 0) (written_of : X → List (Option (List ℕ) × List ℕ)) (old new : Desk)
    (result : Result X BytesFault) : Type 0 where
  -- the texts that the words name were read, each once, and all of them before anything was refused or written
  pub one : IfOk result (λ x. OfTexts a old.holds (λ protocol text certificate. IsOne protocol text certificate x)
      × Adds (reads_of a) old.reads new.reads × Adds (written_of x) old.writes new.writes)
  -- `Write` leaves a part of what there is to write, from its front and not the whole, and any other fault nothing
  pub part : result ≡ Err faults.Write → (x : X) × OfTexts a old.holds (λ protocol text certificate. IsOne protocol text certificate x)
      × Adds (reads_of a) old.reads new.reads × AddsPart (written_of x) old.writes new.writes
  pub unwritten : IfErr result (λ e. e ≢ faults.Write → new.writes ≡ old.writes)
  -- no more than this was read
  pub front : AddsFront (reads_of a) old.reads new.reads
  -- `Read` says that a read failed, and `Write` that a write did
  pub source : new.read_failed ≡ tells_read result
  pub sink : new.write_failed ≡ tells_write result
  -- workers give no answer for a cause
  pub pool : (number : ℕ) → result ≡ Err (faults.Pool number)
      → OfPlace old.holds (protocol_place a) (λ protocol. OfHeld (λ text. IsCause protocol text number) (old.holds (scenario_place a)))
