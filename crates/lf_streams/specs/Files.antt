-- What is read from files and from standard input, and written to files and to standard output.
use Rattle.std.specs.Prelude.{◌≡◌, ◌⊎◌, ℕ, ◌+◌, ◌<◌, ◌≤◌, Bool, List, [], ◌∷◌, ◌++◌, length, take, Option, None, Some, IfSome, IfOk, is_err}
use Rattle.std.specs.Prelude.{Vec, Result, MatchResult}
use Rattle.std.specs.Global.{Global}
use Rattle.lf_streams.specs.declared.error.Failed.{Failed}
use Rattle.lf_streams.specs.declared.error.ReadFault.{ReadFault}
use Rattle.lf_streams.specs.declared.files.Place.{Place}
use Rattle.lf_streams.specs.declared.files.Place.TheVariants as places
use Rattle.lf_streams.specs.Faults.{tells_failure}

-- the name of a file, and none for standard input or output
abbrev pub name_of : Place → Option (List ℕ)
name_of places.Standard = None
name_of (places.File name) = Some name.now

-- what is known of files and of standard input and output, by name
pub record Desk : Type 0 where
  -- what can be read there, where that is known
  pub holds : Option (List ℕ) → Option (List ℕ)
  -- what was read so far, from where and up to which limit, where that is known
  pub reads : Option (List (Option (List ℕ) × ℕ))
  -- what was written so far, and where, in this order, where that is known
  pub writes : Option (List (Option (List ℕ) × List ℕ))
  -- whether a read has failed, and whether a write has
  pub read_failed : Bool
  pub write_failed : Bool

-- known items grow by these
abbrev pub Adds : {X : Type 0} → List X → Option (List X) → Option (List X) → Type 0
Adds more old new = IfSome old (λ items. new ≡ Some (items ++ more))

-- a text was read up to the first byte past the limit, and nothing else was done; or the read failed, or memory ran out
pub record Reads (name : Option (List ℕ)) (limit : ℕ) (old new : Desk) (result : Result (Vec ℕ Global) ReadFault) : Type 0 where
  pub text : IfOk result (λ text. IfSome (old.holds name) (λ held. text.items ≡ take (limit + 1) held))
  pub few : IfOk result (λ text. length text.items ≤ limit + 1)
  pub told : MatchResult result (λ _. Adds ((name, limit) ∷ []) old.reads new.reads) (λ _. new.reads ≡ old.reads)
  pub failed : new.read_failed ≡ tells_failure result
  pub held : new.holds ≡ old.holds
  pub unwritten : new.writes ≡ old.writes
  pub well : new.write_failed ≡ old.write_failed

-- a part of the bytes was written, from their front and not the whole; or nothing
abbrev pub WritesPart : Option (List ℕ) → List ℕ → Desk → Desk → Type 0
WritesPart name bytes old new =
    (new.writes ≡ old.writes) ⊎ ((n : ℕ) × (n < length bytes) × Adds ((name, take n bytes) ∷ []) old.writes new.writes)

-- bytes were written and nothing else was done; or the write failed
pub record Writes (name : Option (List ℕ)) (bytes : List ℕ) (old new : Desk) (result : Result Unit Failed) : Type 0 where
  pub told : MatchResult result (λ _. Adds ((name, bytes) ∷ []) old.writes new.writes) (λ _. WritesPart name bytes old new)
  pub failed : new.write_failed ≡ is_err result
  pub unread : new.reads ≡ old.reads
  pub well : new.read_failed ≡ old.read_failed
