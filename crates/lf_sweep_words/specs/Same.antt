-- What is the same of what is asked for.
use Rattle.std.specs.Prelude.{◌≡◌, ⊤, ℕ, Bool, true, false, List, [], ◌∷◌, Option, None, Some, map, string_bytes}
use Rattle.std.specs.Option.{option_map}
use Rattle.lf_sweep.specs.declared.varied.Place.{Place}
use Rattle.lf_sweep.specs.declared.varied.Place.TheVariants as places
use Rattle.lf_sweep.specs.declared.varied.Varied.{Varied}
use Rattle.lf_sweep.specs.declared.words.Words.{Words}
use Rattle.lf_sweep.specs.declared.words.Words.TheVariants as words
use Rattle.lf_sweep_words.specs.declared.types.SweepAsked.{SweepAsked}

-- whether a constant varies, and the name of it or of a key
abbrev pub place_text : Place → Bool × List ℕ
place_text (places.Key name) = (false, string_bytes name)
place_text (places.Constant name) = (true, string_bytes name)

-- the ends of a range, or the texts of the values
abbrev pub words_text : Words → Option (ℕ × ℕ) × List (List ℕ)
words_text (words.Numbers first last) = (Some (first, last), [])
words_text (words.Listed listed) = (None, map string_bytes listed.items)

-- the same varies and takes the same values
pub record IsSame (v w : Varied) : Type 0 where
  pub place : place_text v.place ≡ place_text w.place
  pub words : words_text v.words ≡ words_text w.words

-- the same, one by one
abbrev pub AreSame : List Varied → List Varied → Type 0
AreSame [] [] = ⊤
AreSame [] (w ∷ ws) = ⊥
AreSame (v ∷ vs) [] = ⊥
AreSame (v ∷ vs) (w ∷ ws) = IsSame v w × AreSame vs ws

-- the same is asked for
pub record IsSameAsked (a b : SweepAsked) : Type 0 where
  pub file : string_bytes a.file ≡ string_bytes b.file
  pub varied : AreSame a.plan.varied.items b.plan.varied.items
  pub by : a.by ≡ b.by
  pub workers : a.workers ≡ b.workers
  pub which : a.part.which ≡ b.part.which
  pub parts : a.part.parts ≡ b.part.parts
  pub json : a.json ≡ b.json
  pub quiet : a.quiet ≡ b.quiet
  pub protocol : option_map (λ name. string_bytes name) a.protocol ≡ option_map (λ name. string_bytes name) b.protocol
