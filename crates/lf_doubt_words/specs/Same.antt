-- What is the same of what is asked for.
use Rattle.std.specs.Prelude.{◌≡◌, string_bytes}
use Rattle.std.specs.Option.{option_map}
use Rattle.lf_doubt_words.specs.declared.types.DoubtAsked.{DoubtAsked}

-- the same is asked for
pub record IsSameAsked (a b : DoubtAsked) : Type 0 where
  pub file : string_bytes a.file ≡ string_bytes b.file
  pub protocol : option_map (λ name. string_bytes name) a.protocol ≡ option_map (λ name. string_bytes name) b.protocol
  pub deep : a.deep ≡ b.deep
  pub seconds : a.seconds ≡ b.seconds
  pub workers : a.workers ≡ b.workers
  pub which : a.part.which ≡ b.part.which
  pub parts : a.part.parts ≡ b.part.parts
  pub json : a.json ≡ b.json
  pub quiet : a.quiet ≡ b.quiet
