-- Lists put together.
use Rattle.std.proofs.Common.{◌≡◌, ℕ, ◌+◌, List, ◌++◌, sym, ap, ◌∙◌, append_assoc}
use Rattle.lf_sim.specs.Runs.{each_below}
use Rattle.lf_sim.proofs.Laws.{each_below-add-one}

module _ {A : Type 0} where
  -- two parts
  pub two_parts : (old mid new a b : List A) → mid ≡ old ++ a → new ≡ mid ++ b → new ≡ old ++ (a ++ b)
  two_parts old mid new a b first second = second ∙ ap (λ t. t ++ b) first ∙ append_assoc old a b

  -- three parts
  pub three_parts : (old one two new a b c : List A) → one ≡ old ++ a → two ≡ one ++ b → new ≡ two ++ c → new ≡ old ++ (a ++ b ++ c)
  three_parts old one two new a b c first second third = two_parts old two new (a ++ b) c (two_parts old one two a b first second) third

  -- one part more
  pub more_parts : (old so_far new : List A) (f : ℕ → List A) (n : ℕ) → so_far ≡ old ++ each_below f n → new ≡ so_far ++ f n
      → new ≡ old ++ each_below f (n + 1)
  more_parts old so_far new f n so next =
      next ∙ ap (λ t. t ++ f n) so ∙ append_assoc old (each_below f n) (f n) ∙ ap (λ parts. old ++ parts) (sym (each_below-add-one f n))
