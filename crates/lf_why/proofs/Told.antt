-- Texts put together.
use Rattle.std.proofs.Common.{◌≡◌, ℕ, ◌+◌, List, ◌++◌, sym, ap, ◌∙◌, append_assoc}
use Rattle.lf_sim.specs.Runs.{each_below}
use Rattle.lf_sim.proofs.Laws.{each_below-add-one}

-- two parts
pub two_told : (old mid new a b : List ℕ) → mid ≡ old ++ a → new ≡ mid ++ b → new ≡ old ++ (a ++ b)
two_told old mid new a b first second = second ∙ ap (λ t. t ++ b) first ∙ append_assoc old a b

-- three
pub three_told : (old one two new a b c : List ℕ) → one ≡ old ++ a → two ≡ one ++ b → new ≡ two ++ c → new ≡ old ++ (a ++ (b ++ c))
three_told old one two new a b c first second third =
    two_told old one new a (b ++ c) first (two_told one two new b c second third)

-- one more of several
pub more_below : (text new : List ℕ) (f : ℕ → List ℕ) (n : ℕ) → text ≡ each_below f n → new ≡ text ++ f n → new ≡ each_below f (n + 1)
more_below text new f n so next = next ∙ ap (λ t. t ++ f n) so ∙ sym (each_below-add-one f n)

pub more_behind : (old text new : List ℕ) (f : ℕ → List ℕ) (n : ℕ) → text ≡ old ++ each_below f n → new ≡ text ++ f n → new ≡ old ++ each_below f (n + 1)
more_behind old text new f n so next =
    next ∙ ap (λ t. t ++ f n) so ∙ append_assoc old (each_below f n) (f n) ∙ ap (λ lines. old ++ lines) (sym (each_below-add-one f n))
