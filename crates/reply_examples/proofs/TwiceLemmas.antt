-- Two replies to what is told of a run.
use Rattle.std.proofs.Common.{◌≡◌, ◌≢◌, ℕ, List, refl}
use Rattle.lf_words.specs.declared.types.Shown.{Shown}
use Rattle.lf_words.specs.declared.types.Shown.TheVariants as shown
use Rattle.leastfault.specs.Shown.{HasOneShown}

-- their statuses are one, and so are their texts, unless they are JSON documents: of these the refusals are
pub shown_agree : (how : Shown) (IsReply : List ℕ → ℕ → Type 0) → HasOneShown how IsReply → (one other : List ℕ) (m n : ℕ) → IsReply one m
    → IsReply other n → (m ≡ n) × (how ≢ shown.Json → one ≡ other) × (m ≡ 2 → one ≡ other)
shown_agree shown.Whole IsReply law one other m n a b = let both = law one other m n a b in (both.1, (λ _. both.0), (λ _. both.0))
shown_agree shown.Rules IsReply law one other m n a b = let both = law one other m n a b in (both.1, (λ _. both.0), (λ _. both.0))
shown_agree shown.Changes IsReply law one other m n a b = let both = law one other m n a b in (both.1, (λ _. both.0), (λ _. both.0))
shown_agree shown.Json IsReply law one other m n a b = let both = law one other m n a b in (both.0, (λ other. absurd (other refl)), both.1)
shown_agree (shown.Beside words) IsReply law one other m n a b = let both = law one other m n a b in (both.1, (λ _. both.0), (λ _. both.0))
