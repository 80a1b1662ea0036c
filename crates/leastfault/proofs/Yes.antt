-- What the lines of a check say.
use Rattle.std.proofs.Common.{◌≡◌, ℕ, ◌<◌, Bool, true, false, not, List, [], ◌∷◌, refl, sym, ap, inl, inr, arith}
use Rattle.std.specs.Prelude.{Option, None, Some}
use Rattle.std.proofs.lemmas.Bool.{both_ways}
use Rattle.lf_faults.specs.declared.fault.Parts.{Parts}
use Rattle.lf_faults.specs.Allowed.{IsFirst}
use Rattle.lf_faults.specs.Faults.{set_is_before}
use Rattle.lf_faults.specs.declared.spec.Bounds.{Bounds}
use Rattle.lf_faults.proofs.Laws.{fewer-before}
use Rattle.lf_sim.specs.Settings.{world_of}
use Rattle.lf_certificate.proofs.Laws.{answer_is}
use Rattle.lf_plain.specs.Fewest.{IsFewest}
use Rattle.lf_outcome.specs.declared.scenario.Scenario.{Scenario}
use Rattle.lf_protocol_file.specs.declared.declared.Declared.{Declared}
use Rattle.lf_tree.specs.declared.tree.Tree.{Tree}
use Rattle.leastfault.specs.Answers.{IsAnswer, IsLeast, reaches_in}
use Rattle.leastfault.specs.Known.{IsTextOf}
use Rattle.leastfault.specs.Replies.{IsCheckReply, IsTreeText, RepliesCheck, RepliesVerdict}
use Rattle.leastfault.specs.Reports.{yes_line}
use Rattle.leastfault.proofs.Limits.{text_is_bounded}

-- the first set that misses is one of the fewest
module _ (b : Bounds) (reaching : List Parts → Bool) where
  reaches_where : (faults : List Parts) (t : Bool) → reaching faults ≡ t → (not t ≡ true → ⊥) → reaching faults ≡ true
  reaches_where faults true is misses_not = is
  reaches_where faults false is misses_not = absurd (misses_not refl)

  misses_not_true : (faults : List Parts) (t : Bool) → reaching faults ≡ t → not t ≡ true → reaching faults ≡ false
  misses_not_true faults true is misses = absurd (both_ways false refl misses)
  misses_not_true faults false is misses = is

  pub fewest : (answer : Option (List Parts)) → IsFirst b (λ faults. not (reaching faults)) answer → IsFewest b reaching answer
  fewest None first =
      λ other allowed. reaches_where other (reaching other) refl (λ misses. both_ways (not (reaching other)) (first other allowed) misses)
  fewest (Some found) first = (
    first.0,
    misses_not_true found (reaching found) refl first.1,
    λ other allowed fewer. reaches_where other (reaching other) refl
        (λ misses. both_ways (set_is_before other found) (first.2 other allowed misses) (fewer-before other found fewer)),
  )

apart : (m n : ℕ) → m < n → m ≡ n → ⊥
apart m n less is = absurd (omega arith)

-- the lines of replies differ in their first letters
abbrev head : List ℕ → ℕ
head [] = 0
head (x ∷ rest) = x

-- a scenario and a tree whose texts these are, and the tree's answer is the answer to the scenario
abbrev HasAnswer : Option Declared → List ℕ → List ℕ → Type 0
HasAnswer known text certificate =
    (s : Scenario) × (tree : Tree) × IsTextOf known s text × IsTreeText tree certificate × IsAnswer s tree.answer × IsLeast s tree.answer

module _ (known : Option Declared) (text certificate : List ℕ) (s : Scenario) (reads : IsTextOf known s text) where
  yes_of_verdict : (tree : Tree) (status : ℕ) → IsTreeText tree certificate
      → RepliesVerdict (world_of s.setting) s.setting.spec s.formula tree yes_line status → HasAnswer known text certificate
  yes_of_verdict tree status is (inl right) =
      let answer = answer_is (world_of s.setting) s.setting.spec s.formula tree (text_is_bounded known s text reads) right.0 in
      (s, tree, reads, is, answer, fewest s.setting.spec (reaches_in s) tree.answer answer)
  yes_of_verdict tree status is (inr wrong) = absurd (apart 110 121 (omega arith) (sym (ap head wrong.3)))

  yes_of_check : (status : ℕ) → RepliesCheck s certificate yes_line status → HasAnswer known text certificate
  yes_of_check status (inl refusal) = absurd (apart 114 121 (omega arith) (sym (ap head refusal.2)))
  yes_of_check status (inr given) = yes_of_verdict given.0 status given.1 given.2

pub yes_is_answer : (known : Option Declared) (text certificate : List ℕ) (status : ℕ) → IsCheckReply known text certificate yes_line status
    → HasAnswer known text certificate
yes_is_answer known text certificate status (inl refusal) = absurd (apart 114 121 (omega arith) (sym (ap head refusal.2)))
yes_is_answer known text certificate status (inr found) = yes_of_check known text certificate found.0 found.1 status found.2

module _ (certificate reply : List ℕ) (s : Scenario) where
  yes_of_zero_verdict : (tree : Tree) → RepliesVerdict (world_of s.setting) s.setting.spec s.formula tree reply 0 → reply ≡ yes_line
  yes_of_zero_verdict tree (inl right) = right.1
  yes_of_zero_verdict tree (inr wrong) = absurd (apart 0 1 (omega arith) wrong.4)

  yes_of_zero_check : RepliesCheck s certificate reply 0 → reply ≡ yes_line
  yes_of_zero_check (inl refusal) = absurd (apart 0 2 (omega arith) refusal.3)
  yes_of_zero_check (inr given) = yes_of_zero_verdict given.0 given.2

pub zero_is_yes : (known : Option Declared) (text certificate reply : List ℕ) → IsCheckReply known text certificate reply 0 → reply ≡ yes_line
zero_is_yes known text certificate reply (inl refusal) = absurd (apart 0 2 (omega arith) refusal.3)
zero_is_yes known text certificate reply (inr found) = yes_of_zero_check certificate reply found.0 found.2
