-- Lists of paths.
use Rattle.std.proofs.Common.{◌≡◌, ℕ, ◌+◌, List, [], ◌∷◌, length, sym, ◌∙◌, subst, inl, inr, arith}
use Rattle.std.specs.Prelude.{◌⊎◌}
use Rattle.std.specs.List.{Contains}
use Rattle.lf_list.proofs.Laws.{none-in, Contains-first, Contains-more, cases_in}

-- a list without one of its paths
pub record Rest (ps : List (List ℕ)) (p : List ℕ) : Type 0 where
  pub rest : List (List ℕ)
  pub kept : (q : List ℕ) → Contains ps q → (q ≡ p) ⊎ Contains rest q
  pub count : length rest + 1 ≡ length ps

pub without : (ps : List (List ℕ)) (p : List ℕ) → Contains ps p → Rest ps p
without [] p h = absurd (none-in p h)
without (x ∷ xs) p h = elim (cases_in x xs p h) [
  | inl same ↦ record {
    rest = xs;
    kept = λ q k. elim (cases_in x xs q k) [ inl is ↦ inl (sym is ∙ same) | inr later ↦ inr later ];
    count = omega arith;
  }
  | inr later ↦
      let r = without xs p later in record {
        rest = x ∷ r.rest;
        kept = λ q k. elim (cases_in x xs q k) [
          | inl is ↦ inr (subst (λ z. Contains (x ∷ r.rest) z) is (Contains-first x r.rest))
          | inr k' ↦ elim (r.kept q k') [ inl is ↦ inl is | inr k'' ↦ inr (Contains-more x r.rest q k'') ]
        ];
        count = omega (arith, r.count);
      }
]
