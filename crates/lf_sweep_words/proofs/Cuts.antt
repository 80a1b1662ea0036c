-- Texts that are cut in two.
use Rattle.std.proofs.Common.{◌≡◌, ◌∙◌, ℕ, ◌<◌, suc, List, [], ◌∷◌, ◌++◌, Option, Some, None, Bor, refl, sym, subst, arith}
use Rattle.std.specs.Prelude.{MatchOption}
use Rattle.std.proofs.lemmas.Str.Pattern.{IsSplitOnceResult, split_after, split_parts}
use Rattle.clap.specs.Words.{Text}
use Rattle.lf_sweep.specs.declared.part.Part.{Part}
use Rattle.lf_sweep.specs.Varied.{IsCut, Lacks}
use Rattle.lf_sweep_words.specs.Words.{IsPart, IsPartBy}

-- `split_once` cuts a text at the first of a byte
pub cut_found : (c : ℕ) (bs : List ℕ) (r : Option (Bor (List ℕ) × Bor (List ℕ))) → c < 128 → IsSplitOnceResult c bs r
    → MatchOption r ((xs ys : List ℕ) → IsCut c bs xs ys → ⊥) (λ x. IsCut c bs x.0.now x.1.now)
cut_found c bs None low h = λ xs ys cut. split_after c bs xs ys None h low cut.joined cut.first
cut_found c bs (Some x) low h = let parts = split_parts c bs (Some x) h low in record { joined = parts.0; first = parts.1 }

heads : (x y : ℕ) (xs ys : List ℕ) → x ∷ xs ≡ y ∷ ys → x ≡ y
heads x y xs ys e = cc

pub tails : (x y : ℕ) (xs ys : List ℕ) → x ∷ xs ≡ y ∷ ys → xs ≡ ys
tails x y xs ys e = cc

lacks_behind : (c x : ℕ) (xs : List ℕ) → Lacks c (x ∷ xs) → Lacks c xs
lacks_behind c x xs lacks i below = lacks (suc i) (omega (arith, below))

fronts : (c : ℕ) (xs ys back rest : List ℕ) → xs ++ c ∷ back ≡ ys ++ c ∷ rest → Lacks c xs → Lacks c ys → (xs ≡ ys) × (back ≡ rest)
fronts c [] [] back rest same left right = (refl, tails c c back rest same)
fronts c [] (y ∷ ys) back rest same left right = absurd (right 0 (omega arith) (sym (heads c y back (ys ++ c ∷ rest) same)))
fronts c (x ∷ xs) [] back rest same left right = absurd (left 0 (omega arith) (heads x c (xs ++ c ∷ back) rest same))
fronts c (x ∷ xs) (y ∷ ys) back rest same left right =
    let more = fronts c xs ys back rest (tails x y (xs ++ c ∷ back) (ys ++ c ∷ rest) same) (lacks_behind c x xs left) (lacks_behind c y ys right) in
    let first = heads x y (xs ++ c ∷ back) (ys ++ c ∷ rest) same in
    (rw (first, more.0) refl, more.1)

-- a text is cut at one place
pub cut_once : (c : ℕ) (bs xs back ys rest : List ℕ) → IsCut c bs xs back → IsCut c bs ys rest → (xs ≡ ys) × (back ≡ rest)
cut_once c bs xs back ys rest a b = fronts c xs ys back rest (sym a.joined ∙ b.joined) a.first b.first

-- a part that is written, where the text is cut
pub part_cut : (text which parts : Text) (r : Option Part) → IsCut 47 text which parts
    → MatchOption r ((part : Part) → ¬ IsPartBy which parts part) (IsPartBy which parts)
    → MatchOption r ((part : Part) → ¬ IsPart (Some text) part) (IsPart (Some text))
part_cut text which parts None cut none = λ part is.
    let same = cut_once 47 text is.0 is.1 which parts is.2 cut in
    none part (subst (λ w. IsPartBy w parts part) same.0 (subst (λ p. IsPartBy is.0 p part) same.1 is.3))
part_cut text which parts (Some part) cut is = (which, parts, cut, is)
