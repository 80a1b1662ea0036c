-- What varies, as it is read.
use Rattle.std.proofs.Common.{◌≡◌, ◌≢◌, ℕ, ◌<◌, suc, List, [], ◌∷◌, ◌++◌, length, string_bytes, Option, Some, None}
use Rattle.std.proofs.Common.{Result, Ok, Err, Bor, IfErr, refl, sym, ap, subst, ◌∙◌, arith, inl, inr}
use Rattle.std.specs.Prelude.{MatchOption, MatchResult}
use Rattle.std.proofs.lemmas.List.{length-map}
use Rattle.std.proofs.lemmas.Str.Pattern.{IsSplitOnceResult, split_after, split_parts}
use Rattle.lf_sweep.specs.declared.error.VaryError.{VaryError}
use Rattle.lf_sweep.specs.declared.error.VaryError.TheVariants as faults
use Rattle.lf_sweep.specs.declared.varied.Varied.{Varied}
use Rattle.lf_sweep.specs.declared.words.Words.{Words}
use Rattle.lf_sweep.specs.declared.words.Words.TheVariants as words
use Rattle.lf_sweep.specs.Varied.{AreListed, AreNoNumbers, AreNoWords, AreNotListed, AreNumbers, AreWords}
use Rattle.lf_sweep.specs.Varied.{IsCut, IsNoneOf, IsNotVaried, IsPlace, IsRange, IsVaried, Lacks}
use Rattle.lf_sweep.proofs.ListedLemmas.{list_or_none, values_once}

-- `split_once` cuts a text at the first of a byte
pub cut_found : (c : ℕ) (bs : List ℕ) (r : Option (Bor (List ℕ) × Bor (List ℕ))) → c < 128 → IsSplitOnceResult c bs r
    → MatchOption r ((xs ys : List ℕ) → IsCut c bs xs ys → ⊥) (λ x. IsCut c bs x.0.now x.1.now)
cut_found c bs None low h = λ xs ys cut. split_after c bs xs ys None h low cut.joined cut.first
cut_found c bs (Some x) low h = let parts = split_parts c bs (Some x) h low in record { joined = parts.0; first = parts.1 }

heads : (x y : ℕ) (xs ys : List ℕ) → x ∷ xs ≡ y ∷ ys → x ≡ y
heads x y xs ys e = cc

tails : (x y : ℕ) (xs ys : List ℕ) → x ∷ xs ≡ y ∷ ys → xs ≡ ys
tails x y xs ys e = cc

lacks_behind : (c x : ℕ) (xs : List ℕ) → Lacks c (x ∷ xs) → Lacks c xs
lacks_behind c x xs lacks i below = lacks (suc i) (omega (arith, below))

fronts : (c : ℕ) (xs ys back rest : List ℕ) → xs ++ c ∷ back ≡ ys ++ c ∷ rest → Lacks c xs → Lacks c ys → (xs ≡ ys) × (back ≡ rest)
fronts c [] [] back rest same left right = (refl, tails c c back rest same)
fronts c [] (y ∷ ys) back rest same left right = absurd (right 0 (omega arith) (sym (heads c y back (ys ++ c ∷ rest) same)))
fronts c (x ∷ xs) [] back rest same left right = absurd (left 0 (omega arith) (heads x c (xs ++ c ∷ back) rest same))
fronts c (x ∷ xs) (y ∷ ys) back rest same left right =
    let more = fronts c xs ys back rest (tails x y (xs ++ c ∷ back) (ys ++ c ∷ rest) same) (lacks_behind c x xs left) (lacks_behind c y ys right) in
    let first = heads x y (xs ++ c ∷ back) (ys ++ c ∷ rest) same in
    (rw (first, more.0) refl, more.1)

-- a text is cut at one place
pub cut_once : (c : ℕ) (bs xs back ys rest : List ℕ) → IsCut c bs xs back → IsCut c bs ys rest → (xs ≡ ys) × (back ≡ rest)
cut_once c bs xs back ys rest a b = fronts c xs ys back rest (sym a.joined ∙ b.joined) a.first b.first

-- what varies, where the text is cut
pub varied_by_cut : (text name values : List ℕ) → IsCut 61 text name values → (r : Result Varied VaryError)
    → MatchResult r (λ v. IsPlace name v.place × AreWords values v.words) (IsNoneOf name values)
    → MatchResult r (IsVaried text) (IsNotVaried text)
varied_by_cut text name values cut (Ok v) h = record { name = name; values = values; cut = cut; place = h.0; words = h.1 }
varied_by_cut text name values cut (Err e) h = inr (name, values, cut, h)

-- a range has one pair of ends
range_once : (text first last ahead behind : List ℕ) → IsRange text first last → IsRange text ahead behind → (first ≡ ahead) × (last ≡ behind)
range_once text first last ahead behind a b =
    let same = cut_once 46 text first (46 ∷ last) ahead (46 ∷ behind) a.0 b.0 in
    (same.0, tails 46 46 last behind same.1)

numbers_or_none : (first last : List ℕ) (e : VaryError) (w : Words) → AreNoNumbers first last e → AreNumbers first last w → ⊥
numbers_or_none first last e (words.Listed listed) none are = are
numbers_or_none first last faults.NoPair (words.Numbers n m) none are = none
numbers_or_none first last faults.NoPlace (words.Numbers n m) none are = none
numbers_or_none first last faults.NoRange (words.Numbers n m) none are = absurd (omega (arith, none n m are.0 are.1, are.2))
numbers_or_none first last (faults.NoValue k) (words.Numbers n m) none are = none
numbers_or_none first last (faults.Unread k) (words.Numbers n m) none are = none
numbers_or_none first last (faults.Marked k) (words.Numbers n m) none are = none
numbers_or_none first last faults.TooMany (words.Numbers n m) none are =
    let same : none.0 ≡ n = sym none.2.1 ∙ are.0.1 in
    let same_too : none.1 ≡ m = sym none.3.1 ∙ are.1.1 in
    absurd (omega (arith, none.4, are.3, same, same_too))
numbers_or_none first last faults.Memory (words.Numbers n m) none are = none

listed_or_not : (text : List ℕ) (e : VaryError) (w : Words) → e ≢ faults.Memory → AreNotListed text e → AreListed text w → ⊥
listed_or_not text e (words.Numbers n m) other none are = are
listed_or_not text e (words.Listed listed) other (inl none) are = list_or_none text _ e other are.0 none
listed_or_not text e (words.Listed listed) other (inr many) are =
    let same = ap length (values_once text many.1 _ many.2 are.0) in
    absurd (omega (arith, many.3, are.1, same, length-map listed.items string_bytes))

words_or_none : (text : List ℕ) (e : VaryError) (w : Words) → e ≢ faults.Memory → AreNoWords text e → AreWords text w → ⊥
words_or_none text e w other (inl none) (inl are) =
    let same = range_once text none.0 none.1 are.0 are.1 none.2 are.2 in
    numbers_or_none none.0 none.1 e w none.3
    (subst (λ l. AreNumbers none.0 l w) (sym same.1) (subst (λ f. AreNumbers f are.1 w) (sym same.0) are.3))
words_or_none text e w other (inl none) (inr are) = are.0 none.0 none.1 none.2
words_or_none text e w other (inr none) (inl are) = none.0 are.0 are.1 are.2
words_or_none text e w other (inr none) (inr are) = listed_or_not text e w other none.1 are.1

none_of : (name values : List ℕ) (e : VaryError) (v : Varied) → e ≢ faults.Memory → IsNoneOf name values e → IsPlace name v.place
    → AreWords values v.words → ⊥
none_of name values e v other (inl (inl none)) place are = none.1 v.place place
none_of name values e v other (inl (inr memory)) place are = other memory
none_of name values e v other (inr none) place are = words_or_none values e v.words other none.1 are

not_varied : (text : List ℕ) (e : VaryError) (v : Varied) → e ≢ faults.Memory → IsNotVaried text e → IsVaried text v → ⊥
not_varied text e v other (inl lacks) is = lacks.1 is.name is.values is.cut
not_varied text e v other (inr none) is =
    let same = cut_once 61 text is.name is.values none.0 none.1 is.cut none.2 in
    none_of none.0 none.1 e v other none.3 (subst (λ n. IsPlace n v.place) same.0 is.place) (subst (λ vs. AreWords vs v.words) same.1 is.words)

-- a text that is refused says nothing
pub none_varied : (text : List ℕ) (r : Result Varied VaryError) → MatchResult r (IsVaried text) (IsNotVaried text)
    → IfErr r (λ e. e ≢ faults.Memory → (v : Varied) → IsVaried text v → ⊥)
none_varied text (Ok v) h = tt
none_varied text (Err e) h = λ other v is. not_varied text e v other h is
