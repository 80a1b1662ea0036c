-- A text says one thing that varies.
use Rattle.std.proofs.Common.{◌≡◌, ◌∙◌, ℕ, ◌<◌, List, [], ◌∷◌, refl, sym, ap, subst, true, false}
use Rattle.std.proofs.Common.{codes, inl, inr, map, length, string_bytes, Option, Some, None}
use Rattle.std.specs.Prelude.{Bool, ◌||◌, ◌+◌, ◌-◌, if◌then◌else◌}
use Rattle.std.specs.List.{list_any}
use Rattle.std.specs.Str.{bytes_eq}
use Rattle.std.proofs.lemmas.List.{length-map}
use Rattle.lf_sweep.specs.declared.error.PlanError.{PlanError}
use Rattle.lf_sweep.specs.declared.error.PlanError.TheVariants as faults
use Rattle.lf_sweep.specs.declared.varied.Place.{Place}
use Rattle.lf_sweep.specs.declared.varied.Place.TheVariants as places
use Rattle.lf_sweep.specs.declared.varied.Varied.{Varied}
use Rattle.lf_sweep.specs.declared.words.Words.{Words}
use Rattle.lf_sweep.specs.declared.words.Words.TheVariants as words
use Rattle.lf_sweep.specs.Apart.{HaveNoPlan, clash, is_under, some_clash}
use Rattle.lf_sweep.specs.Combinations.{combinations}
use Rattle.lf_sweep.specs.Limits.{most_combinations}
use Rattle.lf_sweep_words.specs.Same.{AreSame, IsSame, place_text, words_text}
use Rattle.lf_sweep.specs.Varied.{AreListed, AreNumbers, AreWords, IsPlace, IsRange, IsVaried}
use Rattle.lf_sweep.specs.Words.{count_of}
use Rattle.lf_sweep_words.specs.Words.{AreVaried}
use Rattle.lf_sweep_words.proofs.Cuts.{cut_once, tails}
use Rattle.lf_sweep_words.proofs.Lists.{values_once}

place_once : (text : List ℕ) (p q : Place) → IsPlace text p → IsPlace text q → place_text p ≡ place_text q
place_once text (places.Key one) (places.Key other) a b = ap (λ (t : List ℕ). (false, t)) (sym a.0 ∙ b.0)
place_once text (places.Key one) (places.Constant other) a b = absurd (a.2 (string_bytes other) b.0)
place_once text (places.Constant one) (places.Key other) a b = absurd (b.2 (string_bytes one) a.0)
place_once text (places.Constant one) (places.Constant other) a b =
    ap (λ (t : List ℕ). (true, t)) (cut_once 46 text (codes "given") (string_bytes one) (codes "given") (string_bytes other) a.0 b.0).1

-- a range has one pair of ends
range_once : (text first last ahead behind : List ℕ) → IsRange text first last → IsRange text ahead behind → (first ≡ ahead) × (last ≡ behind)
range_once text first last ahead behind a b =
    let same = cut_once 46 text first (46 ∷ last) ahead (46 ∷ behind) a.0 b.0 in
    (same.0, tails 46 46 last behind same.1)

numbers_once : (first last : List ℕ) (a b : Words) → AreNumbers first last a → AreNumbers first last b → words_text a ≡ words_text b
numbers_once first last (words.Listed one) b is is_too = absurd is
numbers_once first last (words.Numbers n m) (words.Listed other) is is_too = absurd is_too
numbers_once first last (words.Numbers n m) (words.Numbers k l) is is_too =
    let least : n ≡ k = sym is.0.1 ∙ is_too.0.1 in
    let most : m ≡ l = sym is.1.1 ∙ is_too.1.1 in
    rw (least, most) refl

listed_once : (text : List ℕ) (a b : Words) → AreListed text a → AreListed text b → words_text a ≡ words_text b
listed_once text (words.Numbers n m) b is is_too = absurd is
listed_once text (words.Listed one) (words.Numbers n m) is is_too = absurd is_too
listed_once text (words.Listed one) (words.Listed other) is is_too =
    rw (values_once text (map string_bytes one.items) (map string_bytes other.items) is.0 is_too.0) refl

words_once : (text : List ℕ) (a b : Words) → AreWords text a → AreWords text b → words_text a ≡ words_text b
words_once text a b (inl is) (inl is_too) =
    let same = range_once text is.0 is.1 is_too.0 is_too.1 is.2 is_too.2 in
    numbers_once is.0 is.1 a b is.3
    (subst (λ l. AreNumbers is.0 l b) (sym same.1) (subst (λ f. AreNumbers f is_too.1 b) (sym same.0) is_too.3))
words_once text a b (inl is) (inr is_too) = absurd (is_too.0 is.0 is.1 is.2)
words_once text a b (inr is) (inl is_too) = absurd (is.0 is_too.0 is_too.1 is_too.2)
words_once text a b (inr is) (inr is_too) = listed_once text a b is.1 is_too.1

pub varied_once : (text : List ℕ) (v w : Varied) → IsVaried text v → IsVaried text w → IsSame v w
varied_once text v w a b =
    let same = cut_once 61 text a.name a.values b.name b.values a.cut b.cut in
    record {
      place = place_once a.name v.place w.place a.place (subst (λ n. IsPlace n w.place) (sym same.0) b.place);
      words = words_once a.values v.words w.words a.words (subst (λ vs. AreWords vs w.words) (sym same.1) b.words);
    }

-- whether two clash, by their texts
abbrev same_text : Bool × List ℕ → Bool × List ℕ → Bool
same_text (false, a) (false, b) = bytes_eq a b
same_text (false, a) (true, b) = false
same_text (true, a) (false, b) = false
same_text (true, a) (true, b) = bytes_eq a b

abbrev within_text : Bool × List ℕ → Bool × List ℕ → Bool
within_text (false, a) (false, b) = is_under a b
within_text (false, a) (true, b) = bytes_eq a (codes "given")
within_text (true, a) (false, b) = false
within_text (true, a) (true, b) = is_under a b

abbrev clash_text : Bool → Bool × List ℕ → Bool × List ℕ → Bool
clash_text nested a b = if nested then within_text a b || within_text b a else same_text a b

clash_is : (nested : Bool) (p q : Place) → clash nested p q ≡ clash_text nested (place_text p) (place_text q)
clash_is nested (places.Key one) (places.Key other) = refl
clash_is nested (places.Key one) (places.Constant other) = refl
clash_is nested (places.Constant one) (places.Key other) = refl
clash_is nested (places.Constant one) (places.Constant other) = refl

clash_same : (nested : Bool) (p q a b : Place) → place_text p ≡ place_text a → place_text q ≡ place_text b → clash nested p q ≡ clash nested a b
clash_same nested p q a b first second =
    clash_is nested p q ∙ ap (λ x. clash_text nested x (place_text q)) first ∙ ap (λ y. clash_text nested (place_text a) y) second
    ∙ sym (clash_is nested a b)

any_same : (nested : Bool) (v w : Varied) (vs ws : List Varied) → IsSame v w → AreSame vs ws
    → list_any (λ (x : Varied). clash nested v.place x.place) vs ≡ list_any (λ (x : Varied). clash nested w.place x.place) ws
any_same nested v w [] [] same are = refl
any_same nested v w [] (y ∷ ys) same are = absurd are
any_same nested v w (x ∷ xs) [] same are = absurd are
any_same nested v w (x ∷ xs) (y ∷ ys) same are =
    rw (clash_same nested v.place x.place w.place y.place same.place are.0.place, any_same nested v w xs ys same are.1) refl

some_same : (nested : Bool) (vs ws : List Varied) → AreSame vs ws → some_clash nested vs ≡ some_clash nested ws
some_same nested [] [] are = refl
some_same nested [] (w ∷ ws) are = absurd are
some_same nested (v ∷ vs) [] are = absurd are
some_same nested (v ∷ vs) (w ∷ ws) are = rw (any_same nested v w vs ws are.0 are.1, some_same nested vs ws are.1) refl

abbrev count_text : Option (ℕ × ℕ) × List (List ℕ) → ℕ
count_text (Some ends, listed) = ends.1 + 1 - ends.0
count_text (None, listed) = length listed

count_is : (w : Words) → count_of w ≡ count_text (words_text w)
count_is (words.Numbers n m) = refl
count_is (words.Listed listed) = sym (length-map listed.items string_bytes)

count_same : (vs ws : List Varied) → AreSame vs ws → combinations vs ≡ combinations ws
count_same [] [] are = refl
count_same [] (w ∷ ws) are = absurd are
count_same (v ∷ vs) [] are = absurd are
count_same (v ∷ vs) (w ∷ ws) are =
    let first : count_of v.words ≡ count_of w.words = count_is v.words ∙ ap count_text are.0.words ∙ sym (count_is w.words) in
    rw (first, count_same vs ws are.1) refl

pub no_plan_same : (vs ws : List Varied) (e : PlanError) → AreSame vs ws → HaveNoPlan vs e → HaveNoPlan ws e
no_plan_same vs ws faults.Twice are none = sym (some_same false vs ws are) ∙ none
no_plan_same vs ws faults.Within are none = (sym (some_same false vs ws are) ∙ none.0, sym (some_same true vs ws are) ∙ none.1)
no_plan_same vs ws faults.TooMany are none = (
  record { once = sym (some_same false vs ws are) ∙ none.0.once; beside = sym (some_same true vs ws are) ∙ none.0.beside },
  subst (λ n. most_combinations < n) (count_same vs ws are) none.1,
)

-- texts say one thing
pub all_once : (texts : List (List ℕ)) (vs ws : List Varied) → AreVaried texts vs → AreVaried texts ws → AreSame vs ws
all_once [] [] [] are are_too = tt
all_once [] [] (w ∷ ws) are are_too = absurd are_too
all_once [] (v ∷ vs) ws are are_too = absurd are
all_once (text ∷ texts) [] ws are are_too = absurd are
all_once (text ∷ texts) (v ∷ vs) [] are are_too = absurd are_too
all_once (text ∷ texts) (v ∷ vs) (w ∷ ws) are are_too = (varied_once text v w are.0.1 are_too.0.1, all_once texts vs ws are.1 are_too.1)
