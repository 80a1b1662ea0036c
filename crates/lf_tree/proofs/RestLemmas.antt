-- What is left of some bytes after the texts that they begin with.
use Rattle.std.proofs.Common.{◌≡◌, ◌≢◌, ℕ, suc, ◌+◌, ◌<◌, ◌≤◌, Bool, true, false, cond, ◌==◌, List, [], ◌∷◌, ◌++◌, length, get_or, drop, map, Option, Some}
use Rattle.std.proofs.Common.{None, refl, sym, ap, ap₂, ◌∙◌, arith, append_assoc, append-nil, inl, inr, decimal, Bor, MatchOption}
use Rattle.std.specs.Prelude.{codes, if◌then◌else◌}
use Rattle.std.proofs.lemmas.Bool.{cases_Bool, eqb-true, eq-eqb, false≢true}
use Rattle.lf_faults.specs.declared.fault.Parts.{Parts}
use Rattle.lf_faults.specs.declared.fault.Parts.TheVariants.{Omit, Crash, Pause}
use Rattle.lf_faults.specs.Texts.{node_at_step}
use Rattle.lf_tree.specs.declared.tree.Node.{Node}
use Rattle.lf_tree.specs.declared.tree.Node.TheVariants as kind
use Rattle.lf_tree.specs.Rests.{without, skip, left_of}
use Rattle.lf_tree.specs.Texts.{quoted, faults_text, in_brackets, node_text}
use Rattle.lf_tree.proofs.KindLemmas.{node_text-Branch, node_text-Misses, node_text-Reaches}
use Rattle.lf_tree.proofs.ListLemmas.{still_to_come, list-more, list-last}

pub skip-append : (a b : List ℕ) (left : Option (List ℕ)) → skip (a ++ b) left ≡ skip b (skip a left)
unfolding skip
skip-append [] b left = refl
skip-append (x ∷ a) b left = skip-append a b (without x left)

pub skip-none : (text : List ℕ) → skip text None ≡ None
unfolding skip
skip-none [] = refl
skip-none (x ∷ text) = skip-none text

pub skip-nothing : (left : Option (List ℕ)) → skip [] left ≡ left
unfolding skip
skip-nothing left = refl

-- after a text comes what follows it
pub skip-own : (text rest : List ℕ) → skip text (Some (text ++ rest)) ≡ Some rest
unfolding skip
skip-own [] rest = refl
skip-own (x ∷ text) rest = ap (λ b. skip text (cond b (Some (text ++ rest)) None)) (eq-eqb x x refl) ∙ skip-own text rest

none_left : (text rest : List ℕ) → skip text None ≡ Some rest → ⊥
none_left text rest is = let none = skip-none text in cc

-- and where something is left, the text came first
pub skip-some : (text bytes rest : List ℕ) → skip text (Some bytes) ≡ Some rest → bytes ≡ text ++ rest
unfolding skip
skip-some [] bytes rest is = cc
skip-some (x ∷ text) [] rest is = absurd (none_left text rest is)
skip-some (x ∷ text) (y ∷ bytes) rest is = elim (cases_Bool (x == y)) [
  | inl same ↦ ap₂ (λ b bs. b ∷ bs) (sym (eqb-true x y same)) (skip-some text bytes rest (sym (ap (λ b. skip text (cond b (Some bytes) None)) same) ∙ is))
  | inr other ↦ absurd (none_left text rest (sym (ap (λ b. skip text (cond b (Some bytes) None)) other) ∙ is))
]

not_left : (text bytes : List ℕ) (left : Option (List ℕ)) → skip text (Some bytes) ≡ left → ((rest : List ℕ) → bytes ≢ text ++ rest) → None ≡ left
not_left text bytes None is none = refl
not_left text bytes (Some rest) is none = absurd (none rest (skip-some text bytes rest is))

-- what a call leaves that takes the text off
pub stripped : (text bytes : List ℕ) (left : Option (Bor (List ℕ))) → MatchOption left ((rest : List ℕ) → bytes ≢ text ++ rest) (λ r. bytes ≡ text ++ r.now)
    → left_of left ≡ skip text (Some bytes)
stripped text bytes None h = not_left text bytes _ refl h
stripped text bytes (Some r) h = sym (ap (λ bs. skip text (Some bs)) h ∙ skip-own text r.now)

no_items : (rest : List ℕ) → (length rest == 0) ≡ true → rest ≡ []
no_items [] h = refl
no_items (x ∷ rest) h = absurd (omega (arith, eqb-true (suc (length rest)) 0 h))

-- whether the text was all
pub own-some : (text bytes rest : List ℕ) (empty : Bool) → Some rest ≡ skip text (Some bytes) → empty ≡ (length rest == 0)
    → (empty ≡ true → text ≡ bytes) × (text ≡ bytes → empty ≡ true)
own-some text bytes rest empty is test = (
  (λ h. sym (skip-some text bytes rest (sym is) ∙ ap (λ r. text ++ r) (no_items rest (sym test ∙ h)) ∙ append-nil text)),
  (λ same.
      let whole : skip text (Some bytes) ≡ Some [] = ap (λ bs. skip text (Some bs)) (sym same ∙ sym (append-nil text)) ∙ skip-own text [] in
      let none : rest ≡ [] = cc in
      test ∙ ap (λ r. length r == 0) none),
)

pub own-none : (text bytes : List ℕ) → None ≡ skip text (Some bytes) → (false ≡ true → text ≡ bytes) × (text ≡ bytes → false ≡ true)
own-none text bytes is = (
  (λ h. absurd (false≢true h)),
  (λ same.
      let whole : skip text (Some bytes) ≡ Some [] = ap (λ bs. skip text (Some bs)) (sym same ∙ sym (append-nil text)) ∙ skip-own text [] in
      cc),
)

-- before the first item nothing comes
pub no_comma : (place : ℕ) (left : Option (List ℕ)) → place ≡ 0 → left ≡ skip (if place == 0 then [] else codes ",") left
no_comma place left first = sym (ap (λ b. skip (if b then [] else codes ",") left) (eq-eqb place 0 first) ∙ skip-nothing left)

-- two texts
pub skip-two : (a b whole : List ℕ) (before mid now : Option (List ℕ)) → whole ≡ a ++ b → mid ≡ skip a before → now ≡ skip b mid → now ≡ skip whole before
skip-two a b whole before mid now is one two =
    two ∙ ap (skip b) one ∙ sym (skip-append a b before) ∙ ap (λ s. skip s before) (sym is)

-- three
pub skip-three : (a b c whole : List ℕ) (before t u now : Option (List ℕ)) → whole ≡ a ++ (b ++ c) → t ≡ skip a before → u ≡ skip b t → now ≡ skip c u
    → now ≡ skip whole before
skip-three a b c whole before t u now is one two three =
    skip-two a (b ++ c) whole before t now is one (skip-two b c (b ++ c) t u now refl two three)

-- five
pub skip-five : (a b c d e whole : List ℕ) (before t u v w now : Option (List ℕ)) → whole ≡ a ++ (b ++ (c ++ (d ++ e))) → t ≡ skip a before → u ≡ skip b t
    → v ≡ skip c u → w ≡ skip d v → now ≡ skip e w → now ≡ skip whole before
skip-five a b c d e whole before t u v w now is one two three four five =
    skip-three a b (c ++ (d ++ e)) whole before t u now is one two (skip-three c d e (c ++ (d ++ e)) u v w now refl three four five)

-- seven
pub skip-seven : (a b c d e f g whole : List ℕ) (before t u v w x y now : Option (List ℕ)) → whole ≡ a ++ (b ++ (c ++ (d ++ (e ++ (f ++ g)))))
    → t ≡ skip a before → u ≡ skip b t → v ≡ skip c u → w ≡ skip d v → x ≡ skip e w → y ≡ skip f x → now ≡ skip g y → now ≡ skip whole before
skip-seven a b c d e f g whole before t u v w x y now is one two three four five six seven =
    skip-three a b (c ++ (d ++ (e ++ (f ++ g)))) whole before t u now is one two
    (skip-five c d e f g (c ++ (d ++ (e ++ (f ++ g)))) u v w x y now refl three four five six seven)

module _ {X : Type 0} (f : X → List ℕ) where
  -- at first the whole list is still to come
  pub skip-first : (xs : List X) (before now : Option (List ℕ)) → now ≡ skip (codes "[") before
      → skip (still_to_come 0 (map f (drop 0 xs)) ++ codes "]") now ≡ skip (in_brackets (map f xs)) before
  skip-first xs before now is =
      ap (skip (still_to_come 0 (map f xs) ++ codes "]")) is ∙ sym (skip-append (codes "[") (still_to_come 0 (map f xs) ++ codes "]") before)

  -- one item more
  pub skip-more : (xs : List X) (i : ℕ) (x d : X) (before mid now whole : Option (List ℕ)) → i < length xs → x ≡ get_or xs i d
      → skip (still_to_come i (map f (drop i xs)) ++ codes "]") before ≡ whole
      → mid ≡ skip (if i == 0 then [] else codes ",") before → now ≡ skip (f x) mid
      → skip (still_to_come (i + 1) (map f (drop (i + 1) xs)) ++ codes "]") now ≡ whole
  skip-more xs i x d before mid now whole here same was comma item =
      let sep : List ℕ = if i == 0 then [] else codes "," in
      let all : List ℕ = still_to_come i (map f (drop i xs)) ++ codes "]" in
      let rest : List ℕ = still_to_come (i + 1) (map f (drop (i + 1) xs)) ++ codes "]" in
      let split : (sep ++ f x) ++ rest ≡ all = list-more f xs i x d [] sep (sep ++ f x) all here same refl refl refl in
      let passed : now ≡ skip (sep ++ f x) before = skip-two sep (f x) (sep ++ f x) before mid now refl comma item in
      ap (skip rest) passed ∙ sym (skip-append (sep ++ f x) rest before) ∙ ap (λ s. skip s before) split ∙ was

  -- after the last
  pub skip-last : (xs : List X) (i : ℕ) (before now whole : Option (List ℕ)) → length xs ≤ i
      → skip (still_to_come i (map f (drop i xs)) ++ codes "]") before ≡ whole → now ≡ skip (codes "]") before → now ≡ whole
  skip-last xs i before now whole far was is =
      let all : List ℕ = still_to_come i (map f (drop i xs)) ++ codes "]" in
      is ∙ ap (λ s. skip s before) (list-last f xs i [] (codes "]") all far refl refl) ∙ was

-- nodes
pub skip-Misses : (n : Node) (before now : Option (List ℕ)) → n ≡ kind.Misses → now ≡ skip (codes "{\"misses\":true}") before → now ≡ skip (node_text n) before
skip-Misses n before now is passed = passed ∙ ap (λ s. skip s before) (sym (ap node_text is ∙ node_text-Misses))

pub skip-Reaches : (n : Node) (before now : Option (List ℕ)) → n ≡ kind.Reaches → now ≡ skip (codes "{\"misses\":false}") before
    → now ≡ skip (node_text n) before
skip-Reaches n before now is passed = passed ∙ ap (λ s. skip s before) (sym (ap node_text is ∙ node_text-Reaches))

pub skip-Branch : (n : Node) (reach : List ℕ) (edges es : List Parts) (kids ks : List Node) (before t u v w x y now : Option (List ℕ))
    → n ≡ kind.Branch reach edges kids → es ≡ edges → ks ≡ kids
    → t ≡ skip (codes "{\"edges\":") before → u ≡ skip (faults_text es) t → v ≡ skip (codes ",\"kids\":") u → w ≡ skip (in_brackets (map node_text ks)) v
    → x ≡ skip (codes ",\"reach\":") w → y ≡ skip (in_brackets (map decimal reach)) x → now ≡ skip (codes "}") y → now ≡ skip (node_text n) before
skip-Branch n reach edges es kids ks before t u v w x y now is edges_read kids_read one two three four five six last =
    skip-seven (codes "{\"edges\":") (faults_text edges) (codes ",\"kids\":") (in_brackets (map node_text kids)) (codes ",\"reach\":")
    (in_brackets (map decimal reach)) (codes "}") (node_text n) before t u v w x y now (ap node_text is ∙ node_text-Branch reach edges kids)
    one (two ∙ ap (λ fs. skip (faults_text fs) t) edges_read) three
    (four ∙ ap (λ (ns : List Node). skip (in_brackets (map node_text ns)) v) kids_read) five six last

-- faults
pub skip-Omit : (f : Parts) (from to step : ℕ) (before t u v w now : Option (List ℕ)) → Omit from to step ≡ f
    → t ≡ skip (codes "\"omit ") before → u ≡ skip (decimal from) t
    → v ≡ skip (codes ">") u → w ≡ skip (node_at_step to step) v → now ≡ skip (codes "\"") w → now ≡ skip (quoted f) before
skip-Omit f from to step before t u v w now is one two three four five =
    skip-five (codes "\"omit ") (decimal from) (codes ">") (node_at_step to step) (codes "\"") (quoted f) before t u v w now
    (sym (ap quoted is) ∙ ap (λ s. codes "\"omit " ++ s) (append_assoc (decimal from) (codes ">" ++ node_at_step to step) (codes "\"")))
    one two three four five

pub skip-Crash : (f : Parts) (node step : ℕ) (before t u now : Option (List ℕ)) → Crash node step ≡ f
    → t ≡ skip (codes "\"crash ") before → u ≡ skip (node_at_step node step) t
    → now ≡ skip (codes "\"") u → now ≡ skip (quoted f) before
skip-Crash f node step before t u now is one two three =
    skip-three (codes "\"crash ") (node_at_step node step) (codes "\"") (quoted f) before t u now (sym (ap quoted is)) one two three

pub skip-Pause : (f : Parts) (node step : ℕ) (before t u now : Option (List ℕ)) → Pause node step ≡ f
    → t ≡ skip (codes "\"pause ") before → u ≡ skip (node_at_step node step) t
    → now ≡ skip (codes "\"") u → now ≡ skip (quoted f) before
skip-Pause f node step before t u now is one two three =
    skip-three (codes "\"pause ") (node_at_step node step) (codes "\"") (quoted f) before t u now (sym (ap quoted is)) one two three
