-- A fault is found by its text.
use Rattle.std.proofs.Common.{◌≡◌, ◌≢◌, ℕ, zero, suc, ◌<◌, ◌≤◌, Bool, true, false, cond, ◌&&◌, List, Option, Some, None, IfSome, bytes_eq, nat_eq, inl, inr}
use Rattle.std.proofs.Common.{refl, sym, ap, ◌∙◌, arith, not}
use Rattle.std.specs.Prelude.{◌↔◌}
use Rattle.std.proofs.lemmas.Bool.{and_from, and_parts, le-leb, lt-ltb, leb-true, ltb-true, eqb-true, ne_eqb, true≢false, cases_Bool, eq-eqb}
use Rattle.std.proofs.lemmas.Slice.Eq.{bytes_eq-Decides}
use Rattle.lf_faults.specs.declared.fault.Parts.{Parts}
use Rattle.lf_faults.specs.declared.fault.Parts.TheVariants.{Omit, Crash, Pause}
use Rattle.lf_faults.specs.Faults.{IsFault}
use Rattle.lf_faults.specs.Texts.{spelling}
use Rattle.lf_faults.proofs.Laws.{spelling_injective}
use Rattle.lf_tree.specs.Trees.{is_point, is_fault}
use Rattle.lf_tree.specs.Reading.{or_else, first_below, if_spelled, spelled_at, fault_named}

point-true : (node step : ℕ) → is_point node step ≡ true → (node < 8) × (1 ≤ step) × (step ≤ 48)
point-true node step h =
    let p = and_parts _ _ h in
    let q = and_parts _ _ p.1 in
    (ltb-true _ _ p.0, leb-true _ _ q.0, leb-true _ _ q.1)

true-point : (node step : ℕ) → node < 8 → 1 ≤ step → step ≤ 48 → is_point node step ≡ true
true-point node step a b c = and_from _ _ (lt-ltb _ _ a) (and_from _ _ (le-leb _ _ b) (le-leb _ _ c))

-- the test of a fault says what it is to say
pub IsFault-true : (f : Parts) → is_fault f ≡ true → IsFault f
IsFault-true (Omit from to step) h =
    let p = and_parts _ _ h in
    let q = and_parts _ _ p.1 in
    let here = point-true from step p.0 in
    (here.0, ltb-true _ _ q.0, (λ same. true≢false (sym q.1 ∙ ap not (eq-eqb from to same))), here.1, here.2)
IsFault-true (Crash node step) h = point-true node step h
IsFault-true (Pause node step) h = point-true node step h

pub true-IsFault : (f : Parts) → IsFault f → is_fault f ≡ true
true-IsFault (Omit from to step) h =
    and_from _ _ (true-point from step h.0 h.3 h.4) (and_from _ _ (lt-ltb _ _ h.1) (ap not (ne_eqb from to h.2)))
true-IsFault (Crash node step) h = true-point node step h.0 h.1 h.2
true-IsFault (Pause node step) h = true-point node step h.0 h.1 h.2

-- the fault is one, and the text spells it
abbrev Spells : List ℕ → Parts → Type 0
Spells text f = IsFault f × (text ≡ spelling f)

or_else-some : {A : Type 0} (P : A → Type 0) (a b : Option A) → IfSome a P → IfSome b P → IfSome (or_else a b) P
or_else-some P (Some x) b h k = h
or_else-some P None b h k = k

or_else-none : {A : Type 0} (a b : Option A) → or_else a b ≡ None → (a ≡ None) × (b ≡ None)
or_else-none (Some x) b h = cc
or_else-none None b h = (refl, h)

first_below-some : {A : Type 0} (P : A → Type 0) (n : ℕ) (f : ℕ → Option A) → ((k : ℕ) → IfSome (f k) P) → IfSome (first_below n f) P
first_below-some P zero f h = tt
first_below-some P (suc n) f h = or_else-some P (first_below n f) (f n) (first_below-some P n f h) (h n)

first_below-none : {A : Type 0} (n : ℕ) (f : ℕ → Option A) → first_below n f ≡ None → (k : ℕ) → k < n → f k ≡ None
first_below-none zero f h k l = absurd (omega arith)
first_below-none (suc n) f h k l =
    let both = or_else-none (first_below n f) (f n) h in
    elim (cases_Bool (nat_eq k n)) [
      | inl same ↦ ap f (eqb-true k n same) ∙ both.1
      | inr other ↦ first_below-none n f both.0 k (omega (arith, apart k n other))
    ]
  where
    apart : (a b : ℕ) → nat_eq a b ≡ false → a ≢ b
    apart a b e same = true≢false (sym (eq-eqb a b same) ∙ e)

tested_spelling : (text : List ℕ) (f : Parts) (a b : Bool) → is_fault f ≡ a → bytes_eq text (spelling f) ≡ b
    → IfSome (cond (a && b) (Some f) None) (Spells text)
tested_spelling text f true true d e = (IsFault-true f d, (bytes_eq-Decides text (spelling f)).0 e)
tested_spelling text f true false d e = tt
tested_spelling text f false b d e = tt

if_spelled-some : (text : List ℕ) (f : Parts) → IfSome (if_spelled text f) (Spells text)
if_spelled-some text f = tested_spelling text f _ _ refl refl

if_spelled-none : (text : List ℕ) (f : Parts) → if_spelled text f ≡ None → Spells text f → ⊥
if_spelled-none text f none h =
    let e : (is_fault f && bytes_eq text (spelling f)) ≡ true = and_from _ _ (true-IsFault f h.0) ((bytes_eq-Decides text (spelling f)).1 h.1) in
    let s : if_spelled text f ≡ Some f = ap (λ b. cond b (Some f) None) e in
    cc

spelled_at-some : (text : List ℕ) (make : ℕ → ℕ → Parts) → IfSome (spelled_at text make) (Spells text)
unfolding spelled_at
spelled_at-some text make =
    first_below-some (Spells text) 8 (λ node. first_below 49 (λ step. if_spelled text (make node step)))
    (λ node. first_below-some (Spells text) 49 (λ step. if_spelled text (make node step)) (λ step. if_spelled-some text (make node step)))

spelled_at-none : (text : List ℕ) (make : ℕ → ℕ → Parts) → spelled_at text make ≡ None → (node step : ℕ) → node < 8 → step ≤ 48 → Spells text (make node step)
    → ⊥
unfolding spelled_at
spelled_at-none text make none node step in_nodes in_steps h =
    if_spelled-none text (make node step)
    (first_below-none 49 (λ t. if_spelled text (make node t))
    (first_below-none 8 (λ n. first_below 49 (λ t. if_spelled text (make n t))) none node in_nodes) step (omega (arith, in_steps))) h

abbrev omissions : List ℕ → ℕ → Option Parts
omissions text to = spelled_at text (λ from step. Omit from to step)

abbrev others : List ℕ → Option Parts
others text = or_else (spelled_at text Crash) (spelled_at text Pause)

-- what is found is spelled,
named-some : (text : List ℕ) → IfSome (fault_named text) (Spells text)
unfolding fault_named
named-some text =
    or_else-some (Spells text) (first_below 8 (omissions text)) (others text)
    (first_below-some (Spells text) 8 (omissions text) (λ to. spelled_at-some text (λ from step. Omit from to step)))
    (or_else-some (Spells text) (spelled_at text Crash) (spelled_at text Pause) (spelled_at-some text Crash) (spelled_at-some text Pause))

parts-none : (text : List ℕ) → fault_named text ≡ None → (first_below 8 (omissions text) ≡ None) × (spelled_at text Crash ≡ None)
    × (spelled_at text Pause ≡ None)
unfolding fault_named
parts-none text none =
    let first = or_else-none (first_below 8 (omissions text)) (others text) none in
    let rest = or_else-none (spelled_at text Crash) (spelled_at text Pause) first.1 in
    (first.0, rest.0, rest.1)

-- and where nothing is found, nothing is spelled
named-none : (text : List ℕ) → fault_named text ≡ None → (f : Parts) → Spells text f → ⊥
named-none text none (Omit from to step) h =
    spelled_at-none text (λ n t. Omit n to t) (first_below-none 8 (omissions text) (parts-none text none).0 to h.0.1) from step h.0.0 h.0.4 h
named-none text none (Crash node step) h = spelled_at-none text Crash (parts-none text none).1 node step h.0.0 h.0.2 h
named-none text none (Pause node step) h = spelled_at-none text Pause (parts-none text none).2 node step h.0.0 h.0.2 h

same_when : (text : List ℕ) (read found : Option Parts) → ((f : Parts) → IsFault f → ((read ≡ Some f) ↔ (text ≡ spelling f))) → IfSome read IsFault
    → IfSome found (Spells text) → (found ≡ None → (f : Parts) → Spells text f → ⊥) → read ≡ found
same_when text read (Some g) is range some none = (is g some.0).1 some.1
same_when text None None is range some none = refl
same_when text (Some f) None is range some none = absurd (none refl f (range, (is f range).0 refl))

-- what reads the fault of each text finds it
pub named-is : (text : List ℕ) (read : Option Parts) → ((f : Parts) → IsFault f → ((read ≡ Some f) ↔ (text ≡ spelling f))) → IfSome read IsFault
    → read ≡ fault_named text
named-is text read is range = same_when text read (fault_named text) is range (named-some text) (named-none text)

found_own : (f : Parts) (found : Option Parts) → IsFault f → IfSome found (Spells (spelling f)) → (found ≡ None → (g : Parts) → Spells (spelling f) g → ⊥)
    → found ≡ Some f
found_own f None is some none = absurd (none refl f (is, refl))
found_own f (Some g) is some none = ap Some (sym (spelling_injective f g is some.0 some.1))

-- the text of a fault is of that fault
pub named-spelling : (f : Parts) → IsFault f → fault_named (spelling f) ≡ Some f
named-spelling f is = found_own f (fault_named (spelling f)) is (named-some (spelling f)) (named-none (spelling f))
