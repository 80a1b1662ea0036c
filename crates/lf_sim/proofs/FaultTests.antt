-- What the tests on a list of faults say of its members.
use Rattle.std.proofs.Common.{◌≡◌, ℕ, ◌+◌, ◌<◌, ◌≤◌, true, ◌&&◌, List, refl, sym, ap, subst, arith, eq-eqb, nat_eq, nat_le}
use Rattle.std.specs.Prelude.{nat_lt}
use Rattle.std.specs.List.{Contains}
use Rattle.std.specs.Cmp.{both_ways}
use Rattle.std.proofs.lemmas.Bool.{and_parts, and_from, eqb-true, leb-true, ltb-true, le-leb, lt-ltb, false≢true}
use Rattle.lf_faults.specs.declared.fault.Parts.{Parts}
use Rattle.lf_faults.specs.declared.fault.Parts.TheVariants.{Omit, Crash, Pause}
use Rattle.lf_faults.specs.Faults.{omits, crashes, pauses, wakes, set_omits, set_crashes, set_pauses, set_wakes}
use Rattle.lf_sim.specs.Points.{SameUntil}
use Rattle.lf_sim.proofs.ListsLemmas.{found-in, passed-in}

pub omits-is : (n m t : ℕ) (f : Parts) → omits n m t f ≡ true → f ≡ Omit n m t
omits-is n m t (Omit from to step) h =
    let p = and_parts (nat_eq n from && nat_eq m to) (nat_eq t step) h in
    let q = and_parts (nat_eq n from) (nat_eq m to) p.0 in
    let e₁ : n ≡ from = eqb-true n from q.0 in
    let e₂ : m ≡ to = eqb-true m to q.1 in
    let e₃ : t ≡ step = eqb-true t step p.1 in
    cc
omits-is n m t (Crash node step) h = absurd (false≢true h)
omits-is n m t (Pause node step) h = absurd (false≢true h)

crashes-is : (n t : ℕ) (f : Parts) → crashes n t f ≡ true → (s : ℕ) × (f ≡ Crash n s) × (s ≤ t)
crashes-is n t (Omit from to step) h = absurd (false≢true h)
crashes-is n t (Crash node step) h =
    let p = and_parts (nat_eq n node) (nat_le step t) h in
    (step, ap (λ k. Crash k step) (sym (eqb-true n node p.0)), leb-true step t p.1)
crashes-is n t (Pause node step) h = absurd (false≢true h)

pauses-is : (length n t : ℕ) (f : Parts) → pauses length n t f ≡ true → (s : ℕ) × (f ≡ Pause n s) × (s ≤ t) × (t < s + length)
pauses-is length n t (Omit from to step) h = absurd (false≢true h)
pauses-is length n t (Crash node step) h = absurd (false≢true h)
pauses-is length n t (Pause node step) h =
    let p = and_parts (nat_eq n node && nat_le step t) (nat_lt t (step + length)) h in
    let q = and_parts (nat_eq n node) (nat_le step t) p.0 in
    (step, ap (λ k. Pause k step) (sym (eqb-true n node q.0)), leb-true step t q.1, ltb-true t (step + length) p.1)

wakes-is : (length n t : ℕ) (f : Parts) → wakes length n t f ≡ true → (s : ℕ) × (f ≡ Pause n s) × (s + length ≡ t)
wakes-is length n t (Omit from to step) h = absurd (false≢true h)
wakes-is length n t (Crash node step) h = absurd (false≢true h)
wakes-is length n t (Pause node step) h =
    let p = and_parts (nat_eq n node) (nat_eq t (step + length)) h in
    (step, ap (λ k. Pause k step) (sym (eqb-true n node p.0)), sym (eqb-true t (step + length) p.1))

module _ (faults : List Parts) where
  pub omitted-contains : (n m t : ℕ) → set_omits faults n m t ≡ true → Contains faults (Omit n m t)
  omitted-contains n m t h =
      let found = found-in (omits n m t) faults h in
      subst (Contains faults) (omits-is n m t found.0 found.2) found.1

  pub contains-omitted : (n m t : ℕ) → Contains faults (Omit n m t) → set_omits faults n m t ≡ true
  contains-omitted n m t h =
      passed-in (omits n m t) faults (Omit n m t) h
      (and_from (nat_eq n n && nat_eq m m) (nat_eq t t) (and_from (nat_eq n n) (nat_eq m m) (eq-eqb n n refl) (eq-eqb m m refl)) (eq-eqb t t refl))

  pub crashed-contains : (n t : ℕ) → set_crashes faults n t ≡ true → (s : ℕ) × Contains faults (Crash n s) × (s ≤ t)
  crashed-contains n t h =
      let found = found-in (crashes n t) faults h in
      let is = crashes-is n t found.0 found.2 in
      (is.0, subst (Contains faults) is.1 found.1, is.2)

  pub contains-crashed : (n s t : ℕ) → Contains faults (Crash n s) → s ≤ t → set_crashes faults n t ≡ true
  contains-crashed n s t h l =
      passed-in (crashes n t) faults (Crash n s) h (and_from (nat_eq n n) (nat_le s t) (eq-eqb n n refl) (le-leb s t l))

  pub paused-contains : (length n t : ℕ) → set_pauses length faults n t ≡ true → (s : ℕ) × Contains faults (Pause n s) × (s ≤ t) × (t < s + length)
  paused-contains length n t h =
      let found = found-in (pauses length n t) faults h in
      let is = pauses-is length n t found.0 found.2 in
      (is.0, subst (Contains faults) is.1 found.1, is.2, is.3)

  pub contains-paused : (length n s t : ℕ) → Contains faults (Pause n s) → s ≤ t → t < s + length → set_pauses length faults n t ≡ true
  contains-paused length n s t h l m =
      passed-in (pauses length n t) faults (Pause n s) h
      (and_from (nat_eq n n && nat_le s t) (nat_lt t (s + length)) (and_from (nat_eq n n) (nat_le s t) (eq-eqb n n refl) (le-leb s t l))
      (lt-ltb t (s + length) m))

  pub woken-contains : (length n t : ℕ) → set_wakes length faults n t ≡ true → (s : ℕ) × (s + length ≡ t) × Contains faults (Pause n s)
  woken-contains length n t h =
      let found = found-in (wakes length n t) faults h in
      let is = wakes-is length n t found.0 found.2 in
      (is.0, is.2, subst (Contains faults) is.1 found.1)

  pub contains-woken : (length n s t : ℕ) → Contains faults (Pause n s) → s + length ≡ t → set_wakes length faults n t ≡ true
  contains-woken length n s t h e =
      passed-in (wakes length n t) faults (Pause n s) h (and_from (nat_eq n n) (nat_eq t (s + length)) (eq-eqb n n refl) (eq-eqb t (s + length) (sym e)))

-- the same tests up to a step, by the same faults up to it
pub SameUntil-sym : (b : ℕ) (faults others : List Parts) → SameUntil b faults others → SameUntil b others faults
SameUntil-sym b faults others same f h = ((same f h).1, (same f h).0)

module _ (b : ℕ) (faults others : List Parts) (same : SameUntil b faults others) where
  omitted-then : (n m t : ℕ) → t ≤ b → set_omits faults n m t ≡ true → set_omits others n m t ≡ true
  omitted-then n m t l h = contains-omitted others n m t ((same (Omit n m t) l).0 (omitted-contains faults n m t h))

  crashed-then : (n t : ℕ) → t ≤ b → set_crashes faults n t ≡ true → set_crashes others n t ≡ true
  crashed-then n t l h =
      let found = crashed-contains faults n t h in
      contains-crashed others n found.0 t ((same (Crash n found.0) (omega (arith, l, found.2))).0 found.1) found.2

  paused-then : (length n t : ℕ) → t ≤ b → set_pauses length faults n t ≡ true → set_pauses length others n t ≡ true
  paused-then length n t l h =
      let found = paused-contains faults length n t h in
      contains-paused others length n found.0 t ((same (Pause n found.0) (omega (arith, l, found.2))).0 found.1) found.2 found.3

  woken-then : (length n t : ℕ) → t ≤ b → set_wakes length faults n t ≡ true → set_wakes length others n t ≡ true
  woken-then length n t l h =
      let found = woken-contains faults length n t h in
      contains-woken others length n found.0 t ((same (Pause n found.0) (omega (arith, l, found.1))).0 found.2) found.1

module _ (b : ℕ) (faults others : List Parts) (same : SameUntil b faults others) where
  pub omitted-until : (n m t : ℕ) → t ≤ b → set_omits faults n m t ≡ set_omits others n m t
  omitted-until n m t l = both_ways _ _ (omitted-then b faults others same n m t l) (omitted-then b others faults (SameUntil-sym b faults others same) n m t l)

  pub crashed-until : (n t : ℕ) → t ≤ b → set_crashes faults n t ≡ set_crashes others n t
  crashed-until n t l = both_ways _ _ (crashed-then b faults others same n t l) (crashed-then b others faults (SameUntil-sym b faults others same) n t l)

  pub paused-until : (length n t : ℕ) → t ≤ b → set_pauses length faults n t ≡ set_pauses length others n t
  paused-until length n t l =
      both_ways _ _ (paused-then b faults others same length n t l) (paused-then b others faults (SameUntil-sym b faults others same) length n t l)

  pub woken-until : (length n t : ℕ) → t ≤ b → set_wakes length faults n t ≡ set_wakes length others n t
  woken-until length n t l =
      both_ways _ _ (woken-then b faults others same length n t l) (woken-then b others faults (SameUntil-sym b faults others same) length n t l)
