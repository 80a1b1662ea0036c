-- What the told delays of a run are.
use Rattle.std.proofs.Common.{◌≡◌, ◌≢◌, ℕ, zero, suc, ◌-◌, ◌<◌, ◌≤◌, Bool, true, false, ◌||◌, nat_eq, nat_lt, List, []}
use Rattle.std.proofs.Common.{◌∷◌, ◌++◌, refl, sym, ap, ◌∙◌, subst, arith, inl, inr, eq-eqb, ltb-true, lt-ltb}
use Rattle.std.specs.Prelude.{◌⊎◌, Option, Some, None, if◌then◌else◌}
use Rattle.std.specs.List.{Contains}
use Rattle.std.specs.Option.{option_to_list}
use Rattle.std.proofs.lemmas.Bool.{cases_Bool, cases_eq, false_from_ne_true, eqb-true}
use Rattle.lf_faults.specs.declared.fault.Parts.{Parts}
use Rattle.lf_faults.specs.declared.text.Slot.{Slot}
use Rattle.lf_faults.specs.Faults.{set_omits}
use Rattle.lf_latency.specs.declared.links.Links.{Links}
use Rattle.lf_latency.specs.Arrivals.{earliest}
use Rattle.lf_list.proofs.Laws.{Contains-first, Contains-more, cases_in, each-from, each-in, none-in}
use Rattle.lf_sim.specs.Runs.{World, each_below, sent}
use Rattle.lf_delays.specs.declared.delay.Delay.{Delay}
use Rattle.lf_delays.specs.Delays.{AreApart}
use Rattle.lf_delays.specs.Told.{IsLate, late_note, late_sent, told, told_at, told_from, told_in}

-- members of two lists, one after the other
pub cases_append : {A : Type 0} (xs ys : List A) (x : A) → Contains (xs ++ ys) x → Contains xs x ⊎ Contains ys x
cases_append [] ys x h = inr h
cases_append (y ∷ xs) ys x h = elim (cases_in y (xs ++ ys) x h) [
  | inl same ↦ inl (subst (Contains (y ∷ xs)) same (Contains-first y xs))
  | inr later ↦ elim (cases_append xs ys x later) [
    | inl left ↦ inl (Contains-more y xs x left)
    | inr right ↦ inr right
  ]
]

pub append-right : {A : Type 0} (xs ys : List A) (x : A) → Contains ys x → Contains (xs ++ ys) x
append-right [] ys x h = h
append-right (y ∷ xs) ys x h = Contains-more y (xs ++ ys) x (append-right xs ys x h)

pub append-left : {A : Type 0} (xs ys : List A) (x : A) → Contains xs x → Contains (xs ++ ys) x
append-left [] ys x h = absurd (none-in x h)
append-left (y ∷ xs) ys x h = elim (cases_in y xs x h) [
  | inl same ↦ subst (Contains (y ∷ xs ++ ys)) same (Contains-first y (xs ++ ys))
  | inr later ↦ Contains-more y (xs ++ ys) x (append-left xs ys x later)
]

-- members of many
in_below : {A : Type 0} (f : ℕ → List A) (n k : ℕ) (x : A) → k < n → Contains (f k) x → Contains (each_below f n) x
in_below f zero k x few h = absurd (omega (arith, few))
in_below f (suc n) k x few h = elim (cases_eq k n) [
  | inl last ↦ append-right (each_below f n) (f n) x (subst (λ j. Contains (f j) x) last h)
  | inr other ↦ append-left (each_below f n) (f n) x (in_below f n k x (omega (arith, few, other)) h)
]

from_below : {A : Type 0} (f : ℕ → List A) (n : ℕ) (x : A) → Contains (each_below f n) x → (k : ℕ) × (k < n) × Contains (f k) x
from_below f zero x h = absurd (none-in x h)
from_below f (suc n) x h = elim (cases_append (each_below f n) (f n) x h) [
  | inl early ↦ (let found = from_below f n x early in (found.0, omega (arith, found.1), found.2))
  | inr last ↦ (n, omega arith, last)
]

-- lists of different slots
apart-append : (xs ys : List Delay) → AreApart xs → AreApart ys → ((x y : Delay) → Contains xs x → Contains ys y → x.slot ≢ y.slot) → AreApart (xs ++ ys)
apart-append [] ys one two other = two
apart-append (x ∷ xs) ys one two other = (
  each-from (λ e. e.slot ≢ x.slot) (xs ++ ys) (λ e h. elim (cases_append xs ys e h) [
    | inl left ↦ each-in (λ k. k.slot ≢ x.slot) xs one.0 e left
    | inr right ↦ (λ same. other x e (Contains-first x xs) right (sym same))
  ]),
  apart-append xs ys one.1 two (λ a b here there. other a b (Contains-more x xs a here) there),
)

apart-below : (f : ℕ → List Delay) (key : Slot → ℕ) (n : ℕ) → ((k : ℕ) → AreApart (f k)) → ((k : ℕ) (d : Delay) → Contains (f k) d → key d.slot ≡ k)
    → AreApart (each_below f n)
apart-below f key zero each keyed = tt
apart-below f key (suc n) each keyed =
    apart-append (each_below f n) (f n) (apart-below f key n each keyed) (each n) (λ x y early last same.
    let found = from_below f n x early in
    let few = found.1 in
    let one : key x.slot ≡ found.0 = keyed found.0 x found.2 in
    let two : key y.slot ≡ n = keyed n y last in
    let both : key x.slot ≡ key y.slot = ap key same in
    omega (arith, few, one, two, both))

module _ {State Note Fact : Type 0} (w : World State Note Fact) (faults : List Parts) (links : Links) where
  -- the delay of a slot
  abbrev delay_of : ℕ → ℕ → ℕ → Delay
  delay_of t n m = record { slot = record { from = n; to = m; step = t }; at = w.arrival n m t }

  -- what stands in a slot's list
  record IsIn (t n m : ℕ) (d : Delay) : Type 0 where
    pub is : delay_of t n m ≡ d
    pub apart : n ≢ m
    pub note : Note
    pub sends : sent w faults n m t ≡ Some note
    pub kept : set_omits faults n m t ≡ false
    pub late : earliest links n m t < w.arrival n m t

  in_sent : (t n m : ℕ) → n ≢ m → set_omits faults n m t ≡ false → (o : Option Note) → sent w faults n m t ≡ o → (d : Delay)
      → Contains (option_to_list (late_sent w faults links t n m o)) d → IsIn t n m d
  in_sent t n m apart kept None is d h = absurd (none-in d h)
  in_sent t n m apart kept (Some note) is d h = elim (cases_Bool (nat_lt (earliest links n m t) (w.arrival n m t))) [
    | inr early ↦ absurd (none-in d (subst (λ b. Contains (option_to_list (if b then Some (delay_of t n m) else None)) d) early h))
    | inl late ↦ elim (cases_in (delay_of t n m) [] d (subst (λ b. Contains (option_to_list (if b then Some (delay_of t n m) else None)) d) late h)) [
      | inr never ↦ absurd (none-in d never)
      | inl same ↦ record {
        is = same;
        apart = apart;
        note = note;
        sends = is;
        kept = kept;
        late = ltb-true (earliest links n m t) (w.arrival n m t) late;
      }
    ]
  ]

  not_either : (x y : Bool) → x ≡ false → y ≡ false → (x || y) ≡ false
  not_either false false one two = refl
  not_either true y one two = absurd (let wrong : true ≡ false = one in cc)
  not_either false true one two = absurd (let wrong : true ≡ false = two in cc)

  either_one : (x y : Bool) → x ≡ true → (x || y) ≡ true
  either_one true y one = refl
  either_one false y one = absurd (let wrong : false ≡ true = one in cc)

  either_two : (x y : Bool) → y ≡ true → (x || y) ≡ true
  either_two true true two = refl
  either_two false true two = refl
  either_two x false two = absurd (let wrong : false ≡ true = two in cc)

  abbrev chosen : ℕ → ℕ → ℕ → Bool → Option Delay
  chosen t n m b = if b then None else late_sent w faults links t n m (sent w faults n m t)

  of_in : (t n m : ℕ) (d : Delay) → Contains (told_in w faults links t n m) d → IsIn t n m d
  of_in t n m d h = elim (cases_eq n m) [
    | inl self ↦ absurd (none-in d (subst (λ b. Contains (option_to_list (chosen t n m b)) d)
        (either_one (nat_eq n m) (set_omits faults n m t) (eq-eqb n m self)) h))
    | inr apart ↦ elim (cases_Bool (set_omits faults n m t)) [
      | inl lost ↦ absurd (none-in d (subst (λ b. Contains (option_to_list (chosen t n m b)) d)
          (either_two (nat_eq n m) (set_omits faults n m t) lost) h))
      | inr kept ↦ in_sent t n m apart kept (sent w faults n m t) refl d (subst (λ b. Contains (option_to_list (chosen t n m b)) d)
          (not_either (nat_eq n m) (set_omits faults n m t) (false_from_ne_true (nat_eq n m) (λ e. apart (eqb-true n m e))) kept) h)
    ]
  ]

  -- the list of a slot whose note is late
  in_of : (t n m : ℕ) (note : Note) → n ≢ m → set_omits faults n m t ≡ false → sent w faults n m t ≡ Some note
      → earliest links n m t < w.arrival n m t → told_in w faults links t n m ≡ delay_of t n m ∷ []
  in_of t n m note apart kept sends late =
      ap (λ b. option_to_list (chosen t n m b))
      (not_either (nat_eq n m) (set_omits faults n m t) (false_from_ne_true (nat_eq n m) (λ e. apart (eqb-true n m e))) kept)
      ∙ ap (λ o. option_to_list (late_sent w faults links t n m o)) sends
      ∙ ap (λ b. option_to_list (if b then Some (delay_of t n m) else None)) (lt-ltb (earliest links n m t) (w.arrival n m t) late)

  pub late_in : (t n m : ℕ) (note : Note) → 1 ≤ t → t ≤ w.horizon → n < w.rules.nodes → m < w.rules.nodes → n ≢ m → set_omits faults n m t ≡ false
      → sent w faults n m t ≡ Some note → earliest links n m t < w.arrival n m t → Contains (told w faults links) (delay_of t n m)
  late_in t n m note first last from to apart kept sends late =
      let back : suc (t - 1) ≡ t = omega (arith, first) in
      let here : Contains (told_in w faults links t n m) (delay_of t n m) =
      subst (λ ds. Contains ds (delay_of t n m)) (sym (in_of t n m note apart kept sends late)) (Contains-first (delay_of t n m) []) in
      let at : Contains (told_at w faults links t) (delay_of t n m) =
      in_below (told_from w faults links t) w.rules.nodes n (delay_of t n m) from
      (in_below (told_in w faults links t n) w.rules.nodes m (delay_of t n m) to here) in
      in_below (λ past. told_at w faults links (suc past)) w.horizon (t - 1) (delay_of t n m) (omega (arith, first, last))
      (subst (λ k. Contains (told_at w faults links k) (delay_of t n m)) (sym back) at)

  -- the told delays are late,
  pub told-late : (d : Delay) → Contains (told w faults links) d → IsLate w faults links d
  told-late d h =
      let step = from_below (λ past. told_at w faults links (suc past)) w.horizon d h in
      let from = from_below (told_from w faults links (suc step.0)) w.rules.nodes d step.2 in
      let to = from_below (told_in w faults links (suc step.0) from.0) w.rules.nodes d from.2 in
      let it = of_in (suc step.0) from.0 to.0 d to.2 in
      let few = step.1 in
      subst (IsLate w faults links) it.is (record {
        sender = from.1;
        receiver = to.1;
        apart = it.apart;
        first = omega arith;
        last = omega (arith, few);
        note = it.note;
        sends = it.sends;
        kept = it.kept;
        arrives = refl;
        late = it.late;
      })

  -- and the late ones are told
  pub late-told : (d : Delay) → IsLate w faults links d → Contains (told w faults links) d
  late-told d is =
      let arrives : d.at ≡ w.arrival d.slot.from d.slot.to d.slot.step = is.arrives in
      let late : earliest links d.slot.from d.slot.to d.slot.step < w.arrival d.slot.from d.slot.to d.slot.step =
      subst (λ u. earliest links d.slot.from d.slot.to d.slot.step < u) arrives is.late in
      let same : delay_of d.slot.step d.slot.from d.slot.to ≡ d = ap (λ u. record { slot = d.slot; at = u }) (sym arrives) in
      subst (Contains (told w faults links)) same
      (late_in d.slot.step d.slot.from d.slot.to is.note is.first is.last is.sender is.receiver is.apart is.kept is.sends late)

  -- no slot is told twice
  one_apart : (o : Option Delay) → AreApart (option_to_list o)
  one_apart None = tt
  one_apart (Some d) = (tt, tt)

  from_apart : (t n : ℕ) → AreApart (told_from w faults links t n)
  from_apart t n =
      apart-below (told_in w faults links t n) (λ s. s.to) w.rules.nodes (λ m. one_apart (late_note w faults links t n m))
      (λ m d h. sym (ap (λ x. x.slot.to) (of_in t n m d h).is))

  at_apart : (t : ℕ) → AreApart (told_at w faults links t)
  at_apart t =
      apart-below (told_from w faults links t) (λ s. s.from) w.rules.nodes (from_apart t) (λ n d h.
      let found = from_below (told_in w faults links t n) w.rules.nodes d h in
      sym (ap (λ x. x.slot.from) (of_in t n found.0 d found.2).is))

  pub told_apart : AreApart (told w faults links)
  told_apart =
      apart-below (λ past. told_at w faults links (suc past)) (λ s. s.step - 1) w.horizon (λ past. at_apart (suc past)) (λ past d h.
      let from = from_below (told_from w faults links (suc past)) w.rules.nodes d h in
      let to = from_below (told_in w faults links (suc past) from.0) w.rules.nodes d from.2 in
      let step : suc past ≡ d.slot.step = ap (λ x. x.slot.step) (of_in (suc past) from.0 to.0 d to.2).is in
      omega (arith, step))
