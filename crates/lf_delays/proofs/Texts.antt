-- The text of a delay shows which it is, and has no comma.
use Rattle.std.proofs.Common.{◌≡◌, ◌≢◌, ℕ, zero, suc, ◌+◌, ◌-◌, ◌/◌, ◌%◌, ◌<◌, ◌≤◌, Bool, true, false, not}
use Rattle.std.proofs.Common.{eqb, ne_eqb, List, [], ◌∷◌, ◌++◌, length, codes, get_or, take, drop}
use Rattle.std.proofs.Common.{append_assoc, length-append, refl, sym, ap, ◌∙◌, subst, arith, inl, inr, eq-eqb}
use Rattle.std.specs.Fmt.{decimal}
use Rattle.std.specs.List.{All, list_all}
use Rattle.std.proofs.lemmas.Bool.{and_from, cases_lt}
use Rattle.std.proofs.lemmas.Fmt.{decimal_digit, decimal_injective, decimal_step}
use Rattle.std.proofs.lemmas.List.{drop_more, get_or-append-add, get_or-drop, length-drop, take-append-drop, take_all}
use Rattle.std.proofs.Math.Seq.{get_or-append_seam}
use Rattle.std.proofs.lemmas.List.Elements.{All-append, All-weaker}
use Rattle.std.proofs.lemmas.List.Folds.{list_all-append}
use Rattle.std.proofs.lemmas.List.Sums.{AllPass-from_list_all}
use Rattle.lf_faults.specs.declared.fault.Parts.TheVariants.{Omit}
use Rattle.lf_faults.specs.Faults.{IsFault}
use Rattle.lf_faults.specs.Texts.{slot_at}
use Rattle.lf_faults.proofs.Laws.{spelling_bytes}
use Rattle.lf_latency.specs.declared.network.Timing.{Timing}
use Rattle.lf_latency.specs.Arrivals.{IsTiming}
use Rattle.lf_delays.specs.declared.delay.Delay.{Delay}
use Rattle.lf_delays.specs.Delays.{IsDelay, IsShort, delay_text}
use Rattle.lf_delays.proofs.Tables.{slot_same}

-- digits, which pass a test
number_pass : (p : ℕ → Bool) → ((d : ℕ) → d < 10 → p (48 + d) ≡ true) → (n : ℕ) → n < 100 → list_all p (decimal n) ≡ true
number_pass p digit n high = elim (cases_lt n 10) [
  | inl low ↦ one n low
  | inr ten ↦
      ap (list_all p) (decimal_step n ten (omega (arith, high)))
      ∙ list_all-append p (decimal (n / 10)) ((48 + n % 10) ∷ [])
      ∙ and_from (list_all p (decimal (n / 10))) (list_all p ((48 + n % 10) ∷ [])) (one (n / 10) (omega (arith, high)))
      (and_from (p (48 + n % 10)) true (digit (n % 10) (omega arith)) refl)
]
  where
    one : (k : ℕ) → k < 10 → list_all p (decimal k) ≡ true
    one k low = ap (list_all p) (decimal_digit k low) ∙ and_from (p (48 + k)) true (digit k low) refl

-- no byte is c
abbrev pub Lacks : ℕ → List ℕ → Type 0
Lacks c bs = (i : ℕ) → i < length bs → get_or bs i 0 ≢ c

-- a number has digits alone
number_lacks : (c : ℕ) → ((d : ℕ) → d < 10 → 48 + d ≢ c) → (n : ℕ) → n < 100 → Lacks c (decimal n)
number_lacks c apart n high i inside same =
    let passes : list_all (λ b. not (eqb b c)) (decimal n) ≡ true =
    number_pass (λ b. not (eqb b c)) (λ d low. ap not (ne_eqb (48 + d) c (apart d low))) n high in
    let here : not (eqb (get_or (decimal n) i 0) c) ≡ true = AllPass-from_list_all (λ b. not (eqb b c)) (decimal n) passes i 0 inside in
    let wrong : false ≡ true = sym (ap not (eq-eqb (get_or (decimal n) i 0) c same)) ∙ here in
    cc

no_space : (n : ℕ) → n < 100 → Lacks 32 (decimal n)
no_space = number_lacks 32 (λ d low e. omega (arith, e))

no_arrow : (n : ℕ) → n < 100 → Lacks 62 (decimal n)
no_arrow = number_lacks 62 (λ d low e. omega (arith, e, low))

lacks_cons : (c x : ℕ) (xs : List ℕ) → x ≢ c → Lacks c xs → Lacks c (x ∷ xs)
lacks_cons c x xs other lacks zero inside same = other same
lacks_cons c x xs other lacks (suc i) inside same = lacks i (omega (arith, inside)) same

heads : (x y : ℕ) (xs ys : List ℕ) → x ∷ xs ≡ y ∷ ys → x ≡ y
heads x y xs ys e = cc

tails : (x y : ℕ) (xs ys : List ℕ) → x ∷ xs ≡ y ∷ ys → xs ≡ ys
tails x y xs ys e = cc

lacks_not : (c : ℕ) (xs ys bs : List ℕ) → bs ≡ xs ++ c ∷ ys → Lacks c bs → ⊥
lacks_not c xs ys bs is lacks =
    lacks (length xs) (omega (arith, ap length is, length-append xs (c ∷ ys))) (ap (λ l. get_or l (length xs) 0) is ∙ get_or-append_seam xs c ys 0)

-- the last place of a byte parts a text in one way
last_cut : (c : ℕ) (xs us ys vs : List ℕ) → xs ++ c ∷ ys ≡ us ++ c ∷ vs → Lacks c ys → Lacks c vs → (xs ≡ us) × (ys ≡ vs)
last_cut c [] [] ys vs same one two = (refl, tails c c ys vs same)
last_cut c [] (u ∷ us) ys vs same one two = absurd (lacks_not c us vs ys (tails c u ys (us ++ c ∷ vs) same) one)
last_cut c (x ∷ xs) [] ys vs same one two = absurd (lacks_not c xs ys vs (tails c x vs (xs ++ c ∷ ys) (sym same)) two)
last_cut c (x ∷ xs) (u ∷ us) ys vs same one two =
    let rest = last_cut c xs us ys vs (tails x u (xs ++ c ∷ ys) (us ++ c ∷ vs) same) one two in
    let first : x ≡ u = heads x u (xs ++ c ∷ ys) (us ++ c ∷ vs) same in
    (ap (λ k. k ∷ xs) first ∙ ap (λ l. u ∷ l) rest.0, rest.1)

-- a delay of a network is short, and its slot one that can be lost
module _ (timing : Timing) (limits : IsTiming timing) (d : Delay) (is : IsDelay timing d) where
  pub delay-fault : IsFault (Omit d.slot.from d.slot.to d.slot.step)
  delay-fault =
      let sender = is.slot.pair.sender in
      let receiver = is.slot.pair.receiver in
      let last = is.slot.last in
      let eight = limits.nodes_at_most in
      let short = limits.horizon_at_most in
      (omega (arith, sender, eight), omega (arith, receiver, eight), is.slot.pair.apart, is.slot.first, omega (arith, last, short))

  pub delay-short : IsShort d
  delay-short =
      let fault = delay-fault in
      let low : d.slot.from < 8 = fault.0 in
      let high : d.slot.to < 8 = fault.1 in
      let first : 1 ≤ d.slot.step = is.slot.first in
      let last : d.slot.step ≤ 48 = fault.4 in
      let least = limits.links.least_at_most d.slot.from d.slot.to low high in
      let spread = limits.links.spread_at_most d.slot.from d.slot.to low high in
      let early = is.window.0 in
      let late = is.window.1 in
      record {
        from = omega (arith, low);
        to = omega (arith, high);
        first = first;
        step = omega (arith, last);
        later = omega (arith, first, early);
        at = omega (arith, late, last, least, spread);
      }

-- the text is parted at its last space
module _ (d : Delay) (short : d.at < 100) where
  pub parted : (xs ys : List ℕ) → xs ++ 32 ∷ ys ≡ delay_text d → Lacks 32 ys → (xs ≡ slot_at d.slot.from d.slot.to d.slot.step) × (ys ≡ decimal d.at)
  parted xs ys same lacks = last_cut 32 xs (slot_at d.slot.from d.slot.to d.slot.step) ys (decimal d.at) same lacks (no_space d.at short)

  pub has_space : (bs : List ℕ) → bs ≡ delay_text d → Lacks 32 bs → ⊥
  has_space bs same lacks = lacks_not 32 (slot_at d.slot.from d.slot.to d.slot.step) (decimal d.at) bs same lacks

-- a short slot can be told from its text
module _ (n m t i j s : ℕ) (m_low : m < 10) (j_low : j < 10) (n_low : n < 10) (i_low : i < 10) (t_low : t < 100) (s_low : s < 100) where
  regroup : (x y z : ℕ) → slot_at x y z ≡ (decimal x ++ 62 ∷ decimal y) ++ 32 ∷ 64 ∷ decimal z
  regroup x y z = sym (append_assoc (decimal x) (62 ∷ decimal y) (32 ∷ 64 ∷ decimal z))

  slot_parts : slot_at n m t ≡ slot_at i j s → (n ≡ i) × (m ≡ j) × (t ≡ s)
  slot_parts same =
      let step = last_cut 32 (decimal n ++ 62 ∷ decimal m) (decimal i ++ 62 ∷ decimal j) (64 ∷ decimal t) (64 ∷ decimal s)
      (sym (regroup n m t) ∙ same ∙ regroup i j s)
      (lacks_cons 32 64 (decimal t) (λ e. omega (arith, e)) (no_space t t_low)) (lacks_cons 32 64 (decimal s) (λ e. omega (arith, e)) (no_space s s_low)) in
      let nodes =
      last_cut 62 (decimal n) (decimal i) (decimal m) (decimal j) step.0 (no_arrow m (omega (arith, m_low))) (no_arrow j (omega (arith, j_low))) in (
        decimal_injective n i (omega (arith, n_low)) (omega (arith, i_low)) nodes.0,
        decimal_injective m j (omega (arith, m_low)) (omega (arith, j_low)) nodes.1,
        decimal_injective t s (omega (arith, t_low)) (omega (arith, s_low)) (tails 64 64 (decimal t) (decimal s) step.1),
      )

delay_same : (d e : Delay) → d.slot ≡ e.slot → d.at ≡ e.at → d ≡ e
delay_same d e slot at = ap (λ s. record { slot = s; at = d.at }) slot ∙ ap (λ u. record { slot = e.slot; at = u }) at

-- two short delays with one text are one
pub same_text : (d e : Delay) → IsShort d → IsShort e → delay_text d ≡ delay_text e → d ≡ e
same_text d e d_short e_short same =
    let parts = parted e e_short.at (slot_at d.slot.from d.slot.to d.slot.step) (decimal d.at) same (no_space d.at d_short.at) in
    let slot = slot_parts d.slot.from d.slot.to d.slot.step e.slot.from e.slot.to e.slot.step d_short.to e_short.to d_short.from e_short.from
    d_short.step e_short.step parts.0 in
    delay_same d e (slot_same d.slot e.slot slot.0 slot.1 slot.2)
    (decimal_injective d.at e.at (omega (arith, d_short.at)) (omega (arith, e_short.at)) parts.1)

-- no byte of it is a comma
slot_bytes : (n m t : ℕ) → IsFault (Omit n m t) → All (λ b. (b ≢ 44) × (b ≢ 10)) (slot_at n m t)
slot_bytes n m t fault k d inside =
    subst (λ b. (b ≢ 44) × (b ≢ 10)) (get_or-append-add (codes "omit ") (slot_at n m t) k d)
    (spelling_bytes (Omit n m t) fault (length (codes "omit ") + k) d (omega (arith, inside, length-append (codes "omit ") (slot_at n m t))))

pub no_comma : (timing : Timing) → IsTiming timing → (d : Delay) → IsDelay timing d → All (λ b. eqb b 44 ≡ false) (delay_text d)
no_comma timing limits d is =
    let short = delay-short timing limits d is in
    let slot = slot_at d.slot.from d.slot.to d.slot.step in
    let tail : list_all (λ b. not (eqb b 44)) (32 ∷ decimal d.at) ≡ true =
    number_pass (λ b. not (eqb b 44)) (λ k low. ap not (ne_eqb (48 + k) 44 (λ e. omega (arith, e)))) d.at short.at in
    All-append (λ b. eqb b 44 ≡ false) slot (32 ∷ decimal d.at)
    (All-weaker (λ b. (b ≢ 44) × (b ≢ 10)) (λ b. eqb b 44 ≡ false) (λ b plain. ne_eqb b 44 plain.0) slot
    (slot_bytes d.slot.from d.slot.to d.slot.step (delay-fault timing limits d is)))
    (All-weaker (λ b. not (eqb b 44) ≡ true) (λ b. eqb b 44 ≡ false) (λ b passes. fails (eqb b 44) passes) (32 ∷ decimal d.at)
    (AllPass-from_list_all (λ b. not (eqb b 44)) (32 ∷ decimal d.at) tail))
  where
    fails : (b : Bool) → not b ≡ true → b ≡ false
    fails true passes = let wrong : false ≡ true = passes in cc
    fails false passes = refl

-- what is read of a piece
module _ (bytes bs : List ℕ) (is : bs ≡ bytes) where
  -- none where it has no space
  pub none-spaceless : Lacks 32 bytes → (d : Delay) → IsShort d → bytes ≢ delay_text d
  none-spaceless lacks d short same = has_space d short.at bytes same lacks

  module _ (cut : ℕ) (inside : cut < length bytes) (space : get_or bytes cut 0 ≡ 32) (last : (i : ℕ) → cut < i → i < length bytes → get_or bytes i 0 ≢ 32) where
    halves : bytes ≡ take cut bytes ++ 32 ∷ drop (cut + 1) bytes
    halves =
        sym (take-append-drop cut bytes) ∙ ap (λ l. take cut bytes ++ l) (drop_more bytes cut 0 inside ∙ ap (λ b. b ∷ drop (cut + 1) bytes) space)

    behind : Lacks 32 (drop (cut + 1) bytes)
    behind i short same =
        last ((cut + 1) + i) (omega arith) (omega (arith, short, length-drop (cut + 1) bytes)) (sym (get_or-drop (cut + 1) bytes i 0) ∙ same)

    rest : take (length bs - (cut + 1)) (drop (cut + 1) bs) ≡ drop (cut + 1) bytes
    rest = take_all (length bs - (cut + 1)) (drop (cut + 1) bs) (omega (arith, length-drop (cut + 1) bs)) ∙ ap (drop (cut + 1)) is

    -- none where what is before its last space names no slot, or what is behind it no step
    pub none-slotless : ((n m t : ℕ) → n < 10 → m < 10 → 1 ≤ t → t < 100 → take cut bs ≢ slot_at n m t) → (d : Delay) → IsShort d → bytes ≢ delay_text d
    none-slotless none d short same =
        none d.slot.from d.slot.to d.slot.step short.from short.to short.first short.step
        (ap (take cut) is ∙ (parted d short.at (take cut bytes) (drop (cut + 1) bytes) (sym halves ∙ same) behind).0)

    pub none-stepless : ((u : ℕ) → 1 ≤ u → u < 100 → take (length bs - (cut + 1)) (drop (cut + 1) bs) ≢ decimal u) → (d : Delay)
        → IsShort d → bytes ≢ delay_text d
    none-stepless none d short same =
        none d.at short.later short.at
        (rest ∙ (parted d short.at (take cut bytes) (drop (cut + 1) bytes) (sym halves ∙ same) behind).1)

    -- else the delay of both
    pub both_named : (d : Delay) → (d.slot.from < 10) × (d.slot.to < 10) × (1 ≤ d.slot.step) × (d.slot.step < 100)
        × (take cut bs ≡ slot_at d.slot.from d.slot.to d.slot.step)
        → (1 ≤ d.at) × (d.at < 100) × (take (length bs - (cut + 1)) (drop (cut + 1) bs) ≡ decimal d.at)
        → IsShort d × (bytes ≡ delay_text d)
    both_named d slot at = (
      record { from = slot.0; to = slot.1; first = slot.2; step = slot.3; later = at.0; at = at.1 },
      halves ∙ ap (λ l. l ++ 32 ∷ drop (cut + 1) bytes) (ap (take cut) (sym is) ∙ slot.4)
          ∙ ap (λ l. slot_at d.slot.from d.slot.to d.slot.step ++ 32 ∷ l) (sym rest ∙ at.2),
    )
