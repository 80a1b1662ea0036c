-- A list of delays, read piece by piece.
use Rattle.std.proofs.Common.{◌≡◌, ◌≢◌, ℕ, ◌<◌, eqb, List, [], ◌∷◌, ◌++◌, length, map, Option, Some, None}
use Rattle.std.proofs.Common.{append_assoc, length-append, refl, sym, ap, ◌∙◌, subst, arith}
use Rattle.std.specs.Prelude.{MatchOption}
use Rattle.std.specs.List.{AllByRecursion, Contains, join_with_byte, slice_split}
use Rattle.std.specs.Iterator.{AlwaysYields}
use Rattle.std.proofs.lemmas.List.{append-nil, map-append}
use Rattle.std.proofs.lemmas.List.Splits.{join_with_byte-slice_split, slice_split_at, slice_split_none}
use Rattle.lf_list.proofs.Laws.{Contains-first, Contains-more, each-in}
use Rattle.std.specs.Fmt.{decimal}
use Rattle.lf_faults.specs.Texts.{slot_at}
use Rattle.lf_latency.specs.declared.arrivals.Arrivals.{Arrivals}
use Rattle.lf_latency.specs.declared.network.Timing.{Timing}
use Rattle.lf_latency.specs.Arrivals.{IsTiming}
use Rattle.lf_delays.specs.declared.delay.Delay.{Delay}
use Rattle.lf_delays.specs.Delays.{AreDelays, IsDelay, IsNew, IsRead, IsShort, delay_text, delayed, list_text}
use Rattle.lf_delays.proofs.Lists.{apart-push, each-push}
use Rattle.lf_delays.proofs.Texts.{delay-short, no_comma, same_text}

heads : (x y : List ℕ) (xs ys : List (List ℕ)) → x ∷ xs ≡ y ∷ ys → x ≡ y
heads x y xs ys e = cc

tails : (x y : List ℕ) (xs ys : List (List ℕ)) → x ∷ xs ≡ y ∷ ys → xs ≡ ys
tails x y xs ys e = cc

-- the pieces so far are the texts of these delays
pub record IsReading (timing : Timing) (text : List ℕ) (ds : List Delay) (pieces : List (List ℕ)) : Type 0 where
  pub are : AreDelays timing ds
  pub some : 0 < length text
  pub cut : slice_split (λ b. eqb b 44) text ≡ map delay_text ds ++ pieces

module _ (timing : Timing) (limits : IsTiming timing) where
  -- the texts of delays, joined by commas, are cut into these texts
  split_joined : (d : Delay) (ds : List Delay) → AllByRecursion (IsDelay timing) (d ∷ ds)
      → slice_split (λ b. eqb b 44) (list_text (d ∷ ds)) ≡ map delay_text (d ∷ ds)
  split_joined d [] each = slice_split_none (λ b. eqb b 44) (delay_text d) (no_comma timing limits d each.0)
  split_joined d (e ∷ es) each =
      slice_split_at (λ b. eqb b 44) (delay_text d) 44 (list_text (e ∷ es)) (no_comma timing limits d each.0) refl
      ∙ ap (λ ps. delay_text d ∷ ps) (split_joined e es each.1)

  split_list : (text : List ℕ) (ds : List Delay) → 0 < length text → AllByRecursion (IsDelay timing) ds → text ≡ list_text ds
      → slice_split (λ b. eqb b 44) text ≡ map delay_text ds
  split_list text [] some each is = absurd (omega (arith, some, ap length is))
  split_list text (d ∷ ds) some each is = ap (slice_split (λ b. eqb b 44)) is ∙ split_joined d ds each

  -- a piece that follows the texts of some delays, among those of a list, is the text of one of another slot
  pub record IsFound (es ds : List Delay) (piece : List ℕ) : Type 0 where
    pub delay : Delay
    pub is : IsDelay timing delay
    pub new : IsNew ds delay
    pub spelled : piece ≡ delay_text delay
    pub there : Contains es delay

  found : (es ds : List Delay) (piece : List ℕ) (pieces : List (List ℕ)) → AreDelays timing es → AllByRecursion (IsDelay timing) ds
      → map delay_text es ≡ map delay_text ds ++ piece ∷ pieces → IsFound es ds piece
  found [] [] piece pieces are each same = absurd (omega (arith, ap length same))
  found [] (x ∷ xs) piece pieces are each same = absurd (omega (arith, ap length same))
  found (e ∷ es) [] piece pieces are each same = record {
    delay = e;
    is = are.each.0;
    new = tt;
    spelled = sym (heads (delay_text e) piece (map delay_text es) pieces same);
    there = Contains-first e es;
  }
  found (e ∷ es) (x ∷ xs) piece pieces are each same =
      let one : e ≡ x = same_text e x (delay-short timing limits e are.each.0) (delay-short timing limits x each.0)
      (heads (delay_text e) (delay_text x) (map delay_text es) (map delay_text xs ++ piece ∷ pieces) same) in
      let rest = found es xs piece pieces (record { each = are.each.1; apart = are.apart.1 }) each.1
      (tails (delay_text e) (delay_text x) (map delay_text es) (map delay_text xs ++ piece ∷ pieces) same) in
      let other = each-in (λ y. y.slot ≢ e.slot) es are.apart.0 rest.delay rest.there in
      record {
        delay = rest.delay;
        is = rest.is;
        new = ((λ e₁. other (sym e₁ ∙ ap (λ y. y.slot) (sym one))), rest.new);
        spelled = rest.spelled;
        there = Contains-more e es rest.delay rest.there;
      }

  -- where a piece is that of no such delay, the text is that of no list
  pub stops : (text piece : List ℕ) (pieces : List (List ℕ)) (ds : List Delay) → IsReading timing text ds (piece ∷ pieces)
      → ((d : Delay) → IsDelay timing d → IsNew ds d → piece ≢ delay_text d) → (es : List Delay) → AreDelays timing es → text ≢ list_text es
  stops text piece pieces ds reading none es are same =
      let it = found es ds piece pieces are reading.are.each (sym (split_list text es reading.some are.each same) ∙ reading.cut) in
      none it.delay it.is it.new it.spelled

  -- one piece further
  pub further : (text piece : List ℕ) (pieces : List (List ℕ)) (ds : List Delay) → IsReading timing text ds (piece ∷ pieces) → (d : Delay)
      → IsDelay timing d → IsNew ds d → piece ≡ delay_text d → IsReading timing text (ds ++ d ∷ []) pieces
  further text piece pieces ds reading d is new spelled = record {
    are = record { each = each-push (IsDelay timing) ds d reading.are.each is; apart = apart-push ds d reading.are.apart new };
    some = reading.some;
    cut = reading.cut ∙ ap (λ p. map delay_text ds ++ p ∷ pieces) spelled ∙ sym (append_assoc (map delay_text ds) (delay_text d ∷ []) pieces)
        ∙ ap (λ ps. ps ++ pieces) (sym (map-append delay_text ds (d ∷ [])));
  }

  -- lists of one text are one
  maps_one : (ds es : List Delay) → AllByRecursion (IsDelay timing) ds → AllByRecursion (IsDelay timing) es → map delay_text ds ≡ map delay_text es → ds ≡ es
  maps_one [] [] d_each e_each same = refl
  maps_one [] (e ∷ es) d_each e_each same = absurd (omega (arith, ap length same))
  maps_one (d ∷ ds) [] d_each e_each same = absurd (omega (arith, ap length same))
  maps_one (d ∷ ds) (e ∷ es) d_each e_each same =
      let first : d ≡ e = same_text d e (delay-short timing limits d d_each.0) (delay-short timing limits e e_each.0)
      (heads (delay_text d) (delay_text e) (map delay_text ds) (map delay_text es) same) in
      let rest : ds ≡ es = maps_one ds es d_each.1 e_each.1 (tails (delay_text d) (delay_text e) (map delay_text ds) (map delay_text es) same) in
      ap (λ x. x ∷ ds) first ∙ ap (λ xs. e ∷ xs) rest

  text_some : (d : Delay) → 0 < length (delay_text d)
  text_some d = omega (arith, length-append (slot_at d.slot.from d.slot.to d.slot.step) (32 ∷ decimal d.at))

  list_some : (d : Delay) (ds : List Delay) → 0 < length (list_text (d ∷ ds))
  list_some d [] = text_some d
  list_some d (e ∷ es) = omega (arith, text_some d, length-append (delay_text d) (44 ∷ list_text (e ∷ es)))

  pub lists_one : (ds es : List Delay) → AreDelays timing ds → AreDelays timing es → list_text ds ≡ list_text es → ds ≡ es
  lists_one [] [] d_are e_are same = refl
  lists_one [] (e ∷ es) d_are e_are same = absurd (omega (arith, list_some e es, ap length same))
  lists_one (d ∷ ds) [] d_are e_are same = absurd (omega (arith, list_some d ds, ap length same))
  lists_one (d ∷ ds) (e ∷ es) d_are e_are same =
      maps_one (d ∷ ds) (e ∷ es) d_are.each e_are.each
      (sym (split_joined d ds d_are.each) ∙ ap (slice_split (λ b. eqb b 44)) same ∙ split_joined e es e_are.each)

  -- a piece that names a delay that is none of the network, or whose slot is there, is the text of no other
  pub none-other : (piece : List ℕ) (ds : List Delay) (d : Delay) → IsShort d → piece ≡ delay_text d → (IsDelay timing d → IsNew ds d → ⊥)
      → (e : Delay) → IsDelay timing e → IsNew ds e → piece ≢ delay_text e
  none-other piece ds d short spelled never e is new same =
      let one : e ≡ d = same_text e d (delay-short timing limits e is) short (sym same ∙ spelled) in
      never (subst (IsDelay timing) one is) (subst (IsNew ds) one new)

  -- what is read, by the delays that the text names
  pub read_some : (text : List ℕ) (ds : List Delay) → AreDelays timing ds → text ≡ list_text ds → (arrivals : Arrivals) → arrivals ≡ delayed timing ds
      → IsRead timing text (Some arrivals)
  read_some text ds are spelled arrivals give other = (
    (λ some. let same : arrivals ≡ other = cc in record { delays = ds; are = are; spelled = spelled; give = sym same ∙ give }),
    (λ names.
        let one : ds ≡ names.delays = lists_one ds names.delays are names.are (sym spelled ∙ names.spelled) in
        ap Some (give ∙ ap (delayed timing) one ∙ sym names.give)),
  )

  pub read_none : (text : List ℕ) → ((ds : List Delay) → AreDelays timing ds → text ≢ list_text ds) → IsRead timing text None
  read_none text none other = (
    (λ some. cc),
    (λ names. absurd (none names.delays names.are names.spelled)),
  )

-- what holds of what an option has
pub told-some : {A : Type 0} (P : Type 0) (Q : A → Type 0) (o : Option A) (x : A) → o ≡ Some x → MatchOption o P Q → Q x
told-some P Q o x is h = subst (λ p. MatchOption p P Q) is h

-- at first all pieces are still to come
pub at_first : (timing : Timing) (text : List ℕ) → 0 < length text → IsReading timing text [] (slice_split (λ b. eqb b 44) text)
at_first timing text some = record { are = record { each = tt; apart = tt }; some = some; cut = refl }

-- at the end the text is that of the delays
pub at_end : (timing : Timing) (text : List ℕ) (ds : List Delay) → IsReading timing text ds [] → text ≡ list_text ds
at_end timing text ds reading =
    sym (join_with_byte-slice_split 44 text) ∙ ap (join_with_byte 44) (reading.cut ∙ append-nil (map delay_text ds))

-- what an iterator gives that yields these pieces
module _ {S A : Type 0} (steps : S → Option A → S → Type 0) (v : A → List ℕ) (s t : S) where
  pub yields_some : (x : A) (pieces : List (List ℕ)) → AlwaysYields steps v s pieces → steps s (Some x) t
      → (rest : List (List ℕ)) × (pieces ≡ v x ∷ rest) × AlwaysYields steps v t rest
  yields_some x [] h step = absurd (h x t step)
  yields_some x (p ∷ ps) h step = let first = h.1 x t step in (ps, ap (λ q. q ∷ ps) (sym first.0), first.1)

  pub yields_none : (pieces : List (List ℕ)) → AlwaysYields steps v s pieces → steps s None t → pieces ≡ []
  yields_none [] h step = refl
  yields_none (p ∷ ps) h step = absurd (h.0 t step)
