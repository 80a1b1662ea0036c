-- Lists of delays, one more at the end.
use Rattle.std.proofs.Common.{◌≡◌, ◌≢◌, ℕ, zero, suc, ◌+◌, ◌<◌, List, [], ◌∷◌, ◌++◌, length, take, get_or, refl, sym, ap, ◌∙◌, arith, append_assoc}
use Rattle.std.specs.List.{AllByRecursion}
use Rattle.std.proofs.lemmas.List.{append-nil, take_more}
use Rattle.lf_list.proofs.Laws.{each-in}
use Rattle.lf_delays.specs.declared.delay.Delay.{Delay}
use Rattle.lf_delays.specs.Delays.{AreApart, IsNew, arrive_line, arrive_lines}

-- what holds of each element and of one more
pub each-push : {X : Type 0} (P : X → Type 0) (xs : List X) (y : X) → AllByRecursion P xs → P y → AllByRecursion P (xs ++ y ∷ [])
each-push P [] y all last = (last, tt)
each-push P (x ∷ xs) y all last = (all.0, each-push P xs y all.1 last)

-- one delay of a slot that none of them is of
pub apart-push : (ds : List Delay) (d : Delay) → AreApart ds → IsNew ds d → AreApart (ds ++ d ∷ [])
apart-push [] d apart new = (tt, tt)
apart-push (x ∷ xs) d apart new =
    (each-push (λ e. e.slot ≢ x.slot) xs d apart.0 (λ same. new.0 (sym same)), apart-push xs d apart.1 new.1)

-- the first ones are of other slots than each later one
pub new_before : (ds : List Delay) (i : ℕ) (d : Delay) → AreApart ds → i < length ds → IsNew (take i ds) (get_or ds i d)
new_before [] i d apart inside = absurd (omega (arith, inside))
new_before (x ∷ xs) zero d apart inside = tt
new_before (x ∷ xs) (suc i) d apart inside =
    let short : i < length xs = omega (arith, inside) in
    let other = each-in (λ e. e.slot ≢ x.slot) xs apart.0 (get_or xs i d) (i, short, there xs i d short) in
    ((λ same. other (sym same)), new_before xs i d apart.1 short)
  where
    there : (xs : List Delay) (i : ℕ) (d : Delay) → i < length xs → get_or xs i (get_or xs i d) ≡ get_or xs i d
    there [] i d inside = absurd (omega (arith, inside))
    there (x ∷ xs) zero d inside = refl
    there (x ∷ xs) (suc i) d inside = there xs i d (omega (arith, inside))

-- what holds of each holds at a place
pub each-at : {X : Type 0} (P : X → Type 0) (xs : List X) (i : ℕ) (z : X) → AllByRecursion P xs → i < length xs → P (get_or xs i z)
each-at P [] i z all inside = absurd (omega (arith, inside))
each-at P (x ∷ xs) zero z all inside = all.0
each-at P (x ∷ xs) (suc i) z all inside = each-at P xs i z all.1 (omega (arith, inside))

-- the lines, one more
arrive_lines-push : (ds : List Delay) (d : Delay) → arrive_lines (ds ++ d ∷ []) ≡ arrive_lines ds ++ arrive_line d
arrive_lines-push [] d = append-nil (arrive_line d)
arrive_lines-push (x ∷ xs) d =
    ap (λ text. arrive_line x ++ text) (arrive_lines-push xs d) ∙ sym (append_assoc (arrive_line x) (arrive_lines xs) (arrive_line d))

pub lines_more : (old text new : List ℕ) (ds : List Delay) (i : ℕ) (z : Delay) → i < length ds
    → text ≡ old ++ arrive_lines (take i ds) → new ≡ text ++ arrive_line (get_or ds i z) → new ≡ old ++ arrive_lines (take (i + 1) ds)
lines_more old text new ds i z inside before next =
    next ∙ ap (λ t. t ++ arrive_line (get_or ds i z)) before ∙ append_assoc old (arrive_lines (take i ds)) (arrive_line (get_or ds i z))
    ∙ ap (λ t. old ++ t) (sym (arrive_lines-push (take i ds) (get_or ds i z)) ∙ ap arrive_lines (sym (take_more ds i z inside)))
