-- The lines of a reply show its faults and its late notes: two that show others are two replies.
use Rattle.std.proofs.Common.{◌≡◌, ℕ, zero, suc, ◌+◌, ◌/◌, ◌%◌, Bool, true, false, not, ◌==◌}
use Rattle.std.proofs.Common.{nat_lt, eqb, ne_eqb, List, [], ◌∷◌, ◌++◌, length, codes, drop, map}
use Rattle.std.proofs.Common.{append_assoc, length-append, get_or, refl, sym, ap, ◌∙◌, arith}
use Rattle.std.specs.Prelude.{⊤, Some, if◌then◌else◌}
use Rattle.std.specs.Fmt.{decimal, digit_glyph, digits, digits_onto}
use Rattle.std.specs.List.{All, join_with_byte, list_all, slice_split}
use Rattle.std.proofs.lemmas.Bool.{and_from}
use Rattle.std.proofs.lemmas.List.Elements.{All-weaker}
use Rattle.std.proofs.lemmas.List.Folds.{list_all-append}
use Rattle.std.proofs.lemmas.List.Splits.{slice_split_at}
use Rattle.std.proofs.lemmas.List.Sums.{AllPass-from_list_all}
use Rattle.lf_faults.specs.declared.fault.Parts.{Parts}
use Rattle.lf_faults.specs.declared.fault.Parts.TheVariants.{Omit, Crash, Pause}
use Rattle.lf_faults.specs.Texts.{node_at_step, slot_at, spelling}
use Rattle.lf_delays.specs.declared.delay.Delay.{Delay}
use Rattle.lf_delays.specs.Delays.{arrive_lines, delay_text, list_text}
use Rattle.lf_trace.specs.Lines.{line}
use Rattle.leastfault.specs.Replays.{set_words}
use Rattle.leastfault.specs.Reports.{fault_lines, report}

-- no byte is a line feed
abbrev inside : List ℕ → Bool
inside bs = list_all (λ b. not (eqb b 10)) bs

both : (xs ys : List ℕ) → inside xs ≡ true → inside ys ≡ true → inside (xs ++ ys) ≡ true
both xs ys a b = list_all-append (λ c. not (eqb c 10)) xs ys ∙ and_from (inside xs) (inside ys) a b

-- a number has digits alone, however long it is
glyph : (low : Bool) (d : ℕ) → not (eqb (if low then 48 + d else (if false then 55 + d else 87 + d)) 10) ≡ true
glyph true d = ap not (ne_eqb (48 + d) 10 (λ e. omega (arith, e)))
glyph false d = ap not (ne_eqb (87 + d) 10 (λ e. omega (arith, e)))

chosen : (b : Bool) (xs ys : List ℕ) → inside xs ≡ true → inside ys ≡ true → inside (if b then xs else ys) ≡ true
chosen true xs ys one other = one
chosen false xs ys one other = other

digits_inside : (k n : ℕ) (acc : List ℕ) → inside acc ≡ true → inside (digits_onto k 10 false n acc) ≡ true
digits_inside zero n acc is = is
digits_inside (suc k) n acc is =
    let d = digit_glyph false (n % 10) in
    let here = and_from (not (eqb d 10)) (inside acc) (glyph (nat_lt (n % 10) 10) (n % 10)) is in
    chosen (n / 10 == 0) (d ∷ acc) (digits_onto k 10 false (n / 10) (d ∷ acc)) here (digits_inside k (n / 10) (d ∷ acc) here)

number : (n : ℕ) → inside (decimal n) ≡ true
unfolding digits
number n = digits_inside 64 n [] refl

-- nor has the text of a fault or of a delay a line feed
place_inside : (m t : ℕ) → inside (node_at_step m t) ≡ true
place_inside m t = both (decimal m) (codes " @" ++ decimal t) (number m) (both (codes " @") (decimal t) refl (number t))

slot_inside : (n m t : ℕ) → inside (slot_at n m t) ≡ true
slot_inside n m t =
    both (decimal n) (codes ">" ++ node_at_step m t) (number n) (both (codes ">") (node_at_step m t) refl (place_inside m t))

spelling_inside : (f : Parts) → inside (spelling f) ≡ true
spelling_inside (Omit n m t) = both (codes "omit ") (slot_at n m t) refl (slot_inside n m t)
spelling_inside (Crash n t) = both (codes "crash ") (node_at_step n t) refl (place_inside n t)
spelling_inside (Pause n t) = both (codes "pause ") (node_at_step n t) refl (place_inside n t)

abbrev arrives : Delay → List ℕ
arrives d = codes "arrive " ++ delay_text d

arrives_inside : (d : Delay) → inside (arrives d) ≡ true
arrives_inside d =
    let slot = slot_at d.slot.from d.slot.to d.slot.step in
    both (codes "arrive ") (delay_text d) refl
    (both slot (codes " " ++ decimal d.at) (slot_inside d.slot.from d.slot.to d.slot.step) (both (codes " ") (decimal d.at) refl (number d.at)))

-- lines, each with its line feed, which is byte 10
abbrev lines : List (List ℕ) → List ℕ
lines [] = []
lines (l ∷ ls) = l ++ 10 ∷ lines ls

abbrev AreInside : List (List ℕ) → Type 0
AreInside [] = ⊤
AreInside (l ∷ ls) = (inside l ≡ true) × AreInside ls

fails : (b : Bool) → not b ≡ true → b ≡ false
fails true passes = let wrong : false ≡ true = passes in cc
fails false passes = refl

lacks : (l : List ℕ) → inside l ≡ true → All (λ b. eqb b 10 ≡ false) l
lacks l is =
    All-weaker (λ b. not (eqb b 10) ≡ true) (λ b. eqb b 10 ≡ false) (λ b passes. fails (eqb b 10) passes) l
    (AllPass-from_list_all (λ b. not (eqb b 10)) l is)

split : (ls : List (List ℕ)) → AreInside ls → slice_split (λ b. eqb b 10) (lines ls) ≡ ls ++ [] ∷ []
split [] are = refl
split (l ∷ ls) are = slice_split_at (λ b. eqb b 10) l 10 (lines ls) (lacks l are.0) refl ∙ ap (λ r. l ∷ r) (split ls are.1)

heads : (x y : List ℕ) (xs ys : List (List ℕ)) → x ∷ xs ≡ y ∷ ys → x ≡ y
heads x y xs ys e = cc

tails : (x y : List ℕ) (xs ys : List (List ℕ)) → x ∷ xs ≡ y ∷ ys → xs ≡ ys
tails x y xs ys e = cc

cons_both : (x y : List ℕ) (xs ys : List (List ℕ)) → x ≡ y → xs ≡ ys → x ∷ xs ≡ y ∷ ys
cons_both x y xs ys first more = ap (λ z. z ∷ xs) first ∙ ap (λ zs. y ∷ zs) more

front : (e : List ℕ) (xs ys : List (List ℕ)) → xs ++ e ∷ [] ≡ ys ++ e ∷ [] → xs ≡ ys
front e [] [] same = refl
front e [] (y ∷ ys) same = absurd (omega (arith, ap length same, length-append ys (e ∷ [])))
front e (x ∷ xs) [] same = absurd (omega (arith, ap length same, length-append xs (e ∷ [])))
front e (x ∷ xs) (y ∷ ys) same =
    cons_both x y xs ys (heads x y (xs ++ e ∷ []) (ys ++ e ∷ []) same) (front e xs ys (tails x y (xs ++ e ∷ []) (ys ++ e ∷ []) same))

-- a text is that of one list of lines
lines_once : (xs ys : List (List ℕ)) → AreInside xs → AreInside ys → lines xs ≡ lines ys → xs ≡ ys
lines_once xs ys a b same = front [] xs ys (sym (split xs a) ∙ ap (slice_split (λ b. eqb b 10)) same ∙ split ys b)

-- the lines of a reply
abbrev header : List Parts → List ℕ
header set = codes "least " ++ decimal (length set)

abbrev shown : List Parts → List Delay → List (List ℕ)
shown set ds = map spelling set ++ map arrives ds

arrive_part : (ds : List Delay) → arrive_lines ds ≡ lines (map arrives ds)
arrive_part [] = refl
arrive_part (d ∷ ds) =
    ap (λ l. codes "arrive " ++ l)
    (append_assoc (delay_text d) (codes "\n") (arrive_lines ds) ∙ ap (λ l. delay_text d ++ 10 ∷ l) (arrive_part ds))

fault_part : (set : List Parts) (ds : List Delay) → fault_lines set ++ arrive_lines ds ≡ lines (shown set ds)
fault_part [] ds = arrive_part ds
fault_part (f ∷ fs) ds =
    append_assoc (line (spelling f)) (fault_lines fs) (arrive_lines ds) ∙ ap (λ l. line (spelling f) ++ l) (fault_part fs ds)
    ∙ append_assoc (spelling f) (codes "\n") (lines (shown fs ds))

reply_part : (budget : ℕ) (set : List Parts) (ds : List Delay) → report budget (Some set) ++ arrive_lines ds ≡ lines (header set ∷ shown set ds)
reply_part budget set ds =
    append_assoc (line (header set)) (fault_lines set) (arrive_lines ds) ∙ ap (λ l. line (header set) ++ l) (fault_part set ds)
    ∙ append_assoc (header set) (codes "\n") (lines (shown set ds))

shown_inside : (set : List Parts) (ds : List Delay) → AreInside (shown set ds)
shown_inside [] [] = tt
shown_inside [] (d ∷ ds) = (arrives_inside d, shown_inside [] ds)
shown_inside (f ∷ fs) ds = (spelling_inside f, shown_inside fs ds)

reply_inside : (set : List Parts) (ds : List Delay) → AreInside (header set ∷ shown set ds)
reply_inside set ds = (both (codes "least ") (decimal (length set)) refl (number (length set)), shown_inside set ds)

-- no fault is told as a late note is
differ : (f : Parts) (d : Delay) → spelling f ≡ arrives d → ⊥
differ (Omit n m t) d same = let first : 111 ≡ 97 = ap (λ l. get_or l 0 0) same in omega (arith, first)
differ (Crash n t) d same = let first : 99 ≡ 97 = ap (λ l. get_or l 0 0) same in omega (arith, first)
differ (Pause n t) d same = let first : 112 ≡ 97 = ap (λ l. get_or l 0 0) same in omega (arith, first)

parted : (s t : List Parts) (ds es : List Delay) → shown s ds ≡ shown t es → (map spelling s ≡ map spelling t) × (map arrives ds ≡ map arrives es)
parted [] [] ds es same = (refl, same)
parted [] (g ∷ gs) [] es same = absurd (omega (arith, ap length same))
parted [] (g ∷ gs) (d ∷ ds) es same = absurd (differ g d (sym (heads (arrives d) (spelling g) (map arrives ds) (shown gs es) same)))
parted (f ∷ fs) [] ds [] same = absurd (omega (arith, ap length same))
parted (f ∷ fs) [] ds (e ∷ es) same = absurd (differ f e (heads (spelling f) (arrives e) (shown fs ds) (map arrives es) same))
parted (f ∷ fs) (g ∷ gs) ds es same =
    let first = heads (spelling f) (spelling g) (shown fs ds) (shown gs es) same in
    let rest = parted fs gs ds es (tails (spelling f) (spelling g) (shown fs ds) (shown gs es) same) in
    (cons_both (spelling f) (spelling g) (map spelling fs) (map spelling gs) first rest.0, rest.1)

stripped : (ds : List Delay) → map (drop 7) (map arrives ds) ≡ map delay_text ds
stripped [] = refl
stripped (d ∷ ds) = ap (λ l. delay_text d ∷ l) (stripped ds)

pub shown_once : (b c : ℕ) (s t : List Parts) (ds es : List Delay)
    → report b (Some s) ++ arrive_lines ds ≡ report c (Some t) ++ arrive_lines es → (set_words s ≡ set_words t) × (list_text ds ≡ list_text es)
shown_once b c s t ds es same =
    let all = lines_once (header s ∷ shown s ds) (header t ∷ shown t es) (reply_inside s ds) (reply_inside t es)
    (sym (reply_part b s ds) ∙ same ∙ reply_part c t es) in
    let parts = parted s t ds es (tails (header s) (header t) (shown s ds) (shown t es) all) in (
      ap (join_with_byte 44) parts.0,
      ap (join_with_byte 44) (sym (stripped ds) ∙ ap (map (drop 7)) parts.1 ∙ stripped es),
    )
