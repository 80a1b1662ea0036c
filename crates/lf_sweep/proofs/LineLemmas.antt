-- Lines of questions, one behind the other.
use Rattle.std.proofs.Common.{◌≡◌, ℕ, ◌+◌, ◌-◌, ◌*◌, ◌<◌, ◌≤◌, List, [], ◌∷◌, ◌++◌, length, take, get_or, length-append}
use Rattle.std.proofs.Common.{append_assoc, append-nil, refl, sym, ap, subst, ◌∙◌, arith, suc, inl, inr}
use Rattle.std.specs.Prelude.{Option, Bool, true, false, Result, Ok, Err, IfOk, IfErr}
use Rattle.std.specs.Io.KnownBytes.{Appends}
use Rattle.std.proofs.KnownBytes.{Appends-nil, Appends-trans}
use Rattle.std.proofs.lemmas.Bool.{cases_order, false≢true}
use Rattle.std.proofs.lemmas.Nat.{mul-le, row_fits}
use Rattle.lf_sweep.specs.declared.part.Part.{Part}
use Rattle.lf_sweep.specs.Parts.{IsLengthOf, number_at}
use Rattle.lf_sweep.specs.declared.counts.Counts.{Counts}
use Rattle.lf_sweep.specs.declared.counts.Kind.{Kind}
use Rattle.lf_sweep.specs.declared.counts.Kind.TheVariants as kinds
use Rattle.lf_sweep.specs.declared.questions.Line.{Line}
use Rattle.lf_sweep.specs.declared.fault.SweepFault.{SweepFault}
use Rattle.lf_sweep.specs.Counts.{Told, all_of, counts_of, kind_of, of_one, together}
use Rattle.lf_sweep.specs.Faults.{HasCause, HasNoRow, is_write}
use Rattle.lf_sweep.specs.Sweeps.{WasBegun, WasSwept, WerePut, WereTold}
use Rattle.lf_sweep.specs.Rows.{AreInside, AreLines, AreReplies, AreToldAt, IsLineAt, told_lines}

-- a part's place is no more than the number of the question that stands there
pub place_below : (part : Part) (place bound : ℕ) → number_at part place < bound → place < bound
place_below part place bound below =
    let some : 1 ≤ part.parts = omega (arith, part.some.0, part.some.1) in
    let least : place * 1 ≤ place * part.parts = mul-le place 1 place part.parts (omega arith) some in
    omega (arith, below, least)

taken_behind : (xs ys : List ℕ) (n : ℕ) → take (length xs + n) (xs ++ ys) ≡ xs ++ take n ys
taken_behind [] ys n = ap (λ k. take k ys) (omega arith)
taken_behind (x ∷ xs) ys n =
    let more : length (x ∷ xs) + n ≡ suc (length xs + n) = omega arith in
    ap (λ k. take k (x ∷ xs ++ ys)) more ∙ ap (λ l. x ∷ l) (taken_behind xs ys n)

taken_whole : (xs : List ℕ) → take (length xs) xs ≡ xs
taken_whole [] = refl
taken_whole (x ∷ xs) = ap (λ l. x ∷ l) (taken_whole xs)

abbrev made : ℕ → ℕ → ℕ → ℕ → Counts
made n l f r = record { none = n; least = l; full = f; refused = r }

same_counts : (n l f r m k g q : ℕ) → n ≡ m → l ≡ k → f ≡ g → r ≡ q → made n l f r ≡ made m k g q
same_counts n l f r m k g q a b c d = rw (a, b, c, d) refl

together_twice : (a b c : Counts) → together a (together b c) ≡ together (together a b) c
together_twice a b c = same_counts _ _ _ _ _ _ _ _ (omega arith) (omega arith) (omega arith) (omega arith)

together_none : (c : Counts) → c ≡ together (counts_of []) c
together_none c = same_counts c.none c.least c.full c.refused _ _ _ _ (omega arith) (omega arith) (omega arith) (omega arith)

together_end : (c : Counts) → c ≡ together c (counts_of [])
together_end c = same_counts c.none c.least c.full c.refused _ _ _ _ (omega arith) (omega arith) (omega arith) (omega arith)

counts_behind : (xs ys : List Told) → counts_of (xs ++ ys) ≡ together (counts_of xs) (counts_of ys)
counts_behind [] ys = together_none (counts_of ys)
counts_behind (x ∷ xs) ys = ap (together (of_one (kind_of x))) (counts_behind xs ys) ∙ together_twice (of_one (kind_of x)) (counts_of xs) (counts_of ys)

pub one_of_all : (k : Kind) → all_of (of_one k) ≡ 1
one_of_all kinds.Kept = refl
one_of_all kinds.Missed = refl
one_of_all kinds.Full = refl
one_of_all kinds.Refused = refl

all_of_them : (ts : List Told) → all_of (counts_of ts) ≡ length ts
all_of_them [] = refl
all_of_them (t ∷ ts) = omega (arith, one_of_all (kind_of t), all_of_them ts)

-- there are as many replies of all kinds as replies
pub all_is : (ts : List Told) (c : Counts) (n : ℕ) → c ≡ counts_of ts → length ts ≡ n → all_of c ≡ n
all_is ts c n is count = ap all_of is ∙ all_of_them ts ∙ count

module _ (line_at : ℕ → Told → List ℕ) where
  told_behind : (part : Part) (place : ℕ) (xs ys : List Told)
      → told_lines line_at part place (xs ++ ys) ≡ told_lines line_at part place xs ++ told_lines line_at part (place + length xs) ys
  told_behind part place [] ys = let same : place ≡ place + 0 = omega arith in ap (λ k. told_lines line_at part k ys) same
  told_behind part place (x ∷ xs) ys =
      let same : place + 1 + length xs ≡ place + length (x ∷ xs) = omega arith in
      let line = line_at (number_at part place) x in
      ap (λ l. line ++ l) (told_behind part (place + 1) xs ys ∙ ap (λ k. told_lines line_at part (place + 1) xs ++ told_lines line_at part k ys) same)
      ∙ sym (append_assoc line (told_lines line_at part (place + 1) xs) (told_lines line_at part (place + length (x ∷ xs)) ys))

module _ (count : ℕ) (IsReply : ℕ → Told → Type 0) (line_at : ℕ → Told → List ℕ) (part : Part) where
  rows_behind : (place : ℕ) (xs ys : List Told) → AreReplies count IsReply part place xs → AreReplies count IsReply part (place + length xs) ys
      → AreReplies count IsReply part place (xs ++ ys)
  rows_behind place [] ys first more = let same : place + 0 ≡ place = omega arith in subst (λ k. AreReplies count IsReply part k ys) same more
  rows_behind place (x ∷ xs) ys first more =
      let same : place + length (x ∷ xs) ≡ place + 1 + length xs = omega arith in
      (first.0, rows_behind (place + 1) xs ys first.1 (subst (λ k. AreReplies count IsReply part k ys) same more))

  pub no_lines : (place : ℕ) → AreLines count IsReply line_at part place [] []
  no_lines place = record { rows = tt; together = refl }

  pub none_told : (place : ℕ) (bytes : List ℕ) (c : Counts) → bytes ≡ [] → c ≡ counts_of [] → AreToldAt count IsReply line_at part place 0 bytes c
  none_told place bytes c none empty = ([], subst (AreLines count IsReply line_at part place []) (sym none) (no_lines place), refl, empty)

  pub one_told : (place number : ℕ) (one : Line) (c : Counts) → number ≡ number_at part place → number_at part place < count → c ≡ of_one one.kind
      → IsLineAt IsReply line_at number one → AreToldAt count IsReply line_at part place 1 one.bytes.items c
  one_told place number one c number_is inside counted is =
      let told = is.0 in (
        told ∷ [],
        record {
          rows = (record { inside = inside; replied = subst (λ k. IsReply k told) number_is is.1 }, tt);
          together = is.2 ∙ ap (λ k. line_at k told) number_is ∙ sym (append-nil (line_at (number_at part place) told));
        },
        refl,
        counted ∙ ap of_one is.3 ∙ together_end (of_one (kind_of told)),
      )

  -- lines, and those behind them
  pub more_lines : (place n at : ℕ) (ts us : List Told) (a b : List ℕ) → length ts ≡ n → at ≡ place + n → AreLines count IsReply line_at part place ts a
      → AreLines count IsReply line_at part at us b → AreLines count IsReply line_at part place (ts ++ us) (a ++ b)
  more_lines place n at ts us a b many at_is first more =
      let here : at ≡ place + length ts = at_is ∙ ap (λ k. place + k) (sym many) in
      let moved = subst (λ k. AreLines count IsReply line_at part k us b) here more in
      record {
        rows = rows_behind place ts us first.rows moved.rows;
        together =
            ap (λ l. l ++ b) first.together ∙ ap (λ l. told_lines line_at part place ts ++ l) moved.together ∙ sym (told_behind line_at part place ts us);
      }

  counted : (ts us : List Told) (c d all : Counts) → c ≡ counts_of ts → d ≡ counts_of us → all ≡ together c d → all ≡ counts_of (ts ++ us)
  counted ts us c d all first more both = both ∙ ap (λ x. together x d) first ∙ ap (together (counts_of ts)) more ∙ sym (counts_behind ts us)

  pub more_told : (place n m at all : ℕ) (a b shown pushed : List ℕ) (c d both : Counts) → at ≡ place + n → all ≡ n + m → shown ≡ b
      → pushed ≡ a ++ shown → both ≡ together c d → AreToldAt count IsReply line_at part place n a c → AreToldAt count IsReply line_at part at m b d
      → AreToldAt count IsReply line_at part place all pushed both
  more_told place n m at all a b shown pushed c d both at_is all_is shown_is pushed_is both_is first more = (
    first.0 ++ more.0,
    subst (AreLines count IsReply line_at part place (first.0 ++ more.0)) (sym (pushed_is ∙ ap (λ l. a ++ l) shown_is))
        (more_lines place n at first.0 more.0 a b first.2 at_is first.1 more.1),
    length-append first.0 more.0 ∙ ap (λ k. k + length more.0) first.2 ∙ ap (λ k. n + k) more.2 ∙ sym all_is,
    counted first.0 more.0 c d both first.3 more.3 both_is,
  )

-- bytes that were written are all of them that were taken
pub all_taken : (old new : Option (List ℕ)) (bytes : List ℕ) → Appends old new bytes → Appends old new (take (length bytes) bytes)
all_taken old new bytes written = subst (Appends old new) (sym (taken_whole bytes)) written

-- and a front of those behind them
pub front_taken : (old mid new : Option (List ℕ)) (a b : List ℕ) (n : ℕ) → Appends old mid a → Appends mid new (take n b)
    → Appends old new (take (length a + n) (a ++ b))
front_taken old mid new a b n first more =
    subst (Appends old new) (sym (taken_behind a b n)) (Appends-trans old mid new a (take n b) first more)

module _ (count : ℕ) (part : Part) where
  pub fewer_inside : (n m : ℕ) → n ≤ m → AreInside count part m → AreInside count part n
  fewer_inside n m fewer inside place below = inside place (omega (arith, fewer, below))

  -- a place at which a question stands is small
  pub place_fits : (places place : ℕ) → count ≤ 1000000000 → AreInside count part places → place < places → place ≤ 1000000000
  place_fits places place few inside below = omega (arith, place_below part place count (inside place below), few)

-- a part has few questions
pub some_few : (count : ℕ) (part : Part) (some : ℕ) → count ≤ 1000000000 → IsLengthOf part count some → some ≤ 1000000001
some_few count part some few length = elim (cases_order some 0) [
  | inl none ↦ omega (arith, none)
  | inr apart ↦ elim apart [
    | inl less ↦ absurd (omega (arith, less))
    | inr more ↦ omega (arith, more, place_below part (some - 1) count (length.inside (some - 1) (omega (arith, more))), few)
  ]
]

-- the places of one lane of a round end before the round does
pub lane_ends : (place lane lanes size : ℕ) → lane < lanes → place + lane * size + size ≤ place + lanes * size
lane_ends place lane lanes size below = omega (arith, row_fits lane size lanes size below (omega arith))

-- what is found at a place, where that is a value
pub found_there : {A E : Type 0} (P : A → Type 0) (xs : List (Result A E)) (i : ℕ) (x : Result A E) (v : A) → x ≡ get_or xs i x → x ≡ Ok v
    → IfOk (get_or xs i x) P → P v
found_there P xs i x v is ok holds = subst (λ r. IfOk r P) (sym is ∙ ok) holds

pub fault_there : {A E : Type 0} (P : E → Type 0) (xs : List (Result A E)) (i : ℕ) (x : Result A E) (e : E) → x ≡ get_or xs i x → x ≡ Err e
    → IfErr (get_or xs i x) P → P e
fault_there P xs i x e is err holds = subst (λ r. IfErr r P) (sym is ∙ err) holds

-- where a question has no line there is a cause
pub cause_at : (Refuses : ℕ → SweepFault → Type 0) (count : ℕ) (part : Part) (place number : ℕ) (e : SweepFault) → number ≡ number_at part place
    → number_at part place < count → HasNoRow Refuses number e → HasCause Refuses count part e
cause_at Refuses count part place number e is below none = inr (place, below, subst (λ k. HasNoRow Refuses k e) is none)

module _ {W : Type 0} (written : W → Option (List ℕ)) (has_failed : W → Bool) (count : ℕ) (IsReply : ℕ → Told → Type 0) (line_at : ℕ → Told → List ℕ)
    (Refuses : ℕ → SweepFault → Type 0) (part : Part) where
  -- lines were written, to the end of the last
  abbrev pub Written : ℕ → ℕ → Counts → W → W → Type 0
  Written place some counts old new = WereTold written has_failed count IsReply line_at Refuses part place some old new counts × (has_failed new ≡ false)

  pub none_written : (place some : ℕ) (w : W) (c : Counts) → some ≡ 0 → c ≡ counts_of [] → has_failed w ≡ false → Written place some c w w
  none_written place some w c none empty well = (([], [], no_lines count IsReply line_at part place, sym none, Appends-nil (written w), empty), well)

  pub more_written : (place n m at all : ℕ) (old mid new : W) (c d both : Counts) (line shown : List ℕ) → at ≡ place + n → all ≡ n + m → shown ≡ line
      → both ≡ together c d → Written place n c old mid → AreToldAt count IsReply line_at part at m line d → Appends (written mid) (written new) shown
      → has_failed new ≡ false → Written place all both old new
  more_written place n m at all old mid new c d both line shown at_is all_is shown_is both_is before lines put well =
      let first = before.0 in
      let told =
      more_told count IsReply line_at part place n m at all first.1 line line (first.1 ++ line) c d both at_is all_is refl refl both_is
      (first.0, first.2, first.3, first.5) lines in (
        (
          told.0,
          first.1 ++ line,
          told.1,
          told.2,
          Appends-trans (written old) (written mid) (written new) first.1 line first.4 (subst (Appends (written mid) (written new)) shown_is put),
          told.3,
        ),
        well,
      )

  -- and so a front of lines was
  pub begun : (place some : ℕ) (c : Counts) (old new : W) → Written place some c old new
      → WasBegun written has_failed count IsReply line_at Refuses part place old new
  begun place some c old new before =
      let first = before.0 in (first.0, first.1, length first.1, first.2, all_taken (written old) (written new) first.1 first.4)

  pub begun_more : (place n at : ℕ) (c : Counts) (old mid new : W) → at ≡ place + n → Written place n c old mid
      → WasBegun written has_failed count IsReply line_at Refuses part at mid new → WasBegun written has_failed count IsReply line_at Refuses part place old new
  begun_more place n at c old mid new at_is before more =
      let first = before.0 in (
        first.0 ++ more.0,
        first.1 ++ more.1,
        length first.1 + more.2,
        more_lines count IsReply line_at part place n at first.0 more.0 first.1 more.1 first.3 at_is first.2 more.3,
        front_taken (written old) (written mid) (written new) first.1 more.1 more.2 first.4 more.4,
      )

  pub begun_put : (place n m at : ℕ) (c d : Counts) (old mid new : W) (line shown : List ℕ) → at ≡ place + n → shown ≡ line
      → Written place n c old mid → AreToldAt count IsReply line_at part at m line d → ((k : ℕ) × Appends (written mid) (written new) (take k shown))
      → WasBegun written has_failed count IsReply line_at Refuses part place old new
  begun_put place n m at c d old mid new line shown at_is shown_is before lines put =
      begun_more place n at c old mid new at_is before
      (lines.0, line, put.0, lines.1, subst (λ l. Appends (written mid) (written new) (take put.0 l)) shown_is put.1)

  -- it ended before the last line
  pub swept_early : (old new : W) (e : SweepFault) → WasBegun written has_failed count IsReply line_at Refuses part 0 old new
      → (is_write e ≡ false → HasCause Refuses count part e) → has_failed new ≡ is_write e
      → WasSwept written has_failed count IsReply line_at Refuses part old new (Err e)
  swept_early old new e front cause sink = record { whole = tt; front = front; cause = cause; sink = sink }

  pub put_early : (place some : ℕ) (old new : W) (e : SweepFault) → WasBegun written has_failed count IsReply line_at Refuses part place old new
      → (is_write e ≡ false → HasCause Refuses count part e) → has_failed new ≡ is_write e
      → WerePut written has_failed count IsReply line_at Refuses part place some old new (Err e)
  put_early place some old new e front cause sink = record { all = tt; front = front; cause = cause; sink = sink }

-- the sink failed, so there is no other cause
pub write_alone : {P : Type 0} (e : SweepFault) → is_write e ≡ true → is_write e ≡ false → P
write_alone e write other = absurd (false≢true (sym other ∙ write))
