-- What each step keeps of a tree of marks, and how it changes the marks.
use Rattle.std.proofs.Common.{◌≡◌, ℕ, zero, suc, ◌+◌, ◌-◌, ◌^◌, ◌<◌, ◌≤◌, refl, sym, ap, ◌∙◌, subst, arith, Option, Some, None, List, [], ◌∷◌, ◌++◌, length}
use Rattle.std.proofs.Common.{take, drop, get_or, true, false, Bool, nat_lt, inl, inr}
use Rattle.std.specs.Prelude.{◌==◌, ◌&&◌, nat_le}
use Rattle.std.proofs.lemmas.Bool.{cases_lt, eq-eqb, ne_eqb, ltb-true, and_parts, and_from, and_left, and_right}
use Rattle.std.proofs.lemmas.List.{length_push, length-take-le, take_all, drop_more}
use Rattle.std.proofs.lemmas.Option.{slice_get_read}
use Rattle.std.specs.List.{All, slice_get}
use Rattle.std.proofs.lemmas.List.Sums.{sum_by_more, count_by-le-length}
use Rattle.lf_marks.specs.Steps.{Mark, Marking, kid_of, kids_beneath, IsAnswer, Took, Answered, GaveBack, WentDown, IsUnmarked, IsMarked, only_root}
use Rattle.lf_marks.specs.Steps as mark
use Rattle.lf_marks.specs.Claims.{IsOfTicket}
use Rattle.lf_marks.specs.Counting.{AreCounts}
use Rattle.lf_marks.specs.Arena.{look, marks_of, IsState}
use Rattle.lf_marks.specs.declared.claim.Claim.{Claim}
use Rattle.lf_marks.specs.declared.set.Set.{Set}
use Rattle.lf_marks.specs.Walks.{Spot, led_from, untaken, width, width_of, is_set, is_open, is_claimed, is_waiting, is_answer, once, times}
use Rattle.lf_marks.specs.Walks.{IsArena, AreListed, IsRemarked, IsGrownBy}
use Rattle.lf_marks.proofs.ClaimLemmas.{IsWithout, unclaimed, claim-here, claim-place, claim-at}
use Rattle.lf_marks.proofs.WalkLemmas.{marked-led, marked-past, lt-is, lt-not, led-some}
use Rattle.lf_marks.proofs.ChangeLemmas.{remarked-at, remarked-kids, remarked-others, remarked-arena}
use Rattle.lf_marks.proofs.GrowLemmas.{kid-open, grown-was, grown-is, grown-others, grown-arena}
use Rattle.lf_marks.proofs.DownLemmas.{raised-from, raised-arena, all-taken, past-width}
use Rattle.lf_marks.proofs.ListedLemmas.{listed-claimed, listed-freed, listed-answered, listed-grown, listed-down, without-was, open-is, claimed-is, is-claimed}
use Rattle.lf_marks.proofs.ListedLemmas.{from-once, once-yes, once-no, one-claim, times-cons}
use Rattle.lf_marks.proofs.CountLemmas.{counts-took, counts-back, counts-answered, counts-down, counts-root, some-counted}
use Rattle.lf_marks.proofs.ShapeLemmas.{bare, claimed-led, Stands, placed, opened, waits, stands}
use Rattle.lf_marks.specs.declared.set.State.TheVariants as state

pub counts-at : (at : Marking) (r r' c c' a a' w w' : ℕ) → r ≡ r' → c ≡ c' → a ≡ a' → w ≡ w' → AreCounts at r c a w → AreCounts at r' c' a' w'
counts-at at r r' c c' a a' w w' er ec ea ew k =
    subst (λ z. AreCounts at z c' a' w') er (subst (λ z. AreCounts at r z a' w') ec
    (subst (λ z. AreCounts at r c z w') ea (subst (λ z. AreCounts at r c a z) ew k)))

-- the last of a list, without it
pub last-times : (xs left : List ℕ) (x n k : ℕ) → 0 < length xs → n ≡ length xs → k ≡ length xs → left ≡ take (n - 1) xs → x ≡ get_or xs (k - 1) x
    → (y : ℕ) → times y left + once (x == y) ≡ times y xs
last-times xs left x n k some en ek is at y =
    let last : length xs - 1 < length xs = omega arith in
    let whole : take (length xs - 1 + 1) xs ≡ xs = take_all (length xs - 1 + 1) xs (omega arith) in
    ap (λ zs. times y zs + once (x == y)) (is ∙ ap (λ z. take (z - 1) xs) en)
    ∙ ap (λ z. times y (take (length xs - 1) xs) + once (z == y)) (at ∙ ap (λ z. get_or xs (z - 1) x) ek)
    ∙ sym (sum_by_more (λ z. once (z == y)) xs (length xs - 1) x last) ∙ ap (times y) whole

pub last-some : (xs : List ℕ) (x k : ℕ) → 0 < length xs → k ≡ length xs → x ≡ get_or xs (k - 1) x → 0 < times x xs
last-some xs x k some ek at =
    omega (arith, last-times xs (take (length xs - 1) xs) x (length xs) k some refl ek refl at x, once-yes _ (eq-eqb x x refl))

pub last-short : (xs left : List ℕ) (n : ℕ) → 0 < length xs → n ≡ length xs → left ≡ take (n - 1) xs → length left + 1 ≡ length xs
last-short xs left n some en is =
    let e : length (take (n - 1) xs) ≡ n - 1 = length-take-le (n - 1) xs (omega (arith, en)) in
    omega (arith, ap (λ (zs : List ℕ). length zs) is, e, en, some)

open_low : (o : Option Mark) → is_open o ≡ true → is_answer o ≡ true → ⊥
open_low None h k = absurd cc
open_low (Some mark.Waiting) h k = absurd cc
open_low (Some mark.Open) h k = absurd cc
open_low (Some (mark.Claimed t)) h k = absurd cc
open_low (Some mark.Misses) h k = absurd cc
open_low (Some mark.Reaches) h k = absurd cc
open_low (Some (mark.Branch reach edges)) h k = absurd cc

pub last-read : (xs : List ℕ) (x k : ℕ) → 0 < length xs → k ≡ length xs → x ≡ get_or xs (k - 1) x → slice_get xs (length xs - 1) ≡ Some x
last-read xs x k some ek at =
    slice_get_read xs (length xs) (length xs - 1) x refl (omega (arith, some)) (at ∙ ap (λ z. get_or xs (z - 1) x) ek)

-- the rest of a queue from a place on
pub queue-head : (queue : List ℕ) (at x : ℕ) → at < length queue → x ≡ get_or queue at x → drop at queue ≡ x ∷ drop (at + 1) queue
queue-head queue at x few read = drop_more queue at x few ∙ ap (λ y. y ∷ drop (at + 1) queue) (sym read)

-- where an open or a claimed set stands
set_within : (level start n : ℕ) (f : ℕ → Spot) (x : ℕ) (m : Mark) → IsArena level start n f → (f x).mark ≡ Some m → x < n
set_within level start n f x m a h = elim (cases_lt x n) [
  | inl few ↦ few
  | inr far ↦ let no : true ≡ false = sym (ap is_set h) ∙ a.past x far in absurd cc
]

set_low : (level start n : ℕ) (f : ℕ → Spot) (x : ℕ) (m : Mark) → IsArena level start n f → (f x).mark ≡ Some m → is_answer (Some m) ≡ false → start ≤ x
set_low level start n f x m a h plain = elim (cases_lt x start) [
  | inr low ↦ low
  | inl high ↦ let never : true ≡ false = sym (a.above x high) ∙ ap is_answer h ∙ plain in absurd cc
]

module _ (level start : ℕ) (sets : List Set) (queue next back : List ℕ) (claims : List Claim) (untaken waiting answered : ℕ)
    (s : IsState level start sets queue next back claims untaken waiting answered) where
  -- the same lists
  pub state-same : (sets' : List Set) (next' back' : List ℕ) (claims' : List Claim) → sets' ≡ sets → next' ≡ next → back' ≡ back → claims' ≡ claims
      → IsState level start sets' queue next' back' claims' untaken waiting answered
  state-same sets' next' back' claims' es en eb ec =
      subst (λ z. IsState level start z queue next' back' claims' untaken waiting answered) (sym es)
      (subst (λ z. IsState level start sets queue z back' claims' untaken waiting answered) (sym en)
      (subst (λ z. IsState level start sets queue next z claims' untaken waiting answered) (sym eb)
      (subst (λ z. IsState level start sets queue next back z untaken waiting answered) (sym ec) s)))

  -- a claimed ticket has a claim, and a ticket with a claim is claimed
  pub claim-some : (t : ℕ) → IsMarked (marks_of sets start) (mark.Claimed t) → (i : ℕ) × IsOfTicket claims t i
  claim-some t h =
      let a = claimed-led level start (length sets) (look sets) s.sound t h.0 h.1 in
      let r = claim-at t a.0 claims (omega (arith, s.listed.claimed a.0 t, once-yes _ (is-claimed t (look sets a.0).mark a.2))) in
      (r.index, r.is)

  pub claim-marked : (t i : ℕ) → IsOfTicket claims t i → IsMarked (marks_of sets start) (mark.Claimed t)
  claim-marked t i found =
      let r = claim-place claims t i found in
      let is = claimed-is t (look sets r.0).mark (from-once _ (omega (arith, r.1, s.listed.claimed r.0 t))) in
      let few = set_within level start (length sets) (look sets) r.0 (mark.Claimed t) s.sound is in
      let way = led-some level start (length sets) (look sets) s.sound (suc r.0) r.0 (omega arith) few in
      (way.0, marked-led (look sets) start 0 way.0 r.0 way.1 ∙ is)

  -- a ticket above all claimed ones is above those of all claims
  pub claims-below : (t : ℕ) → ((p : List ℕ) (u : ℕ) → marks_of sets start p ≡ Some (mark.Claimed u) → u < t) → All (λ (c : Claim). c.ticket < t) claims
  claims-below t above i d few =
      let u = (get_or claims i unclaimed).ticket in
      let here = claim-here claims i few in
      let h = claim-marked u i here in
      omega (arith, above h.0 u h.1, here.ticket d)

  -- where a set was given back
  pub again-was : (x : ℕ) → 0 < times x back → (look sets x).mark ≡ Some mark.Open
  again-was x some = open-is (look sets x).mark (from-once _ (omega (arith, some, s.listed.opened x)))

  pub again-within : (x : ℕ) → 0 < times x back → x < length sets
  again-within x some = set_within level start (length sets) (look sets) x mark.Open s.sound (again-was x some)

  pub again-level : (x : ℕ) → 0 < times x back → (look sets x).depth ≡ level
  again-level x some =
      s.sound.on x (set_low level start (length sets) (look sets) x mark.Open s.sound (again-was x some) refl) (again-within x some)

  module _ (sets' : List Set) (x t : ℕ) (left : List ℕ) (long : length sets' ≡ length sets) (re : IsRemarked (look sets) (look sets') x (mark.Claimed t))
      (fewer : (y : ℕ) → times y left + once (x == y) ≡ times y back) (short : length left + 1 ≡ length back) where
    some_back : 0 < times x back
    some_back = omega (arith, fewer x, once-yes _ (eq-eqb x x refl))

    again_none : (look sets x).taken ≡ 0
    again_none = omega (arith, s.sound.narrow x, ap width_of (again-was x some_back))

    pub again-took : (p : List ℕ) → led_from (look sets) 0 p ≡ Some x → Took p t (marks_of sets start) (marks_of sets' start)
    again-took p led = record {
      was = marked-led (look sets) start 0 p x led ∙ again-was x some_back;
      is = remarked-at level start (length sets) (look sets) (look sets') x (mark.Claimed t) s.sound re (again-within x some_back) again_none
          (ap width_of (again-was x some_back)) p led;
      others = λ q apart. remarked-others level start (length sets) (look sets) (look sets') x (mark.Claimed t) s.sound re (again-within x some_back) again_none
          (ap width_of (again-was x some_back)) p led q apart (λ i few. absurd (omega (arith, few)));
    }

    pub state-again : All (λ (c : Claim). c.ticket < t) claims
        → IsState level start sets' queue next left (claims ++ (record { ticket = t; place = x }) ∷ []) untaken waiting answered
    state-again above =
        let c : Claim = record { ticket = t; place = x } in
        let way = led-some level start (length sets) (look sets) s.sound (suc x) x (omega arith) (again-within x some_back) in
        let low = set_low level start (length sets) (look sets) x mark.Open s.sound (again-was x some_back) refl in record {
          shallow = s.shallow;
          sound = subst (λ n. IsArena level start n (look sets')) (sym long)
              (remarked-arena level start (length sets) (look sets) (look sets') x (mark.Claimed t) s.sound re low (again-within x some_back) refl);
          listed = subst (λ n. AreListed start n (look sets') queue next left (claims ++ c ∷ [])) (sym long)
              (listed-claimed start (length sets) (look sets) (look sets') x (mark.Claimed t) re t queue next back left claims refl
              (again-was x some_back) s.listed fewer above);
          counted = counts-at (marks_of sets' start) (untaken + length left) (untaken + length left) (length claims + 1)
              (length (claims ++ c ∷ [])) answered answered waiting waiting
              refl (sym (length_push claims c)) refl refl
              (counts-took (marks_of sets start) (marks_of sets' start) way.0 t (untaken + length back) (untaken + length left) (length claims) answered waiting
              (again-took way.0 way.1) (omega (arith, short)) s.counted);
          all = omega (arith, s.all, short, long, length_push claims c);
          few = omega (arith, s.few, long);
          few_waiting = omega (arith, s.few_waiting, short, long, length_push claims c);
        }

  -- the first branch of the queue
  module _ (x : ℕ) (rest : List ℕ) (head : queue ≡ x ∷ rest) where
    queued_once : 0 < once (nat_lt x start && nat_lt (look sets x).taken (width (look sets x)))
    queued_once = omega (arith, s.listed.queued x, ap (times x) head, times-cons x x rest, once-yes _ (eq-eqb x x refl))

    pub next-high : x < start
    next-high = ltb-true x start (and_parts _ _ (from-once _ queued_once)).0

    pub next-more : (look sets x).taken < width (look sets x)
    next-more = ltb-true _ _ (and_parts _ _ (from-once _ queued_once)).1

    pub next-within : x < length sets
    next-within = omega (arith, next-high, s.sound.begins)

    pub next-level : (look sets x).depth + 1 ≡ level
    next-level = s.sound.last x next-high next-more

    pub next-some : 0 < untaken + length back
    next-some =
        let way = led-some level start (length sets) (look sets) s.sound (suc x) x (omega arith) next-within in
        some-counted (λ p. marks_of sets start p ≡ Some mark.Open) (kid_of way.0 (look sets x).taken) (untaken + length back)
        (kid-open level start (length sets) (look sets) x next-high next-more way.0 way.1) s.counted.ready

    pub next-last : 0 < (look sets x).taken → (look sets x).first + (look sets x).taken ≡ length sets
    next-last some = (s.listed.partly x next-high some next-more).last

  -- the next kid of the first branch of the queue
  module _ (sets' : List Set) (x t : ℕ) (rest queue' : List ℕ) (head : queue ≡ x ∷ rest)
      (long : length sets' ≡ length sets + 1) (gr : IsGrownBy (look sets) (look sets') (length sets) x t) where
    next_high : x < start
    next_high = next-high x rest head

    next_more : (look sets x).taken < width (look sets x)
    next_more = next-more x rest head

    pub next-took : (p : List ℕ) → led_from (look sets) 0 p ≡ Some x
        → Took (kid_of p (look sets x).taken) t (marks_of sets start) (marks_of sets' start)
    next-took p led = record {
      was = grown-was level start (length sets) (look sets) (look sets') x t s.sound gr next_high next_more p led;
      is = grown-is level start (length sets) (look sets) (look sets') x t s.sound gr next_high next_more p led;
      others = grown-others level start (length sets) (look sets) (look sets') x t s.sound gr next_high next_more p led;
    }

    pub state-next : (u : ℕ) → u + 1 ≡ untaken → All (λ (c : Claim). c.ticket < t) claims
        → ((look sets x).taken + 1 < width (look sets x) → queue' ≡ x ∷ rest) → (width (look sets x) ≤ (look sets x).taken + 1 → queue' ≡ rest)
        → IsState level start sets' queue' next back (claims ++ (record { ticket = t; place = length sets }) ∷ []) u waiting answered
    state-next u less above stays leaves =
        let c : Claim = record { ticket = t; place = length sets } in
        let way = led-some level start (length sets) (look sets) s.sound (suc x) x (omega arith) (omega (arith, next_high, s.sound.begins)) in record {
          shallow = s.shallow;
          sound = subst (λ n. IsArena level start n (look sets')) (sym long)
              (grown-arena level start (length sets) (look sets) (look sets') x t s.sound gr next_high next_more);
          listed = subst (λ n. AreListed start n (look sets') queue' next back (claims ++ c ∷ [])) (sym long)
              (listed-grown level start (length sets) (look sets) (look sets') x t s.sound gr next_high next_more rest queue' next back claims above stays
              leaves
              (subst (λ q. AreListed start (length sets) (look sets) q next back claims) head s.listed));
          counted = counts-at (marks_of sets' start) (u + length back) (u + length back) (length claims + 1)
              (length (claims ++ c ∷ [])) answered answered waiting waiting
              refl (sym (length_push claims c)) refl refl
              (counts-took (marks_of sets start) (marks_of sets' start) (kid_of way.0 (look sets x).taken) t (untaken + length back) (u + length back)
              (length claims) answered waiting
              (next-took way.0 way.1) (omega (arith, less)) s.counted);
          all = omega (arith, s.all, long, length_push claims c);
          few = omega (arith, s.few, long, less);
          few_waiting = omega (arith, s.few_waiting, long, length_push claims c);
        }

  -- a claimed place
  module _ (t x : ℕ) (rest : List Claim) (less : IsWithout claims rest t x) where
    pub claim-was : (look sets x).mark ≡ Some (mark.Claimed t)
    claim-was = without-was start (length sets) (look sets) queue next back claims rest t x s.listed less

    pub claim-within : x < length sets
    claim-within = set_within level start (length sets) (look sets) x (mark.Claimed t) s.sound claim-was

    claim_low : start ≤ x
    claim_low = set_low level start (length sets) (look sets) x (mark.Claimed t) s.sound claim-was refl

    pub claim-none : (look sets x).taken ≡ 0
    claim-none = omega (arith, s.sound.narrow x, ap width_of claim-was)

    -- the path of the claim leads there
    pub claim-led : (p : List ℕ) → marks_of sets start p ≡ Some (mark.Claimed t) → led_from (look sets) 0 p ≡ Some x
    claim-led p h =
        let a = claimed-led level start (length sets) (look sets) s.sound t p h in
        a.1 ∙ ap (λ (z : ℕ). Some z) (one-claim start (length sets) (look sets) queue next back claims t a.0 x s.listed a.2 claim-was)

    module _ (sets' : List Set) (long : length sets' ≡ length sets) where
      pub freed-back : IsRemarked (look sets) (look sets') x mark.Open → (p : List ℕ) → led_from (look sets) 0 p ≡ Some x
          → GaveBack p t (marks_of sets start) (marks_of sets' start)
      freed-back re p led = record {
        was = marked-led (look sets) start 0 p x led ∙ claim-was;
        is = remarked-at level start (length sets) (look sets) (look sets') x mark.Open s.sound re claim-within claim-none (ap width_of claim-was) p led;
        others = λ q apart. remarked-others level start (length sets) (look sets) (look sets') x mark.Open s.sound re claim-within claim-none
            (ap width_of claim-was) p led q apart (λ i few. absurd (omega (arith, few)));
      }

      pub state-freed : IsRemarked (look sets) (look sets') x mark.Open
          → IsState level start sets' queue next (back ++ x ∷ []) rest untaken waiting answered
      state-freed re =
          let way = led-some level start (length sets) (look sets) s.sound (suc x) x (omega arith) claim-within in record {
            shallow = s.shallow;
            sound = subst (λ n. IsArena level start n (look sets')) (sym long)
                (remarked-arena level start (length sets) (look sets) (look sets') x mark.Open s.sound re claim_low claim-within refl);
            listed = subst (λ n. AreListed start n (look sets') queue next (back ++ x ∷ []) rest) (sym long)
                (listed-freed start (length sets) (look sets) (look sets') x mark.Open re t queue next back claims rest refl s.listed less);
            counted = counts-at (marks_of sets' start) (untaken + length back + 1) (untaken + length (back ++ x ∷ [])) (length rest)
                (length rest) answered answered waiting waiting
                (omega (arith, length_push back x)) refl refl refl
                (counts-back (marks_of sets start) (marks_of sets' start) way.0 t (untaken + length back) (length claims) (length rest) answered waiting
                (freed-back re way.0 way.1) less.count s.counted);
            all = omega (arith, s.all, less.count, long, length_push back x);
            few = omega (arith, s.few, long);
            few_waiting = omega (arith, s.few_waiting, less.count, long, length_push back x);
          }

      module _ (m : Mark) (is : IsAnswer m) (re : IsRemarked (look sets) (look sets') x m) where
        pub answered-is : (p : List ℕ) → led_from (look sets) 0 p ≡ Some x → Answered p t m (marks_of sets start) (marks_of sets' start)
        answered-is p led = record {
          was = marked-led (look sets) start 0 p x led ∙ claim-was;
          is = remarked-at level start (length sets) (look sets) (look sets') x m s.sound re claim-within claim-none (ap width_of claim-was) p led;
          kids = remarked-kids level start (length sets) (look sets) (look sets') x m s.sound re claim-within claim-none
              (ap width_of claim-was) p led claim_low;
          others = remarked-others level start (length sets) (look sets) (look sets') x m s.sound re claim-within claim-none (ap width_of claim-was) p led;
        }

        shut : (k : Mark) → IsAnswer k → is_open (Some k) ≡ false
        shut mark.Waiting h = refl
        shut mark.Open h = absurd h
        shut (mark.Claimed u) h = refl
        shut mark.Misses h = refl
        shut mark.Reaches h = refl
        shut (mark.Branch reach edges) h = refl

        free : (k : Mark) → IsAnswer k → (u : ℕ) → is_claimed u (Some k) ≡ false
        free mark.Waiting h u = refl
        free mark.Open h u = refl
        free (mark.Claimed v) h u = absurd h
        free mark.Misses h u = refl
        free mark.Reaches h u = refl
        free (mark.Branch reach edges) h u = refl

        still : (k : Mark) → IsAnswer k → is_waiting (Some k) ≡ false
        still mark.Waiting h = absurd h
        still mark.Open h = refl
        still (mark.Claimed v) h = refl
        still mark.Misses h = refl
        still mark.Reaches h = refl
        still (mark.Branch reach edges) h = refl

        pub state-answered : (more : List ℕ) → ((y : ℕ) → times y more ≡ times y next + once (nat_lt 0 (kids_beneath m) && x == y)) → kids_beneath m ≤ 65535
            → IsState level start sets' queue more back rest untaken (waiting + kids_beneath m) (answered + 1)
        state-answered more noted few =
            let way = led-some level start (length sets) (look sets) s.sound (suc x) x (omega arith) claim-within in record {
              shallow = s.shallow;
              sound = subst (λ n. IsArena level start n (look sets')) (sym long)
                  (remarked-arena level start (length sets) (look sets) (look sets') x m s.sound re claim_low claim-within (still m is));
              listed = subst (λ n. AreListed start n (look sets') queue more back rest) (sym long)
                  (listed-answered start (length sets) (look sets) (look sets') x m re t queue next more back claims rest (shut m is)
                  (free m is) claim_low s.listed less noted);
              counted = counts-answered (marks_of sets start) (marks_of sets' start) way.0 t m is (answered-is way.0 way.1)
                  (λ i. bare level start (length sets) (look sets) s.sound way.0 x i way.1 (ap width_of claim-was))
                  (untaken + length back) (length claims) (length rest) answered waiting less.count s.counted;
              all = omega (arith, s.all, less.count, long);
              few = omega (arith, s.few, long);
              few_waiting = omega (arith, s.few_waiting, less.count, long, few);
            }

  -- one level down
  module _ (done : IsUnmarked (marks_of sets start) mark.Open) (free : (t : ℕ) → IsUnmarked (marks_of sets start) (mark.Claimed t)) where
    pub went-down : WentDown (marks_of sets start) (marks_of sets (length sets))
    went-down q = raised-from level start (length sets) (look sets) s.sound done 0 q

    none_back : length back ≡ 0
    none_back = of_list back (λ x some.
        let was = again-was x some in
        let way = led-some level start (length sets) (look sets) s.sound (suc x) x (omega arith) (again-within x some) in
        done way.0 (marked-led (look sets) start 0 way.0 x way.1 ∙ was))
      where
        of_list : (xs : List ℕ) → ((x : ℕ) → 0 < times x xs → ⊥) → length xs ≡ 0
        of_list [] h = refl
        of_list (x ∷ xs) h = absurd (h x (omega (arith, times-head x xs)))
          where
            times-head : (x : ℕ) (xs : List ℕ) → times x (x ∷ xs) ≡ 1 + times x xs
            times-head x xs = times-cons' x xs ∙ ap (λ b. b + times x xs) (once-yes _ (eq-eqb x x refl))
              where
                times-cons' : (x : ℕ) (xs : List ℕ) → times x (x ∷ xs) ≡ once (x == x) + times x xs
                times-cons' x xs = times-cons x x xs

    pub none-claimed : length claims ≡ 0
    none-claimed = elim (cases_lt 0 (length claims)) [
      | inr none ↦ omega (arith, none)
      | inl some ↦
          let h = claim-marked (get_or claims 0 unclaimed).ticket 0 (claim-here claims 0 some) in
          absurd (free (get_or claims 0 unclaimed).ticket h.0 h.1)
    ]

    pub state-down : waiting < 2 ^ 32 → level < 16 → IsState (level + 1) (length sets) sets next [] back claims waiting 0 answered
    state-down few high = record {
      shallow = omega (arith, high);
      sound = raised-arena level start (length sets) (look sets) s.sound done free;
      listed = listed-down level start (length sets) (look sets) queue next back claims s.sound
          (all-taken level start (length sets) (look sets) s.sound done) (past-width level start (length sets) (look sets) s.sound) s.listed;
      counted = counts-at (marks_of sets (length sets)) waiting (waiting + length back) (length claims) (length claims) answered answered 0 0
          (omega (arith, none_back)) refl refl refl
          (counts-down (marks_of sets start) (marks_of sets (length sets)) (untaken + length back) (length claims) answered waiting went-down done s.counted);
      all = s.all;
      few = omega (arith, few);
      few_waiting = omega (arith, none_back, none-claimed);
    }

-- the root alone, which is open
abbrev root_set : Set
root_set = record { parent = 0; kid = 0; depth = 0; state = state.Open }

root_arena : IsArena 0 0 1 (look (root_set ∷ []))
root_arena = record {
  some = omega arith;
  begins = omega arith;
  root = refl;
  within = λ x h. root_within x h;
  past = root_past;
  known = root_known;
  up = λ x some few. absurd (omega (arith, some, few));
  down = λ x i h. absurd (omega (arith, h, root_taken x));
  narrow = λ x. omega (arith, root_taken x);
  above = λ x h. absurd (omega (arith, h));
  over = λ x h. absurd (omega (arith, h));
  on = λ x h few. root_depth x;
  fresh = λ x h. root_taken x;
  last = λ x h. absurd (omega (arith, h));
}
  where
    root_within : (x : ℕ) → x < 1 → is_set (look (root_set ∷ []) x).mark ≡ true
    root_within zero h = refl
    root_within (suc x) h = absurd (omega (arith, h))

    root_past : (x : ℕ) → 1 ≤ x → is_set (look (root_set ∷ []) x).mark ≡ false
    root_past zero h = absurd (omega (arith, h))
    root_past (suc x) h = refl

    root_known : (x : ℕ) → is_waiting (look (root_set ∷ []) x).mark ≡ false
    root_known zero = refl
    root_known (suc x) = refl

    root_taken : (x : ℕ) → (look (root_set ∷ []) x).taken ≡ 0
    root_taken zero = refl
    root_taken (suc x) = refl

    root_depth : (x : ℕ) → (look (root_set ∷ []) x).depth ≡ 0
    root_depth zero = refl
    root_depth (suc x) = refl

root_listed : AreListed 0 1 (look (root_set ∷ [])) [] [] (0 ∷ []) []
root_listed = record {
  queued = λ x. sym (once-no _ (and_left (nat_lt x 0) (nat_lt (look (root_set ∷ []) x).taken (width (look (root_set ∷ []) x))) (lt-not x 0 (omega arith))));
  coming = root_coming;
  opened = λ x. times-cons x 0 [] ∙ root_opened x;
  claimed = root_claimed;
  ascending = λ i j d less few. absurd (omega (arith, few));
  partly = λ x h. absurd (omega (arith, h));
}
  where
    root_coming : (x : ℕ) → 0 ≡ once (nat_le 0 x && nat_lt 0 (width (look (root_set ∷ []) x)))
    root_coming zero = refl
    root_coming (suc x) = sym (once-no (nat_le 0 (suc x) && false) (and_right (nat_le 0 (suc x)) false refl))

    root_opened : (x : ℕ) → once (0 == x) + 0 ≡ once (is_open (look (root_set ∷ []) x).mark)
    root_opened zero = refl
    root_opened (suc x) = omega (arith, once-no (0 == suc x) (ne_eqb 0 (suc x) (λ e. let never : ⊥ = omega (arith, e) in never)))

    root_claimed : (x t : ℕ) → 0 ≡ once (is_claimed t (look (root_set ∷ []) x).mark)
    root_claimed zero t = refl
    root_claimed (suc x) t = refl

root_marks : (p : List ℕ) → marks_of (root_set ∷ []) 0 p ≡ only_root p
root_marks [] = refl
root_marks (i ∷ path) = beneath i path
  where
    ended : (b : Bool) (r : List ℕ) → untaken b false r ≡ None
    ended b [] = refl
    ended b (j ∷ r) = refl

    beneath : (i : ℕ) (r : List ℕ) → marks_of (root_set ∷ []) 0 (i ∷ r) ≡ None
    beneath i r =
        marked-past (look (root_set ∷ [])) 0 0 i r (omega arith) ∙ ap (λ c. untaken (nat_lt 0 0) c r) (lt-not i 0 (omega arith)) ∙ ended (nat_lt 0 0) r

pub state-new : (sets : List Set) (back : List ℕ) → sets ≡ record { parent = 0; kid = 0; depth = 0; state = state.Open } ∷ [] → back ≡ 0 ∷ []
    → IsState 0 0 sets [] [] back [] 0 0 0
state-new sets back es eb =
    subst (λ z. IsState 0 0 z [] [] back [] 0 0 0) (sym es) (subst (λ z. IsState 0 0 (root_set ∷ []) [] [] z [] 0 0 0) (sym eb) (record {
      shallow = omega arith;
      sound = root_arena;
      listed = root_listed;
      counted = counts-root (marks_of (root_set ∷ []) 0) root_marks;
      all = refl;
      few = omega arith;
      few_waiting = omega arith;
    }))

pub marks-new : (sets : List Set) → sets ≡ record { parent = 0; kid = 0; depth = 0; state = state.Open } ∷ [] → (p : List ℕ) → marks_of sets 0 p ≡ only_root p
marks-new sets es p = ap (λ z. marks_of z 0 p) es ∙ root_marks p

-- the same, where the lists of places and the first place are said otherwise
pub state-moved : (level start start' : ℕ) (sets : List Set) (queue queue' next next' back : List ℕ) (claims : List Claim) (untaken waiting answered : ℕ)
    → start' ≡ start → queue' ≡ queue → next' ≡ next → IsState level start sets queue next back claims untaken waiting answered
    → IsState level start' sets queue' next' back claims untaken waiting answered
state-moved level start start' sets queue queue' next next' back claims untaken waiting answered es eq en s =
    subst (λ z. IsState level z sets queue' next' back claims untaken waiting answered) (sym es)
    (subst (λ z. IsState level start sets z next' back claims untaken waiting answered) (sym eq)
    (subst (λ z. IsState level start sets queue z back claims untaken waiting answered) (sym en) s))

pub once-le : (b : Bool) → once b ≤ 1
once-le true = omega arith
once-le false = omega arith

-- where nobody gave a set back and the queue is empty, no set is open
module _ (level start : ℕ) (sets : List Set) (queue next back : List ℕ) (claims : List Claim) (untaken waiting answered : ℕ)
    (s : IsState level start sets queue next back claims untaken waiting answered) (none : length back ≡ 0) (done : queue ≡ []) where
  no_back : (y : ℕ) → times y back ≡ 0
  no_back y = omega (arith, none, count_by-le-length (λ z. z == y) back)

  closed : (p : List ℕ) (m : Mark) → m ≡ mark.Open → Stands (look sets) start 0 p m → ⊥
  closed p m e (placed y led is) =
      let one = once-yes (is_open (look sets y).mark) (ap is_open is ∙ ap (λ k. is_open (Some k)) e) in
      omega (arith, no_back y, s.listed.opened y, one)
  closed p m e (opened front i y whole led far more high is) =
      let one = once-yes (nat_lt y start && nat_lt (look sets y).taken (width (look sets y)))
      (and_from (nat_lt y start) (nat_lt (look sets y).taken (width (look sets y))) (lt-is y start high)
      (lt-is (look sets y).taken (width (look sets y)) (omega (arith, far, more)))) in
      let empty : times y queue ≡ 0 = ap (times y) done in
      omega (arith, empty, s.listed.queued y, one)
  closed p m e (waits front i y whole led far more low is) = let never : mark.Waiting ≡ mark.Open = sym is ∙ e in absurd cc

  pub none-open : IsUnmarked (marks_of sets start) mark.Open
  none-open p h = closed p mark.Open refl (stands (look sets) start 0 p mark.Open h)
