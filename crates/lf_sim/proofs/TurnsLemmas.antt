-- Turns that are kept short, as the list that they stand for.
use Rattle.std.proofs.Common.{◌≡◌, ℕ, zero, suc, ◌+◌, ◌<◌, ◌≤◌, true, false, List, [], ◌∷◌, ◌++◌, length, take, get_or, refl, sym, ap, ◌∙◌, arith, inl, inr}
use Rattle.std.proofs.Common.{cond}
use Rattle.std.specs.Prelude.{◌≢◌, Option, None, Some, IfSome, is_some}
use Rattle.std.proofs.lemmas.Bool.{cases_Bool, cases_lt}
use Rattle.lf_sim.specs.declared.difference.Difference.{Difference}
use Rattle.lf_sim.specs.declared.sends.Seen.{Seen}
use Rattle.lf_sim.specs.declared.out.Out.{Out}
use Rattle.lf_sim.specs.declared.out.Stepped.{Stepped}
use Rattle.lf_sim.specs.declared.sends.Kept.{Kept}
use Rattle.lf_sim.specs.declared.sends.Sends.{Sends}
use Rattle.lf_sim.specs.declared.sends.Sends.TheVariants.{Nothing, Same, Each}
use Rattle.lf_sim.specs.Differences.{IsTold, differs}
use Rattle.lf_sim.specs.Outs.{note_to, note_to_other, notes_by, nothing, to_others}
use Rattle.lf_sim.specs.OutsLemmas.{note_to-far, note_to-nothing, note_to-notes_by}
use Rattle.lf_sim.specs.Turns.{AreAll, AreReceivers, is_each, is_other, is_receiver, note_where, out_of, same_to, sends_each, turn_of, turn_seen, turns_from}
use Rattle.lf_sim.proofs.MarksLemmas.{all-eight}

module _ {State Note : Type 0} (outs : List (Out Note)) where
  pub length-turns : (k : ℕ) (ts : List (Kept State Note)) → length (turns_from k ts outs) ≡ length ts
  length-turns k [] = refl
  length-turns k (t ∷ ts) = ap suc (length-turns (suc k) ts)

  -- one more
  pub turns-append : (k : ℕ) (ts : List (Kept State Note)) (t : Kept State Note)
      → turns_from k (ts ++ t ∷ []) outs ≡ turns_from k ts outs ++ turn_of t (get_or outs (k + length ts) nothing) ∷ []
  turns-append k [] t =
      let here : k ≡ k + 0 = omega arith in
      ap (λ i. turn_of t (get_or outs i nothing) ∷ []) here
  turns-append k (x ∷ ts) t =
      let here : suc k + length ts ≡ k + suc (length ts) = omega arith in
      ap (λ xs. turn_of x (get_or outs k nothing) ∷ xs)
      (turns-append (suc k) ts t ∙ ap (λ i. turns_from (suc k) ts outs ++ turn_of t (get_or outs i nothing) ∷ []) here)

  -- the turn at a place
  pub turns-at : (k : ℕ) (ts : List (Kept State Note)) (i : ℕ) (d : Stepped State Note) (t : Kept State Note) → i < length ts
      → get_or (turns_from k ts outs) i d ≡ turn_of (get_or ts i t) (get_or outs (k + i) nothing)
  turns-at k [] i d t h = absurd (omega (arith, h))
  turns-at k (x ∷ ts) zero d t h =
      let here : k ≡ k + 0 = omega arith in
      ap (λ j. turn_of x (get_or outs j nothing)) here
  turns-at k (x ∷ ts) (suc i) d t h =
      let here : suc k + i ≡ k + suc i = omega arith in
      turns-at (suc k) ts i d t (omega (arith, h)) ∙ ap (λ j. turn_of (get_or ts i t) (get_or outs j nothing)) here

  -- the first ones
  pub turns-take : (k n : ℕ) (ts : List (Kept State Note)) → turns_from k (take n ts) outs ≡ take n (turns_from k ts outs)
  turns-take k zero ts = refl
  turns-take k (suc n) [] = refl
  turns-take k (suc n) (x ∷ ts) = ap (λ xs. turn_of x (get_or outs k nothing) ∷ xs) (turns-take (suc k) n ts)

  -- notes that are the same at their places
  pub turns-agree : (others : List (Out Note)) (k : ℕ) (ts : List (Kept State Note))
      → ((j : ℕ) → k ≤ j → j < k + length ts → get_or others j nothing ≡ get_or outs j nothing) → turns_from k ts others ≡ turns_from k ts outs
  turns-agree others k [] same = refl
  turns-agree others k (x ∷ ts) same =
      ap (λ o. turn_of x o ∷ turns_from (suc k) ts others) (same k (omega arith) (omega arith))
      ∙ ap (λ xs. turn_of x (get_or outs k nothing) ∷ xs) (turns-agree others (suc k) ts (λ j a b. same j (omega (arith, a)) (omega (arith, b))))

  -- a turn as it is looked at
  pub turn-seen : (ts : List (Kept State Note)) (place : ℕ) (d : Stepped State Note) (t : Kept State Note) (o : Out Note) → place < length ts
      → t ≡ get_or ts place t → o ≡ get_or outs place nothing → turn_of t o ≡ get_or (turns_from 0 ts outs) place d
  turn-seen ts place d t o inside is there =
      let at : place ≡ 0 + place = omega arith in
      ap (λ x. turn_of x o) is ∙ ap (λ p. turn_of (get_or ts place t) p) (there ∙ ap (λ j. get_or outs j nothing) at)
      ∙ sym (turns-at 0 ts place d t inside)

-- one more, whose notes are these
pub turns-more : {State Note : Type 0} (outs others : List (Out Note)) (ts : List (Kept State Note)) (t : Kept State Note) (place : ℕ) (o : Out Note)
    → place ≡ length ts → get_or others place nothing ≡ o → ((k : ℕ) → k ≢ place → get_or others k nothing ≡ get_or outs k nothing)
    → turns_from 0 (ts ++ t ∷ []) others ≡ turns_from 0 ts outs ++ turn_of t o ∷ []
turns-more outs others ts t place o here there same =
    let at : 0 + length ts ≡ place = omega (arith, here) in
    turns-append others 0 ts t
    ∙ ap (λ i. turns_from 0 ts others ++ turn_of t (get_or others i nothing) ∷ []) at
    ∙ ap (λ p. turns_from 0 ts others ++ turn_of t p ∷ []) there
    ∙ ap (λ xs. xs ++ turn_of t o ∷ []) (turns-agree outs others 0 ts (λ j a b. same j (λ e. omega (arith, b, e, here))))

-- where the notes don't stand elsewhere, what stands there doesn't matter
out-untold : {Note : Type 0} (s : Sends Note) (o p : Out Note) → is_each s ≡ false → out_of s o ≡ out_of s p
out-untold Nothing o p h = refl
out-untold (Same to x) o p h = refl
out-untold Each o p h = absurd cc

turn-untold : {State Note : Type 0} (t : Kept State Note) (o p : Out Note) → sends_each t ≡ false → turn_of t o ≡ turn_of t p
turn-untold t o p h = ap (λ out. record { state = t.state; out = out }) (out-untold t.sends o p h)

-- the last turn in the place of another one
module _ {State Note : Type 0} (outs others : List (Out Note)) (ts us : List (Kept State Note)) (place last : ℕ) (x : Kept State Note)
    (long : length ts ≡ last + 1) (fewer : length us ≡ last) (early : place < last) where
  pub last-there : get_or us place x ≡ get_or ts last x → x ≡ get_or ts last x
      → (sends_each x ≡ true → get_or others place nothing ≡ get_or outs last nothing)
      → (d : Stepped State Note) → get_or (turns_from 0 us others) place d ≡ get_or (turns_from 0 ts outs) last d
  last-there moved is told d =
      let a : 0 + place ≡ place = omega arith in
      let b : last ≡ 0 + last = omega arith in
      let same : turn_of x (get_or others place nothing) ≡ turn_of x (get_or outs last nothing) = elim (cases_Bool (sends_each x)) [
        | inl on ↦ ap (turn_of x) (told on)
        | inr off ↦ turn-untold x (get_or others place nothing) (get_or outs last nothing) off
      ] in
      turns-at others 0 us place d x (omega (arith, fewer, early))
      ∙ ap (λ i. turn_of (get_or us place x) (get_or others i nothing)) a
      ∙ ap (λ t. turn_of t (get_or others place nothing)) (moved ∙ sym is)
      ∙ same
      ∙ ap (λ t. turn_of t (get_or outs last nothing)) is
      ∙ ap (λ i. turn_of (get_or ts last x) (get_or outs i nothing)) b
      ∙ sym (turns-at outs 0 ts last d x (omega (arith, long)))

  pub last-others : (k : ℕ) → get_or us k x ≡ get_or ts k x → get_or others k nothing ≡ get_or outs k nothing → k < last
      → (d : Stepped State Note) → get_or (turns_from 0 us others) k d ≡ get_or (turns_from 0 ts outs) k d
  last-others k kept same near d =
      let a : 0 + k ≡ k = omega arith in
      turns-at others 0 us k d x (omega (arith, fewer, near))
      ∙ ap (λ i. turn_of (get_or us k x) (get_or others i nothing)) a
      ∙ ap (λ t. turn_of t (get_or others k nothing)) kept
      ∙ ap (turn_of (get_or ts k x)) same
      ∙ ap (λ i. turn_of (get_or ts k x) (get_or outs i nothing)) (sym a)
      ∙ sym (turns-at outs 0 ts k d x (omega (arith, long, near)))

-- no notes more
pub blank-more : {Note : Type 0} (outs : List (Out Note)) (k : ℕ) → get_or (outs ++ nothing ∷ []) k nothing ≡ get_or outs k nothing
blank-more [] zero = refl
blank-more [] (suc k) = refl
blank-more (o ∷ outs) zero = refl
blank-more (o ∷ outs) (suc k) = blank-more outs k

-- the notes of receivers
out-by : {Note : Type 0} → Option Note → Option Note → Option Note → Option Note → Option Note → Option Note → Option Note → Option Note → Out Note
out-by a b c d e f g h = record { to0 = a; to1 = b; to2 = c; to3 = d; to4 = e; to5 = f; to6 = g; to7 = h }

notes-agree : {Note : Type 0} (f g : ℕ → Option Note) → ((m : ℕ) → m < 8 → f m ≡ g m) → notes_by f ≡ notes_by g
unfolding out-by
notes-agree f g same =
    let a0 : f 0 ≡ g 0 = same 0 (omega arith) in
    let a1 : f 1 ≡ g 1 = same 1 (omega arith) in
    let a2 : f 2 ≡ g 2 = same 2 (omega arith) in
    let a3 : f 3 ≡ g 3 = same 3 (omega arith) in
    let a4 : f 4 ≡ g 4 = same 4 (omega arith) in
    let a5 : f 5 ≡ g 5 = same 5 (omega arith) in
    let a6 : f 6 ≡ g 6 = same 6 (omega arith) in
    let a7 : f 7 ≡ g 7 = same 7 (omega arith) in
    let both : out-by (f 0) (f 1) (f 2) (f 3) (f 4) (f 5) (f 6) (f 7) ≡ out-by (g 0) (g 1) (g 2) (g 3) (g 4) (g 5) (g 6) (g 7) = cc in
    both

pub same-others : {Note : Type 0} (to nodes node : ℕ) (x : Note) → AreReceivers to (is_other nodes node) → same_to to x ≡ to_others nodes node x
same-others to nodes node x are =
    notes-agree (note_where to x) (note_to_other nodes node x) (λ m h. ap (λ b. cond b (Some x) None) (are m h))

where-some : {Note : Type 0} (o : Option Note) (x : Note) → IfSome o (λ y. y ≡ x) → cond (is_some o) (Some x) None ≡ o
where-some None x h = refl
where-some (Some y) x h = ap Some (sym h)

pub same-all : {Note : Type 0} (to : ℕ) (x : Note) (out : Out Note) → AreReceivers to (λ m. is_some (note_to out m)) → AreAll x out → same_to to x ≡ out
same-all to x out are all =
    notes-agree (note_where to x) (note_to out)
    (λ m h. ap (λ b. cond b (Some x) None) (are m h) ∙ where-some (note_to out m) x (all m))

-- whether notes of receivers differ
receives-none : (m : ℕ) → m < 8 → is_receiver 0 m ≡ false
receives-none = all-eight (λ m. is_receiver 0 m ≡ false) refl refl refl refl refl refl refl refl

both-far : {Note : Type 0} (one other : Out Note) (m : ℕ) → 8 ≤ m → note_to one m ≡ note_to other m
both-far one other m far = note_to-far one m far ∙ sym (note_to-far other m far)

module _ {Note : Type 0} (told : Difference) (to from : ℕ) (x y : Note) where
  pub parted-same : x ≡ y → ((m : ℕ) → m < 8 → differs told m ≡ false → is_receiver to m ≡ is_receiver from m)
      → (m : ℕ) → differs told m ≡ false → note_to (same_to to x) m ≡ note_to (same_to from y) m
  parted-same is same m free = elim (cases_lt m 8) [
    | inl near ↦
        note_to-notes_by (note_where to x) m near ∙ ap (λ b. cond b (Some x) None) (same m near free)
        ∙ ap (λ z. cond (is_receiver from m) (Some z) None) is ∙ sym (note_to-notes_by (note_where from y) m near)
    | inr far ↦ both-far (same_to to x) (same_to from y) m far
  ]

  pub either-same : ((m : ℕ) → m < 8 → differs told m ≡ false → is_receiver to m ≡ false) → ((m : ℕ) → m < 8 → differs told m ≡ false → is_receiver from m ≡ false)
      → (m : ℕ) → differs told m ≡ false → note_to (same_to to x) m ≡ note_to (same_to from y) m
  either-same one other m free = elim (cases_lt m 8) [
    | inl near ↦
        note_to-notes_by (note_where to x) m near ∙ ap (λ b. cond b (Some x) None) (one m near free)
        ∙ ap (λ b. cond b (Some y) None) (sym (other m near free)) ∙ sym (note_to-notes_by (note_where from y) m near)
    | inr far ↦ both-far (same_to to x) (same_to from y) m far
  ]

pub parted-nothing : {Note : Type 0} (told : Difference) (to : ℕ) (x : Note)
    → ((m : ℕ) → m < 8 → differs told m ≡ false → is_receiver to m ≡ is_receiver 0 m)
    → (m : ℕ) → differs told m ≡ false → note_to (same_to to x) m ≡ note_to nothing m
parted-nothing told to x same m free = elim (cases_lt m 8) [
  | inl near ↦
      note_to-notes_by (note_where to x) m near ∙ ap (λ b. cond b (Some x) None) (same m near free ∙ receives-none m near) ∙ sym (note_to-nothing m)
  | inr far ↦ both-far (same_to to x) nothing m far
]

-- turns that send so
pub told-by : {State Note : Type 0} (told : Difference) (one other : Seen State Note) (s r : Sends Note)
    → one.kept.now.sends ≡ s → other.kept.now.sends ≡ r
    → (told.state ≡ false → one.kept.now.state ≡ other.kept.now.state)
    → ((m : ℕ) → differs told m ≡ false → note_to (out_of s one.out.now) m ≡ note_to (out_of r other.out.now) m)
    → IsTold told (turn_seen one) (turn_seen other)
told-by told one other s r a b state notes = record {
  state = state;
  notes = λ m free.
      ap (λ z. note_to (out_of z one.out.now) m) a ∙ notes m free ∙ sym (ap (λ z. note_to (out_of z other.out.now) m) b);
}
