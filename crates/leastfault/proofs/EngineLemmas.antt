-- From the bytes that were read to what an engine promises.
use Rattle.std.proofs.Common.{◌≡◌, ℕ, ◌+◌, Bool, true, false, List, length, take, refl, sym, ap, ◌∙◌, subst, inl, inr, arith, string_bytes}
use Rattle.std.specs.Prelude.{◌||◌, drop, Option, None, Some, IfSome, Result, Ok, Err}
use Rattle.std.proofs.lemmas.Bool.{cases_lt}
use Rattle.std.proofs.lemmas.List.{drop_all, length-take-le, take_all}
use Rattle.lf_scenario.specs.Limits.{longest}
use Rattle.lf_tree.specs.Texts.{most_bytes}
use Rattle.leastfault.specs.declared.fault.BytesFault.{BytesFault}
use Rattle.leastfault.specs.declared.fault.BytesFault.TheVariants as faults
use Rattle.leastfault.specs.declared.reply.Reply.{Reply}
use Rattle.leastfault.specs.Engines.{IsEngine, IsEngineOfBoth, IsFront, IsMade, IsMadeHere, IsMadeOfBoth, IsMadeOfOne, IsSent, NoCause}
use Rattle.leastfault.specs.Engines.{OfBoth, OfHeld, OfReply, Remakes, TookAtMost, WasRead, WasSent, tells_write}
use Rattle.leastfault.proofs.ReplyLemmas.{GoesByFront}

-- what follows of any text follows of what a source held,
pub held_wider : (Says Means : List ℕ → Type 0) (held : Option (List ℕ)) → ((text : List ℕ) → Says text → Means text) → OfHeld Says held → OfHeld Means held
held_wider Says Means held wider is = (is.0, is.1, wider is.0 is.2)

-- also of two sources,
pub both_wider : (Says Means : List ℕ → List ℕ → Type 0) (held other : Option (List ℕ))
    → ((text certificate : List ℕ) → Says text certificate → Means text certificate)
    → OfBoth Says held other → OfBoth Means held other
both_wider Says Means held other wider is =
    held_wider (λ text. OfHeld (Says text) other) (λ text. OfHeld (Means text) other) held
    (λ text. held_wider (Says text) (Means text) other (wider text)) is

-- where the bytes at the front were taken, and no others, so many were, or all
drop_front : (n : ℕ) (h : List ℕ) → drop (length (take n h)) h ≡ drop n h
drop_front n h = elim (cases_lt (length h) n) [
  | inl more ↦ ap (λ bs. drop (length bs) h) (take_all n h (omega (arith, more))) ∙ drop_all (length h) h (omega arith)
      ∙ sym (drop_all n h (omega (arith, more)))
  | inr few ↦ ap (λ k. drop k h) (length-take-le n h few)
]

pub was_read : (most : ℕ) (held left : Option (List ℕ)) (bytes : List ℕ)
    → IfSome held (λ h. (bytes ≡ take most h) × (left ≡ Some (drop (length bytes) h))) → WasRead most held left
was_read most None left bytes is = tt
was_read most (Some h) left bytes is = is.1 ∙ ap Some (ap (λ bs. drop (length bs) h) is.0 ∙ drop_front most h)

-- what is said of the bytes that were read is said of what the source held
module _ (most : ℕ) (Says : List ℕ → Type 0) (by_front : GoesByFront most Says) where
  from_front : (held : List ℕ) → Says (take (most + 1) held) → Says held
  from_front held is = elim (cases_lt most (length held)) [
    | inl more ↦ by_front held more is
    | inr few ↦ subst Says (take_all (most + 1) held (omega (arith, few))) is
  ]

  to_items : (held : Option (List ℕ)) (items : List ℕ) → IsFront most held items → Says items → OfHeld Says held
  to_items None items tells is = (items, tt, is)
  to_items (Some h) items tells is = (h, refl, from_front h (subst Says tells is))

  pub to_held : (held : Option (List ℕ)) (items text : List ℕ) → IsFront most held items → text ≡ items → Says text → OfHeld Says held
  to_held held items text tells same is = to_items held items tells (subst Says same is)

-- and so of two sources
pub to_both : (most most_too : ℕ) (Says : List ℕ → List ℕ → Type 0) → ((certificate : List ℕ) → GoesByFront most (λ text. Says text certificate))
    → ((text : List ℕ) → GoesByFront most_too (Says text)) → (held other : Option (List ℕ)) (items text other_items certificate : List ℕ)
    → IsFront most held items → text ≡ items → IsFront most_too other other_items → certificate ≡ other_items → Says text certificate
    → OfBoth Says held other
to_both most most_too Says by_front by_front_too held other items text other_items certificate tells same tells_too same_too is =
    to_held most (λ t. OfHeld (Says t) other) (λ h more told. held_wider (Says (take (most + 1) h)) (Says h) other (λ c. by_front c h more) told)
    held items text tells same (to_held most_too (Says text) (by_front_too text) other other_items certificate tells_too same_too is)

-- what is answered isn't a fault, and no two faults
no_ok : {X : Type 0} (x : X) (e : BytesFault) → Ok x ≡ Err e → ⊥
no_ok x e is = cc

fault_one : {X : Type 0} (r : Result X BytesFault) (d e : BytesFault) → r ≡ Err d → r ≡ Err e → d ≡ e
fault_one r d e one other = let both : Err d ≡ Err e = sym one ∙ other in cc

no_memory : {X : Type 0} (r : Result X BytesFault) (number : ℕ) → r ≡ Err faults.Memory → r ≡ Err (faults.Pool number) → ⊥
no_memory r number one other =
    let never : faults.Memory ≡ faults.Pool number = fault_one r faults.Memory (faults.Pool number) one other in cc

no_pool : {X : Type 0} (r : Result X BytesFault) (number : ℕ) → r ≡ Err faults.Write → r ≡ Err (faults.Pool number) → ⊥
no_pool r number one other =
    let never : faults.Write ≡ faults.Pool number = fault_one r faults.Write (faults.Pool number) one other in cc

no_write : {X : Type 0} (r : Result X BytesFault) → tells_write r ≡ false → r ≡ Err faults.Write → ⊥
no_write r tells is = let never : true ≡ false = sym (ap tells_write is) ∙ tells in cc

-- what is made of texts that were read is made of what the sources held
module _ {Y Z : Type 0} (IsOne : Y → Type 0) (IsOther : Z → Type 0) (IsCause IsCauseToo : ℕ → Type 0) (failed : Bool) (Took : Type 0) where
  pub made_of : (y : Y) (IsHere : Z → Type 0) (IsCauseHere : ℕ → Type 0) (made : Result Z BytesFault) → IsMade IsOne IsCause failed Took (Ok y)
      → IsMadeHere IsHere IsCauseHere made → ((z : Z) → IsHere z → IsOther z) → ((number : ℕ) → IsCauseHere number → IsCauseToo number)
      → IsMade IsOther IsCauseToo failed Took made
  made_of y IsHere IsCauseHere (Ok z) is here others causes = record {
    one = others z here;
    source = is.source;
    sink = refl;
    pool = λ number same. absurd (no_ok z (faults.Pool number) same);
    taken = is.taken;
  }
  made_of y IsHere IsCauseHere (Err faults.Read) is here others causes = absurd here
  made_of y IsHere IsCauseHere (Err faults.Write) is here others causes = absurd here
  made_of y IsHere IsCauseHere (Err faults.Memory) is here others causes = record {
    one = tt;
    source = is.source;
    sink = refl;
    pool = λ number same. absurd (no_memory (Err faults.Memory) number refl same);
    taken = is.taken;
  }
  made_of y IsHere IsCauseHere (Err (faults.Pool n)) is here others causes = record {
    one = tt;
    source = is.source;
    sink = refl;
    pool = λ number same.
        let both : faults.Pool n ≡ faults.Pool number = fault_one (Err (faults.Pool n)) (faults.Pool n) (faults.Pool number) refl same in
        let one : n ≡ number = cc in
        causes number (subst IsCauseHere one here);
    taken = is.taken;
  }

-- so it is with what is made of the text of one source
module _ {R : Type 0} (left : R → Option (List ℕ)) (stuck : R → Bool) (old new : R) where
  pub made_here : {V Y : Type 0} (items_of : V → List ℕ) (IsOther : List ℕ → Y → Type 0) (IsCause : List ℕ → ℕ → Type 0) (v : V) (text : List ℕ)
      (made : Result Y BytesFault) → ((y : Y) → GoesByFront longest (λ t. IsOther t y)) → ((number : ℕ) → GoesByFront longest (λ t. IsCause t number))
      → IsMade (λ (u : V). IsFront longest (left old) (items_of u) × WasRead (longest + 1) (left old) (left new)) (λ _. ⊥) (stuck new)
      (TookAtMost (longest + 1) (left old) (left new)) (Ok v)
      → text ≡ items_of v → IsMadeHere (IsOther text) (IsCause text) made → IsMadeOfOne left stuck IsOther IsCause old new made
  made_here {V = V} {Y = Y} items_of IsOther IsCause v text made by_front causes_by_front is same here =
      made_of (λ (u : V). IsFront longest (left old) (items_of u) × WasRead (longest + 1) (left old) (left new))
      (λ (y : Y). OfHeld (λ t. IsOther t y) (left old)) (λ _. ⊥)
      (λ number. OfHeld (λ t. IsCause t number) (left old)) (stuck new) (TookAtMost (longest + 1) (left old) (left new)) v (IsOther text) (IsCause text)
      made is here
      (λ y told. to_held longest (λ t. IsOther t y) (by_front y) (left old) (items_of v) text is.one.0 same told)
      (λ number cause. to_held longest (λ t. IsCause t number) (causes_by_front number) (left old) (items_of v) text is.one.0 same cause)

  -- or of the texts of two
  pub made_of_both : {S V Y : Type 0} (left_too : S → Option (List ℕ)) (stuck_too : S → Bool) (old_too new_too : S) (items_of other_items_of : V → List ℕ)
      (IsOther : List ℕ → List ℕ → Y → Type 0) (v : V) (text certificate : List ℕ) (made : Result Y BytesFault)
      → ((other : List ℕ) (y : Y) → GoesByFront longest (λ t. IsOther t other y)) → ((one : List ℕ) (y : Y) → GoesByFront most_bytes (λ t. IsOther one t y))
      → IsMade
      (λ (u : V). (IsFront longest (left old) (items_of u) × IsFront most_bytes (left_too old_too) (other_items_of u))
      × (WasRead (longest + 1) (left old) (left new) × WasRead (most_bytes + 1) (left_too old_too) (left_too new_too))) (λ _. ⊥)
      (stuck new || stuck_too new_too)
      (TookAtMost (longest + 1) (left old) (left new) × TookAtMost (most_bytes + 1) (left_too old_too) (left_too new_too)) (Ok v)
      → text ≡ items_of v → certificate ≡ other_items_of v → IsMadeHere (IsOther text certificate) (λ _. ⊥) made
      → IsMadeOfBoth left stuck left_too stuck_too IsOther NoCause old new old_too new_too made
  made_of_both {V = V} {Y = Y} left_too stuck_too old_too new_too items_of other_items_of IsOther v text certificate made by_front by_front_too is same
      same_too here =
      made_of
      (λ (u : V). (IsFront longest (left old) (items_of u) × IsFront most_bytes (left_too old_too) (other_items_of u))
      × (WasRead (longest + 1) (left old) (left new) × WasRead (most_bytes + 1) (left_too old_too) (left_too new_too)))
      (λ (y : Y). OfBoth (λ t u. IsOther t u y) (left old) (left_too old_too)
      × (WasRead (longest + 1) (left old) (left new) × WasRead (most_bytes + 1) (left_too old_too) (left_too new_too))) (λ _. ⊥)
      (λ number. OfHeld (λ t. NoCause t number) (left old))
      (stuck new || stuck_too new_too)
      (TookAtMost (longest + 1) (left old) (left new) × TookAtMost (most_bytes + 1) (left_too old_too) (left_too new_too)) v (IsOther text certificate)
      (λ _. ⊥) made is here
      (λ y told. (
        to_both longest most_bytes (λ t u. IsOther t u y) (λ other. by_front other y) (λ one. by_front_too one y) (left old) (left_too old_too)
            (items_of v) text (other_items_of v) certificate is.one.0.0 same is.one.0.1 same_too told,
        is.one.1,
      ))
      (λ number no. absurd no)

-- no cause goes by any front
pub no_cause : (number : ℕ) → GoesByFront longest (λ text. NoCause text number)
no_cause number held more is = is

-- of what was made something else is made
module _ {Y Z : Type 0} (IsOne : Y → Type 0) (IsOther : Z → Type 0) (IsCause IsCauseToo : ℕ → Type 0) (failed failed_too : Bool) (Took TookToo : Type 0)
    (AreRelated : Y → Z → Type 0) where
  pub remade : (made : Result Y BytesFault) (result : Result Z BytesFault) → IsMade IsOne IsCause failed Took made → Remakes AreRelated made result
      → ((y : Y) (z : Z) → IsOne y → AreRelated y z → IsOther z) → ((number : ℕ) → IsCause number → IsCauseToo number)
      → failed_too ≡ failed → (Took → TookToo) → IsMade IsOther IsCauseToo failed_too TookToo result
  remade (Ok y) (Ok z) is related others causes same takes = record {
    one = others y z is.one related;
    source = same ∙ is.source;
    sink = refl;
    pool = λ number told. absurd (no_ok z (faults.Pool number) told);
    taken = takes is.taken;
  }
  remade (Ok y) (Err e) is related others causes same takes =
      subst (λ d. IsMade IsOther IsCauseToo failed_too TookToo (Err d)) (sym related) (record {
        one = tt;
        source = same ∙ is.source;
        sink = refl;
        pool = λ number told. absurd (no_memory (Err faults.Memory) number refl told);
        taken = takes is.taken;
      })
  remade (Err e) result is related others causes same takes =
      subst (IsMade IsOther IsCauseToo failed_too TookToo) (sym related) (record {
        one = tt;
        source = same ∙ is.source;
        sink = is.sink;
        pool = λ number told. causes number (is.pool number (ap Err (fault_one (Err e) e (faults.Pool number) refl told)));
        taken = takes is.taken;
      })

-- a reply that was made is sent
module _ {X W : Type 0} (IsReply : List ℕ → X → Type 0) (IsCause : ℕ → Type 0) (failed : Bool) (Took : Type 0)
    (written : W → Option (List ℕ)) (has_failed : W → Bool) (old new : W) (well : has_failed old ≡ false) where
  abbrev Promised : Result X BytesFault → Type 0
  Promised = IsSent IsReply IsCause failed Took written has_failed old new

  pub sent : (made : Result (Reply X) BytesFault) (result : Result X BytesFault)
      → IsMade (λ r. IsReply (string_bytes r.text) r.value) IsCause failed Took made → WasSent written has_failed made old new result → Promised result
  sent (Ok r) result is (inl whole) =
      subst Promised (sym whole.0) (record {
        reply = (string_bytes r.text, is.one, whole.1);
        part = λ same. absurd (no_ok r.value faults.Write same);
        unwritten = tt;
        source = is.source;
        sink = whole.2;
        pool = λ number same. absurd (no_ok r.value (faults.Pool number) same);
        taken = is.taken;
      })
  sent (Ok r) result is (inr part) =
      subst Promised (sym part.0) (record {
        reply = tt;
        part = λ same. (string_bytes r.text, r.value, part.1.0, is.one, part.1.1, part.1.2);
        unwritten = λ other. absurd (other refl);
        source = is.source;
        sink = part.2;
        pool = λ number same. absurd (no_pool {X = X} (Err faults.Write) number refl same);
        taken = is.taken;
      })
  sent (Err e) result is none =
      subst Promised (sym none.0) (record {
        reply = tt;
        part = λ same. absurd (no_write {X = Reply X} (Err e) is.sink (ap Err (fault_one (Err e) e faults.Write refl same)));
        unwritten = λ other. none.1;
        source = is.source;
        sink = ap has_failed none.1 ∙ well ∙ sym is.sink;
        pool = λ number same. is.pool number (ap Err (fault_one (Err e) e (faults.Pool number) refl same));
        taken = is.taken;
      })

-- of one source, or of two
module _ {R X W : Type 0} (left : R → Option (List ℕ)) (stuck : R → Bool) (old new : R) (written : W → Option (List ℕ)) (has_failed : W → Bool)
    (before after : W) (well : has_failed before ≡ false) (made : Result (Reply X) BytesFault) (result : Result X BytesFault)
    (was : WasSent written has_failed made before after result) where
  pub sent_of_one : (IsReply : List ℕ → List ℕ → X → Type 0) (IsCause : List ℕ → ℕ → Type 0)
      → IsMadeOfOne left stuck (OfReply IsReply) IsCause old new made
      → IsEngine left stuck IsReply IsCause old new written has_failed before after result
  sent_of_one IsReply IsCause is =
      sent (λ reply value. OfHeld (λ text. IsReply text reply value) (left old)) (λ number. OfHeld (λ text. IsCause text number) (left old))
      (stuck new) (TookAtMost (longest + 1) (left old) (left new)) written has_failed before after well made result is was

  module _ {S : Type 0} (left_too : S → Option (List ℕ)) (stuck_too : S → Bool) (old_too new_too : S) where
    pub sent_of_both : (IsReply : List ℕ → List ℕ → List ℕ → X → Type 0) (IsCause : List ℕ → ℕ → Type 0)
        → IsMadeOfBoth left stuck left_too stuck_too (λ text. OfReply (IsReply text)) IsCause old new old_too new_too made
        → IsEngineOfBoth left stuck left_too stuck_too IsReply IsCause old new old_too new_too written has_failed before after result
    sent_of_both IsReply IsCause is =
        sent
        (λ reply value. OfBoth (λ text certificate. IsReply text certificate reply value) (left old) (left_too old_too)
        × (WasRead (longest + 1) (left old) (left new) × WasRead (most_bytes + 1) (left_too old_too) (left_too new_too)))
        (λ number. OfHeld (λ text. IsCause text number) (left old)) (stuck new || stuck_too new_too)
        (TookAtMost (longest + 1) (left old) (left new) × TookAtMost (most_bytes + 1) (left_too old_too) (left_too new_too))
        written has_failed before after well made result is was
