-- What commands come to, from what their engines made.
use Rattle.std.proofs.Common.{String, Global, ◌≡◌, ◌≢◌, ℕ, ◌+◌, Bool, List, refl, sym, ◌∙◌, subst, inl, inr, arith, string_bytes}
use Rattle.std.specs.Prelude.{◌||◌, Option, None, Some, Result, Ok, Err, MatchOption}
use Rattle.lf_protocol_file.specs.declared.declared.Declared.{Declared}
use Rattle.lf_scenario.specs.Limits.{longest}
use Rattle.lf_outcome.specs.declared.scenario.Scenario.{Scenario}
use Rattle.lf_tree.specs.declared.tree.Tree.{Tree}
use Rattle.lf_tree.specs.Texts.{most_bytes}
use Rattle.lf_words.specs.declared.types.Asked.{Asked}
use Rattle.lf_words.specs.declared.types.Asked.TheVariants as asked
use Rattle.leastfault.specs.declared.answering.Wanted.{Wanted}
use Rattle.leastfault.specs.declared.checking.Given.{Given}
use Rattle.leastfault.specs.declared.checking.Given.TheVariants as given
use Rattle.leastfault.specs.declared.fault.BytesFault.{BytesFault}
use Rattle.leastfault.specs.declared.fault.BytesFault.TheVariants as faults
use Rattle.leastfault.specs.declared.reply.Certified.{Certified}
use Rattle.leastfault.specs.declared.reply.Reply.{Reply}
use Rattle.leastfault.specs.declared.reply.Searched.{Searched}
use Rattle.leastfault.specs.Checks.{IsGiven, IsReplyTo}
use Rattle.leastfault.specs.Commands.{GetsCertified, IsAlone, IsCauseAt, IsCauseFor, IsCertified, IsCertifiedBy, IsDoneFor, IsUncertified, IsWritten}
use Rattle.leastfault.specs.Commands.{certificate_of, wanted_of}
use Rattle.leastfault.specs.Engines.{IsMadeHere, IsMadeOfBoth, NoCause, OfBoth, OfHeld, OfReply, Remakes, TookAtMost, WasRead}
use Rattle.leastfault.specs.Replies.{HandsOut, IsCheckReply, IsPoolCause, IsReplyWith, IsSearchedWith, IsSharedWith, MayWork}
use Rattle.leastfault.specs.Replies.{reports_of}
use Rattle.leastfault.proofs.EngineLemmas.{both_wider, remade}

-- one worker may search
pub one_works : (known : Option Declared) (text : List ℕ) → MayWork known 1 text
one_works known text = inl (record { some = omega arith; few = omega arith })

-- the reply to what is given
pub check_replies : (known : Option Declared) (text certificate : List ℕ) (g : Given) (r : Reply ℕ) → IsGiven known text certificate g → IsReplyTo g r
    → OfReply (IsCheckReply known text) certificate r
check_replies known text certificate (given.Refused told) r is same = subst (OfReply (IsCheckReply known text) certificate) (sym same) is
check_replies known text certificate (given.Both s tree) r is verdict = inr (s, is.0, inr (tree, is.1, verdict))

-- a search's reply gets its certificate
module _ (known : Option Declared) (Reports : Scenario → List ℕ → ℕ → Type 0) (text reply told : List ℕ) (found : Searched) (ended : Certified)
    (searched : IsSearchedWith known Reports text reply found) where
  stays : told ≡ reply → ended.status ≡ found.status → IsReplyWith known Reports text told ended.status
  stays same ends = subst (IsReplyWith known Reports text told) (sym ends) (subst (λ r. IsReplyWith known Reports text r found.status) (sym same) searched.0)

  without : found.tree ≡ None → (told ≡ reply) × (ended.status ≡ found.status) × (certificate_of ended ≡ None) → IsCertified known Reports text told ended
  without none is =
      let two : found.status ≡ 2 = subst (λ tree. HandsOut known text tree found.status) none searched.1 in
      inl (stays is.0 is.1, is.1 ∙ two, is.2)

pub certified_of : (known : Option Declared) (Reports : Scenario → List ℕ → ℕ → Type 0) (text : List ℕ) (found : Reply Searched) (r : Reply Certified)
    → OfReply (IsSearchedWith known Reports) text found → GetsCertified found r → OfReply (IsCertified known Reports) text r
certified_of known Reports text found r searched gets = by_tree found.value.tree refl gets
  where
    by_writing : (tree : Tree) → found.value.tree ≡ Some tree → IsWritten (string_bytes found.text) found.value.status tree r
        → OfReply (IsCertified known Reports) text r
    by_writing tree some (inl whole) =
        let hands = subst (λ x. HandsOut known text x found.value.status) some searched.1 in
        inr (inl (
          tree,
          whole.0,
          stays known Reports text (string_bytes found.text) (string_bytes r.text) found.value r.value searched whole.3 whole.4,
          subst (HandsOut known text (Some tree)) (sym whole.4) hands,
          whole.1,
          whole.2,
        ))
    by_writing tree some (inr long) =
        inr (inr (
          tree,
          string_bytes found.text,
          found.value.status,
          searched.0,
          subst (λ x. HandsOut known text x found.value.status) some searched.1,
          long.0,
          long.1,
          long.2,
          long.3,
        ))

    by_tree : (tree : Option Tree) → found.value.tree ≡ tree
        → MatchOption tree
        ((string_bytes r.text ≡ string_bytes found.text) × (r.value.status ≡ found.value.status) × (certificate_of r.value ≡ None))
        (λ t. IsWritten (string_bytes found.text) found.value.status t r)
        → OfReply (IsCertified known Reports) text r
    by_tree None none is = without known Reports text (string_bytes found.text) (string_bytes r.text) found.value r.value searched none is
    by_tree (Some tree) some is = by_writing tree some is

-- a reply with its status alone
told_alone : {X : Type 0} (status_of : X → ℕ) (IsOne : List ℕ → X → Type 0) (IsReply : List ℕ → ℕ → Type 0) (r : Reply X) (t : Reply Certified)
    → ((reply : List ℕ) (value : X) → IsOne reply value → IsReply reply (status_of value)) → IsOne (string_bytes r.text) r.value → IsAlone status_of r t
    → IsReply (string_bytes t.text) t.value.status × (certificate_of t.value ≡ None)
told_alone status_of IsOne IsReply r t wider is alone = (
  subst (IsReply (string_bytes t.text)) (sym alone.1)
      (subst (λ reply. IsReply reply (status_of r.value)) (sym alone.0) (wider (string_bytes r.text) r.value is)),
  alone.2,
)

-- what is made here of texts is of each wider kind
pub here_wider : {Y : Type 0} (IsOne IsOther : Y → Type 0) (IsCause IsCauseToo : ℕ → Type 0) (made : Result Y BytesFault) → IsMadeHere IsOne IsCause made
    → ((y : Y) → IsOne y → IsOther y) → ((number : ℕ) → IsCause number → IsCauseToo number) → IsMadeHere IsOther IsCauseToo made
here_wider IsOne IsOther IsCause IsCauseToo (Ok y) is wider causes = wider y is
here_wider IsOne IsOther IsCause IsCauseToo (Err faults.Read) is wider causes = is
here_wider IsOne IsOther IsCause IsCauseToo (Err faults.Write) is wider causes = is
here_wider IsOne IsOther IsCause IsCauseToo (Err faults.Memory) is wider causes = tt
here_wider IsOne IsOther IsCause IsCauseToo (Err (faults.Pool number)) is wider causes = causes number is

-- and of it something else is made
pub remade_here : {Y Z : Type 0} (IsOne : Y → Type 0) (IsOther : Z → Type 0) (IsCause IsCauseToo : ℕ → Type 0) (AreRelated : Y → Z → Type 0)
    (made : Result Y BytesFault) (result : Result Z BytesFault) → IsMadeHere IsOne IsCause made → Remakes AreRelated made result
    → ((y : Y) (z : Z) → IsOne y → AreRelated y z → IsOther z) → ((number : ℕ) → IsCause number → IsCauseToo number)
    → IsMadeHere IsOther IsCauseToo result
remade_here IsOne IsOther IsCause IsCauseToo AreRelated (Ok y) (Ok z) is related others causes = others y z is related
remade_here IsOne IsOther IsCause IsCauseToo AreRelated (Ok y) (Err e) is related others causes =
    subst (λ d. IsMadeHere IsOther IsCauseToo (Err d)) (sym related) tt
remade_here IsOne IsOther IsCause IsCauseToo AreRelated (Err e) result is related others causes =
    subst (IsMadeHere IsOther IsCauseToo) (sym related) (same e is)
  where
    same : (e : BytesFault) → IsMadeHere IsOne IsCause (Err e) → IsMadeHere IsOther IsCauseToo (Err e)
    same faults.Read is = is
    same faults.Write is = is
    same faults.Memory is = tt
    same (faults.Pool number) is = causes number is

module _ (known : Option Declared) (text : List ℕ) where
  -- a search by one thread is one by so many workers
  pub by_one : (wanted : Wanted) (workers : ℕ) (found : Reply Searched) → workers ≡ 1
      → OfReply (IsSearchedWith known (reports_of wanted)) text found → OfReply (IsSharedWith known (reports_of wanted) workers) text found
  by_one wanted workers found one searched = (searched, subst (λ n. MayWork known n text) (sym one) (one_works known text))

  pub by_several : (wanted : Wanted) (workers : ℕ) (made : Result (Reply Searched) BytesFault) → workers ≢ 1
      → IsMadeHere (OfReply (IsSharedWith known (reports_of wanted) workers) text) (IsPoolCause known workers text) made
      → IsMadeHere (OfReply (IsSharedWith known (reports_of wanted) workers) text) (IsCauseAt known workers text) made
  by_several wanted workers made several is =
      here_wider (OfReply (IsSharedWith known (reports_of wanted) workers) text) (OfReply (IsSharedWith known (reports_of wanted) workers) text)
      (IsPoolCause known workers text) (IsCauseAt known workers text) made is (λ found shared. shared) (λ number cause. (several, cause))

  -- a search's reply gets its certificate, where so many workers search
  pub with_certificate : (wanted : Wanted) (workers : ℕ) (made : Result (Reply Searched) BytesFault) (result : Result (Reply Certified) BytesFault)
      → IsMadeHere (OfReply (IsSharedWith known (reports_of wanted) workers) text) (IsCauseAt known workers text) made → Remakes GetsCertified made result
      → IsMadeHere (OfReply (IsCertifiedBy known wanted workers) text) (IsCauseAt known workers text) result
  with_certificate wanted workers made result is gets =
      remade_here (OfReply (IsSharedWith known (reports_of wanted) workers) text) (OfReply (IsCertifiedBy known wanted workers) text)
      (IsCauseAt known workers text) (IsCauseAt known workers text) GetsCertified made result is gets
      (λ found r shared related. (certified_of known (reports_of wanted) text found r shared.0 related, shared.1)) (λ number cause. cause)

  -- or goes without
  pub without_tree : (wanted : Wanted) (workers : ℕ) (made : Result (Reply Searched) BytesFault) (result : Result (Reply Certified) BytesFault)
      → IsMadeHere (OfReply (IsSharedWith known (reports_of wanted) workers) text) (IsCauseAt known workers text) made
      → Remakes (IsAlone (λ (found : Searched). found.status)) made result
      → IsMadeHere (λ r. IsUncertified known (reports_of wanted) text (string_bytes r.text) r.value × MayWork known workers text)
      (IsCauseAt known workers text) result
  without_tree wanted workers made result is alone =
      remade_here (OfReply (IsSharedWith known (reports_of wanted) workers) text)
      (λ (r : Reply Certified). IsUncertified known (reports_of wanted) text (string_bytes r.text) r.value × MayWork known workers text)
      (IsCauseAt known workers text) (IsCauseAt known workers text) (IsAlone (λ (found : Searched). found.status)) made result is alone
      (λ found r shared same. (
        told_alone (λ (found : Searched). found.status) (IsSearchedWith known (reports_of wanted) text) (IsReplyWith known (reports_of wanted) text)
            found r (λ reply found told. told.0) shared.0 same,
        shared.1,
      ))
      (λ number cause. cause)

-- what is asked for is done
module _ (known : Option Declared) (text : List ℕ) (certificate : Option (List ℕ)) where
  abbrev pub Done : Asked → Result (Reply Certified) BytesFault → Type 0
  Done a result = IsMadeHere (λ (r : Reply Certified). IsDoneFor known a text certificate (string_bytes r.text) r.value) (IsCauseFor known a text) result

  pub done_certified : (a : Asked) (file name : String Global) (all : Bool) (workers : ℕ) (quiet : Bool) (protocol : Option (String Global))
      (wanted : Wanted) (result : Result (Reply Certified) BytesFault) → a ≡ asked.Search file (Some name) all workers quiet protocol
      → wanted ≡ wanted_of all → IsMadeHere (OfReply (IsCertifiedBy known wanted workers) text) (IsCauseAt known workers text) result → Done a result
  done_certified a file name all workers quiet protocol wanted result is same made =
      subst (λ x. Done x result) (sym is)
      (subst (λ w. IsMadeHere (OfReply (IsCertifiedBy known w workers) text) (IsCauseAt known workers text) result) same made)

  pub done_uncertified : (a : Asked) (file : String Global) (all : Bool) (workers : ℕ) (quiet : Bool) (protocol : Option (String Global))
      (wanted : Wanted) (made : Result (Reply Searched) BytesFault) (result : Result (Reply Certified) BytesFault)
      → a ≡ asked.Search file None all workers quiet protocol → wanted ≡ wanted_of all
      → IsMadeHere (OfReply (IsSharedWith known (reports_of wanted) workers) text) (IsCauseAt known workers text) made
      → Remakes (IsAlone (λ (found : Searched). found.status)) made result → Done a result
  done_uncertified a file all workers quiet protocol wanted made result is same shared alone =
      subst (λ x. Done x result) (sym is)
      (without_tree known text (wanted_of all) workers made result
      (subst (λ w. IsMadeHere (OfReply (IsSharedWith known (reports_of w) workers) text) (IsCauseAt known workers text) made) same shared) alone)

  -- by a reply with its status alone
  pub done_alone : (a other : Asked) (IsReply : List ℕ → ℕ → Type 0) (r : Reply ℕ) (t : Reply Certified) → a ≡ other
      → ((reply : List ℕ) (ended : Certified) → IsReply reply ended.status × (certificate_of ended ≡ None) → IsDoneFor known other text certificate reply ended)
      → IsReply (string_bytes r.text) r.value → IsAlone (λ (status : ℕ). status) r t
      → IsDoneFor known a text certificate (string_bytes t.text) t.value
  done_alone a other IsReply r t is done told alone =
      subst (λ x. IsDoneFor known x text certificate (string_bytes t.text) t.value) (sym is)
      (done (string_bytes t.text) t.value (told_alone (λ (status : ℕ). status) IsReply IsReply r t (λ reply status one. one) told alone))

-- what two sources give is judged
module _ {R S : Type 0} (left : R → Option (List ℕ)) (stuck : R → Bool) (left_too : S → Option (List ℕ)) (stuck_too : S → Bool) (old new : R)
    (old_too new_too : S) (known : Option Declared) where
  abbrev TookBoth : Type 0
  TookBoth = TookAtMost (longest + 1) (left old) (left new) × TookAtMost (most_bytes + 1) (left_too old_too) (left_too new_too)

  abbrev WereRead : Type 0
  WereRead = WasRead (longest + 1) (left old) (left new) × WasRead (most_bytes + 1) (left_too old_too) (left_too new_too)

  pub judged : (made : Result Given BytesFault) (result : Result (Reply ℕ) BytesFault)
      → IsMadeOfBoth left stuck left_too stuck_too (IsGiven known) NoCause old new old_too new_too made → Remakes IsReplyTo made result
      → IsMadeOfBoth left stuck left_too stuck_too (λ text. OfReply (IsCheckReply known text)) NoCause old new old_too new_too result
  judged made result is related =
      remade (λ (g : Given). OfBoth (λ text certificate. IsGiven known text certificate g) (left old) (left_too old_too) × WereRead)
      (λ (r : Reply ℕ). OfBoth (λ text certificate. OfReply (IsCheckReply known text) certificate r) (left old) (left_too old_too) × WereRead)
      (λ number. OfHeld (λ text. NoCause text number) (left old)) (λ number. OfHeld (λ text. NoCause text number) (left old))
      (stuck new || stuck_too new_too) (stuck new || stuck_too new_too) TookBoth TookBoth IsReplyTo made result is related
      (λ g r told replies. (
        both_wider (λ text certificate. IsGiven known text certificate g)
            (λ text certificate. OfReply (IsCheckReply known text) certificate r) (left old) (left_too old_too)
            (λ text certificate is_given. check_replies known text certificate g r is_given replies) told.0,
        told.1,
      ))
      (λ number cause. cause) refl (λ took. took)
