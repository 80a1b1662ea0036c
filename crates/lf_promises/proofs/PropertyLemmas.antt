-- What each unit has, and what is joined of such or said of all steps, has all that is read.
use Rattle.std.proofs.Common.{◌≡◌, ℕ, zero, suc, Bool, true, false, List, [], ◌∷◌, ◌++◌, map, Option, Some, None, refl, sym, ap, ◌∙◌, subst, arith}
use Rattle.std.specs.Prelude.{⊤}
use Rattle.std.specs.List.{list_all}
use Rattle.std.proofs.lemmas.Bool.{and_from}
use Rattle.std.proofs.lemmas.List.Folds.{list_all-append, list_all-map}
use Rattle.lf_grammar.specs.declared.sign.Sign.TheVariants as signs
use Rattle.lf_grammar.specs.declared.token.Token.{Token}
use Rattle.lf_grammar.specs.Places.{Context}
use Rattle.lf_grammar.specs.Typing.{◌>>=◌}
use Rattle.lf_grammar.specs.Fronts.{behind_sign}
use Rattle.lf_grammar.specs.Expressions.{cases_of}
use Rattle.lf_promises.specs.declared.fronts.Time.{Time}
use Rattle.lf_promises.specs.declared.fronts.Time.TheVariants as times
use Rattle.lf_promises.specs.declared.reading.Joint.{Joint}
use Rattle.lf_promises.specs.declared.reading.Joint.TheVariants as joints
use Rattle.lf_promises.specs.declared.promise.Promise.{Promise, fold-Promise, fold-roll-Promise}
use Rattle.lf_promises.specs.declared.promise.Promise.TheVariants.{rolls-All, rolls-Any, rolls-Always, rolls-Ever}
use Rattle.lf_promises.specs.declared.promise.Promise.TheVariants as promises
use Rattle.lf_promises.specs.declared.promise.Promise.TheOpen.{Promise-F}
use Rattle.lf_promises.specs.Fronts.{Found, found, behind_time}
use Rattle.lf_promises.specs.Units.{first_unit}
use Rattle.lf_promises.specs.Promises.{Next, Joined, Part, More, Whole, Round, Timed, read, steps, behind_joint, of_parts, at_times, to_the_end, promise_of}
use Rattle.lf_promises.specs.Readings.{IsRead}

-- a property that what is read has, if something is
abbrev pub Gives : {A : Type 0} → (A → Type 0) → Option A → Type 0
Gives {A} P o = (x : A) → o ≡ Some x → P x

pub given : {A : Type 0} (P : A → Type 0) (x : A) → P x → Gives P (Some x)
given {A} P x h y is = let same : x ≡ y = cc in subst P same h

pub nothing : {A : Type 0} (P : A → Type 0) → Gives P None
nothing P x is = absurd cc

pub onward : {A B : Type 0} (P : B → Type 0) (o : Option A) (f : A → Option B) → ((x : A) → o ≡ Some x → Gives P (f x)) → Gives P (o >>= f)
onward P (Some x) f h = h x refl
onward P None f h = nothing P

pub by_cases : {A B : Type 0} (P : B → Type 0) (o : Option A) (absent : Option B) (f : A → Option B) → Gives P absent → ((x : A) → Gives P (f x))
    → Gives P (cases_of o absent f)
by_cases P (Some x) absent f h k = k x
by_cases P None absent f h k = h

module _ (q : Promise → Bool) where
  -- a promise that is read
  pub record IsFine (x : Found Promise) : Type 0 where
    pub fits : q x.value ≡ true

  abbrev pub all_fine : List Promise → Type 0
  all_fine parts = list_all q parts ≡ true

  -- what is joined of such, and what is said of all steps
  pub record IsKept : Type 0 where
    pub joined : (joint : Joint) (parts : List Promise) → all_fine parts → q (of_parts joint parts) ≡ true
    pub timed : (time : Time) (p : Promise) → q p ≡ true → q (at_times time p) ≡ true

  pub fine : (promise : Promise) (rest : List Token) → q promise ≡ true → Gives IsFine (found promise rest)
  fine promise rest h = given IsFine (record { value = promise; rest = rest }) (record { fits = h })

  pub one-fine : (p : Promise) → q p ≡ true → all_fine (p ∷ [])
  one-fine p h = and_from (q p) true h refl

  more-fine : (parts : List Promise) (p : Promise) → all_fine parts → q p ≡ true → all_fine (parts ++ p ∷ [])
  more-fine parts p h k =
      list_all-append q parts (p ∷ []) ∙ and_from (list_all q parts) (list_all q (p ∷ [])) h (one-fine p k)

  module _ (at : Context) (kept : IsKept) (unit : (timed : Bool) (ts : List Token) → Gives IsFine (first_unit at timed ts)) where
    -- the parts before a joint have the property
    abbrev IsReady : Next → Type 0
    IsReady (Joined joint) = ⊤
    IsReady (Part joint) = ⊤
    IsReady (More joint parts) = all_fine parts
    IsReady Whole = ⊤
    IsReady Round = ⊤
    IsReady (Timed time) = ⊤

    read-fine : (n : ℕ) (timed : Bool) (next : Next) (ts : List Token) → IsReady next → Gives IsFine (read at n timed next ts)
    unfolding read
    read-fine zero timed next ts ready = nothing IsFine
    read-fine (suc n) timed (Joined joint) ts ready =
        onward IsFine (read at n timed (Part joint) ts)
        (λ x. cases_of (behind_joint joint x.rest) (found x.value x.rest) (λ after. read at n timed (More joint (x.value ∷ [])) after))
        (λ x is. let part = read-fine n timed (Part joint) ts tt x is in
        by_cases IsFine (behind_joint joint x.rest) (found x.value x.rest) (λ after. read at n timed (More joint (x.value ∷ [])) after)
        (fine x.value x.rest part.fits) (λ after. read-fine n timed (More joint (x.value ∷ [])) after (one-fine x.value part.fits)))
    read-fine (suc n) timed (Part joints.Or) ts ready = read-fine n timed (Joined joints.And) ts tt
    read-fine (suc n) timed (Part joints.And) ts ready = read-fine n timed Whole ts tt
    read-fine (suc n) timed (More joint parts) ts ready =
        onward IsFine (read at n timed (Part joint) ts)
        (λ x. cases_of (behind_joint joint x.rest) (found (of_parts joint (parts ++ x.value ∷ [])) x.rest)
        (λ after. read at n timed (More joint (parts ++ x.value ∷ [])) after))
        (λ x is. let part = read-fine n timed (Part joint) ts tt x is in
        let all = more-fine parts x.value ready part.fits in
        by_cases IsFine (behind_joint joint x.rest) (found (of_parts joint (parts ++ x.value ∷ [])) x.rest)
        (λ after. read at n timed (More joint (parts ++ x.value ∷ [])) after)
        (fine (of_parts joint (parts ++ x.value ∷ [])) x.rest (kept.joined joint (parts ++ x.value ∷ []) all))
        (λ after. read-fine n timed (More joint (parts ++ x.value ∷ [])) after all))
    read-fine (suc n) timed Whole ts ready =
        by_cases IsFine (behind_sign signs.OpenRound ts) (cases_of (behind_time ts) (first_unit at timed ts) (λ x. read at n timed (Timed x.value) x.rest))
        (λ after. read at n timed Round after)
        (by_cases IsFine (behind_time ts) (first_unit at timed ts) (λ x. read at n timed (Timed x.value) x.rest) (unit timed ts)
        (λ x. read-fine n timed (Timed x.value) x.rest tt))
        (λ after. read-fine n timed Round after tt)
    read-fine (suc n) timed Round ts ready =
        onward IsFine (read at n timed (Joined joints.Or) ts) (λ x. behind_sign signs.CloseRound x.rest >>= λ rest. found x.value rest)
        (λ x is. let inner = read-fine n timed (Joined joints.Or) ts tt x is in
        onward IsFine (behind_sign signs.CloseRound x.rest) (λ rest. found x.value rest) (λ rest closes. fine x.value rest inner.fits))
    read-fine (suc n) true (Timed time) ts ready = nothing IsFine
    read-fine (suc n) false (Timed time) ts ready =
        onward IsFine (read at n true Whole ts) (λ x. found (at_times time x.value) x.rest)
        (λ x is. let inner = read-fine n true Whole ts tt x is in fine (at_times time x.value) x.rest (kept.timed time x.value inner.fits))

    pub reads-fine : (ts rest : List Token) (p : Promise) → IsRead at false (Joined joints.Or) ts (found p rest) → q p ≡ true
    reads-fine ts rest p h =
        let n = suc (steps (Joined joints.Or) ts) in
        let is = read-fine n false (Joined joints.Or) ts tt (record { value = p; rest = rest }) (h.runs n (omega arith)) in
        is.fits

    -- what is read to the end
    to-end : (p : Promise) (rest : List Token) → q p ≡ true → Gives (λ p. q p ≡ true) (to_the_end p rest)
    to-end p [] fits = given (λ p. q p ≡ true) p fits
    to-end p (t ∷ ts) fits = nothing (λ p. q p ≡ true)

    pub promise-fine : (ts : List Token) (p : Promise) → promise_of at ts ≡ Some p → q p ≡ true
    unfolding promise_of
    promise-fine ts p h =
        let n = suc (steps (Joined joints.Or) ts) in
        onward (λ p. q p ≡ true) (read at n false (Joined joints.Or) ts) (λ x. to_the_end x.value x.rest)
        (λ x is. let fine_one = read-fine n false (Joined joints.Or) ts tt x is in to-end x.value x.rest fine_one.fits) p h

-- ---- what is asked of each part

module _ (step : Promise-F Bool → Bool) where
  -- of what has parts each is asked
  pub record IsOfParts : Type 0 where
    pub all : (parts : List Bool) → step (Promise-F.All parts) ≡ list_all (λ b. b) parts
    pub any : (parts : List Bool) → step (Promise-F.Any parts) ≡ list_all (λ b. b) parts
    pub always : (parts : List Bool) → step (Promise-F.Always parts) ≡ list_all (λ b. b) parts
    pub ever : (parts : List Bool) → step (Promise-F.Ever parts) ≡ list_all (λ b. b) parts

  abbrev whole : Promise → Bool
  whole = fold-Promise Bool step

  module _ (h : IsOfParts) where
    pub whole-All : (parts : List Promise) → whole (promises.All parts) ≡ list_all whole parts
    whole-All parts =
        ap whole (sym (rolls-All parts)) ∙ fold-roll-Promise Bool step (Promise-F.All parts) ∙ h.all (map whole parts) ∙ list_all-map (λ b. b) whole parts

    pub whole-Any : (parts : List Promise) → whole (promises.Any parts) ≡ list_all whole parts
    whole-Any parts =
        ap whole (sym (rolls-Any parts)) ∙ fold-roll-Promise Bool step (Promise-F.Any parts) ∙ h.any (map whole parts) ∙ list_all-map (λ b. b) whole parts

    pub whole-Always : (parts : List Promise) → whole (promises.Always parts) ≡ list_all whole parts
    whole-Always parts =
        ap whole (sym (rolls-Always parts)) ∙ fold-roll-Promise Bool step (Promise-F.Always parts) ∙ h.always (map whole parts)
        ∙ list_all-map (λ b. b) whole parts

    pub whole-Ever : (parts : List Promise) → whole (promises.Ever parts) ≡ list_all whole parts
    whole-Ever parts =
        ap whole (sym (rolls-Ever parts)) ∙ fold-roll-Promise Bool step (Promise-F.Ever parts) ∙ h.ever (map whole parts)
        ∙ list_all-map (λ b. b) whole parts

    joined-whole : (joint : Joint) (parts : List Promise) → list_all whole parts ≡ true → whole (of_parts joint parts) ≡ true
    joined-whole joints.Or parts all = whole-Any parts ∙ all
    joined-whole joints.And parts all = whole-All parts ∙ all

    timed-whole : (time : Time) (p : Promise) → whole p ≡ true → whole (at_times time p) ≡ true
    timed-whole times.Always p is = whole-Always (p ∷ []) ∙ one-fine whole p is
    timed-whole times.Ever p is = whole-Ever (p ∷ []) ∙ one-fine whole p is

    pub kept-whole : IsKept whole
    kept-whole = record { joined = joined-whole; timed = timed-whole }
