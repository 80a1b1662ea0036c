-- What is read of tokens, by what is read of their parts.
use Rattle.std.proofs.Common.{◌≡◌, ℕ, zero, suc, ◌<◌, ◌≤◌, Bool, true, false, List, [], ◌∷◌, ◌++◌, length}
use Rattle.std.proofs.Common.{Option, Some, None, Ok, Err, Result, refl, sym, subst, arith}
use Rattle.std.specs.Borrow.{Bor}
use Rattle.lf_grammar.specs.declared.token.Token.{Token}
use Rattle.lf_grammar.specs.declared.sign.Sign.TheVariants as signs
use Rattle.lf_grammar.specs.declared.error.Unread.{Unread}
use Rattle.lf_grammar.specs.Places.{Context}
use Rattle.lf_grammar.specs.Fronts.{behind_sign}
use Rattle.lf_promises.specs.declared.fronts.Time.{Time}
use Rattle.lf_promises.specs.declared.reading.Joint.{Joint}
use Rattle.lf_promises.specs.declared.reading.Joint.TheVariants as joints
use Rattle.lf_promises.specs.declared.promise.Promise.{Promise}
use Rattle.lf_promises.specs.Fronts.{Found, found, behind_time}
use Rattle.lf_promises.specs.Units.{first_unit}
use Rattle.lf_promises.specs.Promises.{Next, Joined, Part, More, Whole, Round, Timed, read, steps, behind_joint, of_parts, at_times}
use Rattle.lf_promises.specs.Readings.{Finds, IsRead, Reads}

module _ (at : Context) (timed : Bool) where
  by_steps : (next : Next) (ts : List Token) (o : Option (Found Promise))
      → ((n : ℕ) → steps next ts < suc n → read at (suc n) timed next ts ≡ o) → (n : ℕ) → steps next ts < n → read at n timed next ts ≡ o
  by_steps next ts o one_more zero enough = absurd (omega arith)
  by_steps next ts o one_more (suc n) enough = one_more n enough

  from_steps : (next : Next) (ts : List Token) (o : Option (Found Promise))
      → ((n : ℕ) → steps next ts < suc n → read at (suc n) timed next ts ≡ o) → IsRead at timed next ts o
  from_steps next ts o one_more = record { runs = by_steps next ts o one_more }

  -- a call that gives what another gives
  pub reads-by : (own other : Next) (ts after : List Token) → ((o : Option (Found Promise)) → IsRead at timed other after o → IsRead at timed own ts o)
      → (result : Result (Promise × Bor (List Token)) Unread) → Reads at timed other after result → Reads at timed own ts result
  reads-by own other ts after same (Ok r) h = same _ h
  reads-by own other ts after same (Err e) h = λ fault. same None (h fault)

  module _ (joint : Joint) (ts : List Token) where
    pub joined-wrong : IsRead at timed (Part joint) ts None → IsRead at timed (Joined joint) ts None
    unfolding read
    joined-wrong first = from_steps (Joined joint) ts None (λ n enough. rw (first.runs n (omega arith)) refl)

    pub more-wrong : (parts : List Promise) → IsRead at timed (Part joint) ts None → IsRead at timed (More joint parts) ts None
    unfolding read
    more-wrong parts first = from_steps (More joint parts) ts None (λ n enough. rw (first.runs n (omega arith)) refl)

    module _ (p : Promise) (rest : List Token) (first : IsRead at timed (Part joint) ts (found p rest)) where
      pub joined-single : behind_joint joint rest ≡ None → IsRead at timed (Joined joint) ts (found p rest)
      unfolding read
      joined-single last = from_steps (Joined joint) ts (found p rest) (λ n enough. rw (first.runs n (omega arith), last) refl)

      pub more-last : (parts all : List Promise) → behind_joint joint rest ≡ None → all ≡ parts ++ p ∷ []
          → IsRead at timed (More joint parts) ts (found (of_parts joint all) rest)
      unfolding read
      more-last parts all last is =
          from_steps (More joint parts) ts (found (of_parts joint all) rest) (λ n enough. rw (first.runs n (omega arith), last, is) refl)

      module _ (after : List Token) (o : Option (Found Promise)) (shorter : length rest ≤ length ts) (goes_on : behind_joint joint rest ≡ Some after)
          (shorter_still : length after < length rest) where
        one-more : IsRead at timed (More joint (p ∷ [])) after o → IsRead at timed (Joined joint) ts o
        unfolding read
        one-more others = from_steps (Joined joint) ts o (λ n enough. rw (first.runs n (omega arith), goes_on) (others.runs n (omega arith)))

        pub joined-more : (all : List Promise) → all ≡ p ∷ [] → IsRead at timed (More joint all) after o → IsRead at timed (Joined joint) ts o
        joined-more all is others =
            let P : List Promise → Type 0 = λ xs. IsRead at timed (More joint xs) after o in
            one-more (subst P is others)

        next-more : (parts : List Promise) → IsRead at timed (More joint (parts ++ p ∷ [])) after o → IsRead at timed (More joint parts) ts o
        unfolding read
        next-more parts others =
            from_steps (More joint parts) ts o (λ n enough. rw (first.runs n (omega arith), goes_on) (others.runs n (omega arith)))

        pub more-more : (parts all : List Promise) → all ≡ parts ++ p ∷ [] → IsRead at timed (More joint all) after o → IsRead at timed (More joint parts) ts o
        more-more parts all is others =
            let P : List Promise → Type 0 = λ xs. IsRead at timed (More joint xs) after o in
            next-more parts (subst P is others)

  module _ (ts : List Token) (o : Option (Found Promise)) where
    or-part : IsRead at timed (Joined joints.And) ts o → IsRead at timed (Part joints.Or) ts o
    unfolding read
    or-part part = from_steps (Part joints.Or) ts o (λ n enough. part.runs n (omega arith))

    and-part : IsRead at timed Whole ts o → IsRead at timed (Part joints.And) ts o
    unfolding read
    and-part part = from_steps (Part joints.And) ts o (λ n enough. part.runs n (omega arith))

    module _ (joint : Joint) where
      pub part-or : joint ≡ joints.Or → IsRead at timed (Joined joints.And) ts o → IsRead at timed (Part joint) ts o
      part-or is part =
          let P : Joint → Type 0 = λ j. IsRead at timed (Part j) ts o in
          subst P (sym is) (or-part part)

      pub part-and : joint ≡ joints.And → IsRead at timed Whole ts o → IsRead at timed (Part joint) ts o
      part-and is part =
          let P : Joint → Type 0 = λ j. IsRead at timed (Part j) ts o in
          subst P (sym is) (and-part part)

    pub unit-round : (after : List Token) → behind_sign signs.OpenRound ts ≡ Some after → length after < length ts
        → IsRead at timed Round after o → IsRead at timed Whole ts o
    unfolding read
    unit-round after opens shorter inner = from_steps Whole ts o (λ n enough. rw opens (inner.runs n (omega arith)))

    pub unit-timed : (time : Time) (after : List Token) → behind_sign signs.OpenRound ts ≡ None → behind_time ts ≡ found time after
        → length after < length ts → IsRead at timed (Timed time) after o → IsRead at timed Whole ts o
    unfolding read
    unit-timed time after no_bracket begins shorter inner =
        from_steps Whole ts o (λ n enough. rw (no_bracket, begins) (inner.runs n (omega arith)))

    pub unit-plain : behind_sign signs.OpenRound ts ≡ None → behind_time ts ≡ None → first_unit at timed ts ≡ o → IsRead at timed Whole ts o
    unfolding read
    unit-plain no_bracket no_time is = from_steps Whole ts o (λ n enough. rw (no_bracket, no_time) is)

  pub unit-found : (ts : List Token) → behind_sign signs.OpenRound ts ≡ None → behind_time ts ≡ None
      → (result : Result (Promise × Bor (List Token)) Unread) → Finds (first_unit at timed ts) result → Reads at timed Whole ts result
  unit-found ts no_bracket no_time (Ok r) h = unit-plain ts _ no_bracket no_time h
  unit-found ts no_bracket no_time (Err e) h = λ fault. unit-plain ts None no_bracket no_time (h fault)

  module _ (ts : List Token) where
    pub round-wrong : IsRead at timed (Joined joints.Or) ts None → IsRead at timed Round ts None
    unfolding read
    round-wrong inner = from_steps Round ts None (λ n enough. rw (inner.runs n (omega arith)) refl)

    module _ (p : Promise) (rest : List Token) (inner : IsRead at timed (Joined joints.Or) ts (found p rest)) where
      pub round-not_closed : behind_sign signs.CloseRound rest ≡ None → IsRead at timed Round ts None
      unfolding read
      round-not_closed ends = from_steps Round ts None (λ n enough. rw (inner.runs n (omega arith), ends) refl)

      pub round-closed : (after : List Token) → behind_sign signs.CloseRound rest ≡ Some after → IsRead at timed Round ts (found p after)
      unfolding read
      round-closed after ends = from_steps Round ts (found p after) (λ n enough. rw (inner.runs n (omega arith), ends) refl)

module _ (at : Context) (time : Time) (ts : List Token) where
  twice : IsRead at true (Timed time) ts None
  unfolding read
  twice = from_steps at true (Timed time) ts None (λ n enough. refl)

  once-wrong : IsRead at true Whole ts None → IsRead at false (Timed time) ts None
  unfolding read
  once-wrong inner = from_steps at false (Timed time) ts None (λ n enough. rw (inner.runs n (omega arith)) refl)

  once : (p : Promise) (rest : List Token) → IsRead at true Whole ts (found p rest) → IsRead at false (Timed time) ts (found (at_times time p) rest)
  unfolding read
  once p rest inner = from_steps at false (Timed time) ts (found (at_times time p) rest) (λ n enough. rw (inner.runs n (omega arith)) refl)

  module _ (timed : Bool) where
    pub timed-twice : timed ≡ true → IsRead at timed (Timed time) ts None
    timed-twice is =
        let P : Bool → Type 0 = λ b. IsRead at b (Timed time) ts None in
        subst P (sym is) twice

    pub timed-wrong : timed ≡ false → IsRead at true Whole ts None → IsRead at timed (Timed time) ts None
    timed-wrong is inner =
        let P : Bool → Type 0 = λ b. IsRead at b (Timed time) ts None in
        subst P (sym is) (once-wrong inner)

    pub timed-then : timed ≡ false → (p said : Promise) (rest : List Token) → said ≡ at_times time p
        → IsRead at true Whole ts (found p rest) → IsRead at timed (Timed time) ts (found said rest)
    timed-then is p said rest says inner =
        let P : Bool → Type 0 = λ b. IsRead at b (Timed time) ts (found (at_times time p) rest) in
        let Q : Promise → Type 0 = λ q. IsRead at timed (Timed time) ts (found q rest) in
        subst Q (sym says) (subst P (sym is) (once p rest inner))
