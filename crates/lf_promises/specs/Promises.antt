-- What tokens are as a promise: the grammar, read from the left with one token of foresight.
use Rattle.std.specs.Prelude.{◌+◌, ◌*◌, ℕ, zero, suc, Bool, true, false, List, [], ◌∷◌, ◌++◌, length, codes, Option, Some, None}
use Rattle.lf_grammar.specs.declared.sign.Sign.TheVariants as signs
use Rattle.lf_grammar.specs.declared.token.Token.{Token}
use Rattle.lf_grammar.specs.Places.{Context}
use Rattle.lf_grammar.specs.Typing.{◌>>=◌}
use Rattle.lf_grammar.specs.Fronts.{behind_word, behind_sign}
use Rattle.lf_grammar.specs.Expressions.{cases_of}
use Rattle.lf_promises.specs.declared.fronts.Time.{Time}
use Rattle.lf_promises.specs.declared.fronts.Time.TheVariants as times
use Rattle.lf_promises.specs.declared.reading.Joint.{Joint}
use Rattle.lf_promises.specs.declared.reading.Joint.TheVariants as joints
use Rattle.lf_promises.specs.declared.promise.Promise.{Promise}
use Rattle.lf_promises.specs.declared.promise.Promise.TheVariants as kinds
use Rattle.lf_promises.specs.Fronts.{Found, found, behind_time}
use Rattle.lf_promises.specs.Units.{first_unit}

-- the word between parts
unfoldable pub behind_joint : Joint → List Token → Option (List Token)
behind_joint joints.Or ts = behind_word (codes "or") ts
behind_joint joints.And ts = behind_word (codes "and") ts

-- what several parts are
abbrev pub of_parts : Joint → List Promise → Promise
of_parts joints.Or parts = kinds.Any parts
of_parts joints.And parts = kinds.All parts

-- a promise at all steps, or at one of them
abbrev pub at_times : Time → Promise → Promise
at_times times.Always promise = kinds.Always (promise ∷ [])
at_times times.Ever promise = kinds.Ever (promise ∷ [])

-- what is to be read: parts with a joint between each two, or a single one; a part; the parts behind a joint, with those before it; a unit;
-- what stands behind an open bracket; what stands behind the word for all steps
pub data Next : Type 0 where
  Joined : Joint → Next
  Part : Joint → Next
  More : Joint → List Promise → Next
  Whole : Next
  Round : Next
  Timed : Time → Next

module _ (at : Context) where
  -- what comes first, in so many steps of reading: each step goes one part down, or one token on. Within a unit that speaks of all steps there is no other
  unfoldable pub read : ℕ → Bool → Next → List Token → Option (Found Promise)
  read zero timed next ts = None
  read (suc n) timed (Joined joint) ts =
      read n timed (Part joint) ts >>= λ x. cases_of (behind_joint joint x.rest)
      (found x.value x.rest) (λ after. read n timed (More joint (x.value ∷ [])) after)
  read (suc n) timed (Part joints.Or) ts = read n timed (Joined joints.And) ts
  read (suc n) timed (Part joints.And) ts = read n timed Whole ts
  read (suc n) timed (More joint parts) ts =
      read n timed (Part joint) ts >>= λ x. cases_of (behind_joint joint x.rest)
      (found (of_parts joint (parts ++ x.value ∷ [])) x.rest) (λ after. read n timed (More joint (parts ++ x.value ∷ [])) after)
  read (suc n) timed Whole ts =
      cases_of (behind_sign signs.OpenRound ts)
      (cases_of (behind_time ts) (first_unit at timed ts) (λ x. read n timed (Timed x.value) x.rest)) (λ after. read n timed Round after)
  read (suc n) timed Round ts = read n timed (Joined joints.Or) ts >>= λ x. behind_sign signs.CloseRound x.rest >>= λ rest. found x.value rest
  read (suc n) true (Timed time) ts = None
  read (suc n) false (Timed time) ts = read n true Whole ts >>= λ x. found (at_times time x.value) x.rest

-- how far down a part stands: what is read of it is read by one further down, or behind a token more
abbrev pub depth_of : Joint → ℕ
depth_of joints.Or = 4
depth_of joints.And = 2

abbrev pub depth : Next → ℕ
depth (Joined joint) = depth_of joint + 1
depth (Part joint) = depth_of joint
depth (More joint parts) = depth_of joint + 2
depth Whole = 1
depth Round = 6
depth (Timed time) = 6

-- steps that are enough
abbrev pub steps : Next → List Token → ℕ
steps next ts = 8 * length ts + depth next

-- what is read, where nothing is left
abbrev pub to_the_end : Promise → List Token → Option Promise
to_the_end promise [] = Some promise
to_the_end promise (t ∷ ts) = None

-- the promise that tokens are, to the last of them
unfoldable pub promise_of : Context → List Token → Option Promise
promise_of at ts = read at (suc (steps (Joined joints.Or) ts)) false (Joined joints.Or) ts >>= λ x. to_the_end x.value x.rest
