-- What an inbox does to a node of retry and of redundant.
use Rattle.std.proofs.Common.{◌≡◌, ℕ, ◌+◌, ◌<◌, ◌≤◌, Bool, true, false, cond, List, [], ◌∷◌, refl, ◌∙◌, ap, arith, inl, inr, nat_eq, eq-eqb}
use Rattle.std.specs.Prelude.{◌⊎◌, ◌≢◌, ◌↔◌, ◌&&◌, nat_le, Some}
use Rattle.std.proofs.lemmas.List.Folds.{fold_stays}
use Rattle.std.proofs.lemmas.Bool.{and_parts, cases_lt, ne_eqb, lt-ltb, le-ltb, le-leb, leb-true, eqb-true}
use Rattle.lf_sim.specs.declared.letter.Letter.{Letter}
use Rattle.lf_sim.specs.Outs.{note_to, nothing, to_others, note_to_other}
use Rattle.lf_sim.specs.OutsLemmas.{note_to-nothing, note_to-notes_by, to_others-silent}
use Rattle.lf_protocols.specs.declared.note.Note.{Note}
use Rattle.lf_protocols.specs.declared.note.Note.TheVariants.{Payload}
use Rattle.lf_protocols.specs.declared.state.Holding.{Holding}
use Rattle.lf_protocols.specs.declared.state.Holding.TheVariants as holdings
use Rattle.lf_protocols.specs.declared.state.Relay.{Relay}
use Rattle.lf_protocols.specs.declared.state.Relay.TheVariants as relays
use Rattle.lf_protocols.specs.RetryTable.{retry_hear, retry_hear_all, retry_send}
use Rattle.lf_protocols.specs.RedundantTable.{redundant_hear, redundant_hear_all, redundant_send, redundant_step}
use Rattle.lf_protocols.specs.Deliveries.{BringsData, IsCounted}
use Rattle.lf_protocols.proofs.LettersLemmas.{brings-here, brings-there, brings-none, brings-cons}

-- retry: one that has the data keeps it
retry_hear-Has : (note : Note) → retry_hear holdings.Has note ≡ holdings.Has
retry_hear-Has Payload = refl
retry_hear-Has note = refl

pub retry_hear_all-Has : (xs : List (Letter Note)) → retry_hear_all holdings.Has xs ≡ holdings.Has
retry_hear_all-Has xs = fold_stays (λ before (letter : Letter Note). retry_hear before letter.note) holdings.Has (λ letter. retry_hear-Has letter.note) xs

retry_hear-Payload : (before : Holding) (note : Note) → note ≡ Payload → retry_hear before note ≡ holdings.Has
retry_hear-Payload before note e = ap (retry_hear before) e

retry_hear-from : (before : Holding) (note : Note) → retry_hear before note ≡ holdings.Has → (before ≡ holdings.Has) ⊎ (note ≡ Payload)
retry_hear-from before Payload e = inr refl
retry_hear-from before note e = inl e

retry_hear_all-from : (before : Holding) (xs : List (Letter Note)) → retry_hear_all before xs ≡ holdings.Has → (before ≡ holdings.Has) ⊎ BringsData xs
retry_hear_all-from before [] e = inl e
retry_hear_all-from before (x ∷ xs) e = elim (retry_hear_all-from (retry_hear before x.note) xs e) [
  | inl first ↦ elim (retry_hear-from before x.note first) [
    | inl had ↦ inl had
    | inr is ↦ inr (brings-here Payload x xs is)
  ]
  | inr later ↦ inr (brings-there Payload x xs later)
]

retry_hear_all-brings : (before : Holding) (xs : List (Letter Note)) → BringsData xs → retry_hear_all before xs ≡ holdings.Has
retry_hear_all-brings before [] b = absurd (brings-none Payload b)
retry_hear_all-brings before (x ∷ xs) b = elim (brings-cons Payload x xs b) [
  | inl first ↦ ap (λ state. retry_hear_all state xs) (retry_hear-Payload before x.note first) ∙ retry_hear_all-Has xs
  | inr later ↦ retry_hear_all-brings (retry_hear before x.note) xs later
]

retry_hear_all-had : (before : Holding) (xs : List (Letter Note)) → before ≡ holdings.Has → retry_hear_all before xs ≡ holdings.Has
retry_hear_all-had before xs e = ap (λ state. retry_hear_all state xs) e ∙ retry_hear_all-Has xs

pub retry_hear_all-has : (before : Holding) (xs : List (Letter Note)) → (retry_hear_all before xs ≡ holdings.Has) ↔ ((before ≡ holdings.Has) ⊎ BringsData xs)
retry_hear_all-has before xs = (
  retry_hear_all-from before xs,
  λ h. elim h [ inl had ↦ retry_hear_all-had before xs had | inr b ↦ retry_hear_all-brings before xs b ],
)

-- redundant: letters change nothing at a node that has the data, and the first that brings it to another counts
redundant_hear-Has : (sent : ℕ) (note : Note) → redundant_hear (relays.Has sent) note ≡ relays.Has sent
redundant_hear-Has sent note = refl

pub redundant_hear_all-Has : (sent : ℕ) (xs : List (Letter Note)) → redundant_hear_all (relays.Has sent) xs ≡ relays.Has sent
redundant_hear_all-Has sent xs =
    fold_stays (λ before (letter : Letter Note). redundant_hear before letter.note) (relays.Has sent) (λ letter. redundant_hear-Has sent letter.note) xs

redundant_hear-Payload : (note : Note) → note ≡ Payload → redundant_hear relays.Lacks note ≡ relays.Has 0
redundant_hear-Payload note e = ap (redundant_hear relays.Lacks) e

-- what a letter does at a node that lacks the data
redundant_hear-cases : (note : Note) → (note ≡ Payload) ⊎ (redundant_hear relays.Lacks note ≡ relays.Lacks)
redundant_hear-cases Payload = inl refl
redundant_hear-cases note = inr refl

pub redundant_hear_all-brings : (xs : List (Letter Note)) → BringsData xs → redundant_hear_all relays.Lacks xs ≡ relays.Has 0
redundant_hear_all-brings [] b = absurd (brings-none Payload b)
redundant_hear_all-brings (x ∷ xs) b = elim (redundant_hear-cases x.note) [
  | inl is ↦ ap (λ state. redundant_hear_all state xs) (redundant_hear-Payload x.note is) ∙ redundant_hear_all-Has 0 xs
  | inr lacks ↦ elim (brings-cons Payload x xs b) [
    | inl is ↦ ap (λ state. redundant_hear_all state xs) (redundant_hear-Payload x.note is) ∙ redundant_hear_all-Has 0 xs
    | inr later ↦ ap (λ state. redundant_hear_all state xs) lacks ∙ redundant_hear_all-brings xs later
  ]
]

pub redundant_hear_all-waits : (xs : List (Letter Note)) → (BringsData xs → ⊥) → redundant_hear_all relays.Lacks xs ≡ relays.Lacks
redundant_hear_all-waits [] never = refl
redundant_hear_all-waits (x ∷ xs) never = elim (redundant_hear-cases x.note) [
  | inl is ↦ absurd (never (brings-here Payload x xs is))
  | inr lacks ↦ ap (λ state. redundant_hear_all state xs) lacks ∙ redundant_hear_all-waits xs (λ later. never (brings-there Payload x xs later))
]

-- retry: who sends
chosen-parts : (nodes node to : ℕ) (sends : Bool) → note_to (cond sends (to_others nodes node Payload) nothing) to ≡ Some Payload →
    (sends ≡ true) × (note_to (to_others nodes node Payload) to ≡ Some Payload)
chosen-parts nodes node to true e = (refl, e)
chosen-parts nodes node to false e = let none = note_to-nothing {Note = Note} to in absurd (cc)

to_others-within : (nodes node to : ℕ) → note_to (to_others nodes node Payload) to ≡ Some Payload → to < nodes
to_others-within nodes node to e = elim (cases_lt to nodes) [
  | inl within ↦ within
  | inr far ↦ let none = to_others-silent nodes node Payload to (inr far) in absurd (cc)
]

to_others-other : (nodes node to : ℕ) → note_to (to_others nodes node Payload) to ≡ Some Payload → to ≢ node
to_others-other nodes node to e same = let none = to_others-silent nodes node Payload to (inl same) in absurd (cc)

to_others-there : (nodes node to : ℕ) → nodes ≤ 8 → to < nodes → to ≢ node → note_to (to_others nodes node Payload) to ≡ Some Payload
to_others-there nodes node to few within other =
    note_to-notes_by (note_to_other nodes node Payload) to (omega arith) ∙ rw (lt-ltb to nodes within, ne_eqb to node other) refl

retry_send-from : (nodes tries node t to : ℕ) → note_to (retry_send nodes tries node t) to ≡ Some Payload →
    (node ≡ 0) × (t ≤ tries) × (to < nodes) × (to ≢ node)
retry_send-from nodes tries node t to e =
    let parts = chosen-parts nodes node to (nat_eq node 0 && nat_le t tries) e in
    let tests = and_parts (nat_eq node 0) (nat_le t tries) parts.0 in
    (eqb-true node 0 tests.0, leb-true t tries tests.1, to_others-within nodes node to parts.1, to_others-other nodes node to parts.1)

retry_send-there : (nodes tries node t to : ℕ) → nodes ≤ 8 → (node ≡ 0) × (t ≤ tries) × (to < nodes) × (to ≢ node) →
    note_to (retry_send nodes tries node t) to ≡ Some Payload
retry_send-there nodes tries node t to few (first, early, within, other) =
    rw (eq-eqb node 0 first, le-leb t tries early) (to_others-there nodes node to few within other)

pub retry_send-sends : (nodes tries node t to : ℕ) → nodes ≤ 8 →
    (note_to (retry_send nodes tries node t) to ≡ Some Payload) ↔ ((node ≡ 0) × (t ≤ tries) × (to < nodes) × (to ≢ node))
retry_send-sends nodes tries node t to few = (retry_send-from nodes tries node t to, retry_send-there nodes tries node t to few)

-- redundant: what is done after the inbox
pub redundant_send-more : (nodes tries node sent : ℕ) → sent < tries →
    redundant_send nodes tries node (relays.Has sent) ≡ record { state = relays.Has (sent + 1); out = to_others nodes node Payload }
redundant_send-more nodes tries node sent more = rw (lt-ltb sent tries more) refl

pub redundant_send-stops : (nodes tries node sent : ℕ) → tries ≤ sent →
    redundant_send nodes tries node (relays.Has sent) ≡ record { state = relays.Has sent; out = nothing }
redundant_send-stops nodes tries node sent enough = rw (le-ltb sent tries enough) refl

IsCounted-sends : (nodes tries node : ℕ) (own : Relay) → IsCounted tries own → IsCounted tries (redundant_send nodes tries node own).state
IsCounted-sends nodes tries node relays.Lacks h = tt
IsCounted-sends nodes tries node (relays.Has sent) h = elim (cases_lt sent tries) [
  | inl more ↦ rw (lt-ltb sent tries more) (omega arith)
  | inr enough ↦ rw (le-ltb sent tries enough) h
]

IsCounted-note : (tries : ℕ) (before : Relay) (note : Note) → IsCounted tries before → IsCounted tries (redundant_hear before note)
IsCounted-note tries relays.Lacks Payload h = omega arith
IsCounted-note tries own note h = h

IsCounted-after : (tries : ℕ) (before : Relay) (xs : List (Letter Note)) → IsCounted tries before → IsCounted tries (redundant_hear_all before xs)
IsCounted-after tries before [] h = h
IsCounted-after tries before (x ∷ xs) h = IsCounted-after tries (redundant_hear before x.note) xs (IsCounted-note tries before x.note h)

pub IsCounted-step : (nodes tries node : ℕ) (before : Relay) (xs : List (Letter Note)) → IsCounted tries before →
    IsCounted tries (redundant_step nodes tries node before xs).state
IsCounted-step nodes tries node before xs h = IsCounted-sends nodes tries node (redundant_hear_all before xs) (IsCounted-after tries before xs h)
