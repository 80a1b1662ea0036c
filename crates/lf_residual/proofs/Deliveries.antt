-- retry and redundant: no step loses the data.
use Rattle.std.proofs.Common.{◌≡◌, ℕ, ◌+◌, true, List, refl, ap, ◌∙◌}
use Rattle.std.specs.Prelude.{nat_lt}
use Rattle.std.proofs.lemmas.Bool.{cond_both}
use Rattle.std.proofs.lemmas.List.Folds.{fold_stays}
use Rattle.lf_sim.specs.declared.letter.Letter.{Letter}
use Rattle.lf_sim.specs.declared.out.Stepped.{Stepped}
use Rattle.lf_sim.specs.Outs.{nothing, to_others}
use Rattle.lf_protocols.specs.declared.fact.Fact.{Fact}
use Rattle.lf_protocols.specs.declared.fact.Fact.TheVariants as facts
use Rattle.lf_protocols.specs.declared.note.Note.{Note}
use Rattle.lf_protocols.specs.declared.note.Note.TheVariants.{Payload}
use Rattle.lf_protocols.specs.declared.state.Holding.{Holding}
use Rattle.lf_protocols.specs.declared.state.Holding.TheVariants as holdings
use Rattle.lf_protocols.specs.declared.state.Relay.{Relay}
use Rattle.lf_protocols.specs.declared.state.Relay.TheVariants as relays
use Rattle.lf_protocols.specs.RetryTable.{retry_hear, retry_hear_all, retry_step, retry_shows}
use Rattle.lf_protocols.specs.RedundantTable.{redundant_hear, redundant_hear_all, redundant_send, redundant_step, redundant_shows}
use Rattle.lf_residual.specs.Lasting.{holding_lasts, relay_lasts}

-- retry
retry_hear-Has : (note : Note) → retry_hear holdings.Has note ≡ holdings.Has
retry_hear-Has Payload = refl
retry_hear-Has note = refl

retry_hear_all-Has : (xs : List (Letter Note)) → retry_hear_all holdings.Has xs ≡ holdings.Has
retry_hear_all-Has xs = fold_stays (λ before (letter : Letter Note). retry_hear before letter.note) holdings.Has (λ letter. retry_hear-Has letter.note) xs

pub retry-keeps : (nodes tries node t : ℕ) (own : Holding) (xs : List (Letter Note)) (fact : Fact) → holding_lasts own fact ≡ true
    → holding_lasts (retry_step nodes tries node t own xs).state fact ≡ true
retry-keeps nodes tries node t holdings.Has xs fact h = ap (λ s. holding_lasts s fact) (retry_hear_all-Has xs) ∙ h
retry-keeps nodes tries node t holdings.Lacks xs fact h = absurd cc

pub retry-shows : (own : Holding) (fact : Fact) → holding_lasts own fact ≡ true → retry_shows own fact ≡ true
retry-shows holdings.Has facts.Has h = refl
retry-shows own fact h = absurd cc

-- redundant
redundant_hear-Has : (sent : ℕ) (note : Note) → redundant_hear (relays.Has sent) note ≡ relays.Has sent
redundant_hear-Has sent Payload = refl
redundant_hear-Has sent note = refl

redundant_hear_all-Has : (sent : ℕ) (xs : List (Letter Note)) → redundant_hear_all (relays.Has sent) xs ≡ relays.Has sent
redundant_hear_all-Has sent xs =
    fold_stays (λ before (letter : Letter Note). redundant_hear before letter.note) (relays.Has sent) (λ letter. redundant_hear-Has sent letter.note) xs

-- at whatever number of steps the data has been sent, the same lasts
relay-any : (sent other : ℕ) (fact : Fact) → relay_lasts (relays.Has sent) fact ≡ true → relay_lasts (relays.Has other) fact ≡ true
relay-any sent other facts.Has h = refl
relay-any sent other fact h = h

send-keeps : (nodes tries node sent : ℕ) (fact : Fact) → relay_lasts (relays.Has sent) fact ≡ true
    → relay_lasts (redundant_send nodes tries node (relays.Has sent)).state fact ≡ true
send-keeps nodes tries node sent fact h =
    let again : Stepped Relay Note = record { state = relays.Has (sent + 1); out = to_others nodes node Payload } in
    let over : Stepped Relay Note = record { state = relays.Has sent; out = nothing } in
    cond_both (nat_lt sent tries) again over (λ turn. relay_lasts turn.state fact ≡ true) (λ e. relay-any sent (sent + 1) fact h) (λ e. h)

pub redundant-keeps : (nodes tries node : ℕ) (own : Relay) (xs : List (Letter Note)) (fact : Fact) → relay_lasts own fact ≡ true
    → relay_lasts (redundant_step nodes tries node own xs).state fact ≡ true
redundant-keeps nodes tries node (relays.Has sent) xs fact h =
    ap (λ s. relay_lasts (redundant_send nodes tries node s).state fact) (redundant_hear_all-Has sent xs) ∙ send-keeps nodes tries node sent fact h
redundant-keeps nodes tries node relays.Lacks xs fact h = absurd cc

pub redundant-shows : (own : Relay) (fact : Fact) → relay_lasts own fact ≡ true → redundant_shows own fact ≡ true
redundant-shows (relays.Has sent) facts.Has h = refl
redundant-shows own fact h = absurd cc
