use Rattle.std.proofs.Common.{rules, ◌≡◌, [], ◌∷◌, ◌++◌, None, ap, ◌∙◌, List}
use Rattle.std.specs.Prelude.{◌≢◌}
use Rattle.lf_grammar.specs.declared.error.Unread.TheVariants as faults
use Rattle.lf_grammar.specs.Places.{context_of}
use Rattle.lf_promises.specs.declared.promise.Promise.{Promise}
use Rattle.lf_promises.specs.declared.reading.Joint.TheVariants as joints
use Rattle.lf_promises.specs.Promises.{Joined, Part, More, Whole, Round, Timed}
use Rattle.lf_promises.specs.Readings.{IsRead}
use Rattle.lf_promises.proofs.ReadingLemmas.{reads-by, joined-wrong, joined-single, joined-more, more-wrong, more-last, more-more, part-or, part-and}
use Rattle.lf_promises.proofs.ReadingLemmas.{unit-round, unit-timed, unit-found, round-wrong, round-not_closed, round-closed}
use Rattle.lf_promises.proofs.ReadingLemmas.{timed-twice, timed-wrong, timed-then}
use Rattle.lf_promises.proofs.reading.+promise.Goals as goal

pub read_joined-returns-in_err-first-clause-read : goal.read_joined-returns-in_err-first-clause-read
read_joined-returns-in_err-first-clause-read t c =
    let at = context_of c.args.place.now in
    let e = c.in_err-first.field-0.0 in
    let wrong : e ≢ faults.Memory → IsRead at c.args.timed (Joined c.args.joint) c.args.tokens.now None =
    λ fault. joined-wrong at c.args.timed c.args.joint c.args.tokens.now (c.in_err-first.ensures.read fault) in
    search rules

pub read_joined-returns-in_ok-parts-in-Some-clause-read : goal.read_joined-returns-in_ok-parts-in-Some-clause-read
read_joined-returns-in_ok-parts-in-Some-clause-read t c =
    let at = context_of c.args.place.now in
    let all = c.in_ok-parts-in-Some.parts.items in
    let p = c.in_ok-first.first in
    let is : all ≡ p ∷ [] = c.in_ok-parts-in-Some.ensures ∙ ap (λ (xs : List Promise). xs ++ p ∷ []) c.new.ensures.items in
    reads-by at c.args.timed (Joined c.args.joint) (More c.args.joint all) c.args.tokens.now c.in-Some.after.now
    (λ o others. joined-more at c.args.timed c.args.joint c.args.tokens.now p c.in_ok-first.rest.now c.in_ok-first.ensures.read c.in-Some.after.now o
    c.in_ok-first.ensures.shorter c.in-Some.ensures.behind c.in-Some.ensures.shorter all is others)
    c.read_more.result c.read_more.ensures.read

pub read_joined-returns-in-None-clause-read : goal.read_joined-returns-in-None-clause-read
read_joined-returns-in-None-clause-read t c =
    joined-single (context_of c.args.place.now) c.args.timed c.args.joint c.args.tokens.now c.in_ok-first.first c.in_ok-first.rest.now
    c.in_ok-first.ensures.read c.in-None.ensures.behind

pub read_part-returns-in-Or-clause-read : goal.read_part-returns-in-Or-clause-read
read_part-returns-in-Or-clause-read t c =
    let at = context_of c.args.place.now in
    reads-by at c.args.timed (Part c.args.joint) (Joined joints.And) c.args.tokens.now c.args.tokens.now
    (λ o part. part-or at c.args.timed c.args.tokens.now o c.args.joint c.in-Or.is part) c.read_joined.result c.read_joined.ensures.read

pub read_part-returns-in-And-clause-read : goal.read_part-returns-in-And-clause-read
read_part-returns-in-And-clause-read t c =
    let at = context_of c.args.place.now in
    reads-by at c.args.timed (Part c.args.joint) Whole c.args.tokens.now c.args.tokens.now
    (λ o part. part-and at c.args.timed c.args.tokens.now o c.args.joint c.in-And.is part) c.read_any_unit.result c.read_any_unit.ensures.read

pub read_more-returns-in_err-part-clause-read : goal.read_more-returns-in_err-part-clause-read
read_more-returns-in_err-part-clause-read t c =
    let at = context_of c.args.place.now in
    let e = c.in_err-part.field-0.0 in
    let wrong : e ≢ faults.Memory → IsRead at c.args.timed (More c.args.joint c.args.parts.items) c.args.tokens.now None =
    λ fault. more-wrong at c.args.timed c.args.joint c.args.tokens.now c.args.parts.items (c.in_err-part.ensures.read fault) in
    search rules

pub read_more-returns-in-Some-clause-read : goal.read_more-returns-in-Some-clause-read
read_more-returns-in-Some-clause-read t c =
    let at = context_of c.args.place.now in
    let all = c.in_ok-all.all.items in
    reads-by at c.args.timed (More c.args.joint c.args.parts.items) (More c.args.joint all) c.args.tokens.now c.in-Some.after.now
    (λ o others. more-more at c.args.timed c.args.joint c.args.tokens.now c.in_ok-part.part c.in_ok-part.rest.now c.in_ok-part.ensures.read
    c.in-Some.after.now o c.in_ok-part.ensures.shorter c.in-Some.ensures.behind c.in-Some.ensures.shorter c.args.parts.items all c.in_ok-all.ensures others)
    c.read_more.result c.read_more.ensures.read

pub read_more-returns-in-None-clause-read : goal.read_more-returns-in-None-clause-read
read_more-returns-in-None-clause-read t c =
    let at = context_of c.args.place.now in
    rw c.of_parts.ensures
    (more-last at c.args.timed c.args.joint c.args.tokens.now c.in_ok-part.part c.in_ok-part.rest.now c.in_ok-part.ensures.read
    c.args.parts.items c.in_ok-all.all.items c.in-None.ensures.behind c.in_ok-all.ensures)

pub read_any_unit-returns-in-Some-clause-read : goal.read_any_unit-returns-in-Some-clause-read
read_any_unit-returns-in-Some-clause-read t c =
    let at = context_of c.args.place.now in
    reads-by at c.args.timed Whole Round c.args.tokens.now c.in-Some.after.now
    (λ o inner. unit-round at c.args.timed c.args.tokens.now o c.in-Some.after.now c.in-Some.ensures.behind c.in-Some.ensures.shorter inner)
    c.read_round.result c.read_round.ensures.read

pub read_any_unit-returns-in-Some-behind_time-clause-read : goal.read_any_unit-returns-in-Some-behind_time-clause-read
read_any_unit-returns-in-Some-behind_time-clause-read t c =
    let at = context_of c.args.place.now in
    let after = c.in-Some-behind_time.after.now in
    reads-by at c.args.timed Whole (Timed c.in-Some-behind_time.time) c.args.tokens.now after
    (λ o inner. unit-timed at c.args.timed c.args.tokens.now o c.in-Some-behind_time.time after c.in-None.ensures.behind
    c.in-Some-behind_time.ensures.time c.in-Some-behind_time.ensures.shorter inner)
    c.read_timed.result c.read_timed.ensures.read

pub read_any_unit-returns-in-None-behind_time-clause-read : goal.read_any_unit-returns-in-None-behind_time-clause-read
read_any_unit-returns-in-None-behind_time-clause-read t c =
    unit-found (context_of c.args.place.now) c.args.timed c.args.tokens.now c.in-None.ensures.behind c.in-None-behind_time.ensures.time
    c.read_unit.result c.read_unit.ensures.unit

pub read_round-returns-in_err-promise-clause-read : goal.read_round-returns-in_err-promise-clause-read
read_round-returns-in_err-promise-clause-read t c =
    let at = context_of c.args.place.now in
    let e = c.in_err-promise.field-0.0 in
    let wrong : e ≢ faults.Memory → IsRead at c.args.timed Round c.args.tokens.now None =
    λ fault. round-wrong at c.args.timed c.args.tokens.now (c.in_err-promise.ensures.read fault) in
    search rules

pub read_round-returns-in_err-past_sign-clause-read : goal.read_round-returns-in_err-past_sign-clause-read
read_round-returns-in_err-past_sign-clause-read t c =
    let at = context_of c.args.place.now in
    let e = c.in_err-past_sign.field-0.0 in
    let wrong : e ≢ faults.Memory → IsRead at c.args.timed Round c.args.tokens.now None =
    λ fault. round-not_closed at c.args.timed c.args.tokens.now c.in_ok-promise.promise c.in_ok-promise.rest.now c.in_ok-promise.ensures.read
    c.in_err-past_sign.ensures.behind.1 in
    search rules

pub read_round-returns-clause-read : goal.read_round-returns-clause-read
read_round-returns-clause-read t c =
    round-closed (context_of c.args.place.now) c.args.timed c.args.tokens.now c.in_ok-promise.promise c.in_ok-promise.rest.now
    c.in_ok-promise.ensures.read c.in_ok-past_sign.field-0.now c.in_ok-past_sign.ensures.behind

pub read_timed-returns-then-timed-clause-read : goal.read_timed-returns-then-timed-clause-read
read_timed-returns-then-timed-clause-read t c = λ fault. timed-twice (context_of c.args.place.now) c.args.time c.args.tokens.now c.args.timed c.if-timed.true

pub read_timed-returns-in_err-promise-clause-read : goal.read_timed-returns-in_err-promise-clause-read
read_timed-returns-in_err-promise-clause-read t c =
    let at = context_of c.args.place.now in
    let e = c.in_err-promise.field-0.0 in
    let wrong : e ≢ faults.Memory → IsRead at c.args.timed (Timed c.args.time) c.args.tokens.now None =
    λ fault. timed-wrong at c.args.time c.args.tokens.now c.args.timed c.if-timed.false (c.in_err-promise.ensures.read fault) in
    search rules

pub read_timed-returns-clause-read : goal.read_timed-returns-clause-read
read_timed-returns-clause-read t c =
    timed-then (context_of c.args.place.now) c.args.time c.args.tokens.now c.args.timed c.if-timed.false c.in_ok-promise.promise c.in_ok-at_times.field-0
    c.in_ok-promise.rest.now c.in_ok-at_times.ensures c.in_ok-promise.ensures.read
