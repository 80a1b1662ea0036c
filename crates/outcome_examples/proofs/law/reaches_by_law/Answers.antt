use Rattle.std.proofs.Common.{◌≡◌, subst}
use Rattle.std.specs.Prelude.{Option, None, Some, IfSome}
use Rattle.std.proofs.lemmas.Bool.{iff_false}
use Rattle.lf_sim.specs.Settings.{set_of, world_of}
use Rattle.lf_outcome.specs.Evidence.{Covers}
use Rattle.outcome_examples.proofs.Outside.{outside_of}
use Rattle.outcome_examples.proofs.law.reaches_by_law.Goals as goal

-- what is known of points where there are some
some_of : {X : Type 0} (found : Option X) (x : X) (P : X → Type 0) → found ≡ Some x → IfSome found P → P x
some_of None x P is h = absurd (let never : None ≡ Some x = is in cc)
some_of (Some y) x P is h = let same : y ≡ x = cc in subst P same h

pub agree-requires-clause-within : goal.agree-requires-clause-within
agree-requires-clause-within c =
    some_of _ _ _ c.in-Some.is c.in_ok-points.ensures.suffices c.sharp-reach.result
    (subst (Covers c.sharp-reach.result) c.as_slice.ensures.value c.sharp-reach.ensures.covers)

pub agree-requires-clause-outside : goal.agree-requires-clause-outside
agree-requires-clause-outside c =
    outside_of (world_of c.args.setting.now) c.args.setting.now.spec (set_of c.in_ok-found.found) c.args.set.now c.with-wider.result
    c.sharp-reach.result c.in_ok-required.required.items c.as_slice-2.result.now c.args.more c.in_ok-found.ensures.set c.with-wider.ensures
    c.as_slice-2.ensures.value c.in_ok-required.ensures (c.can_add.ensures.0 c.if-not-can_add.false)
    (iff_false c.is_among.ensures c.if-is_among.false)
