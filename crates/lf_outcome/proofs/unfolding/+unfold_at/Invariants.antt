use Rattle.std.proofs.Common.{◌≡◌, ◌-◌, ◌++◌, map, take}
use Rattle.std.specs.List.{flat_map}
use Rattle.lf_outcome.specs.Unfolding.{later, steps, unfold_at}
use Rattle.lf_outcome.proofs.unfolding.+unfold_at.Given as goal

-- the parts at the steps so far
abbrev pub invariant-unfold_over-steps : goal.invariant-unfold_over-steps
invariant-unfold_over-steps g l =
    l.unfolded.items ≡ flat_map (λ t. map (λ part. unfold_at part (later l.offset t)) l.parts) (take (l.step - l.first) (steps l.first l.last))

-- the parts so far
abbrev pub invariant-push_parts-parts : goal.invariant-push_parts-parts
invariant-push_parts-parts g l = l.onto.items ≡ l.initial.onto.items ++ map (λ part. unfold_at part l.offset) (take l.part-index l.parts)
