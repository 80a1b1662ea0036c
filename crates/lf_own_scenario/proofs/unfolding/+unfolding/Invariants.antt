use Rattle.std.proofs.Common.{◌≡◌, ◌+◌, ◌≤◌, ◌++◌, take}
use Rattle.std.specs.List.{flat_map, range_with_len}
use Rattle.lf_own_scenario.specs.Topics.{count_all}
use Rattle.lf_own_scenario.specs.Spans.{all_spanned}
use Rattle.lf_own_scenario.proofs.unfolding.+unfolding.Given as goal

-- where no number is above 255
abbrev pub invariant-put_parts-parts : goal.invariant-put_parts-parts
invariant-put_parts-parts l =
    l.first + count_all l.parts ≤ 256
    → (l.formulas.items ≡ l.fn.formulas.items ++ all_spanned l.scene l.first (take l.part-index l.parts) l.step)
    × (l.next ≡ l.first + count_all (take l.part-index l.parts))

abbrev pub invariant-parts_always-steps : goal.invariant-parts_always-steps
invariant-parts_always-steps l =
    l.first + count_all l.parts ≤ 256 → l.formulas.items ≡ flat_map (all_spanned l.scene l.first l.parts) (range_with_len 1 l.before)
