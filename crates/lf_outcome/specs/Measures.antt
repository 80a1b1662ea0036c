-- How deep a formula is, and how many atoms it has.
use Rattle.std.specs.Prelude.{ℕ, ◌+◌, max, sum}
use Rattle.std.specs.List.{flat_map, fold}
use Rattle.lf_outcome.specs.declared.formula.Formula.{Formula, fold-Formula}
use Rattle.lf_outcome.specs.declared.formula.Formula.TheOpen.{Formula-F}
use Rattle.lf_outcome.specs.Unfolding.{steps}

module _ {Fact : Type 0} where
  -- one level, with the depth of each part in its place
  abbrev pub depth_step : Formula-F Fact ℕ → ℕ
  depth_step (Formula-F.All depths) = fold max 0 depths + 1
  depth_step (Formula-F.Any depths) = fold max 0 depths + 1
  depth_step (Formula-F.Down n t) = 1
  depth_step (Formula-F.Shows n t fact) = 1
  depth_step (Formula-F.One nodes last topic) = 1
  depth_step (Formula-F.Over every first last depths) = fold max 0 (flat_map (λ t. depths) (steps first last)) + 1

  -- an atom is 1 deep, and All and Any are one deeper than their deepest part: 1 where they have none, and Over as it is unfolded
  abbrev pub depth_of : Formula Fact → ℕ
  depth_of = fold-Formula Fact ℕ depth_step

  -- one level, with the number of atoms of each part in its place
  abbrev pub atoms_step : Formula-F Fact ℕ → ℕ
  atoms_step (Formula-F.All counts) = sum counts
  atoms_step (Formula-F.Any counts) = sum counts
  atoms_step (Formula-F.Down n t) = 1
  atoms_step (Formula-F.Shows n t fact) = 1
  atoms_step (Formula-F.One nodes last topic) = 1
  atoms_step (Formula-F.Over every first last counts) = sum (flat_map (λ t. counts) (steps first last))

  -- how many Down, Shows and One there are in it, unfolded
  abbrev pub atoms_of : Formula Fact → ℕ
  atoms_of = fold-Formula Fact ℕ atoms_step
