-- The truth of each part of a formula in a run.
use Rattle.std.specs.Prelude.{◌≡◌, Bool, Option, List, [], ◌∷◌}
use Rattle.std.specs.List.{flat_map}
use Rattle.lf_faults.specs.declared.fault.Parts.{Parts}
use Rattle.lf_sim.specs.Changes.{AreSameBut}
use Rattle.lf_sim.specs.Runs.{World}
use Rattle.lf_outcome.specs.declared.formula.Formula.{Formula}
use Rattle.lf_outcome.specs.declared.formula.Formula.TheOpen.{Formula-F}
use Rattle.lf_outcome.specs.declared.point.Point.{Point}
use Rattle.lf_outcome.specs.Evidence.{evidence_of, rests_on}
use Rattle.lf_outcome.specs.Truth.{is_down, is_shown, is_single, reaches, truth}
use Rattle.lf_protocols.specs.declared.fact.Fact.{Fact}
use Rattle.lf_residual.specs.declared.judged.Judged.{Judged}
use Rattle.lf_residual.specs.Parts.{parts_of}
use Rattle.lf_residual.specs.Recursion.{Made, by_parts}

module _ {State Note : Type 0} (w : World State Note Fact) where
  module _ (faults : List Parts) where
    -- the truth of a formula without Over in the run of the set
    abbrev pub said : Formula Fact → Bool
    said = truth (is_down w faults) (is_shown w faults) (is_single w faults)

    -- the points on which it rests, where it is true
    abbrev pub points_for : Formula Fact → Option (List Point)
    points_for = rests_on (is_down w faults) (is_shown w faults) (is_single w faults)

    -- the truth of each of its parts, in preorder: that of the formula comes first
    abbrev pub truths_step : Formula Fact → Formula-F Fact (Made (List Bool)) → List Bool
    truths_step f (Formula-F.All parts) = said f ∷ flat_map (λ part. part.it) parts
    truths_step f (Formula-F.Any parts) = said f ∷ flat_map (λ part. part.it) parts
    truths_step f (Formula-F.Down n t) = said f ∷ []
    truths_step f (Formula-F.Shows n t fact) = said f ∷ []
    truths_step f (Formula-F.One nodes last topic) = said f ∷ []
    truths_step f (Formula-F.Over every first last parts) = said f ∷ []

    abbrev pub truths_of : Formula Fact → List Bool
    truths_of = by_parts truths_step

  -- what is kept of the formula says the same as it in every run, and rests on the same points; these are its parts, and the truth of each in the run of the set
  pub record IsJudged (faults : List Parts) (formula : Formula Fact) (judged : Judged) : Type 0 where
    pub says : (others : List Parts) → said others judged.formula ≡ reaches w others formula
    pub rests : (others : List Parts) → points_for others judged.formula ≡ evidence_of w others formula
    pub parts : judged.parts.items ≡ parts_of judged.formula
    pub truths : judged.truths.items ≡ truths_of faults judged.formula

  -- they are so in the run of some set that differs from that of another set at no points but marked ones
  pub record IsJudgedBut (points : List Bool) (to : List Parts) (formula : Formula Fact) (judged : Judged) : Type 0 where
    pub from : List Parts
    pub before : IsJudged from formula judged
    pub same : AreSameBut w from to points
