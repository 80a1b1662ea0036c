-- What a formula says without Over: each part of an Over, at each of its steps.
use Rattle.std.specs.Prelude.{ℕ, ◌+◌, ◌-◌, Bool, true, false, List, map, max, min}
use Rattle.std.specs.List.{flat_map, list_all, range_with_len}
use Rattle.lf_outcome.specs.declared.formula.Formula.{Formula, fold-Formula}
use Rattle.lf_outcome.specs.declared.formula.Formula.TheVariants as kind
use Rattle.lf_outcome.specs.declared.formula.Formula.TheOpen.{Formula-F}

-- the step t, counted from the step k: past 2^32 - 1, and so past every run, it is that
abbrev pub later : ℕ → ℕ → ℕ
later k t = max t (min (t + k) 4294967295)

-- the steps from the first to the last: none where the last is before the first
abbrev pub steps : ℕ → ℕ → List ℕ
steps first last = range_with_len first (last + 1 - first)

-- all of the parts, or some
abbrev pub joined : {Fact : Type 0} → Bool → List (Formula Fact) → Formula Fact
joined true parts = kind.All parts
joined false parts = kind.Any parts

module _ {Fact : Type 0} where
  -- one level, with what each part says at a step in its place
  abbrev pub unfold_step : Formula-F Fact (ℕ → Formula Fact) → ℕ → Formula Fact
  unfold_step (Formula-F.All parts) k = kind.All (map (λ part. part k) parts)
  unfold_step (Formula-F.Any parts) k = kind.Any (map (λ part. part k) parts)
  unfold_step (Formula-F.Down n t) k = kind.Down n (later k t)
  unfold_step (Formula-F.Shows n t fact) k = kind.Shows n (later k t) fact
  unfold_step (Formula-F.One nodes last topic) k = kind.One nodes last topic
  unfold_step (Formula-F.Over every first last parts) k =
      joined every (flat_map (λ t. map (λ part. part (later k t)) parts) (steps first last))

  -- what the formula says where its steps are counted from the step k: those of Down and Shows are, One stays what it is, and Over is each of its parts at
  -- each of its steps, by step and then by part
  abbrev pub unfold_at : Formula Fact → ℕ → Formula Fact
  unfold_at = fold-Formula Fact (ℕ → Formula Fact) unfold_step

  -- what it says at the steps that it names
  abbrev pub unfolded : Formula Fact → Formula Fact
  unfolded f = unfold_at f 0

  -- one level, with whether each part is without Over in its place
  abbrev pub plain_step : Formula-F Fact Bool → Bool
  plain_step (Formula-F.All parts) = list_all (λ b. b) parts
  plain_step (Formula-F.Any parts) = list_all (λ b. b) parts
  plain_step (Formula-F.Down n t) = true
  plain_step (Formula-F.Shows n t fact) = true
  plain_step (Formula-F.One nodes last topic) = true
  plain_step (Formula-F.Over every first last parts) = false

  -- there is no Over in the formula
  abbrev pub is_plain : Formula Fact → Bool
  is_plain = fold-Formula Fact Bool plain_step
