-- One pass over delays: each is left out in turn, from the last one up, and put back where the set reaches.
use Rattle.std.proofs.Common.{◌≡◌, ℕ, ◌+◌, ◌-◌, ◌<◌, ◌≤◌, Bool, true, false, not, List, ◌++◌, length, take, drop, sym, ap, ◌∙◌, subst, arith, inl, inr}
use Rattle.std.proofs.lemmas.Bool.{cases_eq, not-false, not-true}
use Rattle.lf_delays.specs.declared.delay.Delay.{Delay}
use Rattle.lf_delays.specs.Delays.{AreDelays}
use Rattle.lf_faults.specs.declared.fault.Parts.{Parts}
use Rattle.lf_outcome.specs.declared.scenario.Scenario.{Scenario}
use Rattle.lf_delays.specs.Trials.{AreLeft, IsLike, NoneSpared, reaches_where}
use Rattle.lf_delays.proofs.Leaving.{delays-left, one_fewer}
use Rattle.lf_delays.proofs.Trying.{delays_like, reach_like}

-- what is kept while delays are tried
pub record Kept (s now : Scenario) (set : List Parts) (ds : List Delay) (count past : ℕ) : Type 0 where
  pub like : IsLike s now
  pub left : AreLeft s set ds
  pub most : length ds ≤ count
  pub least : count ≤ length ds + past
  pub needed : count ≤ length ds → NoneSpared s set ds (count - past)

module _ (s now : Scenario) (set : List Parts) (ds : List Delay) (count past : ℕ) (kept : Kept s now set ds count past) (short : past < count)
    (slice fewer : List Delay) (whole : slice ≡ ds)
    (is : fewer ≡ take (count - 1 - past) slice ++ drop (count - 1 - past + 1) slice) where
  abbrev place : ℕ
  place = count - 1 - past

  same : fewer ≡ take place ds ++ drop (place + 1) ds
  same = is ∙ ap (λ xs. take place xs ++ drop (place + 1) xs) whole

  are : AreDelays s.setting.network fewer
  are = subst (AreDelays s.setting.network) (sym same) (delays-left s.setting.network ds place kept.left.are)

  -- the others are delays of the scenario
  pub fewer_are : (tried : List Delay) → tried ≡ fewer → AreDelays now.setting.network tried
  fewer_are tried e = delays_like s now kept.like tried (subst (AreDelays s.setting.network) (sym e) are)

  module _ (next : Scenario) (like : IsLike s next) (tried : List Delay) (e : tried ≡ fewer) (misses : Bool)
      (told : misses ≡ not (reaches_where now set tried)) where
    here : misses ≡ not (reaches_where s set fewer)
    here = told ∙ ap not (reach_like s now kept.like set tried) ∙ ap (λ xs. not (reaches_where s set xs)) e

    -- the one is left out
    pub left_out : misses ≡ true → Kept s next set fewer count (past + 1)
    left_out without =
        let inside : place < length ds = let least = kept.least in omega (arith, least, short) in
        let long : length fewer ≡ length (take place ds ++ drop (place + 1) ds) = ap length same in
        let one = one_fewer ds place inside in
        let most = kept.most in
        let least = kept.least in
        record {
          like = like;
          left = record { are = are; misses = not-true (reaches_where s set fewer) (sym here ∙ without) };
          most = omega (arith, long, one, most);
          least = omega (arith, long, one, least);
          needed = λ enough. absurd (omega (arith, long, one, most, enough));
        }

    -- or put back
    pub put_back : misses ≡ false → Kept s next set ds count (past + 1)
    put_back refused =
        let least = kept.least in
        record {
          like = like;
          left = kept.left;
          most = kept.most;
          least = omega (arith, least);
          needed = λ enough k from inside. elim (cases_eq k place) [
            | inl is_place ↦
                subst (λ j. reaches_where s set (take j ds ++ drop (j + 1) ds) ≡ true) (sym is_place)
                (ap (reaches_where s set) (sym same) ∙ not-false (reaches_where s set fewer) (sym here ∙ refused))
            | inr other ↦ kept.needed enough k (omega (arith, from, other, short)) inside
          ];
        }
