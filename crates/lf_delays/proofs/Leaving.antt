-- Lists of delays without one.
use Rattle.std.proofs.Common.{◌≡◌, ◌≢◌, ℕ, zero, suc, ◌+◌, ◌<◌, add-one, true, List, [], ◌∷◌, ◌++◌, length, take, drop, sym, ap, ◌∙◌, subst, arith}
use Rattle.std.proofs.lemmas.List.{length-append, length-drop, length-take-le}
use Rattle.std.proofs.Math.Seq.{drop-append-add, take-append_seam}
use Rattle.std.specs.List.{AllByRecursion}
use Rattle.lf_delays.specs.declared.delay.Delay.{Delay}
use Rattle.lf_delays.specs.Delays.{AreApart, AreDelays, IsDelay}
use Rattle.lf_delays.specs.Tight.{AreNeeded}
use Rattle.lf_faults.specs.declared.fault.Parts.{Parts}
use Rattle.lf_latency.specs.declared.network.Timing.{Timing}
use Rattle.lf_outcome.specs.declared.scenario.Scenario.{Scenario}
use Rattle.lf_sim.specs.Settings.{world_of}
use Rattle.lf_delays.specs.Trials.{NoneSpared, reaches_where}

-- what holds of each holds of each of the others
each-left : {X : Type 0} (P : X → Type 0) (k : ℕ) (xs : List X) → AllByRecursion P xs → AllByRecursion P (take k xs ++ drop (suc k) xs)
each-left P zero [] all = tt
each-left P (suc k) [] all = tt
each-left P zero (x ∷ xs) all = all.1
each-left P (suc k) (x ∷ xs) all = (all.0, each-left P k xs all.1)

apart-left : (k : ℕ) (ds : List Delay) → AreApart ds → AreApart (take k ds ++ drop (suc k) ds)
apart-left zero [] apart = tt
apart-left (suc k) [] apart = tt
apart-left zero (d ∷ ds) apart = apart.1
apart-left (suc k) (d ∷ ds) apart = (each-left (λ e. e.slot ≢ d.slot) k ds apart.0, apart-left k ds apart.1)

pub delays-left : (timing : Timing) (ds : List Delay) (k : ℕ) → AreDelays timing ds → AreDelays timing (take k ds ++ drop (k + 1) ds)
delays-left timing ds k are =
    subst (λ j. AreDelays timing (take k ds ++ drop j ds)) (sym (add-one k))
    (record { each = each-left (IsDelay timing) k ds are.each; apart = apart-left k ds are.apart })

-- they are one fewer
pub one_fewer : (ds : List Delay) (k : ℕ) → k < length ds → length (take k ds ++ drop (k + 1) ds) + 1 ≡ length ds
one_fewer ds k inside =
    let both = length-append (take k ds) (drop (k + 1) ds) in
    let front = length-take-le k ds (omega (arith, inside)) in
    let back = length-drop (k + 1) ds in
    omega (arith, inside, both, front, back)

-- where none can be spared at any place, none can be spared
pub needed_of : (s : Scenario) (set : List Parts) (ds : List Delay) → NoneSpared s set ds 0
    → AreNeeded s.setting.network (world_of s.setting) set s.formula ds
needed_of s set ds none before behind d split =
    let long : length ds ≡ length (before ++ d ∷ behind) = ap length split in
    let parts = length-append before (d ∷ behind) in
    let front : take (length before) ds ≡ before = ap (take (length before)) split ∙ take-append_seam before (d ∷ behind) in
    let back : drop (length before + 1) ds ≡ behind = ap (drop (length before + 1)) split ∙ drop-append-add before (d ∷ behind) 1 in
    let same : take (length before) ds ++ drop (length before + 1) ds ≡ before ++ behind =
    ap (λ xs. xs ++ drop (length before + 1) ds) front ∙ ap (λ ys. before ++ ys) back in
    subst (λ xs. reaches_where s set xs ≡ true) same (none (length before) (omega arith) (omega (arith, long, parts)))
