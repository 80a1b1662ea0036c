use Rattle.std.proofs.Common.{◌≡◌, List, [], ◌∷◌, length, refl, ap, ◌∙◌}
use Rattle.std.specs.declared.cmp.Ordering.{Ordering}
use Rattle.std.specs.Ordering.{nat_cmp, ordering_then, is_lt}
use Rattle.std.specs.Cmp.Lexicographic.{slice_cmp}
use Rattle.lf_faults.specs.contracts.fault.FaultOrd.TheImpl.{cmp-value}
use Rattle.lf_faults.specs.declared.fault.Parts.{Parts}
use Rattle.lf_faults.specs.declared.fault.Parts.TheVariants.{Omit, Crash, Pause}
use Rattle.lf_faults.specs.Faults.{fault_cmp}
use Rattle.lf_faults.proofs.set.FaultSet.is_before.Goals as goal

-- the derived order of faults is theirs
same_cmp : (f g : Parts) → (cmp-value).it f g ≡ fault_cmp f g
same_cmp (Omit n m t) (Omit k l s) = refl
same_cmp (Omit n m t) (Crash k s) = refl
same_cmp (Omit n m t) (Pause k s) = refl
same_cmp (Crash n t) (Omit k l s) = refl
same_cmp (Crash n t) (Crash k s) = refl
same_cmp (Crash n t) (Pause k s) = refl
same_cmp (Pause n t) (Omit k l s) = refl
same_cmp (Pause n t) (Crash k s) = refl
same_cmp (Pause n t) (Pause k s) = refl

lists_same : (R S : Parts → Parts → Ordering) → ((f g : Parts) → R f g ≡ S f g) → (fs gs : List Parts) → slice_cmp R fs gs ≡ slice_cmp S fs gs
lists_same R S h [] [] = refl
lists_same R S h [] (g ∷ gs) = refl
lists_same R S h (f ∷ fs) [] = refl
lists_same R S h (f ∷ fs) (g ∷ gs) = rw (h f g, lists_same R S h fs gs) refl

pub returns : goal.returns
returns c =
    let faults : c.cmp-lists.result ≡ slice_cmp fault_cmp c.args.self.now c.args.other.now =
    c.cmp-lists.ensures ∙ (lists_same (cmp-value).it fault_cmp same_cmp c.items.result.now c.items-2.result.now
    ∙ (ap (λ xs. slice_cmp fault_cmp xs c.items-2.result.now) c.items.ensures.value ∙ ap (slice_cmp fault_cmp c.args.self.now) c.items-2.ensures.value)) in
    let sizes : c.cmp-sizes.result ≡ nat_cmp (length c.args.self.now) (length c.args.other.now) =
    c.cmp-sizes.ensures ∙ (ap (λ n. nat_cmp n c.len-2.result) c.len.ensures.value ∙ ap (nat_cmp (length c.args.self.now)) c.len-2.ensures.value) in
    c.is_lt.ensures
    ∙ ap is_lt (c.then.ensures
    ∙ (ap (λ o. ordering_then o c.cmp-lists.result) sizes ∙ ap (ordering_then (nat_cmp (length c.args.self.now) (length c.args.other.now))) faults))
