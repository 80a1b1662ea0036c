-- Equal faults.
use Rattle.std.proofs.Common.{◌≡◌, true, Bool, List, sym, ◌∙◌, subst, arith}
use Rattle.std.specs.Prelude.{◌↔◌, IsTrue}
use Rattle.std.proofs.lemmas.Bool.Decides.{nat_tests}
use lib.Pointwise.{pointwise, pointwise_decides}
use Rattle.lf_faults.specs.contracts.fault.FaultPartialEq.TheImpl.{eq-value}
use Rattle.lf_faults.specs.declared.fault.Parts.{Parts}
use Rattle.lf_faults.specs.declared.fault.Parts.TheVariants.{Omit, Crash, Pause}

-- the derived equality of faults is theirs
itself : (f : Parts) → (eq-value).it f f ≡ true
itself (Omit n m t) = grind (arith, nat_tests)
itself (Crash n t) = grind (arith, nat_tests)
itself (Pause n t) = grind (arith, nat_tests)

same : (f g : Parts) → (eq-value).it f g ≡ true → f ≡ g
same (Omit n m t) (Omit k l s) h = grind (arith, nat_tests)
same (Omit n m t) (Crash k s) h = grind (arith, nat_tests)
same (Omit n m t) (Pause k s) h = grind (arith, nat_tests)
same (Crash n t) (Omit k l s) h = grind (arith, nat_tests)
same (Crash n t) (Crash k s) h = grind (arith, nat_tests)
same (Crash n t) (Pause k s) h = grind (arith, nat_tests)
same (Pause n t) (Omit k l s) h = grind (arith, nat_tests)
same (Pause n t) (Crash k s) h = grind (arith, nat_tests)
same (Pause n t) (Pause k s) h = grind (arith, nat_tests)

pub lists-same : (fs gs : List Parts) (result : Bool) → result ≡ pointwise (eq-value).it fs gs → IsTrue result ↔ (fs ≡ gs)
lists-same fs gs result is =
    let d = pointwise_decides (λ f g. (same f g, λ e. subst (λ x. (eq-value).it f x ≡ true) e (itself f))) fs gs in
    (λ h. d.0 (sym is ∙ h), λ e. is ∙ d.1 e)
