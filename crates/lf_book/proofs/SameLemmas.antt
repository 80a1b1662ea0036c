-- Equal faults, and lists of faults that begin with others.
use Rattle.std.proofs.Common.{◌≡◌, ◌≤◌, true, Bool, List, ◌++◌, length, take, drop, sym, ap, ◌∙◌, subst, arith}
use Rattle.std.specs.Prelude.{◌↔◌, IsTrue}
use Rattle.std.proofs.lemmas.Bool.Decides.{nat_tests}
use Rattle.std.proofs.lemmas.List.{length-append, take-append-drop}
use Rattle.std.proofs.Math.Seq.{take-append_seam}
use Rattle.lf_faults.specs.contracts.fault.FaultPartialEq.TheImpl.{eq-value}
use Rattle.lf_faults.specs.declared.fault.Parts.{Parts}
use Rattle.lf_faults.specs.declared.fault.Parts.TheVariants.{Omit, Crash, Pause}

-- the derived equality of faults is theirs
itself : (f : Parts) → (eq-value).it f f ≡ true
itself (Omit n m t) = grind (arith, nat_tests)
itself (Crash n t) = grind (arith, nat_tests)
itself (Pause n t) = grind (arith, nat_tests)

same : (f g : Parts) → (eq-value).it f g ≡ true → f ≡ g
same (Omit n m t) (Omit k l s) h = grind (arith, nat_tests)
same (Omit n m t) (Crash k s) h = grind (arith, nat_tests)
same (Omit n m t) (Pause k s) h = grind (arith, nat_tests)
same (Crash n t) (Omit k l s) h = grind (arith, nat_tests)
same (Crash n t) (Crash k s) h = grind (arith, nat_tests)
same (Crash n t) (Pause k s) h = grind (arith, nat_tests)
same (Pause n t) (Omit k l s) h = grind (arith, nat_tests)
same (Pause n t) (Crash k s) h = grind (arith, nat_tests)
same (Pause n t) (Pause k s) h = grind (arith, nat_tests)

pub fault-same : (f g : Parts) (result : Bool) → result ≡ (eq-value).it f g → IsTrue result ↔ (f ≡ g)
fault-same f g result is = (λ h. same f g (sym is ∙ h), λ e. is ∙ subst (λ x. (eq-value).it f x ≡ true) e (itself f))

-- a list that begins with others is as long as they at least
pub begun-long : (fs start rest : List Parts) → fs ≡ start ++ rest → length start ≤ length fs
begun-long fs start rest e = omega (arith, ap (λ (xs : List Parts). length xs) e, length-append start rest)

pub begun : (fs start : List Parts) → take (length start) fs ≡ start → (rest : List Parts) × (fs ≡ start ++ rest)
begun fs start e = (drop (length start) fs, sym (take-append-drop (length start) fs) ∙ ap (λ l. l ++ drop (length start) fs) e)

pub begins : (fs start rest : List Parts) → fs ≡ start ++ rest → take (length start) fs ≡ start
begins fs start rest e = ap (take (length start)) e ∙ take-append_seam start rest
