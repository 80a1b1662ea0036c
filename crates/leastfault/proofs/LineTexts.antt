-- Lines of replies, put together from the parts that are written one after another.
use Rattle.std.proofs.Common.{◌≡◌, ℕ, List, [], ◌∷◌, ◌++◌, append_assoc, length, ap}
use Rattle.std.specs.Prelude.{Some, None, codes, slice_get}
use Rattle.std.specs.Fmt.{decimal}
use Rattle.lf_certificate.specs.declared.reason.Reason.{Reason}
use Rattle.lf_certificate.specs.Faults.{number_of}
use Rattle.lf_faults.specs.declared.fault.Parts.{Parts}
use Rattle.lf_trace.specs.Lines.{line}
use Rattle.leastfault.specs.Reports.{all_line, all_report, no_line, path_text, set_lines}

-- the report of sets, from the first of them on
pub all_report_first : (budget : ℕ) (least : List Parts) (sets : List (List Parts)) → Some least ≡ slice_get sets 0
    → all_line (length least) (length sets) ++ set_lines sets ≡ all_report budget sets
all_report_first budget least [] is = absurd (let never : Some least ≡ None = is in cc)
all_report_first budget least (set ∷ sets) is =
    let same : least ≡ set = cc in
    ap (λ s. all_line (length s) (length (set ∷ sets)) ++ set_lines (set ∷ sets)) same

-- the line of a verdict against a certificate
pub no_line_parts : (why : Reason) (path : List ℕ) → (codes "no " ++ (decimal (number_of why) ++ codes " ")) ++ line (path_text path) ≡ no_line why path
no_line_parts why path = simp append_assoc
