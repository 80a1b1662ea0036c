-- The lines of replies.
use Rattle.std.specs.Prelude.{ℕ, Bool, true, false, List, [], ◌∷◌, ◌++◌, length, map, codes, Option, Some, None}
use Rattle.std.specs.List.{join_with_byte}
use Rattle.std.specs.Fmt.{decimal}
use Rattle.lf_faults.specs.declared.fault.Parts.{Parts}
use Rattle.lf_faults.specs.Texts.{spelling}
use Rattle.lf_scenario.specs.declared.key.Key.{Key}
use Rattle.lf_scenario.specs.declared.error.ScenarioError.{ScenarioError}
use Rattle.lf_scenario.specs.Keys.{key_name}
use Rattle.lf_scenario.specs.Refusals.{number_of, key_of}
use Rattle.lf_tree.specs.declared.fault.TreeFault.{TreeFault}
use Rattle.lf_tree.specs.Faults.{fault_number}
use Rattle.lf_certificate.specs.declared.reason.Reason.{Reason}
use Rattle.lf_certificate.specs.Faults as certificates
use Rattle.lf_check.specs.declared.verdict.Verdict.{Verdict}
use Rattle.lf_check.specs.declared.verdict.Verdict.TheVariants as verdicts
use Rattle.lf_trace.specs.Lines.{line}

-- the faults, one on each line
abbrev pub fault_lines : List Parts → List ℕ
fault_lines [] = []
fault_lines (f ∷ fs) = line (spelling f) ++ fault_lines fs

-- `none`, and the budget; or `least`, how many faults there are, and then the faults
abbrev pub report : ℕ → Option (List Parts) → List ℕ
report budget None = line (codes "none " ++ decimal budget)
report budget (Some faults) = line (codes "least " ++ decimal (length faults)) ++ fault_lines faults

-- the faults, each after a comma
abbrev pub more_text : List Parts → List ℕ
more_text [] = []
more_text (f ∷ fs) = 44 ∷ (spelling f ++ more_text fs)

-- a set of faults: with a comma (44) between any two, or `-` for the empty set
abbrev pub set_text : List Parts → List ℕ
set_text [] = codes "-"
set_text (f ∷ fs) = join_with_byte 44 (map spelling (f ∷ fs))

-- the sets, one on each line
abbrev pub set_lines : List (List Parts) → List ℕ
set_lines [] = []
set_lines (set ∷ sets) = line (set_text set) ++ set_lines sets

-- `all`, how many faults each set has, and how many sets there are
abbrev pub all_line : ℕ → ℕ → List ℕ
all_line size count = codes "all " ++ (decimal size ++ (codes " " ++ line (decimal count)))

-- `none`, and the budget; or that line, with the number of faults of the first set, and then the sets
abbrev pub all_report : ℕ → List (List Parts) → List ℕ
all_report budget [] = line (codes "none " ++ decimal budget)
all_report budget (set ∷ sets) = all_line (length set) (length (set ∷ sets)) ++ set_lines (set ∷ sets)

-- `full`, how many faults the sets of the level have that is too full, and how many there are
abbrev pub full_line : ℕ → ℕ → List ℕ
full_line level count = codes "full " ++ (decimal level ++ (codes " " ++ line (decimal count)))

-- 0 where no set defeats the outcome, and 1 where one does
abbrev pub search_status : Option (List Parts) → ℕ
search_status None = 0
search_status (Some faults) = 1

-- 0 where the run reaches the outcome, and 1 where it misses
abbrev pub run_status : Bool → ℕ
run_status true = 0
run_status false = 1

-- `refused faults`
abbrev pub no_set_line : List ℕ
no_set_line = line (codes "refused faults")

-- one space and the key that is refused, where there is one
abbrev pub key_words : Option Key → List ℕ
key_words None = []
key_words (Some key) = codes " " ++ key_name key

-- `refused`, the number of the refusal, and its key
abbrev pub refusal : ScenarioError → List ℕ
refusal e = codes "refused " ++ (decimal (number_of e) ++ line (key_words (key_of e)))

-- `refused tree`, and the number of what is wrong with the text
abbrev pub tree_refusal : TreeFault → List ℕ
tree_refusal fault = line (codes "refused tree " ++ decimal (fault_number fault))

-- the places of kids, each after a dot
abbrev pub dotted : List ℕ → List ℕ
dotted [] = []
dotted (place ∷ path) = codes "." ++ (decimal place ++ dotted path)

-- the way from the root: the places of kids, from 0, with a dot between any two, or `-` for the root itself
abbrev pub path_text : List ℕ → List ℕ
path_text [] = codes "-"
path_text (place ∷ path) = decimal place ++ dotted path

-- a certificate is right
abbrev pub yes_line : List ℕ
yes_line = line (codes "yes")

-- it is wrong: the number of the reason, and the way to the place
abbrev pub no_line : Reason → List ℕ → List ℕ
no_line why path = line (codes "no " ++ (decimal (certificates.number_of why) ++ (codes " " ++ path_text path)))

abbrev pub judgement : Verdict → List ℕ
judgement verdicts.Yes = yes_line
judgement (verdicts.No why path) = no_line why path.items

-- 0 where a certificate is right, and 1 where it is wrong
abbrev pub check_status : Verdict → ℕ
check_status verdicts.Yes = 0
check_status (verdicts.No why path) = 1
