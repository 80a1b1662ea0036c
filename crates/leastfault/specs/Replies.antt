-- The reply to a text, and what is answered with it.
use Rattle.std.specs.Prelude.{◌≡◌, ◌⊎◌, ℕ, Bool, true, false, List, slice_get, Option, None, Some}
use Rattle.lf_certificate.specs.declared.reason.Reason.{Reason}
use Rattle.lf_certificate.specs.Accepted.{IsAccepted}
use Rattle.lf_certificate.specs.Faults.{IsFirstFault}
use Rattle.lf_certificate.specs.Grown.{IsTreeOf}
use Rattle.lf_book.specs.Ends.{IsFull, IsNeverFull}
use Rattle.lf_book.specs.declared.book.Book.{Book}
use Rattle.lf_faults.specs.declared.fault.Parts.{Parts}
use Rattle.lf_faults.specs.Allowed.{IsAllowed}
use Rattle.lf_faults.specs.declared.spec.Bounds.{Bounds}
use Rattle.lf_outcome.specs.declared.formula.Formula.{Formula}
use Rattle.lf_protocols.specs.declared.fact.Fact.{Fact}
use Rattle.lf_protocols.specs.declared.note.Note.{Note}
use Rattle.lf_protocols.specs.declared.protocol.Kind.{Kind}
use Rattle.lf_protocols.specs.declared.state.State.{State}
use Rattle.lf_sim.specs.Runs.{World}
use Rattle.lf_sim.specs.Settings.{world_of}
use Rattle.lf_pool.specs.Solved.{AreWorkers, IsSpentBook}
use Rattle.lf_scenario.specs.declared.error.ScenarioError.{ScenarioError}
use Rattle.lf_outcome.specs.declared.scenario.Scenario.{Scenario}
use Rattle.lf_trace.specs.Namings.{Names}
use Rattle.lf_trace.specs.Traces.{trace}
use Rattle.lf_trace.specs.RuleTraces.{rule_trace}
use Rattle.lf_tree.specs.declared.fault.TreeFault.{TreeFault}
use Rattle.lf_tree.specs.declared.tree.Tree.{Tree}
use Rattle.lf_tree.specs.FirstFaults as trees
use Rattle.lf_tree.specs.Texts.{IsInRange, tree_text}
use Rattle.lf_tree.specs.Trees.{IsTree}
use Rattle.lf_protocol_file.specs.declared.declared.Declared.{Declared}
use Rattle.leastfault.specs.declared.answering.Wanted.{Wanted}
use Rattle.leastfault.specs.declared.answering.Wanted.TheVariants as wanted
use Rattle.leastfault.specs.declared.reply.Searched.{Searched}
use Rattle.leastfault.specs.Answers.{AreLeastSets, IsAnswer, reaches_in}
use Rattle.leastfault.specs.Known.{IsRefusedOf, IsTextOf}
use Rattle.leastfault.specs.Reports.{all_report, full_line, no_line, no_set_line, refusal, report, run_status, search_status, tree_refusal, yes_line}

-- the line of the refusal, where the text is refused, with status 2. The protocol that may be known besides the shipped ones comes first,
-- here and below
abbrev pub RepliesRefusal : Option Declared → List ℕ → List ℕ → ℕ → Type 0
RepliesRefusal known text reply status = (e : ScenarioError) × IsRefusedOf known text e × (reply ≡ refusal e) × (status ≡ 2)

-- the line of the first level that is too full, where one is and no set with fewer faults defeats the outcome, with status 2
abbrev pub RepliesFull : Scenario → List ℕ → ℕ → Type 0
RepliesFull s reply status = (level : ℕ) × (count : ℕ) × IsFull s level count × (reply ≡ full_line level count) × (status ≡ 2)

-- the report of the answer, where no level is too full before it, with the status of the answer
abbrev pub RepliesReport : Scenario → List ℕ → ℕ → Type 0
RepliesReport s reply status =
    (answer : Option (List Parts)) × IsNeverFull s × IsAnswer s answer
    × (reply ≡ report s.setting.spec.budget answer) × (status ≡ search_status answer)

-- the report of all least sets, where no level is too full before them, with the status of the first of them, which is the answer
abbrev pub RepliesAll : Scenario → List ℕ → ℕ → Type 0
RepliesAll s reply status =
    (sets : List (List Parts)) × IsNeverFull s × AreLeastSets s sets
    × (reply ≡ all_report s.setting.spec.budget sets) × (status ≡ search_status (slice_get sets 0))

-- the reply of a search for the scenario, by what it reports where it has ended
abbrev pub RepliesSearch : (Scenario → List ℕ → ℕ → Type 0) → Scenario → List ℕ → ℕ → Type 0
RepliesSearch Reports s reply status = RepliesFull s reply status ⊎ Reports s reply status

-- its reply for the text
abbrev pub IsReplyWith : Option Declared → (Scenario → List ℕ → ℕ → Type 0) → List ℕ → List ℕ → ℕ → Type 0
IsReplyWith known Reports text reply status =
    RepliesRefusal known text reply status ⊎ ((s : Scenario) × IsTextOf known s text × RepliesSearch Reports s reply status)

-- the reply of a search that reports the answer
abbrev pub IsSearchReply : Option Declared → List ℕ → List ℕ → ℕ → Type 0
IsSearchReply known = IsReplyWith known RepliesReport

-- and of one that reports all least sets
abbrev pub IsAllReply : Option Declared → List ℕ → List ℕ → ℕ → Type 0
IsAllReply known = IsReplyWith known RepliesAll

-- the report of the answer, with its status: no level is too full for it
abbrev pub RepliesAnswer : Scenario → List ℕ → ℕ → Type 0
RepliesAnswer s reply status =
    (answer : Option (List Parts)) × IsAnswer s answer × (reply ≡ report s.setting.spec.budget answer) × (status ≡ search_status answer)

-- the reply of one that tells the answer alone
abbrev pub IsAnswerReply : Option Declared → List ℕ → List ℕ → ℕ → Type 0
IsAnswerReply known text reply status =
    RepliesRefusal known text reply status ⊎ ((s : Scenario) × IsTextOf known s text × RepliesAnswer s reply status)

-- what is reported, by what is wanted
abbrev pub reports_of : Wanted → Scenario → List ℕ → ℕ → Type 0
reports_of wanted.Answer = RepliesReport
reports_of wanted.AllLeast = RepliesAll

-- the tree of the search for the scenario, which is accepted
pub record IsTreeFor (s : Scenario) (tree : Tree) : Type 0 where
  pub search : IsTreeOf (world_of s.setting) s.setting.spec s.formula tree
  pub accepted : IsAccepted (world_of s.setting) s.setting.spec s.formula tree

-- what is handed out with a reply: the tree of the search, where the status is that of its answer, and none where it is 2
abbrev pub HandsOut : Option Declared → List ℕ → Option Tree → ℕ → Type 0
HandsOut known text None status = status ≡ 2
HandsOut known text (Some tree) status = (s : Scenario) × IsTextOf known s text × IsTreeFor s tree × (status ≡ search_status tree.answer)

-- the reply of a search, and what is handed out with it
abbrev pub IsSearchedWith : Option Declared → (Scenario → List ℕ → ℕ → Type 0) → List ℕ → List ℕ → Searched → Type 0
IsSearchedWith known Reports text reply searched =
    IsReplyWith known Reports text reply searched.status × HandsOut known text searched.tree searched.status

abbrev pub IsSearched : Option Declared → List ℕ → List ℕ → Searched → Type 0
IsSearched known = IsSearchedWith known RepliesReport

abbrev pub IsSearchedAll : Option Declared → List ℕ → List ℕ → Searched → Type 0
IsSearchedAll known = IsSearchedWith known RepliesAll

-- so many workers may search, or the text is refused
abbrev pub MayWork : Option Declared → ℕ → List ℕ → Type 0
MayWork known workers text = AreWorkers workers ⊎ ((e : ScenarioError) × IsRefusedOf known text e)

-- the same of a search by so many workers
abbrev pub IsSharedWith : Option Declared → (Scenario → List ℕ → ℕ → Type 0) → ℕ → List ℕ → List ℕ → Searched → Type 0
IsSharedWith known Reports workers text reply searched = IsSearchedWith known Reports text reply searched × MayWork known workers text

abbrev pub IsShared : Option Declared → ℕ → List ℕ → List ℕ → Searched → Type 0
IsShared known = IsSharedWith known RepliesReport

abbrev pub IsSharedAll : Option Declared → ℕ → List ℕ → List ℕ → Searched → Type 0
IsSharedAll known = IsSharedWith known RepliesAll

-- why so many workers give no answer for a scenario: 1 exactly where so many may not search, and else 4, where they leave a book of it in which
-- all tickets were given and a set is open
abbrev pub IsCauseOf : ℕ → Scenario → ℕ → Type 0
IsCauseOf workers s number =
    ((number ≡ 1) × (¬ AreWorkers workers)) ⊎ ((number ≡ 4) × AreWorkers workers × ((book : Book) × IsSpentBook s book))

-- and they are asked where the text is a scenario's
abbrev pub IsPoolCause : Option Declared → ℕ → List ℕ → ℕ → Type 0
IsPoolCause known workers text number = (s : Scenario) × IsTextOf known s text × IsCauseOf workers s number

-- the line that no allowed set has this name, where the words name none, or none that the scenario allows, with status 2
abbrev pub RepliesNoSet : List ℕ → Scenario → List ℕ → ℕ → Type 0
RepliesNoSet words s reply status =
    ((set : List Parts) → Names words set → ¬ (IsAllowed s.setting.spec set)) × (reply ≡ no_set_line) × (status ≡ 2)

-- the trace of the run of a set, with the rules that nodes took where they are to be told
abbrev pub trace_of : Bool → Kind → World State Note Fact → List Parts → Formula Fact → List ℕ
trace_of false k w set formula = trace k w set formula
trace_of true k w set formula = rule_trace k w set formula

abbrev pub told_trace : Bool → Scenario → List Parts → List ℕ
told_trace rules s set = trace_of rules s.setting.machine (world_of s.setting) set s.formula

-- the trace of the run of the set that the words name, where it is allowed, with the status of the run
abbrev pub RepliesTrace : Bool → List ℕ → Scenario → List ℕ → ℕ → Type 0
RepliesTrace rules words s reply status =
    (set : List Parts) × Names words set × IsAllowed s.setting.spec set
    × (reply ≡ told_trace rules s set) × (status ≡ run_status (reaches_in s set))

-- the rules that nodes took are told where there is a protocol file that has some
abbrev pub tells_rules : Option Declared → Bool → Bool
tells_rules None rules = false
tells_rules (Some file) rules = rules

-- the reply of a run of the set that the words name, with the rules that nodes took or without: the scenario's refusal comes before the words
abbrev pub IsRunReply : Option Declared → Bool → List ℕ → List ℕ → List ℕ → ℕ → Type 0
IsRunReply known rules words text reply status =
    RepliesRefusal known text reply status
    ⊎ ((s : Scenario) × IsTextOf known s text × (RepliesNoSet words s reply status ⊎ RepliesTrace rules words s reply status))

-- the text is that of the tree
pub record IsTreeText (tree : Tree) (text : List ℕ) : Type 0 where
  pub kept : IsTree tree
  pub range : IsInRange tree
  pub spelled : tree_text tree ≡ text

-- the line of the refusal, where the text is refused as that of a tree, with status 2
abbrev pub RepliesTreeRefusal : List ℕ → List ℕ → ℕ → Type 0
RepliesTreeRefusal text reply status = (e : TreeFault) × trees.IsFirstFault text e × (reply ≡ tree_refusal e) × (status ≡ 2)

module _ {State Note Fact : Type 0} (w : World State Note Fact) (b : Bounds) (formula : Formula Fact) where
  -- `yes` where the tree is accepted, with status 0
  abbrev pub RepliesYes : Tree → List ℕ → ℕ → Type 0
  RepliesYes tree reply status = IsAccepted w b formula tree × (reply ≡ yes_line) × (status ≡ 0)

  -- its first fault where it isn't, with status 1
  abbrev pub RepliesNo : Tree → List ℕ → ℕ → Type 0
  RepliesNo tree reply status =
      (why : Reason) × (path : List ℕ) × IsFirstFault w b formula tree why path × (reply ≡ no_line why path) × (status ≡ 1)

  abbrev pub RepliesVerdict : Tree → List ℕ → ℕ → Type 0
  RepliesVerdict tree reply status = RepliesYes tree reply status ⊎ RepliesNo tree reply status

-- the reply of a check to the scenario and the text of a tree
abbrev pub RepliesCheck : Scenario → List ℕ → List ℕ → ℕ → Type 0
RepliesCheck s certificate reply status =
    RepliesTreeRefusal certificate reply status
    ⊎ ((tree : Tree) × IsTreeText tree certificate × RepliesVerdict (world_of s.setting) s.setting.spec s.formula tree reply status)

-- the reply of a check to the texts of a scenario and of a tree: the scenario's refusal comes before the tree's
abbrev pub IsCheckReply : Option Declared → List ℕ → List ℕ → List ℕ → ℕ → Type 0
IsCheckReply known text certificate reply status =
    RepliesRefusal known text reply status ⊎ ((s : Scenario) × IsTextOf known s text × RepliesCheck s certificate reply status)

-- there is one reply at most, with one status
abbrev pub HasOneReply : (List ℕ → ℕ → Type 0) → Type 0
HasOneReply IsReply = (one other : List ℕ) (m n : ℕ) → IsReply one m → IsReply other n → (one ≡ other) × (m ≡ n)

-- there is one status at most, and with the status 2 one reply: so it is of replies whose text no contract tells
abbrev pub HasOneStatus : (List ℕ → ℕ → Type 0) → Type 0
HasOneStatus IsReply = (one other : List ℕ) (m n : ℕ) → IsReply one m → IsReply other n → (m ≡ n) × (m ≡ 2 → one ≡ other)
