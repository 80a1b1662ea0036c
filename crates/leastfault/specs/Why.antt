-- The replies that tell why an answer is one.
use Rattle.std.specs.Prelude.{◌≡◌, ℕ, List, ◌++◌, Option}
use Rattle.lf_book.specs.Ends.{IsNeverFull}
use Rattle.lf_outcome.specs.declared.scenario.Scenario.{Scenario}
use Rattle.lf_sim.specs.Settings.{world_of}
use Rattle.lf_trace.specs.Words.{words_of}
use Rattle.lf_tree.specs.declared.tree.Tree.{Tree}
use Rattle.lf_why.specs.Answers.{IsWhy}
use Rattle.lf_protocol_file.specs.declared.declared.Declared.{Declared}
use Rattle.leastfault.specs.Replies.{IsReplyWith, IsTreeFor}
use Rattle.leastfault.specs.Reports.{report, search_status}

-- behind a text stands why the answer of the scenario's tree is one
abbrev pub HasReasons : Scenario → Tree → List ℕ → List ℕ → Type 0
HasReasons s tree text reply =
    (lines : List ℕ) × IsWhy (words_of s.setting.machine) (world_of s.setting) s.setting.spec s.formula tree lines × (reply ≡ text ++ lines)

-- the report of the answer and why it is one, by the tree of the search, where no level is too full before it, with the status of the answer
abbrev pub RepliesWhy : Scenario → List ℕ → ℕ → Type 0
RepliesWhy s reply status =
    (tree : Tree) × IsNeverFull s × IsTreeFor s tree
    × HasReasons s tree (report s.setting.spec.budget tree.answer) reply × (status ≡ search_status tree.answer)

-- the reply to a text
abbrev pub IsWhyReply : Option Declared → List ℕ → List ℕ → ℕ → Type 0
IsWhyReply known = IsReplyWith known RepliesWhy
