-- What a search for a scenario comes to, before it is written.
use Rattle.std.specs.Prelude.{◌≡◌, ◌⊎◌, ℕ, List, Option, None, Some, Result, string_bytes}
use Rattle.lf_pool.specs.declared.error.PoolError.{PoolError}
use Rattle.lf_pool.specs.declared.error.PoolError.TheVariants as errors
use Rattle.lf_pool.specs.Solved.{AreWorkers}
use Rattle.lf_outcome.specs.declared.scenario.Scenario.{Scenario}
use Rattle.lf_tree.specs.declared.tree.Tree.{Tree}
use Rattle.lf_protocol_file.specs.declared.declared.Declared.{Declared}
use Rattle.leastfault.specs.declared.answering.Wanted.{Wanted}
use Rattle.leastfault.specs.declared.fault.BytesFault.{BytesFault}
use Rattle.leastfault.specs.declared.fault.BytesFault.TheVariants as faults
use Rattle.leastfault.specs.declared.reply.Reply.{Reply}
use Rattle.leastfault.specs.declared.reply.Searched.{Searched}
use Rattle.leastfault.specs.Engines.{IsMadeHere, OfReply}
use Rattle.leastfault.specs.Replies.{IsCauseOf, IsPoolCause, IsSharedWith, IsTreeFor, RepliesFull, reports_of}
use Rattle.leastfault.specs.Reports.{search_status}

-- the fault that stands for an error of workers: want of memory for itself, and any other by its number
abbrev pub fault_of : PoolError → BytesFault
fault_of errors.Workers = faults.Pool 1
fault_of errors.Memory = faults.Memory
fault_of (errors.OtherScenario book) = faults.Pool 3
fault_of (errors.Spent book) = faults.Pool 4

-- a report has the tree of the search with it, and a level that is too full has none
abbrev pub IsFoundFor : Wanted → Scenario → Reply Searched → Type 0
IsFoundFor wanted s found =
    (RepliesFull s (string_bytes found.text) found.value.status × (found.value.tree ≡ None))
    ⊎ (reports_of wanted s (string_bytes found.text) found.value.status
    × ((tree : Tree) × (found.value.tree ≡ Some tree) × IsTreeFor s tree × (found.value.status ≡ search_status tree.answer)))

-- a search for the scenario by so many workers comes to this, and they may search; or it finds nothing for a cause
abbrev pub IsEndFor : Wanted → ℕ → Scenario → Result (Reply Searched) BytesFault → Type 0
IsEndFor wanted workers s = IsMadeHere (λ found. IsFoundFor wanted s found × AreWorkers workers) (IsCauseOf workers s)

-- and for a text to this
abbrev pub IsEndIn : Option Declared → Wanted → ℕ → List ℕ → Result (Reply Searched) BytesFault → Type 0
IsEndIn known wanted workers text =
    IsMadeHere (OfReply (IsSharedWith known (reports_of wanted) workers) text) (IsPoolCause known workers text)
