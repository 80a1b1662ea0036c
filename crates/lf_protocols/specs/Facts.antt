-- The facts in pairs of opposites.
use Rattle.std.specs.Prelude.{Bool, true, false}
use Rattle.lf_protocols.specs.declared.fact.Fact.{Fact}
use Rattle.lf_protocols.specs.declared.fact.Fact.TheVariants.{Has, Lacks, Committed, NotCommitted, Aborted, NotAborted, Blocked, Free}
use Rattle.lf_protocols.specs.declared.fact.Fact.TheVariants.{Holds, Empty, Done, NotDone, Primary, Backup, Claimed, Unclaimed, Ruled}

-- the one of its pair that says that something is not so. A state that knows nothing of a pair shows this one
abbrev pub is_denial : Fact → Bool
is_denial Has = false
is_denial Lacks = true
is_denial Committed = false
is_denial NotCommitted = true
is_denial Aborted = false
is_denial NotAborted = true
is_denial Blocked = false
is_denial Free = true
is_denial Holds = false
is_denial Empty = true
is_denial Done = false
is_denial NotDone = true
is_denial Primary = false
is_denial Backup = true
is_denial Claimed = false
is_denial Unclaimed = true
is_denial (Ruled fact) = fact.denied
