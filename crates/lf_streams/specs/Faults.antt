-- Which answers say that the source failed.
use Rattle.std.specs.Prelude.{Bool, true, false, Result, Ok, Err}
use Rattle.lf_streams.specs.declared.error.ReadFault.{ReadFault}

-- true at `Err(Failed)` alone
abbrev pub tells_failure : {X : Type 0} → Result X ReadFault → Bool
tells_failure (Ok _) = false
tells_failure (Err ReadFault.Failed) = true
tells_failure (Err ReadFault.Memory) = false
