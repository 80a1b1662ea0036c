use Rattle.std.proofs.Common.{◌≡◌, [], drop}
use Rattle.lf_own_scenario.specs.Constants.{constants_behind, seen}
use Rattle.lf_own_scenario.proofs.constants.constants_in.Given as goal

-- what the constants so far are stands before what the rest are
abbrev pub invariant-constants : goal.invariant-constants
invariant-constants l =
    constants_behind l.file l.nodes (seen l.given) l.values.items (drop l.constant-index l.constants)
    ≡ constants_behind l.file l.nodes (seen l.given) [] l.constants
