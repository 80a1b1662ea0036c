-- When a protocol file is whole.
use Rattle.std.specs.Prelude.{Bool, ◌&&◌, List}
use Rattle.std.specs.List.{list_all}
use Rattle.lf_rules.specs.Forms.{is_well_formed}
use Rattle.lf_rules.specs.declared.definition.Definition.{Definition}
use Rattle.lf_promises.specs.Facts.{names_facts}
use Rattle.lf_protocol_file.specs.declared.declared.Outcome.{Outcome}
use Rattle.lf_protocol_file.specs.declared.declared.Declared.{Declared}

-- each outcome is about facts that the protocol has
abbrev pub are_named : Definition → List Outcome → Bool
are_named d outcomes = list_all (λ outcome. names_facts d outcome.promise) outcomes

-- the protocol is well formed, and the outcomes are about its facts
abbrev pub is_whole : Declared → Bool
is_whole declared = is_well_formed declared.definition && are_named declared.definition declared.outcomes
