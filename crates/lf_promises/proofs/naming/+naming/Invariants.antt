use Rattle.std.proofs.Common.{◌≡◌, take, true}
use Rattle.std.specs.List.{list_all}
use Rattle.lf_promises.specs.Facts.{names_facts}
use Rattle.lf_promises.proofs.naming.+naming.Given as goal

abbrev pub invariant-all_name_facts-parts : goal.invariant-all_name_facts-parts
invariant-all_name_facts-parts l = list_all (names_facts l.definition) (take l.part-index l.parts) ≡ true
