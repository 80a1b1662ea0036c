use Rattle.std.specs.Prelude.{Some}
use Rattle.std.specs.Arc.{arc_value}
use Rattle.search_examples.proofs.waits.is_waited_for.Given as goal

abbrev pub ghosts-turns-L-Ledger : goal.ghosts-turns-L-Ledger
ghosts-turns-L-Ledger g a = record { name = a.blank.name; parts = a.blank.parts }

abbrev pub ghosts-turns-L-Searched : goal.ghosts-turns-L-Searched
ghosts-turns-L-Searched g a = record { scenario = Some (arc_value a.scenario) }
