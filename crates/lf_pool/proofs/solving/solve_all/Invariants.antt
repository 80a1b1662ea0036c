use Rattle.std.specs.Prelude.{Some}
use Rattle.std.specs.Arc.{arc_value}
use Rattle.lf_pool.proofs.solving.solve_all.Given as goal

abbrev pub ghosts-search_in-L-Ledger : goal.ghosts-search_in-L-Ledger
ghosts-search_in-L-Ledger g a = record { name = a.blank.name; parts = a.blank.parts }

abbrev pub ghosts-search_in-L-Searched : goal.ghosts-search_in-L-Searched
ghosts-search_in-L-Searched g a = record { scenario = Some (arc_value a.scenario) }
