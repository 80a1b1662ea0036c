use Rattle.search_examples.proofs.marks.take.Given as goal

abbrev pub ghosts-take_by : goal.ghosts-take_by
ghosts-take_by a = record { name = a.blank.name; parts = a.blank.parts }
