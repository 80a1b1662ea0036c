use Rattle.lf_marks.proofs.marks.Marks.path_to.Given as goal

abbrev pub ghosts-path_by : goal.ghosts-path_by
ghosts-path_by a = record { name = a.blank.name; parts = a.blank.parts }
