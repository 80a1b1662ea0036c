use Rattle.lf_book.proofs.book.Book.take_with.Given as goal

abbrev pub ghosts-take_from : goal.ghosts-take_from
ghosts-take_from a = record { name = a.blank.name; parts = a.blank.parts }
