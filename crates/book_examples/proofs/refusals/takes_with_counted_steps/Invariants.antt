use Rattle.book_examples.proofs.refusals.takes_with_counted_steps.Given as goal

abbrev pub ghosts-takes_the_root : goal.ghosts-takes_the_root
ghosts-takes_the_root g a = record { name = a.blank.name; parts = a.blank.parts }
