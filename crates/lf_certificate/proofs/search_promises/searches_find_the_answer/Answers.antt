use Rattle.lf_certificate.proofs.Laws.{finds_answer, finds_tree, finds_full, finds_never_full, finds_least}
use Rattle.lf_certificate.proofs.search_promises.searches_find_the_answer.Goals as goal

pub returns-clause-answer : goal.returns-clause-answer
returns-clause-answer g c = λ w b formula most s answer bounded closed finished first.
    finds_answer w b formula most s bounded closed finished answer first

pub returns-clause-tree : goal.returns-clause-tree
returns-clause-tree g c = λ w b formula most s answer root bounded closed finished first tree.
    finds_tree w b formula most s bounded closed finished answer root first tree

pub returns-clause-full : goal.returns-clause-full
returns-clause-full g c = λ w b formula most count old new bounded closed full. finds_full w b formula most old bounded closed count new full

pub returns-clause-never_full : goal.returns-clause-never_full
returns-clause-never_full g c = λ w b formula most s k count bounded closed finished.
    finds_never_full w b formula most s bounded closed finished k count

pub returns-clause-least : goal.returns-clause-least
returns-clause-least g c = λ w b formula most s sets bounded closed finished ascending each.
    finds_least w b formula most s bounded closed finished sets ascending each
