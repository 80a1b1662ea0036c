use Rattle.std.proofs.Common.{◌+◌, ◌*◌, length}
use Rattle.lf_grammar.specs.Expressions.{all_depth, left_depth}
use Rattle.lf_grammar.proofs.+reading.Given as goal

abbrev pub decreases-atoms::read_atom : goal.decreases-atoms::read_atom
decreases-atoms::read_atom l = 20 * length l.tokens.now + 3

abbrev pub decreases-atoms::read_word : goal.decreases-atoms::read_word
decreases-atoms::read_word l = 20 * length l.tokens.now + 19

abbrev pub decreases-atoms::read_round : goal.decreases-atoms::read_round
decreases-atoms::read_round l = 20 * length l.tokens.now + 18

abbrev pub decreases-atoms::read_set : goal.decreases-atoms::read_set
decreases-atoms::read_set l = 20 * length l.tokens.now + 18

abbrev pub decreases-atoms::read_item : goal.decreases-atoms::read_item
decreases-atoms::read_item l = 20 * length l.tokens.now + 14

abbrev pub decreases-atoms::read_range : goal.decreases-atoms::read_range
decreases-atoms::read_range l = 20 * length l.tokens.now + 2

abbrev pub decreases-calls::read_call : goal.decreases-calls::read_call
decreases-calls::read_call l = 20 * length l.tokens.now + 18

abbrev pub decreases-calls::read_second : goal.decreases-calls::read_second
decreases-calls::read_second l = 20 * length l.tokens.now + 3

abbrev pub decreases-expressions::read_all : goal.decreases-expressions::read_all
decreases-expressions::read_all l = 20 * length l.tokens.now + all_depth l.level

abbrev pub decreases-expressions::read_left : goal.decreases-expressions::read_left
decreases-expressions::read_left l = 20 * length l.tokens.now + left_depth l.level

abbrev pub decreases-expressions::read_more : goal.decreases-expressions::read_more
decreases-expressions::read_more l = 20 * length l.tokens.now + 2

abbrev pub decreases-expressions::read_right : goal.decreases-expressions::read_right
decreases-expressions::read_right l = 20 * length l.tokens.now + 17

abbrev pub decreases-expressions::read_denied : goal.decreases-expressions::read_denied
decreases-expressions::read_denied l = 20 * length l.tokens.now + 9

abbrev pub decreases-expressions::read_comparison : goal.decreases-expressions::read_comparison
decreases-expressions::read_comparison l = 20 * length l.tokens.now + 8

abbrev pub decreases-expressions::read_compared : goal.decreases-expressions::read_compared
decreases-expressions::read_compared l = 20 * length l.tokens.now + 2

abbrev pub decreases-atoms::read_brackets : goal.decreases-atoms::read_brackets
decreases-atoms::read_brackets l = 20 * length l.tokens.now + 19

abbrev pub decreases-atoms::read_named : goal.decreases-atoms::read_named
decreases-atoms::read_named l = 20 * length l.tokens.now + 18

abbrev pub decreases-atoms::read_place : goal.decreases-atoms::read_place
decreases-atoms::read_place l = 20 * length l.tokens.now + 14

abbrev pub decreases-atoms::read_members : goal.decreases-atoms::read_members
decreases-atoms::read_members l = 20 * length l.tokens.now + 3

abbrev pub decreases-bodies::read_body : goal.decreases-bodies::read_body
decreases-bodies::read_body l = 20 * length l.tokens.now + 14

abbrev pub decreases-calls::read_single : goal.decreases-calls::read_single
decreases-calls::read_single l = 20 * length l.tokens.now + 2
