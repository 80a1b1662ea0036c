use Rattle.leastfault.proofs.ShownLaws.{drawn_one, shown_one}
use Rattle.leastfault.proofs.laws.shown_replies_are_one.Goals as goal

pub returns-clause-shown : goal.returns-clause-shown
returns-clause-shown c known delays text =
    shown_one c.args.faults.now c.names_are_one.ensures c.args.shown.now c.names_once.ensures known delays text

pub returns-clause-drawn : goal.returns-clause-drawn
returns-clause-drawn c known delays text one other m n x y =
    drawn_one c.args.faults.now c.names_are_one.ensures known delays text one other m n x y
