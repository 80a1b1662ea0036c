use Rattle.reading_examples.proofs.own_laws.scenario_twice.Goals as goal

pub returns : goal.returns
returns c =
    c.scenarios_are_one.ensures c.args.file.now c.args.text.now c.in_ok-one.one c.in_ok-other.other c.in_ok-one.ensures.reading
    c.in_ok-other.ensures.reading
