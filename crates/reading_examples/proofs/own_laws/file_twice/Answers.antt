use Rattle.reading_examples.proofs.own_laws.file_twice.Goals as goal

pub returns : goal.returns
returns c =
    c.files_are_one.ensures c.args.text.now c.in_ok-one.one c.in_ok-other.other c.in_ok-one.ensures.reading c.in_ok-other.ensures.reading
