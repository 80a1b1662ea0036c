use Rattle.std.proofs.Common.{refl}
use Rattle.lf_rules.specs.declared.sort.Sort.TheVariants as sorts
use Rattle.lf_grammar.specs.Bracketed.{IsPlain}
use Rattle.reading_examples.specs.Rows.{in_a_rule, one_more, name_of}
use Rattle.reading_examples.proofs.laws.row_read_back.Goals as goal

pub returns-clause-written : goal.returns-clause-written
returns-clause-written c = refl

-- its names mean what they name, and what is called is no name
pub returns-clause-read : goal.returns-clause-read
returns-clause-read c =
    let plain : IsPlain in_a_rule =
    record { denial = refl; count = refl; lowest = refl; highest = refl; smaller = refl; larger = refl; majority = refl } in
    c.bracketed_is_read_back.ensures in_a_rule name_of one_more sorts.Number plain (((refl, refl), ((refl, refl), tt)), tt, tt) refl
