use Rattle.std.proofs.Common.{sym, ap, ◌∙◌}
use Rattle.std.specs.List.{list_all}
use Rattle.lf_promises.specs.Facts.{names_facts}
use Rattle.lf_promises.proofs.FactLemmas.{facts-parts}
use Rattle.lf_promises.proofs.naming.+naming.Goals as goal

pub names_facts-returns-in-All : goal.names_facts-returns-in-All
names_facts-returns-in-All t c =
    c.all_name_facts.ensures ∙ ap (list_all (names_facts c.args.definition.now)) c.as_slice.ensures
    ∙ sym (facts-parts c.args.definition.now c.args.promise.now c.in-All.parts c.in-All.is)
