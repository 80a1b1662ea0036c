use Rattle.lf_sweep.proofs.ListedLemmas.{behind_boundary, ends_found, value_boundary}
use Rattle.lf_sweep.proofs.listed.value_end.Goals as goal

pub returns-clause-boundary : goal.returns-clause-boundary
returns-clause-boundary c =
    value_boundary c.args.text.now c.in-Some.end (ends_found c.args.text.now c.in_ok-end.field-0 c.in-Some.end c.in_ok-end.ensures c.in-Some.is)

pub returns-clause-behind : goal.returns-clause-behind
returns-clause-behind c =
    behind_boundary c.args.text.now c.in-Some.end c.utf8.text
    (ends_found c.args.text.now c.in_ok-end.field-0 c.in-Some.end c.in_ok-end.ensures c.in-Some.is)
