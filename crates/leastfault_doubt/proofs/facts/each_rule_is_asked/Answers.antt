use Rattle.leastfault_doubt.proofs.AllLemmas.{always-asked, asked-only, each-asked, never-asked}
use Rattle.leastfault_doubt.proofs.facts.each_rule_is_asked.Goals as goal

pub returns-clause-deep : goal.returns-clause-deep
returns-clause-deep c = each-asked

pub returns-clause-only : goal.returns-clause-only
returns-clause-only c file text s deep questions m are = asked-only file text s deep questions are m

pub returns-clause-never : goal.returns-clause-never
returns-clause-never c file text s deep questions rule are = never-asked file text s deep questions are rule

pub returns-clause-always : goal.returns-clause-always
returns-clause-always c file text s deep questions rule are = always-asked file text s deep questions are rule
