use Rattle.std.proofs.Common.{◌++◌}
use Rattle.std.specs.Prelude.{Some}
use Rattle.lf_rule_machine.specs.declared.fact.Told.TheVariants as tolds
use Rattle.lf_naming.specs.Facts.{both, flag_facts, guard_facts, has_name, word_facts}
use Rattle.lf_naming.proofs.FirstsLemmas.{before_rest, past_first}
use Rattle.lf_naming.proofs.finding.first_named.Goals as goal

pub returns-in-Some : goal.returns-in-Some
returns-in-Some c =
    let d = c.args.definition.now in
    let p = has_name d c.args.word.now in
    let ends = both tolds.Clamped ++ both tolds.Replaced in
    before_rest p (guard_facts d) (word_facts d ++ (flag_facts d ++ ends)) c.in-Some.guard c.in-Some.ensures

pub returns-in-Some-word_named : goal.returns-in-Some-word_named
returns-in-Some-word_named c =
    let d = c.args.definition.now in
    let p = has_name d c.args.word.now in
    let flags_on = flag_facts d ++ (both tolds.Clamped ++ both tolds.Replaced) in
    past_first p (guard_facts d) (word_facts d ++ flags_on) (Some c.in-Some-word_named.own) c.in_default.ensures
    (before_rest p (word_facts d) flags_on c.in-Some-word_named.own c.in-Some-word_named.ensures)

pub returns-in-Some-flag_named : goal.returns-in-Some-flag_named
returns-in-Some-flag_named c =
    let d = c.args.definition.now in
    let p = has_name d c.args.word.now in
    let ends = both tolds.Clamped ++ both tolds.Replaced in
    let found = c.in-Some-flag_named.flag in
    past_first p (guard_facts d) (word_facts d ++ (flag_facts d ++ ends)) (Some found) c.in_default.ensures
    (past_first p (word_facts d) (flag_facts d ++ ends) (Some found) c.in_default-word_named.ensures
    (before_rest p (flag_facts d) ends found c.in-Some-flag_named.ensures))

pub returns-in-Some-told_named : goal.returns-in-Some-told_named
returns-in-Some-told_named c =
    let d = c.args.definition.now in
    let p = has_name d c.args.word.now in
    let ends = both tolds.Clamped ++ both tolds.Replaced in
    let found = c.in-Some-told_named.clamped in
    past_first p (guard_facts d) (word_facts d ++ (flag_facts d ++ ends)) (Some found) c.in_default.ensures
    (past_first p (word_facts d) (flag_facts d ++ ends) (Some found) c.in_default-word_named.ensures
    (past_first p (flag_facts d) ends (Some found) c.in_default-flag_named.ensures
    (before_rest p (both tolds.Clamped) (both tolds.Replaced) found c.in-Some-told_named.ensures)))

pub returns : goal.returns
returns c =
    let d = c.args.definition.now in
    let p = has_name d c.args.word.now in
    let ends = both tolds.Clamped ++ both tolds.Replaced in
    let found = c.told_named-2.result in
    past_first p (guard_facts d) (word_facts d ++ (flag_facts d ++ ends)) found c.in_default.ensures
    (past_first p (word_facts d) (flag_facts d ++ ends) found c.in_default-word_named.ensures
    (past_first p (flag_facts d) ends found c.in_default-flag_named.ensures
    (past_first p (both tolds.Clamped) (both tolds.Replaced) found c.in_default-told_named.ensures c.told_named-2.ensures)))
