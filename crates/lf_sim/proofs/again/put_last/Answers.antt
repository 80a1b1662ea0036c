use Rattle.std.proofs.Common.{◌≡◌, ◌-◌, ◌<◌, ◌∙◌, ap, sym, subst, arith, length, length-take, get_or}
use Rattle.std.proofs.lemmas.List.{get_or-take}
use Rattle.lf_sim.specs.Differences.{IsTold}
use Rattle.lf_sim.specs.Turns.{turn_seen, turns_of}
use Rattle.lf_sim.proofs.AgainLemmas.{any-default, same-turn, told-at}
use Rattle.lf_sim.proofs.again.put_last.Goals as goal

pub returns-then-is_none-clause-told : goal.returns-then-is_none-clause-told
returns-then-is_none-clause-told g c d =
    let turns = turns_of c.args.cells.now in
    let inside : c.args.place < length turns = omega (arith, c.requires) in
    let last : c.len-last.result - 1 < length turns = omega (arith, c.len-last.ensures, c.requires) in
    let told = told-at c.between-difference.result turns c.args.place (c.len-last.result - 1) (turn_seen c.seen.result) (turn_seen c.seen-2.result) d inside last
    c.seen.ensures c.seen-2.ensures c.between-difference.ensures in
    subst (λ k. IsTold c.between-difference.result (get_or turns c.args.place d) (get_or turns (k - 1) d)) c.len-last.ensures told

pub returns-then-is_none-clause-len : goal.returns-then-is_none-clause-len
returns-then-is_none-clause-len g c =
    let turns = turns_of c.args.cells.now in
    omega (arith, ap length c.drop_last.ensures.items ∙ length-take (length turns - 1) turns, c.requires)

pub returns-then-is_none-clause-there : goal.returns-then-is_none-clause-there
returns-then-is_none-clause-there g c d =
    let turns = turns_of c.args.cells.now in
    let one = turn_seen c.seen.result in
    let other = turn_seen c.seen-2.result in
    let inside : c.args.place < length turns = omega (arith, c.requires) in
    let last : c.len-last.result - 1 < length turns = omega (arith, c.len-last.ensures, c.requires) in
    let same : one ≡ other = same-turn c.between-difference.result one other c.between-difference.ensures (c.is_none.ensures.state c.if-is_none.true)
    (c.is_none.ensures.notes c.if-is_none.true) in
    ap (λ xs. get_or xs c.args.place d) c.drop_last.ensures.items
    ∙ get_or-take (length turns - 1) turns c.args.place d (omega (arith, c.requires))
    ∙ any-default turns c.args.place d one inside ∙ sym c.seen.ensures ∙ same ∙ c.seen-2.ensures
    ∙ any-default turns (c.len-last.result - 1) other d last ∙ ap (λ k. get_or turns (k - 1) d) c.len-last.ensures

pub returns-then-is_none-clause-others : goal.returns-then-is_none-clause-others
returns-then-is_none-clause-others g c k d other near =
    let turns = turns_of c.args.cells.now in
    ap (λ xs. get_or xs k d) c.drop_last.ensures.items ∙ get_or-take (length turns - 1) turns k d (omega (arith, near))

pub returns-else-is_none-clause-told : goal.returns-else-is_none-clause-told
returns-else-is_none-clause-told g c d =
    let turns = turns_of c.args.cells.now in
    let inside : c.args.place < length turns = omega (arith, c.requires) in
    let last : c.len-last.result - 1 < length turns = omega (arith, c.len-last.ensures, c.requires) in
    let told = told-at c.between-difference.result turns c.args.place (c.len-last.result - 1) (turn_seen c.seen.result) (turn_seen c.seen-2.result) d inside last
    c.seen.ensures c.seen-2.ensures c.between-difference.ensures in
    subst (λ k. IsTold c.between-difference.result (get_or turns c.args.place d) (get_or turns (k - 1) d)) c.len-last.ensures told
