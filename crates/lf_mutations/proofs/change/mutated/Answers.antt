use Rattle.std.proofs.Common.{◌≡◌, ◌+◌, arith}
use Rattle.std.specs.Prelude.{None, Some}
use Rattle.lf_mutations.specs.Mutations.{number_of, mutated}
use Rattle.lf_mutations.proofs.PlacesLemmas.{mutated-none, mutated-place}
use Rattle.lf_mutations.proofs.change.mutated.Goals as goal

pub returns-in_err-place : goal.returns-in_err-place
returns-in_err-place c =
    let before = c.in_ok-before.before in
    let number : number_of c.args.mutation ≡ before + 1 = omega (arith, c.in_ok-before.ensures, c.rule.ensures, c.from.ensures) in
    let none : mutated c.args.definition c.args.mutation ≡ None =
    mutated-none c.args.definition c.args.mutation before c.as_slice.result.now number c.as_slice.ensures c.in_err-place.ensures.none in
    cc none

pub returns-then-change_at : goal.returns-then-change_at
returns-then-change_at c =
    let before = c.in_ok-before.before in
    let number : number_of c.args.mutation ≡ before + 1 = omega (arith, c.in_ok-before.ensures, c.rule.ensures, c.from.ensures) in
    mutated-place c.args.definition c.args.mutation before c.as_slice.result.now c.in_ok-place.place (Some c.change_at.new.chains) number
    c.as_slice.ensures c.in_ok-place.ensures.found c.if-change_at.ensures

pub returns-else-change_at : goal.returns-else-change_at
returns-else-change_at c =
    let before = c.in_ok-before.before in
    let number : number_of c.args.mutation ≡ before + 1 = omega (arith, c.in_ok-before.ensures, c.rule.ensures, c.from.ensures) in
    mutated-place c.args.definition c.args.mutation before c.as_slice.result.now c.in_ok-place.place None number
    c.as_slice.ensures c.in_ok-place.ensures.found c.if-change_at.ensures
