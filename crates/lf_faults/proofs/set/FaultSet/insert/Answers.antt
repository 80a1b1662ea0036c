use Rattle.std.proofs.Common.{◌<◌, sym, arith, subst}
use Rattle.std.proofs.lemmas.Bool.{iff_false}
use Rattle.lf_faults.specs.Faults.{IsAscending}
use Rattle.lf_faults.proofs.PlacesLemmas.{place_within, insert_items, insert_fills}
use Rattle.lf_faults.proofs.Orders.{inserted-ascending}
use Rattle.lf_faults.proofs.set.FaultSet.insert.Goals as goal

pub with_at-requires : goal.with_at-requires
with_at-requires c =
    let within =
    place_within c.self.inside.count c.self.inside.faults c.args.self.now c.args.fault c.place-at.result c.self.invariant.0 c.self.view_is
    c.place-at.ensures in
    omega (arith, within, c.self.invariant.0.few, c.if-from-eq-MOST_FAULTS.false)

pub invariant_of-result : goal.invariant_of-result
invariant_of-result c =
    let room : c.self.inside.count < 6 = omega (arith, c.self.invariant.0.few, c.if-from-eq-MOST_FAULTS.false) in
    let items =
    insert_items c.self.inside.count c.self.inside.faults c.args.self.now c.args.fault c.place-at.result c.self.invariant.0 c.self.view_is
    c.place-at.ensures c.with_at.result room c.with_at.ensures in (
      insert_fills c.self.inside.count c.self.inside.faults c.args.self.now c.args.fault c.place-at.result c.self.invariant.0 c.self.view_is
          c.place-at.ensures c.with_at.result room c.with_at.ensures,
      subst IsAscending (sym items)
          (inserted-ascending c.args.fault c.args.self.now (iff_false c.contains.ensures c.if-contains.false)
          (subst IsAscending c.self.view_is c.self.invariant.1)),
    )

pub returns-clause-value : goal.returns-clause-value
returns-clause-value c =
    let room : c.self.inside.count < 6 = omega (arith, c.self.invariant.0.few, c.if-from-eq-MOST_FAULTS.false) in
    insert_items c.self.inside.count c.self.inside.faults c.args.self.now c.args.fault c.place-at.result c.self.invariant.0 c.self.view_is
    c.place-at.ensures c.with_at.result room c.with_at.ensures
