use Rattle.std.proofs.Common.{◌≡◌, ◌<◌, ◌+◌, ◌-◌, ◌++◌, length, take, refl, sym, ap, ◌∙◌, subst, arith}
use Rattle.std.specs.Prelude.{slice_get, IfOk, Some}
use Rattle.std.proofs.lemmas.Option.{slice_get_read}
use Rattle.lf_faults.specs.Faults.{inserted}
use Rattle.lf_sim.specs.Settings.{world_of}
use Rattle.lf_tree.specs.declared.tree.Node.TheVariants as kind
use Rattle.lf_certificate.specs.Accepted.{IsRight, IsRightBranch}
use Rattle.lf_certificate.specs.Places.{Place}
use Rattle.lf_check.specs.Nodes.{place_of}
use Rattle.lf_check.specs.Walks.{IsWalkOver, Lowers, Stand, kid_of, stand_of}
use Rattle.lf_check.proofs.NodeLemmas.{given-Branch, right-none, right-Branch}
use Rattle.lf_check.proofs.WalkLemmas.{stops-here, passes-Misses, passes-Reaches, goes-Branch, so_far-first, so_far-more, stops-kid, passes-kids}
use Rattle.lf_check.proofs.WalkLemmas.{kid_of-some, walk-at}
use Rattle.lf_check.proofs.walk.+visit.Goals as goal

pub visit-returns-then-is_some-clause-walk : goal.visit-returns-then-is_some-clause-walk
visit-returns-then-is_some-clause-walk g t c =
    let j = c.args.judged.now in
    let s = j.setting.now in
    let walk = c.args.walk.now in
    stops-here (world_of s) s.spec j.formula.now j.last c.args.depth (place_of c.args.node.now c.args.set walk.excluded.items) (stand_of walk)
    (stand_of c.fault_of.new.walk) c.in_ok-fault.fault (sym c.is_some.ensures ∙ c.if-is_some.true) (ap (λ (x : Stand). x.path) c.in_ok-fault.ensures.stand)
    c.in_ok-fault.ensures.fault

pub visit-visit_kids-requires : goal.visit-visit_kids-requires
visit-visit_kids-requires g t c κs within =
    let j = c.args.judged.now in
    let s = j.setting.now in
    let excluded = c.args.walk.now.excluded.items in
    let p : Place = place_of c.args.node.now c.args.set excluded in
    let branch = c.in-Branch in
    let edges = c.as_slice.result.now in
    let kids = c.as_slice-in-Branch.result.now in
    let right : IsRight (world_of s) s.spec j.formula.now j.last c.args.depth p =
    right-none (world_of s) s.spec j.formula.now j.last c.args.depth p c.in_ok-fault.fault (sym c.is_some.ensures ∙ c.if-is_some.false)
    c.in_ok-fault.ensures.fault in
    let is : c.args.node.now ≡ kind.Branch branch.reach edges kids =
    given-Branch c.args.node.now branch.reach branch.edges edges branch.kids kids branch.is c.as_slice.ensures c.as_slice-in-Branch.ensures in
    let r : IsRightBranch (world_of s) s.spec j.formula.now j.last c.args.depth c.args.set excluded branch.reach edges kids =
    right-Branch (world_of s) s.spec j.formula.now j.last c.args.depth p branch.reach edges kids is right in (
      omega arith,
      (
        within.0,
        (within.1.0, (within.1.1.0, (within.1.1.1, (r.above, ((λ f h. ((r.required.each f).0 h).allowed), (r.each, c.in_ok-fault.ensures.spent)))))),
      ),
    )

pub visit-returns-in-Misses-clause-walk : goal.visit-returns-in-Misses-clause-walk
visit-returns-in-Misses-clause-walk g t c =
    let j = c.args.judged.now in
    let s = j.setting.now in
    let walk = c.args.walk.now in
    let p : Place = place_of c.args.node.now c.args.set walk.excluded.items in
    let met = c.fault_of.new.walk in
    let stand = c.in_ok-fault.ensures.stand in
    passes-Misses (world_of s) s.spec j.formula.now j.last c.args.depth p (stand_of walk)
    (record { excluded = met.excluded.items; path = met.path.items; first = c.lowered-walk.result }) c.in-Misses.is
    (right-none (world_of s) s.spec j.formula.now j.last c.args.depth p c.in_ok-fault.fault (sym c.is_some.ensures ∙ c.if-is_some.false)
    c.in_ok-fault.ensures.fault)
    (ap (λ (x : Stand). x.excluded) stand) (ap (λ (x : Stand). x.path) stand)
    (subst (λ o. Lowers (λ other. c.args.set ≡ other) o c.lowered-walk.result) (ap (λ (x : Stand). x.first) stand) c.lowered-walk.ensures)

pub visit-returns-in-Reaches-clause-walk : goal.visit-returns-in-Reaches-clause-walk
visit-returns-in-Reaches-clause-walk g t c =
    let j = c.args.judged.now in
    let s = j.setting.now in
    let walk = c.args.walk.now in
    let p : Place = place_of c.args.node.now c.args.set walk.excluded.items in
    passes-Reaches (world_of s) s.spec j.formula.now j.last c.args.depth p (stand_of walk) (stand_of c.fault_of.new.walk) c.in-Reaches.is
    (right-none (world_of s) s.spec j.formula.now j.last c.args.depth p c.in_ok-fault.fault (sym c.is_some.ensures ∙ c.if-is_some.false)
    c.in_ok-fault.ensures.fault)
    (ap (λ (x : Stand). x.excluded) c.in_ok-fault.ensures.stand) (ap (λ (x : Stand). x.path) c.in_ok-fault.ensures.stand)
    (ap (λ (x : Stand). x.first) c.in_ok-fault.ensures.stand)

pub visit-returns-in-Branch-clause-walk : goal.visit-returns-in-Branch-clause-walk
visit-returns-in-Branch-clause-walk g t c =
    let j = c.args.judged.now in
    let s = j.setting.now in
    let walk = c.args.walk.now in
    let p : Place = place_of c.args.node.now c.args.set walk.excluded.items in
    let branch = c.in-Branch in
    let edges = c.as_slice.result.now in
    let kids = c.as_slice-in-Branch.result.now in
    goes-Branch (world_of s) s.spec j.formula.now j.last c.args.depth p branch.reach edges kids
    (given-Branch c.args.node.now branch.reach branch.edges edges branch.kids kids branch.is c.as_slice.ensures
    c.as_slice-in-Branch.ensures)
    (right-none (world_of s) s.spec j.formula.now j.last c.args.depth p c.in_ok-fault.fault (sym c.is_some.ensures ∙ c.if-is_some.false)
    c.in_ok-fault.ensures.fault)
    c.visit_kids.result (stand_of walk) (stand_of c.visit_kids.new.walk)
    (subst (λ (x : Stand). IfOk c.visit_kids.result (IsWalkOver (world_of s) s.spec j.formula.now j.last c.args.depth
    (kid_of edges kids c.args.set x.excluded) (length edges) x (stand_of c.visit_kids.new.walk))) c.in_ok-fault.ensures.stand c.visit_kids.ensures.walk)

pub visit_kids-kids-init : goal.visit_kids-kids-init
visit_kids-kids-init g t c =
    let j = c.args.judged.now in
    let s = j.setting.now in (
      so_far-first (world_of s) s.spec j.formula.now j.last c.args.depth
          (kid_of c.args.edges.now c.args.kids.now c.args.set c.args.walk.now.excluded.items) c.args.edges.now (stand_of c.args.walk.now),
      c.requires.spent,
    )

pub visit_kids-with-larger-requires : goal.visit_kids-with-larger-requires
visit_kids-with-larger-requires g t c =
    let i = c.kids.i in
    let few : i < length c.args.edges.now = omega (arith, c.kids-test.true, c.requires.count) in
    c.requires.each c.index-edges-i.result (i, few, sym c.index-edges-i.is)

pub visit_kids-returns-then-is_some-clause-walk : goal.visit_kids-returns-then-is_some-clause-walk
visit_kids-returns-then-is_some-clause-walk g t c =
    let j = c.args.judged.now in
    let s = j.setting.now in
    let start = c.args.walk.now.excluded.items in
    let edges = c.args.edges.now in
    let kids = c.args.kids.now in
    let i = c.kids.i in
    let edge = c.index-edges-i.result in
    let node = c.index-kids-i.result in
    let few : i < length edges = omega (arith, c.kids-test.true, c.requires.count) in
    let there : i < length kids = omega (arith, c.kids-test.true) in
    let at : slice_get edges i ≡ Some edge = slice_get_read edges (length edges) i edge refl few c.index-edges-i.is in
    let stands : slice_get kids i ≡ Some node = slice_get_read kids (length kids) i node refl there c.index-kids-i.is in
    let here = c.kids.walk in
    let pushed : Stand = record { excluded = here.excluded.items; path = c.go_to.new.path.items; first = here.first } in
    let met : Stand = stand_of c.visit.new.walk in
    stops-kid (world_of s) s.spec j.formula.now j.last c.args.depth (kid_of edges kids c.args.set start) i
    (place_of node (inserted edge c.args.set) (start ++ take i edges)) (kid_of-some edges kids c.args.set start i edge node at stands) edges
    (length edges) (stand_of c.args.walk.now) (stand_of here) pushed met c.in_ok-found.found (sym c.is_some.ensures ∙ c.if-is_some.true)
    c.kids.invariant.0 c.in_ok-go_to.ensures
    (walk-at (world_of s) s.spec j.formula.now j.last (c.args.depth + 1) node c.with-larger.result (inserted edge c.args.set) here.excluded.items
    (start ++ take i edges) pushed met c.in_ok-found.found c.with-larger.ensures c.kids.invariant.0.excluded c.in_ok-found.ensures.walk)

pub visit_kids-kids-preserved : goal.visit_kids-kids-preserved
visit_kids-kids-preserved g t c =
    let j = c.args.judged.now in
    let s = j.setting.now in
    let start = c.args.walk.now.excluded.items in
    let edges = c.args.edges.now in
    let kids = c.args.kids.now in
    let i = c.kids.i in
    let edge = c.index-edges-i.result in
    let node = c.index-kids-i.result in
    let few : i < length edges = omega (arith, c.kids-test.true, c.requires.count) in
    let there : i < length kids = omega (arith, c.kids-test.true) in
    let at : slice_get edges i ≡ Some edge = slice_get_read edges (length edges) i edge refl few c.index-edges-i.is in
    let stands : slice_get kids i ≡ Some node = slice_get_read kids (length kids) i node refl there c.index-kids-i.is in
    let here = c.kids.walk in
    let pushed : Stand = record { excluded = here.excluded.items; path = c.go_to.new.path.items; first = here.first } in
    let met : Stand = stand_of c.visit.new.walk in
    let path = c.visit.new.walk.path in (
      so_far-more (world_of s) s.spec j.formula.now j.last c.args.depth (kid_of edges kids c.args.set start) i
          (place_of node (inserted edge c.args.set) (start ++ take i edges)) (kid_of-some edges kids c.args.set start i edge node at stands) edges
          edge (stand_of c.args.walk.now) (stand_of here) pushed met
          (record { excluded = c.exclude.new.excluded.items; path = c.pop-place.new.self.items; first = c.visit.new.walk.first }) at c.kids.invariant.0
          refl c.in_ok-go_to.ensures refl c.in_ok-found.found (sym c.is_some.ensures ∙ c.if-is_some.false)
          (walk-at (world_of s) s.spec j.formula.now j.last (c.args.depth + 1) node c.with-larger.result (inserted edge c.args.set) here.excluded.items
          (start ++ take i edges) pushed met c.in_ok-found.found c.with-larger.ensures c.kids.invariant.0.excluded c.in_ok-found.ensures.walk)
          (c.in_ok-exclude.ensures edge at) (c.pop-place.ensures.rest ∙ ap (λ n. take (n - 1) path.items) path.ok.0) refl,
      c.visit.ensures.spent,
    )

pub visit_kids-returns-clause-walk : goal.visit_kids-returns-clause-walk
visit_kids-returns-clause-walk g t c =
    let j = c.args.judged.now in
    let s = j.setting.now in
    let start = c.args.walk.now in
    let edges = c.args.edges.now in
    let all : c.kids.i ≡ length edges = omega (arith, c.kids-test.false, c.kids.auto.i-end, c.requires.count) in
    passes-kids (world_of s) s.spec j.formula.now j.last c.args.depth (kid_of edges c.args.kids.now c.args.set start.excluded.items) edges c.kids.i
    (length edges) c.len-before.result (stand_of start) (stand_of c.kids.walk)
    (record { excluded = c.truncate.new.self.items; path = c.kids.walk.path.items; first = c.kids.walk.first }) c.kids.invariant.0 all
    (c.len-before.ensures ∙ start.excluded.ok.0) c.truncate.ensures.items refl refl
