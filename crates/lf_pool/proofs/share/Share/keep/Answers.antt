use Rattle.std.proofs.Common.{sym, subst}
use Rattle.std.proofs.lemmas.List.Elements.{All-push}
use Rattle.std.specs.List.{All}
use Rattle.lf_pool.specs.Holds.{IsLeftIn}
use Rattle.lf_pool.proofs.share.Share.keep.Goals as goal

pub invariant_of-self : goal.invariant_of-self
invariant_of-self g c =
    let P = IsLeftIn g.L.Searched.scenario in
    let m = c.args.self.now in
    record {
      one_part = m.one_part;
      same = m.same;
      left = subst (All P) (sym c.push_reserved.ensures.items) (All-push P m.spent.items c.in-Some.left m.left (rw c.in-Some.is at c.requires));
    }
