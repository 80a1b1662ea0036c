use Rattle.std.proofs.Common.{arith, ◌++◌, map, length, inl, inr, refl}
use Rattle.lf_tree.specs.Rows.{beneath, seen}
use Rattle.lf_tree.proofs.RowLemmas.{rows-first, rows-grow, rows-more, rows-none}
use Rattle.lf_tree.proofs.preorder.+put_beneath.Goals as goal

pub returns-in-Misses : goal.returns-in-Misses
returns-in-Misses t c = rows-none c.args.node.now c.args.place c.args.depth _ (map seen c.args.rows.now.items) (inl c.in-Misses.is)

pub returns-in-Reaches : goal.returns-in-Reaches
returns-in-Reaches t c = rows-none c.args.node.now c.args.place c.args.depth _ (map seen c.args.rows.now.items) (inr c.in-Reaches.is)

pub kids-init : goal.kids-init
kids-init t c = record {
  whole = rows-first c.args.node.now c.in-Branch.reach c.in-Branch.edges c.in-Branch.kids c.as_slice-kid-items.result.now c.args.place
      c.args.depth (length c.args.rows.now.items) (map seen c.args.rows.now.items) c.in-Branch.is c.as_slice-kid-items.ensures;
  deep = omega arith;
}

pub kids-preserved : goal.kids-preserved
kids-preserved t c = record {
  whole = rows-more c.args.place c.args.depth (length c.kids.rows.items) c.kids.i c.len-next.result _ (length c.put_beneath.new.rows.items)
      c.as_slice-kid-items.result.now c.kid-item.result _ c.kids.rows.items c.push.new.self.items c.put_beneath.new.rows.items
      (map seen c.args.rows.now.items ++ beneath c.args.node.now c.args.place c.args.depth (length c.args.rows.now.items))
      (omega arith) c.kid-item.is refl refl (omega arith) (omega arith) refl c.kids.invariant.whole c.in_ok-push-in-Branch.ensures.items
      c.in_ok-put_beneath-in-Branch.ensures;
  deep = omega (
    arith,
    rows-grow c.kids.rows.items c.push.new.self.items c.put_beneath.new.rows.items _ _ c.in_ok-push-in-Branch.ensures.items
        c.in_ok-put_beneath-in-Branch.ensures,
  );
}
