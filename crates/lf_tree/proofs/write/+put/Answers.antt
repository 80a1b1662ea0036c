use Rattle.std.proofs.Common.{refl, arith, map, ◌++◌}
use Rattle.lf_tree.specs.Texts.{in_brackets, node_text}
use Rattle.lf_tree.proofs.ListLemmas.{list-first, list-last, list-more}
use Rattle.lf_tree.proofs.PutLemmas.{put-Branch, put-Misses, put-Reaches}
use Rattle.lf_tree.proofs.write.+put.Goals as goal

pub put_kids-kids-preserved : goal.put_kids-kids-preserved
put_kids-kids-preserved t c =
    list-more node_text c.args.kids.now c.kids.i c.index-kids-i.result c.index-kids-i.result c.kids.text.items c.put_comma.new.text.items
    c.put_node.new.text.items (c.args.text.now.items ++ in_brackets (map node_text c.args.kids.now)) (omega arith) c.index-kids-i.is
    c.kids.invariant c.in_ok-put_comma.ensures c.in_ok-put_node.ensures

pub put_node-returns-in-Misses : goal.put_node-returns-in-Misses
put_node-returns-in-Misses t c =
    put-Misses c.args.node.now c.args.text.now.items c.extend_from_slice.new.self.items c.extend_from_slice.result c.in-Misses.is
    c.extend_from_slice.ensures.items

pub put_node-returns-in-Reaches : goal.put_node-returns-in-Reaches
put_node-returns-in-Reaches t c =
    put-Reaches c.args.node.now c.args.text.now.items c.extend_from_slice-in-Reaches.new.self.items c.extend_from_slice-in-Reaches.result
    c.in-Reaches.is c.extend_from_slice-in-Reaches.ensures.items

pub put_node-returns-in_ok-push-in-Branch : goal.put_node-returns-in_ok-push-in-Branch
put_node-returns-in_ok-push-in-Branch t c =
    put-Branch c.args.node.now c.in-Branch.reach c.in-Branch.edges c.as_slice.result.now c.in-Branch.kids c.as_slice-in-Branch.result.now
    c.args.text.now.items c.extend_from_slice-in-Branch.new.self.items c.put_faults.new.text.items
    c.extend_from_slice-in-Branch-2.new.self.items c.put_kids.new.text.items c.extend_from_slice-in-Branch-3.new.self.items
    c.put_reach.new.text.items c.push.new.self.items c.in-Branch.is c.as_slice.ensures c.as_slice-in-Branch.ensures
    c.in_ok-extend_from_slice-in-Branch.ensures.items c.in_ok-put_faults-in-Branch.ensures
    c.in_ok-extend_from_slice-in-Branch-2.ensures.items c.in_ok-put_kids-in-Branch.ensures
    c.in_ok-extend_from_slice-in-Branch-3.ensures.items c.in_ok-put_reach-in-Branch.ensures c.in_ok-push-in-Branch.ensures.items

pub put_kids-kids-init : goal.put_kids-kids-init
put_kids-kids-init t c =
    list-first node_text c.args.kids.now c.args.kids.now c.args.text.now.items c.push.new.self.items refl c.in_ok-push.ensures.items

pub put_kids-returns : goal.put_kids-returns
put_kids-returns t c =
    list-last node_text c.args.kids.now c.kids.i c.kids.text.items c.push-2.new.self.items
    (c.args.text.now.items ++ in_brackets (map node_text c.args.kids.now)) (omega arith) c.kids.invariant c.in_ok-push-2.ensures.items
