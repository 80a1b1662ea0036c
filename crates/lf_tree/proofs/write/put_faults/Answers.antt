use Rattle.std.proofs.Common.{refl, arith, ◌++◌}
use Rattle.lf_tree.specs.Texts.{faults_text, quoted}
use Rattle.lf_tree.proofs.ListLemmas.{list-first, list-last, list-more}
use Rattle.lf_tree.proofs.write.put_faults.Goals as goal

pub faults-preserved : goal.faults-preserved
faults-preserved c =
    list-more quoted c.args.faults.now c.faults.i c.index-faults-i.result c.index-faults-i.result c.faults.text.items
    c.put_comma.new.text.items c.put_fault.new.text.items (c.args.text.now.items ++ faults_text c.args.faults.now) (omega arith)
    c.index-faults-i.is c.faults.invariant c.in_ok-put_comma.ensures c.in_ok-put_fault.ensures

pub faults-init : goal.faults-init
faults-init c = list-first quoted c.args.faults.now c.args.faults.now c.args.text.now.items c.push.new.self.items refl c.in_ok-push.ensures.items

pub returns : goal.returns
returns c =
    list-last quoted c.args.faults.now c.faults.i c.faults.text.items c.push-2.new.self.items (c.args.text.now.items ++ faults_text c.args.faults.now)
    (omega arith) c.faults.invariant c.in_ok-push-2.ensures.items
