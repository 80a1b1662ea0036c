use Rattle.std.proofs.Common.{◌≡◌, Some, sym, ◌∙◌}
use Rattle.lf_trace.proofs.naming.names_are_one.Goals as goal

pub returns : goal.returns
returns c one other first second =
    let both : Some one ≡ Some other = sym ((c.read_faults-named.ensures one).1 first) ∙ (c.read_faults-named.ensures other).1 second in
    cc
