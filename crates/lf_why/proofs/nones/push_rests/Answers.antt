use Rattle.std.proofs.Common.{◌++◌, ap, ◌∙◌, string_bytes}
use Rattle.lf_outcome.specs.Reaches.{reach_at}
use Rattle.lf_why.specs.Rests.{rest_line}
use Rattle.lf_why.proofs.Told.{more_behind}
use Rattle.lf_why.proofs.nones.push_rests.Goals as goal

pub nodes-preserved : goal.nodes-preserved
nodes-preserved c =
    more_behind (string_bytes c.args.text.now) (string_bytes c.nodes.text) (string_bytes c.push_rest.new.text)
    (λ n. rest_line n (reach_at c.args.reach.now n)) c.nodes.node c.nodes.invariant
    (c.in_ok-push_rest.ensures ∙ ap (λ t. string_bytes c.nodes.text ++ rest_line c.nodes.node t) c.at.ensures.value)
