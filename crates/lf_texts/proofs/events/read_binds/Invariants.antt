use Rattle.std.proofs.Common.{◌≡◌, [], drop}
use Rattle.lf_texts.specs.Events.{first_bind}
use Rattle.lf_texts.specs.Lists.{bracketed}
use Rattle.lf_texts.proofs.events.read_binds.Given as goal

-- the names so far stand before those of the rest
abbrev pub invariant-loop-kind : goal.invariant-loop-kind
invariant-loop-kind l =
    bracketed (λ kind. first_bind l.names) (drop l._kind-index l.kinds) l.binds.items l.rest
    ≡ bracketed (λ kind. first_bind l.names) l.kinds [] l.tokens
