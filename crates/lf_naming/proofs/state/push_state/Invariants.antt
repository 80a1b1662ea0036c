use Rattle.std.proofs.Common.{◌≡◌, ◌++◌, map, take, string_bytes}
use Rattle.std.specs.List.{join_with_byte}
use Rattle.lf_naming.specs.Texts.{shown_text}
use Rattle.lf_naming.proofs.state.push_state.Given as goal

-- the variables so far
abbrev pub invariant-shown : goal.invariant-shown
invariant-shown l =
    string_bytes l.text
    ≡ string_bytes l.initial.text ++ join_with_byte 32 (map (shown_text l.definition l.nodes l.state) (take l.place l.definition.trace))
