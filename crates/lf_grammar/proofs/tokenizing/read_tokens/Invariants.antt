use Rattle.std.proofs.Common.{◌≡◌, ◌≤◌, length}
use Rattle.lf_grammar.specs.Tokens.{tokens_of, tokens_behind, behind_tokens, pieces, Nothing}
use Rattle.lf_grammar.proofs.tokenizing.read_tokens.Given as goal

-- the tokens so far stand before those of the rest
abbrev pub invariant-loop-first : goal.invariant-loop-first
invariant-loop-first l =
    record {
      read : tokens_of l.text ≡ behind_tokens l.tokens.items (tokens_behind (length l.tokens.items) l.depth (pieces Nothing l.rest));
      shallow : l.depth ≤ 12;
    }

abbrev pub decreases-loop-first : goal.decreases-loop-first
decreases-loop-first l = length l.rest
