-- When an expression is worked out.
use Rattle.std.specs.Prelude.{ℕ, List, Option, None, Some, slice_get, replicate}
use Rattle.lf_rule_machine.specs.declared.moment.Moment.{Moment as Held}

-- a moment of a node's step: what an expression's value depends on beside the definition and the node's state. The values of the constants are those at each
-- node, and it is the node that is called so in the expression
pub record Moment : Type 0 where
  pub nodes : ℕ
  pub me : ℕ
  pub given : List (List ℕ)
  pub step : ℕ
  pub sender : ℕ
  pub fields : List ℕ
  pub it : ℕ

-- the moment of which the code keeps what there is
abbrev pub seen : Held → Moment
seen at = record {
  nodes = at.nodes;
  me = at.me;
  given = at.given.now;
  step = at.step;
  sender = at.sender;
  fields = at.fields;
  it = at.it;
}

-- the same moment with another node for it
abbrev pub with_it : Moment → ℕ → Moment
with_it at n = record {
  nodes = at.nodes;
  me = at.me;
  given = at.given;
  step = at.step;
  sender = at.sender;
  fields = at.fields;
  it = n;
}

-- the constants at a node
abbrev pub row_of : Option (List ℕ) → List ℕ
row_of None = replicate 16 0
row_of (Some row) = row

-- those at the node whose step it is
abbrev pub given_here : Moment → List ℕ
given_here at = row_of (slice_get at.given at.me)
