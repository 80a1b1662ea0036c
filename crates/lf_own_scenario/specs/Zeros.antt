-- Divisions by a constant that is 0.
use Rattle.std.specs.Prelude.{Bool, true, false, ◌&&◌, ◌||◌, ◌==◌, List, Option, None, Some, slice_get}
use Rattle.std.specs.List.{list_any}
use Rattle.lf_rules.specs.Terms.{Term}
use Rattle.lf_rules.specs.Terms as terms
use Rattle.lf_rules.specs.declared.expr.Binary.{Binary}
use Rattle.lf_rules.specs.declared.expr.Binary.TheVariants as binaries
use Rattle.lf_rules.specs.declared.expr.Leaf.TheVariants as leaves
use Rattle.lf_rules.specs.declared.rule.Assignment.{Assignment}
use Rattle.lf_rules.specs.declared.rule.Target.{Target}
use Rattle.lf_rules.specs.declared.rule.Target.TheVariants as targets
use Rattle.lf_rules.specs.declared.rule.Send.{Send}
use Rattle.lf_rules.specs.declared.rule.Rule.{Rule}
use Rattle.lf_rules.specs.declared.rule.Chain.{Chain}
use Rattle.lf_rules.specs.declared.definition.Value.{Value}
use Rattle.lf_rules.specs.declared.definition.Value.TheVariants as values
use Rattle.lf_rules.specs.declared.definition.Given.{Given}
use Rattle.lf_rules.specs.declared.definition.Given.TheVariants as givens
use Rattle.lf_rules.specs.declared.definition.Guard.{Guard}
use Rattle.lf_rules.specs.declared.definition.Named.{Named}
use Rattle.lf_rules.specs.declared.definition.Definition.{Definition}
use Rattle.lf_rules.specs.declared.topic.Topic.{Topic}
use Rattle.lf_promises.specs.declared.promise.Promise.{Promise, fold-Promise}
use Rattle.lf_promises.specs.declared.promise.Promise.TheOpen.{Promise-F}

-- a value is the number 0, and a constant is 0 at some node
abbrev pub is_zero : Value → Bool
is_zero (values.Number n) = n == 0
is_zero (values.Truth b) = false
is_zero (values.Nodes e) = false

abbrev pub has_zero : Given → Bool
has_zero (givens.One v) = is_zero v
has_zero (givens.Each vs) = list_any is_zero vs

abbrev pub is_zero_at : Option Given → Bool
is_zero_at None = false
is_zero_at (Some given) = has_zero given

abbrev pub is_division : Binary → Bool
is_division binaries.Remainder = true
is_division other = false

module _ (given : List Given) where
  -- an expression is such a constant
  abbrev pub is_zero_leaf : Term → Bool
  is_zero_leaf (terms.Leaf (leaves.Given i)) = is_zero_at (slice_get given i)
  is_zero_leaf other = false

  -- somewhere in it an expression divides by one
  abbrev pub divides_by_zero : Term → Bool
  divides_by_zero (terms.Leaf x) = false
  divides_by_zero (terms.Unary op a) = divides_by_zero a
  divides_by_zero (terms.Binary op a b) = (is_division op && is_zero_leaf b) || (divides_by_zero a || divides_by_zero b)
  divides_by_zero (terms.At row place) = divides_by_zero place
  divides_by_zero (terms.Over op set body) = divides_by_zero set || divides_by_zero body

  -- and so do what is made of expressions: of an assignment the place, too
  abbrev pub target_divides : Target → Bool
  target_divides (targets.Variable i) = false
  target_divides (targets.Cell t place) = divides_by_zero place
  target_divides (targets.Cells t places) = divides_by_zero places

  abbrev pub set_divides : Assignment → Bool
  set_divides x = target_divides x.target || divides_by_zero x.value

  abbrev pub send_divides : Send → Bool
  send_divides x = list_any divides_by_zero x.fields || divides_by_zero x.to

  abbrev pub rule_divides : Rule → Bool
  rule_divides x = divides_by_zero x.guard || (list_any set_divides x.sets || list_any send_divides x.sends)

  abbrev pub chain_divides : Chain → Bool
  chain_divides x = divides_by_zero x.who || list_any rule_divides x.rules

  abbrev pub fact_divides : Guard → Bool
  fact_divides x = divides_by_zero x.value

  abbrev pub let_divides : Named → Bool
  let_divides x = divides_by_zero x.value

  -- a protocol: in a rule, a named guard or a named expression, whether it is used or not
  abbrev pub definition_divides : Definition → Bool
  definition_divides d = list_any chain_divides d.chains || (list_any fact_divides d.facts || list_any let_divides d.lets)

  -- a set of which something is promised
  abbrev pub group_divides : Option Term → Bool
  group_divides None = false
  group_divides (Some e) = divides_by_zero e

  -- a topic
  abbrev pub topic_divides : Topic → Bool
  topic_divides x = divides_by_zero x.value || (divides_by_zero x.key || divides_by_zero x.guard)

  -- one level of a promise, with the truth of each part in its place
  abbrev pub divides_step : Promise-F Bool → Bool
  divides_step (Promise-F.All parts) = list_any (λ b. b) parts
  divides_step (Promise-F.Any parts) = list_any (λ b. b) parts
  divides_step (Promise-F.Always parts) = list_any (λ b. b) parts
  divides_step (Promise-F.Ever parts) = list_any (λ b. b) parts
  divides_step (Promise-F.Nodes many fact of) = group_divides of
  divides_step (Promise-F.Down n) = false
  divides_step (Promise-F.At n fact) = false
  divides_step (Promise-F.One topic) = topic_divides topic

  abbrev pub promise_divides : Promise → Bool
  promise_divides = fold-Promise Bool divides_step
