-- Rules say the same to every thread: what a protocol of rules is made of, part by part.
use denote.Param.Send.{IsSend, IsSync, sendable}
use Rattle.std.proofs.Crossing.{crosses}
use Rattle.lf_rules.proofs.Laws.{trees_cross}
use Rattle.lf_rules.specs.contracts.name.Name as name
use Rattle.lf_rules.specs.contracts.expr.Expr as expr
use Rattle.lf_rules.specs.contracts.kind.Kind as kind
use Rattle.lf_rules.specs.contracts.definition.Variable as variable
use Rattle.lf_rules.specs.contracts.definition.NoteForm as form
use Rattle.lf_rules.specs.contracts.definition.Value as value
use Rattle.lf_rules.specs.contracts.definition.Given as given
use Rattle.lf_rules.specs.contracts.definition.Constant as constant
use Rattle.lf_rules.specs.contracts.definition.Named as named
use Rattle.lf_rules.specs.contracts.definition.Guard as guard
use Rattle.lf_rules.specs.contracts.rule.Assignment as assignment
use Rattle.lf_rules.specs.contracts.rule.Send as sending
use Rattle.lf_rules.specs.contracts.rule.Rule as rule
use Rattle.lf_rules.specs.contracts.rule.Chain as chain
use Rattle.lf_rules.specs.contracts.definition.Definition as definition
use Rattle.lf_rules.specs.contracts.rules.Rules as rules
use Rattle.lf_rules.specs.contracts.topic.Topic as topic
use Rattle.lf_rule_machine.specs.contracts.indexed.Indexed as indexed
use Rattle.lf_rule_machine.specs.contracts.machine.Ruled as ruled
use Rattle.lf_protocols.specs.contracts.protocol.Kind as which

pub name_send : IsSend name.the_row
name_send = search (crosses, sendable) depth 60 fits 20000

pub name_sync : IsSync name.the_row
name_sync = search (crosses, sendable) depth 60 fits 20000

pub expr_send : IsSend expr.the_row
expr_send = search (trees_cross, crosses, sendable) depth 60 fits 20000

pub expr_sync : IsSync expr.the_row
expr_sync = search (trees_cross, crosses, sendable) depth 60 fits 20000

pub kind_send : IsSend kind.the_row
kind_send = search (crosses, sendable) depth 60 fits 20000

pub kind_sync : IsSync kind.the_row
kind_sync = search (crosses, sendable) depth 60 fits 20000

pub variable_send : IsSend variable.the_row
variable_send = search (name_send, crosses, sendable) depth 60 fits 20000

pub variable_sync : IsSync variable.the_row
variable_sync = search (name_sync, crosses, sendable) depth 60 fits 20000

pub form_send : IsSend form.the_row
form_send = search (name_send, kind_send, crosses, sendable) depth 60 fits 20000

pub form_sync : IsSync form.the_row
form_sync = search (name_sync, kind_sync, crosses, sendable) depth 60 fits 20000

pub value_send : IsSend value.the_row
value_send = search (expr_send, crosses, sendable) depth 60 fits 20000

pub value_field_send : IsSend (value.the_field).row
value_field_send = search (expr_send, crosses, sendable) depth 60 fits 20000

pub value_sync : IsSync value.the_row
value_sync = search (expr_sync, crosses, sendable) depth 60 fits 20000

pub value_field_sync : IsSync (value.the_field).row
value_field_sync = search (expr_sync, crosses, sendable) depth 60 fits 20000

pub given_field_send : IsSend (given.the_field).row
given_field_send = search (value_send, value_field_send, crosses, sendable) depth 60 fits 20000

pub given_field_sync : IsSync (given.the_field).row
given_field_sync = search (value_sync, value_field_sync, crosses, sendable) depth 60 fits 20000

pub constant_send : IsSend constant.the_row
constant_send = search (name_send, given_field_send, crosses, sendable) depth 60 fits 20000

pub constant_sync : IsSync constant.the_row
constant_sync = search (name_sync, given_field_sync, crosses, sendable) depth 60 fits 20000

pub named_send : IsSend named.the_row
named_send = search (name_send, expr_send, crosses, sendable) depth 60 fits 20000

pub named_sync : IsSync named.the_row
named_sync = search (name_sync, expr_sync, crosses, sendable) depth 60 fits 20000

pub guard_send : IsSend guard.the_row
guard_send = search (name_send, expr_send, crosses, sendable) depth 60 fits 20000

pub guard_sync : IsSync guard.the_row
guard_sync = search (name_sync, expr_sync, crosses, sendable) depth 60 fits 20000

pub assignment_send : IsSend assignment.the_row
assignment_send = search (expr_send, crosses, sendable) depth 60 fits 20000

pub assignment_sync : IsSync assignment.the_row
assignment_sync = search (expr_sync, crosses, sendable) depth 60 fits 20000

pub sending_send : IsSend sending.the_row
sending_send = search (expr_send, crosses, sendable) depth 60 fits 20000

pub sending_sync : IsSync sending.the_row
sending_sync = search (expr_sync, crosses, sendable) depth 60 fits 20000

pub rule_send : IsSend rule.the_row
rule_send = search (expr_send, assignment_send, sending_send, crosses, sendable) depth 60 fits 20000

pub rule_sync : IsSync rule.the_row
rule_sync = search (expr_sync, assignment_sync, sending_sync, crosses, sendable) depth 60 fits 20000

pub chain_send : IsSend chain.the_row
chain_send = search (expr_send, rule_send, crosses, sendable) depth 60 fits 20000

pub chain_sync : IsSync chain.the_row
chain_sync = search (expr_sync, rule_sync, crosses, sendable) depth 60 fits 20000

pub definition_field_send : IsSend (definition.the_field).row
definition_field_send = search (variable_send, form_send, constant_send, named_send, guard_send, chain_send, crosses, sendable) depth 60 fits 20000

pub definition_field_sync : IsSync (definition.the_field).row
definition_field_sync = search (variable_sync, form_sync, constant_sync, named_sync, guard_sync, chain_sync, crosses, sendable) depth 60 fits 20000

pub rules_send : IsSend rules.the_row
rules_send = search (definition_field_send, crosses, sendable) depth 60 fits 20000

pub rules_sync : IsSync rules.the_row
rules_sync = search (definition_field_sync, crosses, sendable) depth 60 fits 20000

pub indexed_send : IsSend indexed.the_row
indexed_send = search (rules_send, rules_sync, crosses, sendable) depth 60 fits 20000

pub indexed_sync : IsSync indexed.the_row
indexed_sync = search (rules_send, rules_sync, crosses, sendable) depth 60 fits 20000

pub topic_send : IsSend topic.the_row
topic_send = search (expr_send, crosses, sendable) depth 60 fits 20000

pub topic_sync : IsSync topic.the_row
topic_sync = search (expr_sync, crosses, sendable) depth 60 fits 20000

pub ruled_send : IsSend ruled.the_row
ruled_send = search (indexed_send, indexed_sync, topic_send, topic_sync, crosses, sendable) depth 60 fits 20000

pub ruled_sync : IsSync ruled.the_row
ruled_sync = search (indexed_send, indexed_sync, topic_send, topic_sync, crosses, sendable) depth 60 fits 20000

pub which_field_send : IsSend (which.the_field).row
which_field_send = search (ruled_send, crosses, sendable) depth 60 fits 20000

pub which_field_sync : IsSync (which.the_field).row
which_field_sync = search (ruled_sync, crosses, sendable) depth 60 fits 20000
