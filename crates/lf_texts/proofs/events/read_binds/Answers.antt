use Rattle.std.proofs.Common.{rules, ◌≡◌, ◌≢◌, ◌∙◌, [], ◌∷◌, ◌++◌, Err, sym, arith}
use Rattle.lf_rules.specs.declared.kind.Kind.TheVariants as kinds
use Rattle.lf_texts.specs.declared.error.TextError.TheVariants as faults
use Rattle.lf_texts.specs.Events.{first_bind}
use Rattle.lf_texts.specs.Lists.{bracketed}
use Rattle.lf_texts.proofs.ListLemmas.{bracketed_shut, bracketed_wrong, bracketed_more}
use Rattle.lf_texts.proofs.events.read_binds.Goals as goal

pub returns-in_err-inner : goal.returns-in_err-inner
returns-in_err-inner c =
    let shut : bracketed (λ kind. first_bind c.args.names.now) c.args.kinds.now [] c.args.tokens.now ≡ Err c.in_err-inner.field-0.0 =
    sym c.loop-kind.invariant
    ∙ bracketed_shut (λ kind. first_bind c.args.names.now) kinds.Flag c.args.kinds.now c.loop-kind._kind-index c.loop-kind.binds.items
    c.loop-kind.rest.now c.in_err-inner.field-0.0 (omega arith) (search rules) in
    search rules

pub returns-in_err-name : goal.returns-in_err-name
returns-in_err-name c =
    let wrong : c.in_err-name.field-0.0 ≢ faults.Memory →
    bracketed (λ kind. first_bind c.args.names.now) c.args.kinds.now [] c.args.tokens.now ≡ Err c.in_err-name.field-0.0 =
    λ h. sym c.loop-kind.invariant
    ∙ bracketed_wrong (λ kind. first_bind c.args.names.now) kinds.Flag c.args.kinds.now c.loop-kind._kind-index c.loop-kind.binds.items
    c.loop-kind.rest.now c.in_ok-inner.inner.now c.in_err-name.field-0.0 (omega arith) (search rules) (search rules) in
    search rules

pub loop-kind-preserved : goal.loop-kind-preserved
loop-kind-preserved c =
    let pushed : c.put.new.items.items ≡ c.loop-kind.binds.items ++ c.in_ok-name.name ∷ [] = search rules in
    rw pushed
    (sym (bracketed_more (λ kind. first_bind c.args.names.now) kinds.Flag c.args.kinds.now c.loop-kind._kind-index c.loop-kind.binds.items
    c.loop-kind.rest.now c.in_ok-inner.inner.now c.in_ok-name.name c.in_ok-name.after.now (omega arith) (search rules) (search rules))
    ∙ c.loop-kind.invariant)
