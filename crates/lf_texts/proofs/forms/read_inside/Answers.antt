use Rattle.std.proofs.Common.{rules, ◌≡◌, ◌≤◌, [], List, map, length, Result, Ok, Err, IfOk, Vec, Global, subst}
use Rattle.std.proofs.lemmas.List.{length-map}
use Rattle.lf_rules.specs.declared.kind.Kind.{Kind}
use Rattle.lf_grammar.specs.declared.sign.Sign.TheVariants as signs
use Rattle.lf_texts.specs.declared.error.TextError.{TextError}
use Rattle.lf_texts.specs.declared.forms.Field.{Field}
use Rattle.lf_texts.specs.Forms.{first_field}
use Rattle.lf_texts.specs.Reading.{Gives}
use Rattle.lf_texts.proofs.ListLemmas.{listed_count}
use Rattle.lf_texts.proofs.forms.read_inside.Goals as goal

few_kinds : (r : Result (Vec Kind Global) TextError) (fields : List Field) → Gives (λ kinds. kinds.items) (Ok (map (λ field. field.kind) fields)) r →
    length fields ≤ 7 → IfOk r (λ kinds. length kinds.items ≤ 7)
few_kinds (Ok kinds) fields e few =
    let same : map (λ field. field.kind) fields ≡ kinds.items = cc in
    subst (λ (xs : List Kind). length xs ≤ 7) same (rw length-map few)
few_kinds (Err fault) fields e few = tt

pub returns-clause-few : goal.returns-clause-few
returns-clause-few c =
    few_kinds c.kinds_of.result c.as_slice.result.now c.kinds_of.ensures
    (subst (λ (xs : List Field). length xs ≤ 7) (search rules)
    (listed_count (first_field c.args.variables.now) signs.Comma 7 [] c.in_ok-inner.inner.now _ c.in_ok-fields.ensures).1)
