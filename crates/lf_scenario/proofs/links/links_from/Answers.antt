use Rattle.std.proofs.Common.{rules, ◌≡◌, ◌∙◌, [], ◌∷◌, ◌++◌, Err, sym, ap, subst, All}
use Rattle.std.proofs.lemmas.List.Elements.{All-push}
use Rattle.toml.specs.View.{array_view, items_view}
use Rattle.lf_scenario.specs.LinkTables.{links_from, IsLink}
use Rattle.lf_scenario.proofs.LinkSteps.{links_from-step, links_from-wrong, links_from-other, links_from-last}
use Rattle.lf_scenario.proofs.links.links_from.Goals as goal

pub returns-in_err-link-in-Table-clause-err : goal.returns-in_err-link-in-Table-clause-err
returns-in_err-link-in-Table-clause-err c =
    let u = c.args.usual in
    let wrong : links_from u.nodes u.least u.spread [] (array_view c.args.items.now) ≡ Err c.in_err-link-in-Table.field-0.0 =
    ap (λ vs. links_from u.nodes u.least u.spread [] (items_view vs)) (sym c.deref-value-items.ensures.value) ∙ sym c.items.invariant.same
    ∙ links_from-wrong u.nodes u.least u.spread c.items.links.items c.deref-value-items.result.now c.items.value-index c.value-item.result
    c.in-Table.table c.in_err-link-in-Table.field-0.0 c.items-test.true c.value-item.is c.in-Table.is (search rules) in
    search rules

pub returns-in_default-clause-err : goal.returns-in_default-clause-err
returns-in_default-clause-err c =
    let u = c.args.usual in
    λ other.
    ap (λ vs. links_from u.nodes u.least u.spread [] (items_view vs)) (sym c.deref-value-items.ensures.value) ∙ sym c.items.invariant.same
    ∙ links_from-other u.nodes u.least u.spread c.items.links.items c.deref-value-items.result.now c.items.value-index c.value-item.result
    c.items-test.true c.value-item.is c.in_default.not-Table

pub items-preserved : goal.items-preserved
items-preserved c =
    let u = c.args.usual in
    let pushed : c.push.new.self.items ≡ c.items.links.items ++ c.in_ok-link-in-Table.link ∷ [] = search rules in
    record {
      same = links_from-step u.nodes u.least u.spread c.items.links.items c.push.new.self.items c.deref-value-items.result.now
          c.items.value-index c.value-item.result c.in-Table.table
          c.in_ok-link-in-Table.link
          c.items-test.true c.value-item.is c.in-Table.is (search rules) pushed ∙ c.items.invariant.same;
      each = subst (All (IsLink u.nodes)) (sym pushed)
          (All-push (IsLink u.nodes) c.items.links.items c.in_ok-link-in-Table.link c.items.invariant.each c.in_ok-link-in-Table.ensures.link);
    }

pub returns-clause-ok : goal.returns-clause-ok
returns-clause-ok c =
    let u = c.args.usual in
    ap (λ vs. links_from u.nodes u.least u.spread [] (items_view vs)) (sym c.deref-value-items.ensures.value) ∙ sym c.items.invariant.same
    ∙ links_from-last u.nodes u.least u.spread c.items.links.items c.deref-value-items.result.now c.items.value-index c.items-test.false
