use Rattle.std.proofs.Common.{◌≡◌, ◌<◌, [], drop, fold, length, get_or, refl, sym, ap, ◌∙◌, arith}
use Rattle.std.proofs.lemmas.List.{drop_all}
use Rattle.lf_latency.specs.Links.{least_of, spread_of}
use Rattle.lf_scenario.specs.declared.links.Link.{Link}
use Rattle.lf_scenario.specs.LinkTables.{least_after, spread_after}
use Rattle.lf_scenario.proofs.LinkSteps.{given-step, links-by, own_delay}
use Rattle.lf_scenario.proofs.links.links_of.Goals as goal

pub links-preserved : goal.links-preserved
links-preserved c =
    let d : Link = record { from = 0; to = 0; least = 0; spread = 0 } in
    let links = c.args.given.now in
    let i = c.links.link-index in
    let within : i < length links = omega arith in
    let link : Link = get_or links i d in
    let old = c.links.delays in
    let new = c.with-delays.result in
    let put = c.with-delays.ensures in
    record {
      form = put.form c.args.usual.nodes c.links.invariant.form (c.requires i d within).pair;
      least = λ n m pair. given-step (least_after n m) (least_of old n m) (least_of new n m) _ links i d within
          (own_delay link.from link.to n m link.least (least_of old n m) (least_of new n m) (least_of new) refl put.least_here (λ other.
          (put.others n m other).0))
          (c.links.invariant.least n m pair);
      spread = λ n m pair. given-step (spread_after n m) (spread_of old n m) (spread_of new n m) _ links i d within
          (own_delay link.from link.to n m link.spread (spread_of old n m) (spread_of new n m) (spread_of new) refl put.spread_here (λ other.
          (put.others n m other).1))
          (c.links.invariant.spread n m pair);
    }

pub returns-clause-value : goal.returns-clause-value
returns-clause-value c =
    let u = c.args.usual in
    let given = c.args.given.now in
    let delays = c.links.delays in
    let done : drop c.links.link-index given ≡ [] = drop_all c.links.link-index given c.links-test.false in
    links-by u.nodes u.least u.spread given delays u.some_nodes.1 c.links.invariant.form
    c.has_eight_rows.ensures.rows c.has_eight_rows.ensures.entries c.has_eight_rows-2.ensures.rows c.has_eight_rows-2.ensures.entries
    (λ n m pair. ap (fold (least_after n m) (least_of delays n m)) (sym done) ∙ c.links.invariant.least n m pair)
    (λ n m pair. ap (fold (spread_after n m) (spread_of delays n m)) (sym done) ∙ c.links.invariant.spread n m pair)
