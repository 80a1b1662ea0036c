use Rattle.std.proofs.Common.{◌≡◌, ℕ, drop, fold}
use Rattle.lf_latency.specs.Links.{IsLinks, IsPair, least_of, spread_of}
use Rattle.lf_scenario.specs.LinkTables.{least_after, least_given, spread_after, spread_given}
use Rattle.lf_scenario.proofs.links.links_of.Given as goal

abbrev pub invariant-links : goal.invariant-links
invariant-links l = record {
  form : IsLinks l.fn.usual.nodes l.delays;
  least : (n m : ℕ) → IsPair l.fn.usual.nodes n m → fold (least_after n m) (least_of l.delays n m)
      (drop l.link-index l.given) ≡ least_given l.given l.fn.usual.least n m;
  spread : (n m : ℕ) → IsPair l.fn.usual.nodes n m → fold (spread_after n m) (spread_of l.delays n m)
      (drop l.link-index l.given) ≡ spread_given l.given l.fn.usual.spread n m;
}
