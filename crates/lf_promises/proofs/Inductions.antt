-- Induction on promises.
use Rattle.std.proofs.Common.{List, [], ◌∷◌, sym, subst, map}
use Rattle.std.specs.List.{AllByRecursion}
use Rattle.lf_promises.specs.declared.promise.Promise.{Promise}
use Rattle.lf_promises.specs.declared.promise.Promise.TheVariants.{rolls-All, rolls-Any, rolls-Always, rolls-Ever, rolls-Nodes, rolls-Down, rolls-At, rolls-One}
use Rattle.lf_promises.specs.declared.promise.Promise.TheOpen.{Promise-F}
use Rattle.lf_promises.specs.declared.promise.Promise.TheFolds.{ind-Promise, map-Promise}
use Rattle.lf_promises.specs.declared.promise.Promise.TheViews.{roll-Promise}
use Rattle.lf_promises.specs.Inductions.{Steps}

module _ (Q : Promise → Type 0) where
  each : (proved : List ((p : Promise) × Q p)) → AllByRecursion Q (map (λ e. e.0) proved)
  each [] = tt
  each (e ∷ es) = (e.1, each es)

  -- one level, with a proof beside each part
  layer : Steps Q → (y : Promise-F ((p : Promise) × Q p)) → Q (roll-Promise (map-Promise ((p : Promise) × Q p) Promise (λ e. e.0) y))
  layer steps (Promise-F.All proved) =
      subst Q (sym (rolls-All (map (λ e. e.0) proved))) (steps.all (map (λ e. e.0) proved) (each proved))
  layer steps (Promise-F.Any proved) =
      subst Q (sym (rolls-Any (map (λ e. e.0) proved))) (steps.any (map (λ e. e.0) proved) (each proved))
  layer steps (Promise-F.Always proved) =
      subst Q (sym (rolls-Always (map (λ e. e.0) proved))) (steps.always (map (λ e. e.0) proved) (each proved))
  layer steps (Promise-F.Ever proved) =
      subst Q (sym (rolls-Ever (map (λ e. e.0) proved))) (steps.ever (map (λ e. e.0) proved) (each proved))
  layer steps (Promise-F.Nodes many fact of) = subst Q (sym (rolls-Nodes many fact of)) (steps.nodes many fact of)
  layer steps (Promise-F.Down n) = subst Q (sym (rolls-Down n)) (steps.down n)
  layer steps (Promise-F.At n fact) = subst Q (sym (rolls-At n fact)) (steps.shows n fact)
  layer steps (Promise-F.One topic) = subst Q (sym (rolls-One topic)) (steps.one topic)

  pub by_induction : Steps Q → (p : Promise) → Q p
  by_induction steps = ind-Promise Q (λ x y is. subst (λ z. Q (roll-Promise z)) is (layer steps y))
