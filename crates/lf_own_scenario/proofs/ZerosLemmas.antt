-- Whether a promise with parts divides by a constant that is 0.
use Rattle.std.proofs.Common.{◌≡◌, ◌⊎◌, Bool, List, sym, ap, ◌∙◌, inl, inr, map, [], ◌∷◌, refl, ◌||◌}
use Rattle.std.specs.List.{list_any}
use Rattle.lf_rules.specs.declared.definition.Given.{Given}
use Rattle.lf_promises.specs.declared.promise.Promise.{Promise, fold-roll-Promise}
use Rattle.lf_promises.specs.declared.promise.Promise.TheVariants.{rolls-All, rolls-Any, rolls-Always, rolls-Ever}
use Rattle.lf_promises.specs.declared.promise.Promise.TheVariants as promises
use Rattle.lf_promises.specs.declared.promise.Promise.TheOpen.{Promise-F}
use Rattle.lf_own_scenario.specs.Zeros.{divides_step, promise_divides}

any-map : (f : Promise → Bool) (xs : List Promise) → list_any (λ b. b) (map f xs) ≡ list_any f xs
any-map f [] = refl
any-map f (x ∷ xs) = ap (λ b. f x || b) (any-map f xs)

module _ (given : List Given) where
  divides-All : (parts : List Promise) → promise_divides given (promises.All parts) ≡ list_any (promise_divides given) parts
  divides-All parts =
      ap (promise_divides given) (sym (rolls-All parts)) ∙ fold-roll-Promise Bool (divides_step given) (Promise-F.All parts)
      ∙ any-map (promise_divides given) parts

  divides-Any : (parts : List Promise) → promise_divides given (promises.Any parts) ≡ list_any (promise_divides given) parts
  divides-Any parts =
      ap (promise_divides given) (sym (rolls-Any parts)) ∙ fold-roll-Promise Bool (divides_step given) (Promise-F.Any parts)
      ∙ any-map (promise_divides given) parts

  divides-Always : (parts : List Promise) → promise_divides given (promises.Always parts) ≡ list_any (promise_divides given) parts
  divides-Always parts =
      ap (promise_divides given) (sym (rolls-Always parts)) ∙ fold-roll-Promise Bool (divides_step given) (Promise-F.Always parts)
      ∙ any-map (promise_divides given) parts

  divides-Ever : (parts : List Promise) → promise_divides given (promises.Ever parts) ≡ list_any (promise_divides given) parts
  divides-Ever parts =
      ap (promise_divides given) (sym (rolls-Ever parts)) ∙ fold-roll-Promise Bool (divides_step given) (Promise-F.Ever parts)
      ∙ any-map (promise_divides given) parts

  pub divides-parts : (p : Promise) (parts : List Promise)
      → (p ≡ promises.All parts) ⊎ ((p ≡ promises.Any parts) ⊎ ((p ≡ promises.Always parts) ⊎ (p ≡ promises.Ever parts)))
      → promise_divides given p ≡ list_any (promise_divides given) parts
  divides-parts p parts (inl is) = ap (promise_divides given) is ∙ divides-All parts
  divides-parts p parts (inr (inl is)) = ap (promise_divides given) is ∙ divides-Any parts
  divides-parts p parts (inr (inr (inl is))) = ap (promise_divides given) is ∙ divides-Always parts
  divides-parts p parts (inr (inr (inr is))) = ap (promise_divides given) is ∙ divides-Ever parts
