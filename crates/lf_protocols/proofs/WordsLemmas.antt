-- The fact that has a name, among facts that are made of others.
use Rattle.std.proofs.Common.{◌≡◌, Bool, true, false, List, [], ◌∷◌, refl}
use Rattle.std.specs.Prelude.{Option, Some, find, cond, map, option_map}
use Rattle.lf_protocols.specs.declared.fact.Fact.{Fact}

-- found among facts that are made of others: the one that is made of the first that does
found-made : {X : Type 0} (make : X → Fact) (p : Fact → Bool) (b : Bool) (x : X) (o : Option Fact) (q : Option X) → o ≡ option_map make q
    → cond b (Some (make x)) o ≡ option_map make (cond b (Some x) q)
found-made make p true x o q e = refl
found-made make p false x o q e = e

pub find-made : {X : Type 0} (make : X → Fact) (p : Fact → Bool) (xs : List X) → find p (map make xs) ≡ option_map make (find (λ x. p (make x)) xs)
find-made make p [] = refl
find-made make p (x ∷ xs) = found-made make p (p (make x)) x _ _ (find-made make p xs)
