-- The parts of a promise.
use Rattle.std.specs.Prelude.{List, [], ◌∷◌}
use Rattle.std.specs.List.{flat_map}
use Rattle.lf_promises.specs.declared.promise.Promise.{Promise, fold-Promise}
use Rattle.lf_promises.specs.declared.promise.Promise.TheOpen.{Promise-F}
use Rattle.lf_parts.specs.declared.leaf.Leaf.{Leaf}
use Rattle.lf_parts.specs.declared.leaf.Leaf.TheVariants as kinds

-- one level, with the parts of each promise in its place; that a node is down is none
abbrev pub leaves_step : Promise-F (List Leaf) → List Leaf
leaves_step (Promise-F.All parts) = flat_map (λ xs. xs) parts
leaves_step (Promise-F.Any parts) = flat_map (λ xs. xs) parts
leaves_step (Promise-F.Always parts) = flat_map (λ xs. xs) parts
leaves_step (Promise-F.Ever parts) = flat_map (λ xs. xs) parts
leaves_step (Promise-F.Nodes many fact of) = kinds.Nodes many fact of ∷ []
leaves_step (Promise-F.Down n) = []
leaves_step (Promise-F.At n fact) = kinds.At n fact ∷ []
leaves_step (Promise-F.One topic) = kinds.One topic ∷ []

-- those of a promise, from the left
abbrev pub leaves : Promise → List Leaf
leaves = fold-Promise (List Leaf) leaves_step
