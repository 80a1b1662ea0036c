-- The topics of a promise, and their numbers.
use Rattle.std.specs.Prelude.{ℕ, ◌+◌, List, [], ◌∷◌, length}
use Rattle.std.specs.List.{flat_map}
use Rattle.lf_rules.specs.declared.topic.Topic.{Topic}
use Rattle.lf_promises.specs.declared.promise.Promise.{Promise, fold-Promise}
use Rattle.lf_promises.specs.declared.promise.Promise.TheOpen.{Promise-F}

-- one level, with the topics of each part in its place
abbrev pub topics_step : Promise-F (List Topic) → List Topic
topics_step (Promise-F.All parts) = flat_map (λ ts. ts) parts
topics_step (Promise-F.Any parts) = flat_map (λ ts. ts) parts
topics_step (Promise-F.Always parts) = flat_map (λ ts. ts) parts
topics_step (Promise-F.Ever parts) = flat_map (λ ts. ts) parts
topics_step (Promise-F.Nodes many fact of) = []
topics_step (Promise-F.Down n) = []
topics_step (Promise-F.At n fact) = []
topics_step (Promise-F.One topic) = topic ∷ []

-- those of its parts, from the left
abbrev pub topics_in : Promise → List Topic
topics_in = fold-Promise (List Topic) topics_step

-- how many there are in a promise, and in parts together
abbrev pub count_topics : Promise → ℕ
count_topics promise = length (topics_in promise)

abbrev pub count_all : List Promise → ℕ
count_all parts = length (flat_map topics_in parts)

-- a part, with the number of its first topic
pub record Numbered : Type 0 where
  pub first : ℕ
  pub promise : Promise

abbrev pub from : ℕ → Promise → Numbered
from first promise = record { first = first; promise = promise }

-- parts in order, each numbered on from those to the left of it
abbrev pub numbered : ℕ → List Promise → List Numbered
numbered first [] = []
numbered first (p ∷ ps) = from first p ∷ numbered (first + count_topics p) ps
