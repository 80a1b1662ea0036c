-- Places of a tree, one level at a time.
use Rattle.std.proofs.Common.{◌≡◌, ℕ, List, [], ◌∷◌, ◌++◌, take, refl, ap, ◌∙◌}
use Rattle.std.specs.Prelude.{slice_get, Option, None, Some}
use Rattle.std.specs.Option.{is_some, option_map, option_and_then}
use Rattle.std.proofs.lemmas.Bool.{false≢true}
use Rattle.lf_faults.specs.declared.fault.Parts.{Parts}
use Rattle.lf_faults.specs.Faults.{inserted}
use Rattle.lf_tree.specs.declared.tree.Node.{Node, out-Node}
use Rattle.lf_tree.specs.declared.tree.Node.TheOpen.{Node-F}
use Rattle.lf_certificate.specs.Places.{Place, kid_in, kid_at, place_from}

-- the kid behind an edge, by its edge and its node
abbrev pub kid_of : Place → List Parts → ℕ → Parts → Node → Place
kid_of p edges i edge kid = record { node = kid; faults = inserted edge p.faults; excluded = p.excluded ++ take i edges }

pub kid-some : (p : Place) (reach : List ℕ) (edges : List Parts) (kids : List Node) (i : ℕ) (edge : Parts) (kid : Node)
    → out-Node p.node ≡ Node-F.Branch reach edges kids → slice_get edges i ≡ Some edge → slice_get kids i ≡ Some kid
    → kid_at p i ≡ Some (kid_of p edges i edge kid)
kid-some p reach edges kids i edge kid open_p edge_is kid_is =
    ap (λ y. kid_in y p.faults p.excluded i) open_p
    ∙ ap (λ o. option_and_then (λ e. option_map (λ k. kid_of p edges i e k) (slice_get kids i)) o) edge_is
    ∙ ap (λ o. option_map (λ k. kid_of p edges i edge k) o) kid_is

-- what is beneath the kid is beneath the place
pub from-kid : (p kid : Place) (i : ℕ) (path : List ℕ) → kid_at p i ≡ Some kid → place_from p (i ∷ path) ≡ place_from kid path
from-kid p kid i path is = ap (λ o. option_and_then (λ k. place_from k path) o) is

append_kid : (p q : Place) (i : ℕ) (path rest : List ℕ) (o : Option Place) → kid_at p i ≡ o
    → option_and_then (λ kid. place_from kid path) o ≡ Some q
    → ((kid : Place) → place_from kid path ≡ Some q → place_from kid (path ++ rest) ≡ place_from q rest)
    → place_from p ((i ∷ path) ++ rest) ≡ place_from q rest
append_kid p q i path rest None is leads later = absurd (false≢true (ap is_some leads))
append_kid p q i path rest (Some kid) is leads later = from-kid p kid i (path ++ rest) is ∙ later kid leads

-- a path that goes on from where another leads
pub place-append : (p q : Place) (path rest : List ℕ) → place_from p path ≡ Some q → place_from p (path ++ rest) ≡ place_from q rest
place-append p q [] rest leads = ap (λ o. option_and_then (λ r. place_from r rest) o) leads
place-append p q (i ∷ path) rest leads =
    append_kid p q i path rest (kid_at p i) refl leads (λ kid go. place-append kid q path rest go)
