-- Expressions as contracts see them: trees of which nothing is known but what stands in them, so two that say the same are equal.
use Rattle.std.specs.Prelude.{◌≡◌, ℕ, false}
use Rattle.std.proofs.Common.{ap, refl, nat_eq}
use Rattle.std.proofs.lemmas.Bool.{eq-eqb, both_ways}
use base.Stored.{Gv, gnil, gnum, gcons, num}
use Rattle.std.specs.Coded.{Coded}
use Rattle.lf_rules.specs.declared.expr.Leaf.{Leaf as Start}
use Rattle.lf_rules.specs.declared.expr.Unary.{Unary as One}
use Rattle.lf_rules.specs.declared.expr.Binary.{Binary as Two}
use Rattle.lf_rules.specs.declared.expr.Row.{Row as Places}
use Rattle.lf_rules.specs.declared.expr.Over.{Over as Body}
use Rattle.lf_rules.specs.declared.expr.Tree.{Tree}
use Rattle.lf_rules.specs.declared.expr.Tree.TheVariants as trees
use Rattle.lf_rules.specs.contracts.expr.Leaf as start
use Rattle.lf_rules.specs.contracts.expr.Unary as one
use Rattle.lf_rules.specs.contracts.expr.Binary as two
use Rattle.lf_rules.specs.contracts.expr.Row as row
use Rattle.lf_rules.specs.contracts.expr.Over as over

pub data Term : Type 0 where
  Leaf : Start → Term
  Unary : One → Term → Term
  Binary : Two → Term → Term → Term
  At : Places → Term → Term
  Over : Body → Term → Term → Term

-- the term that a tree stands for
abbrev pub term_of : Tree → Term
term_of (trees.Leaf x) = Leaf x
term_of (trees.Unary' op p a) = Unary op (term_of a)
term_of (trees.Binary' op p a q b) = Binary op (term_of a) (term_of b)
term_of (trees.At' x p a) = At x (term_of a)
term_of (trees.Over' op p a q b) = Over op (term_of a) (term_of b)

-- ---- how the logic stores a term

abbrev code_of : Term → Gv
code_of (Leaf x) = gcons (gnum 0) (start.the_row.coded.code x)
code_of (Unary op a) = gcons (gnum 1) (gcons (one.the_row.coded.code op) (code_of a))
code_of (Binary op a b) = gcons (gnum 2) (gcons (two.the_row.coded.code op) (gcons (code_of a) (code_of b)))
code_of (At x a) = gcons (gnum 3) (gcons (row.the_row.coded.code x) (code_of a))
code_of (Over op a b) = gcons (gnum 4) (gcons (over.the_row.coded.code op) (gcons (code_of a) (code_of b)))

abbrev head : Gv → Gv
head gnil = gnil
head (gnum n) = gnil
head (gcons a b) = a

abbrev tail : Gv → Gv
tail gnil = gnil
tail (gnum n) = gnil
tail (gcons a b) = b

-- the first number of a code tells what a term begins with
abbrev first : Gv → ℕ
first g = num (head g)

-- numbers differ where a test of them says so
differ : (m n : ℕ) → nat_eq m n ≡ false → m ≡ n → ⊥
differ m n unlike same = both_ways (nat_eq m n) unlike (eq-eqb m n same)

pub one_to_one : (s t : Term) → code_of s ≡ code_of t → s ≡ t
one_to_one (Leaf x) (Leaf y) e = ap Leaf (start.the_row.coded.inj x y (ap tail e))
one_to_one (Unary op a) (Unary pq b) e =
    λ i. Unary (one.the_row.coded.inj op pq (ap (λ g. head (tail g)) e) i) (one_to_one a b (ap (λ g. tail (tail g)) e) i)
one_to_one (Binary op a c) (Binary pq b d) e =
    λ i. Binary (two.the_row.coded.inj op pq (ap (λ g. head (tail g)) e) i)
    (one_to_one a b (ap (λ g. head (tail (tail g))) e) i) (one_to_one c d (ap (λ g. tail (tail (tail g))) e) i)
one_to_one (At x a) (At y b) e =
    λ i. At (row.the_row.coded.inj x y (ap (λ g. head (tail g)) e) i) (one_to_one a b (ap (λ g. tail (tail g)) e) i)
one_to_one (Over op a c) (Over pq b d) e =
    λ i. Over (over.the_row.coded.inj op pq (ap (λ g. head (tail g)) e) i)
    (one_to_one a b (ap (λ g. head (tail (tail g))) e) i) (one_to_one c d (ap (λ g. tail (tail (tail g))) e) i)
one_to_one s t e = absurd (differ (first (code_of s)) (first (code_of t)) refl (ap first e))

abbrev pub term_code : Coded Term
term_code = record { code = code_of; inj = one_to_one }
