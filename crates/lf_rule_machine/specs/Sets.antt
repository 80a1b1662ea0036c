-- Sets of nodes, as numbers: bit n is set where the set has node n. Nodes are 0 to 7.
use Rattle.std.specs.Prelude.{ℕ, zero, suc, ◌+◌, ◌*◌, ◌/◌, ◌%◌, ◌^◌, Bool, true, false, not, ◌&&◌, ◌||◌, ◌==◌, nat_lt, nat_le, if◌then◌else◌}

-- a truth value as a number, and a number as a truth value
abbrev pub truth : Bool → ℕ
truth true = 1
truth false = 0

abbrev pub is_true : ℕ → Bool
is_true v = not (v == 0)

-- the set has node n
unfoldable pub has : ℕ → ℕ → Bool
has set n = nat_lt n 8 && ((set / 2 ^ n) % 2 == 1)

-- the set of those n below k of which f is so
unfoldable pub those_below : ℕ → (ℕ → Bool) → ℕ
those_below zero f = 0
those_below (suc k) f = truth (f k) * 2 ^ k + those_below k f

-- the set of those nodes of which f is so
abbrev pub those : (ℕ → Bool) → ℕ
those f = those_below 8 f

-- the nodes of one of two sets, of both, and of the first that the second hasn't
abbrev pub either : ℕ → ℕ → ℕ
either s g = those (λ n. has s n || has g n)

abbrev pub both : ℕ → ℕ → ℕ
both s g = those (λ n. has s n && has g n)

abbrev pub without : ℕ → ℕ → ℕ
without s g = those (λ n. has s n && not (has g n))

-- the nodes of a number that may be no set
abbrev pub nodes_in : ℕ → ℕ
nodes_in v = those (has v)

-- those below a number
abbrev pub below : ℕ → ℕ
below m = those (λ n. nat_lt n m)

-- of so many nodes, those from a to b
abbrev pub between : ℕ → ℕ → ℕ → ℕ
between nodes a b = those (λ n. nat_le a n && (nat_le n b && nat_lt n nodes))

-- of so many nodes, m alone
abbrev pub only : ℕ → ℕ → ℕ
only nodes m = those (λ n. (n == m) && nat_lt n nodes)

-- how many n below k there are of which f is so
unfoldable pub count_below : ℕ → (ℕ → Bool) → ℕ
count_below zero f = 0
count_below (suc k) f = truth (f k) + count_below k f

-- how many nodes a set has
abbrev pub count : ℕ → ℕ
count set = count_below 8 (has set)

-- the first n from a on, of k numbers, of which f is so, or a number where there is none
unfoldable pub first_from : ℕ → ℕ → (ℕ → Bool) → ℕ → ℕ
first_from a zero f none = none
first_from a (suc k) f none = if f a then a else first_from (suc a) k f none

-- the last n below k of which f is so, or a number where there is none
unfoldable pub last_below : ℕ → (ℕ → Bool) → ℕ → ℕ
last_below zero f none = none
last_below (suc k) f none = if f k then k else last_below k f none

-- the lowest and the highest node of a set, or how many nodes there are where it has none
abbrev pub lowest : ℕ → ℕ → ℕ
lowest nodes set = first_from 0 8 (has set) nodes

abbrev pub highest : ℕ → ℕ → ℕ
highest nodes set = last_below 8 (has set) nodes

-- more than half of the nodes of g are in s
abbrev pub is_majority : ℕ → ℕ → Bool
is_majority s g = nat_lt (count g) (2 * count (both s g))
