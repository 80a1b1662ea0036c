-- How many rules chains have.
use Rattle.std.proofs.Common.{◌≡◌, ℕ, ◌+◌, ◌<◌, ◌≤◌, Bool, true, ◌&&◌, List, length, nat_le, take, sym, ap, arith, slice_index_or}
use Rattle.std.specs.Prelude.{Some, slice_get}
use Rattle.std.specs.List.{sum_by}
use Rattle.std.proofs.lemmas.Bool.{and_parts, leb-true}
use Rattle.std.proofs.lemmas.List.Sums.{sum-map, sum_by_more_le}
use Rattle.std.proofs.lemmas.Option.{get_or_from_slice_get, slice_get_within}
use Rattle.lf_rules.specs.declared.rule.Chain.{Chain}
use Rattle.lf_rules.specs.declared.definition.Definition.{Definition}
use Rattle.lf_rules.specs.Tables.{cells_in}
use Rattle.lf_rules.specs.Forms.{is_from, is_in_limits, is_well_formed, rules_in}

-- the rules before a chain, with its own, are some of all
pub rules-fit : (xs : List Chain) (i : ℕ) (x : Chain) → i < length xs → x ≡ slice_index_or xs i x → rules_in (take i xs) + length x.rules ≤ rules_in xs
rules-fit xs i x low is =
    let of = λ (y : Chain). length y.rules in
    let some : sum_by of (take i xs) + of (slice_index_or xs i x) ≤ sum_by of xs = sum_by_more_le of xs i x low in
    let here : of x ≡ of (slice_index_or xs i x) = ap of is in
    let before : rules_in (take i xs) ≡ sum_by of (take i xs) = sum-map of (take i xs) in
    let all : rules_in xs ≡ sum_by of xs = sum-map of xs in
    omega arith

-- the same, of a chain that is found
pub rules-up-to : (xs : List Chain) (i : ℕ) (x : Chain) → slice_get xs i ≡ Some x → rules_in (take i xs) + length x.rules ≤ rules_in xs
rules-up-to xs i x there = rules-fit xs i x (slice_get_within xs i x there) (sym (get_or_from_slice_get xs i x x there))

-- a protocol that is well formed has few rules
first : (a b : Bool) → (a && b) ≡ true → a ≡ true
first a b all = (and_parts a b all).0

rest : (a b : Bool) → (a && b) ≡ true → b ≡ true
rest a b all = (and_parts a b all).1

seventh : (a b c e f g h i : Bool) → (a && (b && (c && (e && (f && (g && (h && i))))))) ≡ true → h ≡ true
seventh a b c e f g h i all = first h i (rest g _ (rest f _ (rest e _ (rest c _ (rest b _ (rest a _ all))))))

pub few_rules : (d : Definition) → is_well_formed d ≡ true → rules_in d.chains ≤ 128
few_rules d formed =
    leb-true (rules_in d.chains) 128
    (seventh (is_from 1 32 (length d.variables)) (nat_le (cells_in d) 64) (nat_le (length d.notes) 16) (nat_le (length d.given) 16)
    (nat_le (length d.lets) 16) (nat_le (length d.facts) 32) (nat_le (rules_in d.chains) 128) (is_from 1 32 (length d.trace))
    (first (is_in_limits d) _ formed))
