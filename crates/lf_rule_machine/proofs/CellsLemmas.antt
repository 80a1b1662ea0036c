-- What is well formed in a definition that is.
use Rattle.std.proofs.Common.{◌≡◌, ℕ, ◌-◌, ◌<◌, true, false, ◌&&◌, nat_le, length, refl, subst, arith}
use Rattle.std.specs.Prelude.{Some, nat_lt}
use Rattle.std.specs.List.{list_all}
use Rattle.std.proofs.lemmas.Bool.{ltb-true, leb-true, and_parts, eqb-true, both_ways}
use Rattle.std.proofs.lemmas.Option.{none-some, cond_some}
use Rattle.lf_rules.specs.declared.sort.Sort.TheVariants as sorts
use Rattle.lf_rules.specs.declared.sort.Scope.{Scope}
use Rattle.lf_rules.specs.declared.sort.Scope.TheVariants as scopes
use Rattle.lf_rules.specs.declared.sort.Within.TheVariants as withins
use Rattle.lf_rules.specs.Sorts.{is_a}
use Rattle.lf_rules.specs.declared.table.Cells.{Cells}
use Rattle.lf_rules.specs.declared.table.Cells.TheVariants as cells
use Rattle.lf_rules.specs.Tables.{count_of, is_one, same_cells}
use Rattle.lf_rules.specs.declared.rule.Rule.{Rule}
use Rattle.lf_rules.specs.declared.rule.Chain.{Chain}
use Rattle.lf_rules.specs.declared.definition.Definition.{Definition}
use Rattle.lf_rules.specs.Forms.{is_event, scope_of, sends_of, is_assignment, is_rule_in, is_chain}
use Rattle.lf_rule_machine.specs.Places.{index_of}

-- a chain's rules, and a rule's assignments
pub rules-formed : (d : Definition) (x : Chain) → is_chain d x ≡ true → list_all (is_rule_in d (scope_of x.on) (sends_of x.on)) x.rules ≡ true
rules-formed d x formed =
    let after_who = (and_parts (is_a d scopes.Who withins.Nothing sorts.Nodes x.who) _ formed).1 in
    let after_event = (and_parts (is_event d x.on) _ after_who).1 in
    (and_parts _ (list_all (is_rule_in d (scope_of x.on) (sends_of x.on)) x.rules) after_event).1

pub sets-formed : (d : Definition) (scope : Scope) (sends : ℕ) (x : Rule) → is_rule_in d scope sends x ≡ true → list_all (is_assignment d scope) x.sets ≡ true
sets-formed d scope sends x formed =
    let after_guard = (and_parts (is_a d scope withins.Nothing sorts.Truth x.guard) _ formed).1 in
    let after_few = (and_parts (nat_le (length x.sets) 16) _ after_guard).1 in
    (and_parts (list_all (is_assignment d scope) x.sets) _ after_few).0

-- a variable that is no table has a cell, and a place that is there is one of the cells
pub one-there : (c : Cells) → is_one c ≡ true → 0 < count_of c
one-there cells.One one = omega arith
one-there cells.EachNode one = omega arith
one-there (cells.UpTo n) one = absurd (both_ways false refl one)

pub index-low : (nodes : ℕ) (c : Cells) (place k : ℕ) → index_of nodes c place ≡ Some k → k < count_of c
index-low nodes cells.One place k there = absurd (none-some k there)
index-low nodes cells.EachNode place k there =
    let found = cond_some (nat_lt place nodes && nat_lt place 8) place k there in
    let low = ltb-true place 8 (and_parts (nat_lt place nodes) (nat_lt place 8) found.0).1 in
    subst (λ n. n < 8) found.1 low
index-low nodes (cells.UpTo most) place k there =
    let found = cond_some (nat_le 1 place && nat_le place most) (place - 1) k there in
    let parts = and_parts (nat_le 1 place) (nat_le place most) found.0 in
    let first = leb-true 1 place parts.0 in
    let last = leb-true place most parts.1 in
    let same = found.1 in
    omega (arith, first, last, same)

-- as many cells are as many
pub same-count : (a b : Cells) → same_cells a b ≡ true → count_of a ≡ count_of b
same-count cells.One cells.One same = refl
same-count cells.EachNode cells.EachNode same = refl
same-count (cells.UpTo m) (cells.UpTo n) same = eqb-true m n same
same-count cells.One cells.EachNode same = absurd (both_ways false refl same)
same-count cells.One (cells.UpTo n) same = absurd (both_ways false refl same)
same-count cells.EachNode cells.One same = absurd (both_ways false refl same)
same-count cells.EachNode (cells.UpTo n) same = absurd (both_ways false refl same)
same-count (cells.UpTo m) cells.One same = absurd (both_ways false refl same)
same-count (cells.UpTo m) cells.EachNode same = absurd (both_ways false refl same)
