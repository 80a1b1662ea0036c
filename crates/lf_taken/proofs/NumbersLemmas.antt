-- How rules are numbered, and which are taken of chains that are gone through.
use Rattle.std.proofs.Common.{◌≡◌, ℕ, ◌+◌, ◌<◌, ◌≤◌, Bool, true, ◌&&◌, List, ◌∷◌, ◌++◌, length, take}
use Rattle.std.proofs.Common.{drop, nat_le, sym, ap, ◌∙◌, arith, append_assoc, slice_index_or}
use Rattle.std.proofs.Common.{add-one, drop-cons}
use Rattle.std.specs.Prelude.{slice_get, Some}
use Rattle.std.specs.List.{fold, sum_by}
use Rattle.std.proofs.lemmas.Bool.{leb-true, and_parts}
use Rattle.std.proofs.lemmas.List.Sums.{sum-map, sum_by-cons, sum_by_more, sum_by_more_le}
use Rattle.std.proofs.lemmas.Option.{slice_get_within, get_or_from_slice_get}
use Rattle.lf_sim.specs.declared.out.Stepped.{Stepped}
use Rattle.lf_rules.specs.declared.rule.Chain.{Chain}
use Rattle.lf_rules.specs.declared.definition.Definition.{Definition}
use Rattle.lf_rules.specs.Tables.{cells_in}
use Rattle.lf_rules.specs.Forms.{rules_in, is_from, is_in_limits, is_well_formed}
use Rattle.lf_rule_machine.specs.Moments.{Moment}
use Rattle.lf_rule_machine.specs.declared.state.State.{State}
use Rattle.lf_rule_machine.specs.declared.state.Packet.{Packet}
use Rattle.lf_rule_machine.specs.Choices.{take_at}
use Rattle.lf_taken.specs.Numbers.{taken_at, taken_through}

-- the rules of a chain and of those after it
pub rules-cons : (x : Chain) (xs : List Chain) → rules_in (x ∷ xs) ≡ length x.rules + rules_in xs
rules-cons x xs =
    let of = λ (y : Chain). length y.rules in
    sum-map of (x ∷ xs) ∙ sum_by-cons of x xs ∙ ap (λ n. length x.rules + n) (sym (sum-map of xs))

-- the rules before a chain, with its own, are some of all
pub rules-next : (xs : List Chain) (i : ℕ) (x : Chain) → i < length xs → x ≡ slice_index_or xs i x
    → rules_in (take (i + 1) xs) ≡ rules_in (take i xs) + length x.rules
rules-next xs i x low is =
    let of = λ (y : Chain). length y.rules in
    sum-map of (take (i + 1) xs) ∙ sum_by_more of xs i x low ∙ ap (λ n. sum_by of (take i xs) + n) (ap of (sym is))
    ∙ ap (λ n. n + length x.rules) (sym (sum-map of (take i xs)))

pub rules-fit : (xs : List Chain) (i : ℕ) (x : Chain) → i < length xs → x ≡ slice_index_or xs i x → rules_in (take i xs) + length x.rules ≤ rules_in xs
rules-fit xs i x low is =
    let of = λ (y : Chain). length y.rules in
    let some : sum_by of (take i xs) + of (slice_index_or xs i x) ≤ sum_by of xs = sum_by_more_le of xs i x low in
    let here : of x ≡ of (slice_index_or xs i x) = ap of is in
    let before : rules_in (take i xs) ≡ sum_by of (take i xs) = sum-map of (take i xs) in
    let all : rules_in xs ≡ sum_by of xs = sum-map of xs in
    omega arith

-- the same, of a chain that is found
pub rules-up-to : (xs : List Chain) (i : ℕ) (x : Chain) → slice_get xs i ≡ Some x → rules_in (take i xs) + length x.rules ≤ rules_in xs
rules-up-to xs i x there = rules-fit xs i x (slice_get_within xs i x there) (sym (get_or_from_slice_get xs i x x there))

pub few-up-to : (all xs : List Chain) (i : ℕ) (x : Chain) → xs ≡ all → rules_in all ≤ 128 → slice_get all i ≡ Some x
    → rules_in (take i xs) + length x.rules ≤ 128
few-up-to all xs i x same few there =
    let up : rules_in (take i all) + length x.rules ≤ rules_in all = rules-up-to all i x there in
    rw same (omega arith)

-- a protocol that is well formed has few rules
first : (a b : Bool) → (a && b) ≡ true → a ≡ true
first a b all = (and_parts a b all).0

rest : (a b : Bool) → (a && b) ≡ true → b ≡ true
rest a b all = (and_parts a b all).1

seventh : (a b c e f g h i : Bool) → (a && (b && (c && (e && (f && (g && (h && i))))))) ≡ true → h ≡ true
seventh a b c e f g h i all = first h i (rest g _ (rest f _ (rest e _ (rest c _ (rest b _ (rest a _ all))))))

pub few_rules : (d : Definition) → is_well_formed d ≡ true → rules_in d.chains ≤ 128
few_rules d formed =
    leb-true (rules_in d.chains) 128
    (seventh (is_from 1 32 (length d.variables)) (nat_le (cells_in d) 64) (nat_le (length d.notes) 16) (nat_le (length d.given) 16)
    (nat_le (length d.lets) 16) (nat_le (length d.facts) 32) (nat_le (rules_in d.chains) 128) (is_from 1 32 (length d.trace))
    (first (is_in_limits d) _ formed))

-- a chain more is gone through
module _ (d : Definition) (at : Moment) where
  pub turn_more : (turn next : Stepped State Packet) (ns : List ℕ) (i : ℕ) → i < length ns → next ≡ take_at d at turn (slice_index_or ns i 0)
      → fold (take_at d at) next (drop (i + 1) ns) ≡ fold (take_at d at) turn (drop i ns)
  turn_more turn next ns i low is =
      ap (λ s. fold (take_at d at) s (drop (i + 1) ns)) is
      ∙ ap (λ k. fold (take_at d at) (take_at d at turn (slice_index_or ns i 0)) (drop k ns)) (add-one i)
      ∙ ap (fold (take_at d at) turn) (sym (drop-cons ns i 0 low))

  pub taken_more : (old new : List ℕ) (turn next : Stepped State Packet) (ns : List ℕ) (i : ℕ) → i < length ns
      → new ≡ old ++ taken_at d at turn (slice_index_or ns i 0) → next ≡ take_at d at turn (slice_index_or ns i 0)
      → new ++ taken_through d at next (drop (i + 1) ns) ≡ old ++ taken_through d at turn (drop i ns)
  taken_more old new turn next ns i low told is =
      let x = slice_index_or ns i 0 in
      ap (λ t. t ++ taken_through d at next (drop (i + 1) ns)) told
      ∙ append_assoc old (taken_at d at turn x) (taken_through d at next (drop (i + 1) ns))
      ∙ ap (λ s. old ++ (taken_at d at turn x ++ taken_through d at s (drop (i + 1) ns))) is
      ∙ ap (λ k. old ++ (taken_at d at turn x ++ taken_through d at (take_at d at turn x) (drop k ns))) (add-one i)
      ∙ ap (λ rest. old ++ taken_through d at turn rest) (sym (drop-cons ns i 0 low))
