-- One step more of what goes through a list.
use Rattle.std.proofs.Common.{◌≡◌, ℕ, zero, suc, ◌+◌, ◌<◌, ◌≤◌, Bool, true, false, cond, List, []}
use Rattle.std.proofs.Common.{◌∷◌, length, get_or, drop, refl, sym, ap, ◌∙◌, arith, add-one}
use Rattle.std.specs.Prelude.{slice_get, Some}
use Rattle.std.specs.List.{fold, range_with_len}
use Rattle.std.proofs.Math.Seq.{drop-cons}
use Rattle.lf_sim.specs.declared.out.Stepped.{Stepped}
use Rattle.lf_rules.specs.declared.kind.Kind.{Kind}
use Rattle.lf_rules.specs.Terms.{Term}
use Rattle.lf_rules.specs.declared.rule.Rule.{Rule}
use Rattle.lf_rules.specs.declared.definition.Definition.{Definition}
use Rattle.lf_rule_machine.specs.Moments.{Moment}
use Rattle.lf_rule_machine.specs.declared.state.State.{State}
use Rattle.lf_rule_machine.specs.declared.state.Packet.{Packet}
use Rattle.lf_rule_machine.specs.Sets.{is_true}
use Rattle.lf_rule_machine.specs.Values.{value_of}
use Rattle.lf_rule_machine.specs.Events.{Draft, fill_as, fill, do_rule, do_found, first_true, take_first}
use Rattle.lf_rule_machine.specs.Readings.{flagged, untaken}

-- the rest of a list begins with the item there
pub rest-is : {X : Type 0} (xs : List X) (k : ℕ) (x : X) → k < length xs → x ≡ get_or xs k x → drop k xs ≡ x ∷ drop (k + 1) xs
rest-is xs k x h is = drop-cons xs k x h ∙ ap (λ y. y ∷ drop (suc k) xs) (sym is) ∙ ap (λ n. x ∷ drop n xs) (sym (add-one k))

pub rest-none : {X : Type 0} (xs : List X) (k : ℕ) → length xs ≤ k → drop k xs ≡ []
rest-none [] zero h = refl
rest-none [] (suc k) h = refl
rest-none (x ∷ xs) zero h = absurd (omega arith)
rest-none (x ∷ xs) (suc k) h = rest-none xs k (omega arith)

-- a fold over one number more
fold-range : {B : Type 0} (f : B → ℕ → B) (b : B) (a n : ℕ) → fold f b (range_with_len a (suc n)) ≡ f (fold f b (range_with_len a n)) (a + n)
fold-range f b a zero = let same : a ≡ a + zero = omega arith in ap (f b) same
fold-range f b a (suc n) =
    let last : a + 1 + n ≡ a + suc n = omega arith in
    fold-range f (f b a) (a + 1) n ∙ ap (f (fold f (f b a) (range_with_len (a + 1) n))) last

pub fold-range-more : {B : Type 0} (f : B → ℕ → B) (b : B) (n : ℕ) → fold f b (range_with_len 0 (n + 1)) ≡ f (fold f b (range_with_len 0 n)) n
fold-range-more f b n =
    let last : 0 + n ≡ n = omega arith in
    ap (λ m. fold f b (range_with_len 0 m)) (add-one n) ∙ fold-range f b 0 n ∙ ap (f (fold f b (range_with_len 0 n))) last

module _ (d : Definition) (at : Moment) where
  -- the fields from the k-th on
  pub fill-next : (kinds : List Kind) (draft : Draft) (k : ℕ) (es : List Term) (e : Term) → k < length es → e ≡ get_or es k e
      → fill d at kinds draft k (drop k es) ≡ fill d at kinds (fill_as d at draft k (slice_get kinds k) e) (k + 1) (drop (k + 1) es)
  fill-next kinds draft k es e h is = ap (fill d at kinds draft k) (rest-is es k e h is)

  pub fill-end : (kinds : List Kind) (draft : Draft) (k : ℕ) (es : List Term) → length es ≤ k → fill d at kinds draft k (drop k es) ≡ draft
  fill-end kinds draft k es h = ap (fill d at kinds draft k) (rest-none es k h)

  -- a chain by what was taken: once a rule was taken, nothing changes
  flagged-stays : (turn : Stepped State Packet) (rules : List Rule)
      → fold (flagged d at) (record { turn = turn; taken = true }) rules ≡ record { turn = turn; taken = true }
  flagged-stays turn [] = refl
  flagged-stays turn (rule ∷ rules) = flagged-stays turn rules

  flagged-by : (turn : Stepped State Packet) (rule : Rule) (rules : List Rule) (b : Bool)
      → take_first d at turn rules ≡ (fold (flagged d at) (untaken turn) rules).turn
      → do_found d at turn (cond b (Some rule) (first_true d at turn.state rules))
      ≡ (fold (flagged d at) (cond b (record { turn = do_rule d at turn rule; taken = true }) (untaken turn)) rules).turn
  flagged-by turn rule rules true h = sym (ap (λ c. c.turn) (flagged-stays (do_rule d at turn rule) rules))
  flagged-by turn rule rules false h = h

  pub take-flagged : (turn : Stepped State Packet) (rules : List Rule) → take_first d at turn rules ≡ (fold (flagged d at) (untaken turn) rules).turn
  take-flagged turn [] = refl
  take-flagged turn (rule ∷ rules) = flagged-by turn rule rules (is_true (value_of d at turn.state rule.guard)) (take-flagged turn rules)
