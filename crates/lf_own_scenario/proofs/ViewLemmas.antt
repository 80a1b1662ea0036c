-- In a run of a protocol of rules each view is a state of rules.
use Rattle.std.proofs.Common.{◌≡◌, ℕ, zero, suc, Bool, true, false, not, List, refl, sym, ap, subst}
use Rattle.std.specs.Prelude.{Some, if◌then◌else◌, nat_le, slice_get}
use Rattle.lf_faults.specs.declared.fault.Parts.{Parts}
use Rattle.lf_faults.specs.Faults.{set_wakes}
use Rattle.lf_rules.specs.declared.topic.Topic.{Topic}
use Rattle.lf_rule_machine.specs.declared.state.State.{State as RuleState}
use Rattle.lf_rule_machine.specs.Instances.{Instance}
use Rattle.lf_rule_machine.specs.Machines as rules
use Rattle.lf_rule_machine.specs.declared.fact.Fact.{Fact as Told}
use Rattle.lf_protocols.specs.declared.fact.Fact.{Fact}
use Rattle.lf_protocols.specs.declared.note.Note.{Note}
use Rattle.lf_protocols.specs.declared.state.State.{State}
use Rattle.lf_protocols.specs.declared.state.State.TheVariants as states
use Rattle.lf_protocols.specs.declared.protocol.Kind.TheVariants as kinds
use Rattle.lf_protocols.specs.Protocols.{rules_of, step_of, wake_of}
use Rattle.lf_protocols.specs.RuledTurns.{step_by_rules}
use Rattle.lf_sim.specs.declared.letter.Letter.{Letter}
use Rattle.lf_sim.specs.declared.out.Stepped.{Stepped}
use Rattle.lf_sim.specs.Outs.{nothing}
use Rattle.lf_sim.specs.Runs.{World, Past, is_up, before_step, letters, turn, history, did, view}
use Rattle.lf_promises.specs.Fronts.{opposite}
use Rattle.lf_own_scenario.specs.Quantities.{ruled}
use Rattle.lf_own_scenario.proofs.KeptLemmas.{entry_on}

record IsOwn (s : State) : Type 0 where
  pub own : RuleState
  pub is : s ≡ states.Ruled own

own-of : (c : Bool) (x y : State) → IsOwn x → IsOwn y → IsOwn (if c then x else y)
own-of true x y p q = p
own-of false x y p q = q

own-turn : (c : Bool) (x y : Stepped State Note) → IsOwn x.state → IsOwn y.state → IsOwn (if c then x else y).state
own-turn true x y p q = p
own-turn false x y p q = q

module _ (m : Instance) (last pause : ℕ) (arrival : ℕ → ℕ → ℕ → ℕ) where
  abbrev w : World State Note Fact
  w = record { rules = rules_of (kinds.Ruled m); horizon = last; pause_length = pause; arrival = arrival }

  step-own : (n t : ℕ) (s : State) (inbox : List (Letter Note)) → IsOwn s → IsOwn (step_of (kinds.Ruled m) n t s inbox).state
  step-own n t s inbox p =
      subst (λ z. IsOwn (step_of (kinds.Ruled m) n t z inbox).state) (sym p.is)
      (record { own = (step_by_rules m n t p.own inbox).state; is = refl })

  wake-own : (n t : ℕ) (s : State) → IsOwn s → IsOwn (wake_of (kinds.Ruled m) n t s)
  wake-own n t s p =
      subst (λ z. IsOwn (wake_of (kinds.Ruled m) n t z)) (sym p.is)
      (record { own = rules.wake_of m.definition m.nodes m.given n t p.own; is = refl })

  module _ (faults : List Parts) where
    before-own : (n t : ℕ) (s : State) → IsOwn s → IsOwn (before_step w faults n t s)
    unfolding before_step
    before-own n t s p = own-of (set_wakes pause faults n t) (wake_of (kinds.Ruled m) n t s) s (wake-own n t s p) p

    turn-own : (past : Past State Note) (n t : ℕ) → IsOwn (past n t).state → IsOwn (turn w faults past n t).state
    unfolding turn
    turn-own past n t p =
        own-turn (is_up w faults n (suc t))
        (step_of (kinds.Ruled m) n (suc t) (before_step w faults n (suc t) (past n t).state) (letters w faults past n (suc t)))
        (record { state = (past n t).state; out = nothing })
        (step-own n (suc t) (before_step w faults n (suc t) (past n t).state) (letters w faults past n (suc t)) (before-own n (suc t) (past n t).state p)) p

    history-own : (b n t : ℕ) → IsOwn (history w faults b n t).state
    unfolding history
    history-own zero n t = record { own = rules.start_of m.definition m.nodes m.given n; is = refl }
    history-own (suc b) n t =
        own-turn (nat_le t b) (history w faults b n t) (turn w faults (history w faults b) n b) (history-own b n t)
        (turn-own (history w faults b) n b (history-own b n b))

    view-own : (n t : ℕ) → IsOwn (view w faults n t)
    unfolding did
    view-own n t = history-own t n t

    -- a state shows the opposite of a fact where it doesn't show the fact
    opposite-own : (n : ℕ) (own : RuleState) (fact : Told) (denied : Bool) → fact.denied ≡ denied
        → rules.shows_of m.definition m.nodes m.given n own (opposite fact) ≡ not (rules.shows_of m.definition m.nodes m.given n own fact)
    opposite-own n own fact true is = rw is (twice (rules.is_told m.definition m.nodes m.given n own fact.told))
      where
        twice : (b : Bool) → b ≡ not (not b)
        twice true = refl
        twice false = refl
    opposite-own n own fact false is = rw is refl

    pub opposed : (n t : ℕ) (fact : Told)
        → w.rules.shows n (view w faults n t) (ruled (opposite fact)) ≡ not (w.rules.shows n (view w faults n t) (ruled fact))
    opposed n t fact =
        let p = view-own n t in
        subst (λ z. w.rules.shows n z (ruled (opposite fact)) ≡ not (w.rules.shows n z (ruled fact))) (sym p.is)
        (opposite-own n p.own fact fact.denied refl)

    pub record IsTold (n t : ℕ) : Type 0 where
      pub own : RuleState
      pub state : view w faults n t ≡ states.Ruled own
      pub facts : (fact : Told) → w.rules.shows n (view w faults n t) (ruled fact)
          ≡ (if fact.denied then not (rules.is_told m.definition m.nodes m.given n own fact.told)
          else rules.is_told m.definition m.nodes m.given n own fact.told)

    pub told : (n t : ℕ) → IsTold n t
    told n t =
        let p = view-own n t in
        record { own = p.own; state = p.is; facts = λ fact. ap (λ z. w.rules.shows n z (ruled fact)) p.is }

    -- what a view enters under a topic is what the values of the topic's expressions say
    pub enters : (last : ℕ) (first : ℕ) (topic : Topic) → slice_get m.topics first ≡ Some topic → (n t : ℕ)
        → w.rules.entry n (view w faults n t) first
        ≡ entry_on m.definition (record { nodes = m.nodes; horizon = last; given = m.given }) n (view w faults n t) topic
    enters last first topic is n t =
        let p = view-own n t in
        subst (λ z. w.rules.entry n z first ≡ entry_on m.definition (record { nodes = m.nodes; horizon = last; given = m.given }) n z topic) (sym p.is)
        (ap (rules.entry_by m.definition m.nodes m.given n p.own) is)
