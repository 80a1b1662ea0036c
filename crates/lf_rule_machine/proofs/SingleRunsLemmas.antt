-- As long as each packet that is sent has one note, a run with packets is the run with their notes.
use Rattle.std.proofs.Common.{◌≡◌, ℕ, zero, suc, ◌<◌, ◌≤◌, Bool, true, false, cond, List, [], ◌∷◌, length, refl, sym, ap, ◌∙◌, subst, arith, inl, inr}
use Rattle.std.proofs.Common.{add-one}
use Rattle.std.specs.Prelude.{◌&&◌, nat_eq, not, Option, None, Some, map}
use Rattle.std.specs.Option.{option_map, option_to_list}
use Rattle.std.specs.List.{fold, list_all}
use Rattle.std.proofs.lemmas.Bool.{and_parts}
use Rattle.std.proofs.lemmas.Bool.Decides.{leb_tells}
use Rattle.std.proofs.lemmas.List.{map-append}
use Rattle.lf_faults.specs.declared.fault.Parts.{Parts}
use Rattle.lf_faults.specs.Faults.{set_omits, set_wakes}
use Rattle.lf_sim.specs.declared.letter.Letter.{Letter}
use Rattle.lf_sim.specs.declared.out.Stepped.{Stepped}
use Rattle.lf_sim.specs.Machines.{Rules}
use Rattle.lf_sim.specs.Outs.{note_to, nothing}
use Rattle.lf_sim.specs.OutsLemmas.{note_to-nothing}
use Rattle.lf_sim.specs.Runs.{World, Past, each_below, takes_step, is_up, before_step, letter, letters, turn, did, sent, view, inbox}
use Rattle.lf_sim.proofs.Laws.{did-suc, did-zero}
use Rattle.lf_rules.specs.declared.rule.Event.{Event}
use Rattle.lf_rules.specs.declared.rule.Event.TheVariants as events
use Rattle.lf_rules.specs.declared.rule.Send.{Send}
use Rattle.lf_rules.specs.declared.rule.Rule.{Rule}
use Rattle.lf_rules.specs.declared.rule.Chain.{Chain}
use Rattle.lf_rules.specs.declared.sort.Scope.{Scope}
use Rattle.lf_rules.specs.declared.definition.Definition.{Definition}
use Rattle.lf_rules.specs.Forms.{is_well_formed, is_chain, is_rule_in, scope_of, sends_of}
use Rattle.lf_rule_machine.specs.Moments.{Moment, given_here}
use Rattle.lf_rule_machine.specs.Instances.{Instance}
use Rattle.lf_rule_machine.specs.declared.state.State.{State}
use Rattle.lf_rule_machine.specs.declared.state.Note.{Note}
use Rattle.lf_rule_machine.specs.declared.state.Packet.{Packet}
use Rattle.lf_rule_machine.specs.declared.fact.Fact.{Fact}
use Rattle.lf_rule_machine.specs.States.{zeros}
use Rattle.lf_rule_machine.specs.Sets.{is_true}
use Rattle.lf_rule_machine.specs.Values.{value_of}
use Rattle.lf_rule_machine.specs.Events.{same_event, is_passed, assign, send, do_rule, first_true, do_found, take_first, pass, act}
use Rattle.lf_rule_machine.specs.Machines.{moment, no_fields, opened, act_alone, start_of, wake_of, step_of}
use Rattle.lf_rule_machine.specs.Ruleds.{rules_of}
use Rattle.lf_rule_machine.specs.Singles as singles
use Rattle.lf_rule_machine.specs.Singles.{rules_of_notes}
use Rattle.lf_rule_machine.specs.SingleRuns.{single, IsSingle, IsSingleRun, letter_in_packet, in_packets, world_of_notes}
use Rattle.lf_rule_machine.proofs.IndexesLemmas.{chains-formed}
use Rattle.lf_rule_machine.proofs.FormedLemmas.{rule-sends, chain-rules, passed-event}
use Rattle.lf_rule_machine.proofs.SinglesLemmas.{HasTwo, act-follows, note_to-packets, IsClear, step-clear}

-- at the start and on waking nothing is sent
same-sends : (one other : Event) → same_event one other ≡ true → sends_of other ≡ 0 → sends_of one ≡ 0
same-sends events.Start other same none = refl
same-sends events.Wake other same none = refl
same-sends events.Begin events.Begin same none = absurd (omega (arith, none))
same-sends events.Begin other same none = absurd (cc)
same-sends (events.Note a) (events.Note b) same none = absurd (omega (arith, none))
same-sends (events.Note a) other same none = absurd (cc)
same-sends events.End events.End same none = absurd (omega (arith, none))
same-sends events.End other same none = absurd (cc)

cond-out : (b : Bool) (one other : Stepped State Packet) → (b ≡ true → one.out ≡ other.out) → (cond b one other).out ≡ other.out
cond-out true one other same = same refl
cond-out false one other same = refl

module _ (d : Definition) (at : Moment) (scope : Scope) (sends : ℕ) (none : sends ≡ 0) where
  no-sends : (xs : List Send) (turn : Stepped State Packet) → length xs ≤ 0 → (fold (send d at) turn xs).out ≡ turn.out
  no-sends [] turn few = refl
  no-sends (x ∷ xs) turn few = absurd (omega (arith, few))

  rule-quiet : (turn : Stepped State Packet) (rule : Rule) → is_rule_in d scope sends rule ≡ true → (do_rule d at turn rule).out ≡ turn.out
  rule-quiet turn rule formed =
      no-sends rule.sends (record { state = fold (assign d at) turn.state rule.sets; out = turn.out })
      (subst (λ n. length rule.sends ≤ n) none (rule-sends d scope sends rule formed).0)

  guarded : (b : Bool) (turn : Stepped State Packet) (one other : Option Rule) → (do_found d at turn one).out ≡ turn.out
      → (do_found d at turn other).out ≡ turn.out → (do_found d at turn (cond b one other)).out ≡ turn.out
  guarded true turn one other this that = this
  guarded false turn one other this that = that

  found-quiet : (turn : Stepped State Packet) (s : State) (rules : List Rule) → list_all (is_rule_in d scope sends) rules ≡ true
      → (do_found d at turn (first_true d at s rules)).out ≡ turn.out
  found-quiet turn s [] formed = refl
  found-quiet turn s (rule ∷ rules) formed =
      let parts = and_parts (is_rule_in d scope sends rule) (list_all (is_rule_in d scope sends) rules) formed in
      guarded (is_true (value_of d at s rule.guard)) turn (Some rule) (first_true d at s rules) (rule-quiet turn rule parts.0)
      (found-quiet turn s rules parts.1)

module _ (d : Definition) (at : Moment) (event : Event) (none : sends_of event ≡ 0) where
  pass-quiet : (turn : Stepped State Packet) (chain : Chain) → is_chain d chain ≡ true → (pass d at event turn chain).out ≡ turn.out
  pass-quiet turn chain formed =
      cond-out (is_passed at.nodes at.me (given_here at) event chain) (take_first d at turn chain.rules) turn (λ passed.
      let same : same_event chain.on event ≡ true = passed-event at.nodes at.me (given_here at) event chain passed in
      found-quiet d at (scope_of chain.on) (sends_of chain.on) (same-sends chain.on event same none) turn turn.state chain.rules
      (chain-rules d chain formed))

  chains-quiet : (chains : List Chain) (turn : Stepped State Packet) → list_all (is_chain d) chains ≡ true
      → (fold (pass d at event) turn chains).out ≡ turn.out
  chains-quiet [] turn formed = refl
  chains-quiet (x ∷ xs) turn formed =
      let parts = and_parts (is_chain d x) (list_all (is_chain d) xs) formed in
      chains-quiet xs (pass d at event turn x) parts.1 ∙ pass-quiet turn x parts.0

  pub act-quiet : (turn : Stepped State Packet) → is_well_formed d ≡ true → (act d at event turn).out ≡ turn.out
  unfolding act
  act-quiet turn formed = chains-quiet d.chains turn (chains-formed d 0 [] formed)

nothing-one : HasTwo (nothing {Note = Packet}) → ⊥
nothing-one two =
    let nowhere : None ≡ Some two.packet = sym (note_to-nothing {Note = Packet} two.to) ∙ two.there in
    absurd (cc)

module _ (d : Definition) (nodes : ℕ) (given : List (List ℕ)) (formed : is_well_formed d ≡ true) where
  alone-same : (n t : ℕ) (event : Event) (s : State) → sends_of event ≡ 0
      → (act_alone d nodes given n t event (opened s)).state ≡ (singles.act_alone d nodes given n t event (singles.opened s)).state
  alone-same n t event s none =
      elim ((act-follows d (moment nodes given n t 0 no_fields) event).kept (singles.opened s)) [
        | inl same ↦ ap (λ (x : Stepped State Packet). x.state) same
        | inr two ↦ absurd (nothing-one (subst HasTwo (act-quiet d (moment nodes given n t 0 no_fields) event none (opened s) formed) two.0))
      ]

  start-same : (n : ℕ) → start_of d nodes given n ≡ singles.start_of d nodes given n
  start-same n = alone-same n 0 events.Start zeros refl

  wake-same : (n t : ℕ) (s : State) → wake_of d nodes given n t s ≡ singles.wake_of d nodes given n t s
  wake-same n t s = alone-same n t events.Wake s refl

-- letters, one by one and all
each-map : {A B : Type 0} (h : A → B) (f : ℕ → List B) (g : ℕ → List A) (n : ℕ) → ((k : ℕ) → k < n → f k ≡ map h (g k))
    → each_below f n ≡ map h (each_below g n)
each-map h f g zero same = refl
each-map h f g (suc n) same =
    let before : each_below f n ≡ map h (each_below g n) = each-map h f g n (λ k low. same k (omega (arith, low))) in
    let last : f n ≡ map h (g n) = same n (omega arith) in
    rw (before, last) (sym (map-append h (each_below g n) (g n)))

list-map : (o : Option (Letter Note)) → option_to_list (option_map letter_in_packet o) ≡ map letter_in_packet (option_to_list o)
list-map None = refl
list-map (Some x) = refl

-- a letter of n's at t
abbrev letter_by : {N : Type 0} → ℕ → ℕ → Option N → Option (Letter N)
letter_by n t o = option_map (λ note. record { from = n; sent = t; note = note }) o

letter-made : (b : Bool) (n t : ℕ) (o : Option Note)
    → cond b (letter_by n t (option_map single o)) None ≡ option_map letter_in_packet (cond b (letter_by n t o) None)
letter-made false n t o = refl
letter-made true n t None = refl
letter-made true n t (Some x) = refl

-- what a node does where it takes no step
abbrev resting : {N : Type 0} → Stepped State N → Stepped State N
resting turn = record { state = turn.state; out = nothing }

module _ (m : Instance) (formed : is_well_formed m.definition ≡ true) (horizon pause_length : ℕ) (arrival : ℕ → ℕ → ℕ → ℕ) (faults : List Parts) where
  abbrev with_packets : World State Packet Fact
  with_packets = record { rules = rules_of m; horizon = horizon; pause_length = pause_length; arrival = arrival }

  abbrev with_notes : World State Note Fact
  with_notes = record { rules = rules_of_notes m; horizon = horizon; pause_length = pause_length; arrival = arrival }

  letter-same : (p : Past State Packet) (q : Past State Note) (to u n t : ℕ) → p n t ≡ in_packets (q n t)
      → letter with_packets faults p to u n t ≡ option_map letter_in_packet (letter with_notes faults q to u n t)
  unfolding letter
  letter-same p q to u n t same =
      let told : note_to (p n t).out to ≡ option_map single (note_to (q n t).out to) =
      ap (λ (x : Stepped State Packet). note_to x.out to) same ∙ note_to-packets (q n t).out to in
      let comes : Bool = not (nat_eq n to) && (nat_eq (arrival n to t) u && not (set_omits faults n to t)) in
      ap (λ o. cond comes (letter_by n t o) None) told ∙ letter-made comes n t (note_to (q n t).out to)

  letters-same : (p : Past State Packet) (q : Past State Note) (to u : ℕ) → ((n t : ℕ) → t < u → p n t ≡ in_packets (q n t))
      → letters with_packets faults p to u ≡ map letter_in_packet (letters with_notes faults q to u)
  unfolding letters
  letters-same p q to u same =
      each-map letter_in_packet _ _ m.nodes (λ n low. each-map letter_in_packet _ _ u (λ t early.
      ap option_to_list (letter-same p q to u n t (same n t early)) ∙ list-map (letter with_notes faults q to u n t)))

  woken-same : (n t : ℕ) (s : State) → before_step with_packets faults n t s ≡ before_step with_notes faults n t s
  unfolding before_step
  woken-same n t s = ap (λ x. cond (set_wakes pause_length faults n t) x s) (wake-same m.definition m.nodes m.given formed n t s)

  stepped : (n t : ℕ) (s other : State) (mail : List (Letter Packet)) (notes : List (Letter Note)) → s ≡ other → mail ≡ map letter_in_packet notes
      → IsClear ((rules_of m).step n t s mail) ((rules_of_notes m).step n t other notes)
      → (rules_of m).step n t s mail ≡ in_packets ((rules_of_notes m).step n t other notes)
  stepped n t s other mail notes from same clear =
      let seen : step_of m.definition m.nodes m.given n t s mail ≡ step_of m.definition m.nodes m.given n t other (map letter_in_packet notes) =
      rw (from, same) refl in
      seen ∙ step-clear m.definition m.nodes m.given n t other notes (subst (λ x. IsClear x ((rules_of_notes m).step n t other notes)) seen clear)

  turn-by : (b : Bool) (one rest : Stepped State Packet) (notes idle : Stepped State Note) → (IsClear one notes → one ≡ in_packets notes)
      → rest ≡ in_packets idle → IsClear (cond b one rest) (cond b notes idle) → cond b one rest ≡ in_packets (cond b notes idle)
  turn-by true one rest notes idle this that clear = this clear
  turn-by false one rest notes idle this that clear = that

  turn-same : (p : Past State Packet) (q : Past State Note) (n t : ℕ) → ((k s : ℕ) → s ≤ t → p k s ≡ in_packets (q k s))
      → IsClear (turn with_packets faults p n t) (turn with_notes faults q n t)
      → turn with_packets faults p n t ≡ in_packets (turn with_notes faults q n t)
  unfolding turn is_up
  turn-same p q n t same clear =
      let here : p n t ≡ in_packets (q n t) = same n t (omega arith) in
      let state : (p n t).state ≡ (q n t).state = ap (λ (x : Stepped State Packet). x.state) here in
      let from : State = before_step with_packets faults n (suc t) (p n t).state in
      let other : State = before_step with_notes faults n (suc t) (q n t).state in
      let mail : List (Letter Packet) = letters with_packets faults p n (suc t) in
      let notes : List (Letter Note) = letters with_notes faults q n (suc t) in
      let begins : from ≡ other = ap (before_step with_packets faults n (suc t)) state ∙ woken-same n (suc t) (q n t).state in
      let arrives : mail ≡ map letter_in_packet notes = letters-same p q n (suc t) (λ k s early. same k s (omega (arith, early))) in
      turn-by (is_up with_packets faults n (suc t)) ((rules_of m).step n (suc t) from mail) (resting (p n t))
      ((rules_of_notes m).step n (suc t) other notes) (resting (q n t)) (stepped n (suc t) from other mail notes begins arrives) (ap resting here) clear

  did-next : {N : Type 0} (w : World State N Fact) (n t : ℕ) → did w faults n (suc t) ≡ turn w faults (did w faults) n t
  did-next w n t = subst (λ k. did w faults n k ≡ turn w faults (did w faults) n t) (add-one t) (did-suc w faults n t)

  did-until : ((n t : ℕ) → IsClear (did with_packets faults n t) (did with_notes faults n t)) → (b n t : ℕ) → t ≤ b
      → did with_packets faults n t ≡ in_packets (did with_notes faults n t)
  did-until clear zero n zero low =
      did-zero with_packets faults n
      ∙ ap (λ s. opened s) (start-same m.definition m.nodes m.given formed n)
      ∙ ap in_packets (sym (did-zero with_notes faults n))
  did-until clear zero n (suc t) low = absurd (omega (arith, low))
  did-until clear (suc b) n t low =
      elim (leb_tells t b) [
        | inl early ↦ did-until clear b n t early.1
        | inr late ↦
            let last : suc b ≡ t = omega (arith, late.1, low) in
            let next : did with_packets faults n (suc b) ≡ turn with_packets faults (did with_packets faults) n b = did-next with_packets n b in
            let then : did with_notes faults n (suc b) ≡ turn with_notes faults (did with_notes faults) n b = did-next with_notes n b in
            let here : IsClear (turn with_packets faults (did with_packets faults) n b) (turn with_notes faults (did with_notes faults) n b) =
            subst (λ x. IsClear (turn with_packets faults (did with_packets faults) n b) x) then
            (subst (λ x. IsClear x (did with_notes faults n (suc b))) next (clear n (suc b))) in
            subst (λ k. did with_packets faults n k ≡ in_packets (did with_notes faults n k)) last
            (next ∙ turn-same (did with_packets faults) (did with_notes faults) n b (λ k s early. did-until clear b k s early) here
            ∙ ap in_packets (sym then))
      ]

  did-same : ((n t : ℕ) → IsClear (did with_packets faults n t) (did with_notes faults n t)) → (n t : ℕ)
      → did with_packets faults n t ≡ in_packets (did with_notes faults n t)
  did-same clear n t = did-until clear t n t (omega arith)

-- a world of a machine's rules
module _ (m : Instance) (w : World State Packet Fact) (faults : List Parts) (formed : is_well_formed m.definition ≡ true) (ruled : w.rules ≡ rules_of m) where
  abbrev by_rules : Rules State Packet Fact → World State Packet Fact
  by_rules rules = record { rules = rules; horizon = w.horizon; pause_length = w.pause_length; arrival = w.arrival }

  did-clear : ((n t : ℕ) → IsClear (did w faults n t) (did (world_of_notes m w) faults n t)) → (n t : ℕ)
      → did w faults n t ≡ in_packets (did (world_of_notes m w) faults n t)
  did-clear =
      subst (λ rules. ((n t : ℕ) → IsClear (did (by_rules rules) faults n t) (did (world_of_notes m w) faults n t)) → (n t : ℕ)
      → did (by_rules rules) faults n t ≡ in_packets (did (world_of_notes m w) faults n t))
      (sym ruled) (did-same m formed w.horizon w.pause_length w.arrival faults)

-- a note in a packet of its own
single-by : (o : Option Note) (p : Packet) → option_map single o ≡ Some p → IsSingle p
single-by None p is = absurd (cc)
single-by (Some x) p is =
    let same : single x ≡ p = cc in
    (x, sym same)

-- where no single note took another one's place, each packet has one note
pub kept-single : (m : Instance) (w : World State Packet Fact) (faults : List Parts) → is_well_formed m.definition ≡ true → w.rules ≡ rules_of m
    → ((n t : ℕ) → (view (world_of_notes m w) faults n t).replaced ≡ false) → IsSingleRun m w faults
kept-single m w faults formed ruled kept = record {
  formed = formed;
  ruled = ruled;
  singles = λ n to t p there.
      single-by (note_to (did (world_of_notes m w) faults n t).out to) p
      (sym (ap (λ (x : Stepped State Packet). note_to x.out to) (did-clear m w faults formed ruled (λ k s. inr (kept k s)) n t)
      ∙ note_to-packets (did (world_of_notes m w) faults n t).out to) ∙ there);
}

-- a run whose packets have one note each
module _ (m : Instance) (w : World State Packet Fact) (faults : List Parts) (run : IsSingleRun m w faults) where
  abbrev with_rules : Rules State Packet Fact → World State Packet Fact
  with_rules rules = record { rules = rules; horizon = w.horizon; pause_length = w.pause_length; arrival = w.arrival }

  pub did-single : (n t : ℕ) → did w faults n t ≡ in_packets (did (world_of_notes m w) faults n t)
  did-single = did-clear m w faults run.formed run.ruled (λ n t. inl (λ to p there. run.singles n to t p there))

  pub up-single : (n t : ℕ) → is_up w faults n t ≡ is_up (world_of_notes m w) faults n t
  unfolding is_up
  up-single n t = ap (λ (rules : Rules State Packet Fact). takes_step rules.nodes w.horizon w.pause_length faults n t) run.ruled

  pub view-single : (n t : ℕ) → view w faults n t ≡ view (world_of_notes m w) faults n t
  view-single n t = ap (λ (x : Stepped State Packet). x.state) (did-single n t)

  pub sent-single : (n to t : ℕ) → sent w faults n to t ≡ option_map single (sent (world_of_notes m w) faults n to t)
  sent-single n to t =
      ap (λ (x : Stepped State Packet). note_to x.out to) (did-single n t) ∙ note_to-packets (did (world_of_notes m w) faults n t).out to

  inbox-by : (p : Past State Packet) (q : Past State Note) (to u : ℕ) → ((n t : ℕ) → p n t ≡ in_packets (q n t))
      → letters w faults p to u ≡ map letter_in_packet (letters (world_of_notes m w) faults q to u)
  inbox-by p q to u same =
      subst (λ rules. letters (with_rules rules) faults p to u ≡ map letter_in_packet (letters (world_of_notes m w) faults q to u)) (sym run.ruled)
      (letters-same m run.formed w.horizon w.pause_length w.arrival faults p q to u (λ n t early. same n t))

  pub inbox-single : (to u : ℕ) → inbox w faults to u ≡ map letter_in_packet (inbox (world_of_notes m w) faults to u)
  inbox-single to u = inbox-by (did w faults) (did (world_of_notes m w) faults) to u did-single

  pub shown-single : (n t : ℕ) (fact : Fact)
      → w.rules.shows n (view w faults n t) fact ≡ (world_of_notes m w).rules.shows n (view (world_of_notes m w) faults n t) fact
  shown-single n t fact =
      ap (λ s. w.rules.shows n s fact) (view-single n t) ∙ ap (λ rules. rules.shows n (view (world_of_notes m w) faults n t) fact) run.ruled
