-- The scenario of a table whose outcome is a text: where its promise is kept.
use Rattle.std.proofs.Common.{◌≡◌, ℕ, Bool, true, false, cond, List, [], append-nil, Some, Result, Ok, Err, refl, sym, ap, ◌∙◌, subst}
use Rattle.std.specs.Prelude.{nat_le, ◌&&◌}
use Rattle.toml.specs.Data.{string, Members, get_member}
use Rattle.lf_faults.specs.declared.fault.Parts.{Parts}
use Rattle.lf_faults.specs.declared.spec.Bounds.{Bounds}
use Rattle.lf_latency.specs.Arrivals.{arrival_of}
use Rattle.lf_rules.specs.declared.definition.Given.{Given}
use Rattle.lf_rules.specs.declared.topic.Topic.{Topic}
use Rattle.lf_rule_machine.specs.Constants.{given_table}
use Rattle.lf_protocols.specs.declared.fact.Fact.{Fact}
use Rattle.lf_rule_machine.specs.Instances.{Instance}
use Rattle.lf_protocols.specs.declared.note.Note.{Note}
use Rattle.lf_protocols.specs.declared.state.State.{State}
use Rattle.lf_protocols.specs.declared.protocol.Kind.{Kind}
use Rattle.lf_protocols.specs.declared.protocol.Kind.TheVariants as kinds
use Rattle.lf_protocols.specs.Protocols.{rules_of}
use Rattle.lf_sim.specs.Runs.{World}
use Rattle.lf_outcome.specs.declared.formula.Formula.{Formula}
use Rattle.lf_outcome.specs.Measures.{depth_of, atoms_of}
use Rattle.lf_outcome.specs.Truth.{is_down, is_shown, is_single, reaches, truth}
use Rattle.lf_outcome.specs.Unfolding.{unfolded as said_by}
use Rattle.lf_outcome.proofs.Laws.{plain-unfolded, unfolded-plain}
use Rattle.lf_sim.specs.Settings.{world_of}
use Rattle.lf_promises.specs.declared.promise.Promise.{Promise}
use Rattle.lf_own_scenario.specs.declared.error.UnfoldError.TheVariants as unfold_refusals
use Rattle.lf_own_scenario.specs.declared.scene.Scene.{Scene}
use Rattle.lf_own_scenario.specs.Topics.{topics_in, count_topics}
use Rattle.lf_own_scenario.specs.Spans.{spanned_at, unfolded}
use Rattle.lf_own_scenario.specs.Unfolding.{formula_at, names_nodes, limited, asked_of}
use Rattle.lf_protocol_file.specs.declared.declared.Declared.{Declared}
use Rattle.lf_scenario.specs.declared.key.Key.TheVariants as keys
use Rattle.lf_scenario.specs.declared.error.ScenarioError.TheVariants as refusals
use Rattle.lf_outcome.specs.declared.scenario.Scenario.{Scenario}
use Rattle.lf_scenario.specs.Keys.{key_name}
use Rattle.lf_scenario.specs.LinkTables.{all_links}
use Rattle.lf_scenario.specs.Scenarios.{Asked}
use Rattle.lf_scenario.specs.Values.{Reading, ◌>>=◌, found_or, required}
use Rattle.lf_own_scenario.specs.Constants.{given_in}
use Rattle.lf_own_scenario.specs.Keys.{bounded_in, settled_in}
use Rattle.lf_own_scenario.specs.Kept.{is_kept, IsOfRules, IsPromised}
use Rattle.lf_own_scenario.specs.Machines.{kind_of, with_topics}
use Rattle.lf_own_scenario.specs.declared.outcomes.Demand.{Demand}
use Rattle.lf_own_scenario.specs.Outcomes.{named, said, scene_of, unfolded_to, asking, demand_of, text_demand, outcome_in}
use Rattle.lf_own_scenario.specs.Scenarios.{Settled, chosen_in, asked_with, IsAskedWith}
use Rattle.lf_own_scenario.specs.Scenarios.{asking as with_asked}
use Rattle.lf_own_scenario.specs.Zeros.{promise_divides}
use Rattle.lf_own_scenario.proofs.KeptLemmas.{formula-kept}
use Rattle.lf_own_scenario.proofs.SpanLemmas.{spanned-says}
use Rattle.lf_own_scenario.proofs.ViewLemmas.{enters, opposed, told}

-- what stands before a step
step-inv : {A B : Type 0} {y : B} (r : Reading A) (next : A → Reading B) → (r >>= next) ≡ Ok y → (x : A) × (r ≡ Ok x) × (next x ≡ Ok y)
step-inv (Err e) next h = absurd cc
step-inv (Ok x) next h = (x, refl, h)

-- the world of a protocol
abbrev world_by : Kind → ℕ → ℕ → (ℕ → ℕ → ℕ → ℕ) → World State Note Fact
world_by k last pause arrival = record { rules = rules_of k; horizon = last; pause_length = pause; arrival = arrival }

-- ---- the formula of a promise

limited-is : (f g : Formula Fact) → limited f ≡ Ok g → g ≡ f
unfolding limited
limited-is f g h = go (nat_le (depth_of f) 8 && nat_le (atoms_of f) 4096) h
  where
    go : (so : Bool) → cond so (Ok f) (Err unfold_refusals.TooLarge) ≡ Ok g → g ≡ f
    go true e = let same : f ≡ g = cc in sym same
    go false e = absurd cc

asked-is : (topics : ℕ) (f g : Formula Fact) → asked_of topics f ≡ Ok g → g ≡ f
unfolding asked_of
asked-is topics f g h = go (nat_le topics 256) h
  where
    go : (so : Bool) → cond so (limited f) (Err unfold_refusals.TooLarge) ≡ Ok g → g ≡ f
    go true e = limited-is f g e
    go false e = absurd cc

unfolded-is : (s : Scene) (p : Promise) (f : Formula Fact) → unfolded s p ≡ Ok f → f ≡ spanned_at s 0 p s.horizon
unfolding unfolded
unfolded-is s p f h = go (names_nodes s.nodes p) h
  where
    go : (so : Bool) → cond so (asked_of (count_topics p) (spanned_at s 0 p s.horizon)) (Err unfold_refusals.NoNode) ≡ Ok f → f ≡ spanned_at s 0 p s.horizon
    go true e = asked-is (count_topics p) (spanned_at s 0 p s.horizon) f e
    go false e = absurd cc

-- its formula says what the promise is, step by step,
pub unfolded-says : (s : Scene) (p : Promise) (f : Formula Fact) → unfolded s p ≡ Ok f → said_by f ≡ formula_at s 0 p s.horizon
unfolded-says s p f is = ap (λ g. said_by g) (unfolded-is s p f is) ∙ spanned-says s 0 p s.horizon

-- and is true in the same runs
reaches-says : (w : World State Note Fact) (faults : List Parts) (s : Scene) (p : Promise) (t : ℕ)
    → reaches w faults (spanned_at s 0 p t) ≡ reaches w faults (formula_at s 0 p t)
reaches-says w faults s p t =
    let f = spanned_at s 0 p t in
    let again : said_by (said_by f) ≡ said_by f = unfolded-plain (said_by f) (plain-unfolded f 0) in
    ap (truth (is_down w faults) (is_shown w faults) (is_single w faults)) (sym again)
    ∙ ap (reaches w faults) (spanned-says s 0 p t)

-- what a promise demands is its formula and its topics
record IsDemand (b : Bounds) (given : List Given) (p : Promise) (x : Demand) : Type 0 where
  pub formula : x.formula ≡ spanned_at (scene_of b given) 0 p b.horizon
  pub topics : x.topics ≡ topics_in p

demand-is : (b : Bounds) (given : List Given) (p : Promise) (x : Demand) → demand_of b given p ≡ Ok x → IsDemand b given p x
unfolding demand_of
demand-is b given p x h = go (promise_divides given p) h
  where
    found : (r : Result (Formula Fact) _) → unfolded (scene_of b given) p ≡ r → unfolded_to r >>= (λ f. Ok (asking (topics_in p) f)) ≡ Ok x
        → IsDemand b given p x
    found (Ok g) is e =
        let same : asking (topics_in p) g ≡ x = cc in
        subst (IsDemand b given p) same (record { formula = unfolded-is (scene_of b given) p g is; topics = refl })
    found (Err e) is h = absurd cc

    go : (so : Bool) → cond so (Err refusals.Outcome) (unfolded_to (unfolded (scene_of b given) p) >>= (λ f. Ok (asking (topics_in p) f))) ≡ Ok x
        → IsDemand b given p x
    go true e = absurd cc
    go false e = found (unfolded (scene_of b given) p) refl e

-- ---- what a table says, in order

record HasText (file : Declared) (ms : Members) (words : List ℕ) (asked : Asked) : Type 0 where
  pub given : List Given
  pub constants : given_in file asked.described.bounds.nodes ms ≡ Ok given
  pub promise : Promise
  pub protocol : asked.described.protocol ≡ kind_of file asked.described.bounds.nodes given (topics_in promise)
  pub text : said file given words (named words file.outcomes) ≡ Ok promise
  pub formula : asked.formula ≡ spanned_at (scene_of asked.described.bounds given) 0 promise asked.described.bounds.horizon

record IsChosen (file : Declared) (ms : Members) (x : Settled) : Type 0 where
  pub constants : given_in file x.described.bounds.nodes ms ≡ Ok x.given
  pub protocol : x.described.protocol ≡ kind_of file x.described.bounds.nodes x.given []

module _ (file : Declared) (ms : Members) where
  chosen-is : (x : Settled) → chosen_in file ms ≡ Ok x → IsChosen file ms x
  unfolding chosen_in
  chosen-is x h =
      let bounded = step-inv (bounded_in ms) _ h in
      let settled = step-inv (settled_in file.name ms) _ bounded.2 in
      let given = step-inv (given_in file bounded.0.bounds.nodes ms) _ settled.2 in
      let made : Settled = record {
        described = record {
          bounds = bounded.0.bounds;
          max_sets = bounded.0.max_sets;
          delays = bounded.0.delays;
          protocol = kind_of file bounded.0.bounds.nodes given.0 [];
        };
        given = given.0;
      } in
      let same : made ≡ x = cc in
      subst (IsChosen file ms) same (record { constants = given.1; protocol = refl })

  text-is : (words : List ℕ) (asked : Asked) → get_member (key_name keys.Outcome) ms ≡ Some (string words) → asked_with file ms ≡ Ok asked
      → HasText file ms words asked
  unfolding asked_with required
  text-is words asked there h =
      let chosen = step-inv (chosen_in file ms) _ h in
      let bounds = chosen.0.described.bounds in
      let demand = step-inv (required ms keys.Outcome (outcome_in file chosen.0.given bounds)) _ chosen.2 in
      let links = step-inv (all_links bounds.nodes chosen.0.described.delays.least chosen.0.described.delays.spread ms) _ demand.2 in
      let made : Asked = record { described = with_asked chosen.0.described demand.0.topics; formula = demand.0.formula; links = links.0 } in
      let same : made ≡ asked = cc in
      let is = chosen-is chosen.0 chosen.1 in
      let read : text_demand file chosen.0.given bounds words ≡ Ok demand.0 = by_text demand.0 chosen.0 demand.1 in
      let promise = step-inv (said file chosen.0.given words (named words file.outcomes)) (demand_of bounds chosen.0.given) read in
      let own = demand-is bounds chosen.0.given promise.0 demand.0 promise.2 in
      subst (HasText file ms words) same
      (record {
        given = chosen.0.given;
        constants = is.constants;
        promise = promise.0;
        protocol =
            ap (λ (k : Kind). with_topics k demand.0.topics) is.protocol
            ∙ ap (λ (ts : List Topic). kind_of file bounds.nodes chosen.0.given ts) own.topics;
        text = promise.1;
        formula = own.formula;
      })
    where
      by_text : (f : Demand) (x : Settled) → required ms keys.Outcome (outcome_in file x.given x.described.bounds) ≡ Ok f
          → text_demand file x.given x.described.bounds words ≡ Ok f
      by_text f x e =
          ap (found_or (Err (refusals.Missing keys.Outcome)) (outcome_in file x.given x.described.bounds keys.Outcome)) (sym there) ∙ e

  pub promised : (words : List ℕ) (s : Scenario) → get_member (key_name keys.Outcome) ms ≡ Some (string words) → IsAskedWith file ms s
      → IsPromised file ms words s
  promised words s there a =
      let t = text-is words a.asked there a.reading in
      let bounds : s.setting.spec ≡ a.asked.described.bounds = a.scenario.bounds in
      let protocol : s.setting.machine ≡ kind_of file s.setting.spec.nodes t.given (topics_in t.promise) =
      a.scenario.protocol ∙ t.protocol ∙ ap (λ (b : Bounds). kind_of file b.nodes t.given (topics_in t.promise)) (sym bounds) in
      let formula : s.formula ≡ spanned_at (scene_of s.setting.spec t.given) 0 t.promise s.setting.spec.horizon =
      a.scenario.formula ∙ t.formula ∙ ap (λ (b : Bounds). spanned_at (scene_of b t.given) 0 t.promise b.horizon) (sym bounds) in
      let nodes = s.setting.spec.nodes in
      let scene = scene_of s.setting.spec t.given in
      let last = s.setting.spec.horizon in
      let pause = s.setting.spec.pause_length in
      let arrival = arrival_of s.setting.network in
      let m : Instance = record { definition = file.definition; nodes = nodes; given = given_table nodes t.given; topics = topics_in t.promise } in
      record {
        given = t.given;
        promise = t.promise;
        constants = ap (λ (b : Bounds). given_in file b.nodes ms) bounds ∙ t.constants;
        text = t.text;
        protocol = protocol;
        kept = λ faults.
            ap (reaches (world_of s.setting) faults) formula ∙ reaches-says (world_of s.setting) faults scene t.promise last
            ∙ subst (λ (k : Kind). reaches (world_by k last pause arrival) faults (formula_at scene 0 t.promise last)
            ≡ is_kept (world_by k last pause arrival) faults file.definition scene t.promise last) (sym protocol)
            (formula-kept (world_by (kinds.Ruled m) last pause arrival) faults (opposed m last pause arrival faults) file.definition scene (topics_in t.promise)
            (enters m last pause arrival faults last) t.promise 0 last
            (record { before = []; after = []; is = sym (append-nil (topics_in t.promise)); place = refl }));
        states = λ faults n t0.
            subst (λ (k : Kind). IsOfRules (world_by k last pause arrival) faults file nodes t.given n t0) (sym protocol)
            (let x = told m last pause arrival faults n t0 in record { own = x.own; state = x.state; facts = x.facts });
      }
