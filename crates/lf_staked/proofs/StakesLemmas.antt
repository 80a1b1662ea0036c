-- What is counted of the parts of a promise, part by part, and that it is there where a scenario is.
use Rattle.std.proofs.Common.{◌≡◌, ℕ, zero, suc, ◌+◌, List, [], ◌∷◌, ◌++◌, refl, sym, ap, ◌∙◌, arith, add-one, zero-add, append-nil, Ok, Err}
use Rattle.std.specs.Prelude.{Some, None, Option, IsOk, slice_get, length}
use Rattle.std.specs.List.{flat_map, range_with_len}
use Rattle.std.specs.Option.{option_and_then, option_to_list}
use Rattle.std.proofs.lemmas.Grind.{flat_map-append}
use Rattle.toml.specs.Data.{Data, string, integer, float, boolean, datetime, array, table, Members, get_member}
use Rattle.lf_faults.specs.declared.fault.Parts.{Parts}
use Rattle.lf_faults.specs.declared.spec.Bounds.{Bounds}
use Rattle.lf_rules.specs.declared.definition.Given.{Given}
use Rattle.lf_sim.specs.Runs.{World}
use Rattle.lf_protocols.specs.declared.fact.Fact.{Fact}
use Rattle.lf_protocols.specs.declared.note.Note.{Note}
use Rattle.lf_protocols.specs.declared.state.State.{State}
use Rattle.lf_promises.specs.declared.promise.Promise.{Promise}
use Rattle.lf_parts.specs.declared.part.Part.{Part}
use Rattle.lf_parts.specs.Parts.{parts_of}
use Rattle.lf_doubt.specs.declared.ground.Stake.{Stake}
use Rattle.lf_protocol_file.specs.declared.declared.Declared.{Declared}
use Rattle.lf_scenario.specs.Keys.{key_name}
use Rattle.lf_scenario.specs.declared.key.Key.TheVariants as keys
use Rattle.lf_scenario.specs.declared.error.ScenarioError.{ScenarioError}
use Rattle.lf_scenario.specs.declared.error.ScenarioError.TheVariants as refusals
use Rattle.lf_scenario.specs.Scenarios.{Asked}
use Rattle.lf_scenario.specs.Values.{Reading, ◌>>=◌, found_or, required}
use Rattle.lf_own_scenario.specs.declared.scene.Scene.{Scene}
use Rattle.lf_own_scenario.specs.Outcomes.{demand_of, named, outcome_in, said, scene_of}
use Rattle.lf_own_scenario.specs.Scenarios.{Settled, asked_with, chosen_in}
use Rattle.lf_staked.specs.Stakes.{outcome_stakes, said_stakes, stake_of, stakes_at, stakes_in, stakes_of}

-- one number more
range-more : (a n : ℕ) → range_with_len a (suc n) ≡ range_with_len a n ++ (a + n) ∷ []
range-more a zero = let same : a ≡ a + 0 = omega arith in ap (λ m. m ∷ []) same
range-more a (suc n) =
    let same : a + 1 + n ≡ a + suc n = omega arith in
    ap (λ ms. a ∷ ms) (range-more (a + 1) n ∙ ap (λ m. range_with_len (a + 1) n ++ m ∷ []) same)

flat-more : {X : Type 0} (f : ℕ → List X) (n : ℕ) → flat_map f (range_with_len 0 (n + 1)) ≡ flat_map f (range_with_len 0 n) ++ f n
flat-more f n =
    ap (λ m. flat_map f (range_with_len 0 m)) (add-one n) ∙ ap (flat_map f) (range-more 0 n)
    ∙ flat_map-append f (range_with_len 0 n) ((0 + n) ∷ [])
    ∙ ap (λ xs. flat_map f (range_with_len 0 n) ++ xs) (append-nil (f (0 + n)) ∙ ap f (zero-add n))

module _ (w : World State Note Fact) (scene : Scene) (sets : List (List Parts)) where
  -- those of the first parts of the promise that is said
  abbrev pub first_stakes : Reading Promise → ℕ → Reading (List Stake)
  first_stakes told n = told >>= (λ p. Ok (flat_map (stakes_at w scene sets p) (range_with_len 0 n)))

  -- and one more
  pub put-more : (told : Reading Promise) (whole again : Promise) (place : ℕ) (part : Part) (before after : List Stake)
      → told ≡ Ok whole → told ≡ Ok again → slice_get (parts_of whole) place ≡ Some part → first_stakes told place ≡ Ok before
      → after ≡ before ++ option_to_list (stake_of w scene sets again place part) → first_stakes told (place + 1) ≡ Ok after
  put-more told whole again place part before after is once_more there had put =
      let same : again ≡ whole = cc in
      let firsts : first_stakes told place ≡ Ok (flat_map (stakes_at w scene sets whole) (range_with_len 0 place)) =
      ap (λ r. first_stakes r place) is in
      let begun : flat_map (stakes_at w scene sets whole) (range_with_len 0 place) ≡ before = cc in
      let one : option_to_list (stake_of w scene sets again place part) ≡ stakes_at w scene sets whole place =
      ap (λ p. option_to_list (stake_of w scene sets p place part)) same
      ∙ ap (λ x. option_to_list (option_and_then (stake_of w scene sets whole place) x)) (sym there) in
      ap (λ r. first_stakes r (place + 1)) is
      ∙ ap Ok
      (flat-more (stakes_at w scene sets whole) place ∙ ap (λ xs. xs ++ stakes_at w scene sets whole place) begun
      ∙ ap (λ xs. before ++ xs) (sym one) ∙ sym put)

  -- those of all parts
  pub all-put : (file : Declared) (given : List Given) (words : List ℕ) (whole : Promise) (n : ℕ) (stakes : List Stake)
      → said file given words (named words file.outcomes) ≡ Ok whole → n ≡ length (parts_of whole)
      → first_stakes (said file given words (named words file.outcomes)) n ≡ Ok stakes → said_stakes w scene sets file given words ≡ Ok stakes
  unfolding said_stakes
  all-put file given words whole n stakes is long had =
      ap (λ r. r >>= (λ p. Ok (stakes_of w scene sets p))) is
      ∙ sym (ap (λ r. first_stakes r n) is ∙ ap (λ m. Ok (flat_map (stakes_at w scene sets whole) (range_with_len 0 m))) long)
      ∙ had

-- what stands before a step
step-inv : {A B : Type 0} {y : B} (r : Reading A) (next : A → Reading B) → (r >>= next) ≡ Ok y → (x : A) × (r ≡ Ok x) × (next x ≡ Ok y)
step-inv (Err e) next h = absurd cc
step-inv (Ok x) next h = (x, refl, h)

ok-is : {A : Type 0} (r : Reading A) → IsOk r → (x : A) × (r ≡ Ok x)
ok-is (Ok x) is = (x, refl)
ok-is (Err e) is = absurd cc

module _ (w : World State Note Fact) (sets : List (List Parts)) (file : Declared) where
  module _ (ms : Members) (chosen : Settled) where
    -- those of a table are those of its outcome
    pub stakes-from : (d : Data) → chosen_in file ms ≡ Ok chosen → get_member (key_name keys.Outcome) ms ≡ Some d
        → stakes_in w file sets ms ≡ outcome_stakes w (scene_of chosen.described.bounds chosen.given) sets file chosen.given d
    unfolding stakes_in required
    stakes-from d first there = rw (first, there) refl

    -- a table without one has none
    pub stakes-missing : chosen_in file ms ≡ Ok chosen → get_member (key_name keys.Outcome) ms ≡ None
        → stakes_in w file sets ms ≡ Err (refusals.Missing keys.Outcome)
    unfolding stakes_in required
    stakes-missing first there = rw (first, there) refl

  -- an outcome that is read has its stakes
  outcome-counts : (scene : Scene) (given : List Given) (b : Bounds) (d : Data) (demand : _) → outcome_in file given b keys.Outcome d ≡ Ok demand
      → (stakes : List Stake) × (outcome_stakes w scene sets file given d ≡ Ok stakes)
  unfolding said_stakes
  outcome-counts scene given b (string words) demand h =
      let promise = step-inv (said file given words (named words file.outcomes)) (demand_of b given) h in
      (stakes_of w scene sets promise.0, ap (λ r. r >>= (λ p. Ok (stakes_of w scene sets p))) promise.1)
  outcome-counts scene given b (integer n) demand h = ([], refl)
  outcome-counts scene given b (float x) demand h = ([], refl)
  outcome-counts scene given b (boolean x) demand h = ([], refl)
  outcome-counts scene given b (datetime x) demand h = ([], refl)
  outcome-counts scene given b (array ds) demand h = ([], refl)
  outcome-counts scene given b (table ms) demand h = ([], refl)

  module _ (ms : Members) where
    found-counts : (chosen : Settled) (demand : _) (there : Option Data) → chosen_in file ms ≡ Ok chosen
        → get_member (key_name keys.Outcome) ms ≡ there
        → found_or (Err (refusals.Missing keys.Outcome)) (outcome_in file chosen.given chosen.described.bounds keys.Outcome) there ≡ Ok demand
        → (stakes : List Stake) × (stakes_in w file sets ms ≡ Ok stakes)
    found-counts chosen demand None first is h = absurd cc
    found-counts chosen demand (Some d) first is h =
        let found = outcome-counts (scene_of chosen.described.bounds chosen.given) chosen.given chosen.described.bounds d demand h in
        (found.0, stakes-from ms chosen d first is ∙ found.1)

    -- a table that is read has its stakes
    counts : (asked : Asked) → asked_with file ms ≡ Ok asked → (stakes : List Stake) × (stakes_in w file sets ms ≡ Ok stakes)
    unfolding asked_with required
    counts asked h =
        let chosen = step-inv (chosen_in file ms) _ h in
        let bounds = chosen.0.described.bounds in
        let demand = step-inv (required ms keys.Outcome (outcome_in file chosen.0.given bounds)) _ chosen.2 in
        found-counts chosen.0 demand.0 (get_member (key_name keys.Outcome) ms) chosen.1 refl demand.1

    -- and isn't refused
    pub not-refused : (e : ScenarioError) → IsOk (asked_with file ms) → stakes_in w file sets ms ≡ Err e → ⊥
    not-refused e is refused =
        let read = ok-is (asked_with file ms) is in
        let found = counts read.0 read.1 in
        let both : Ok found.0 ≡ Err e = sym found.1 ∙ refused in
        cc
