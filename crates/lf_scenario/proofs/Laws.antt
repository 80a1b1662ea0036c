-- What the definitions of this crate promise, for every text and every scenario.
use Rattle.std.proofs.Common.{◌≡◌, ℕ, List, sym, ap, ◌∙◌, subst, inl, inr, arith, Ok, Err}
use Rattle.std.specs.Prelude.{Some}
use Rattle.toml.specs.Data.{Members}
use Rattle.lf_scenario.specs.declared.error.ScenarioError.{ScenarioError}
use Rattle.lf_outcome.specs.declared.scenario.Scenario.{Scenario}
use Rattle.lf_outcome.specs.Sameness.{AreSame}
use Rattle.lf_scenario.specs.Scenarios.{Asked, IsDocument, IsRefused, IsScenario, IsText, asked_in}

-- a text has one list of members
members-one : (text : List ℕ) (ms ns : Members) → IsDocument text ms → IsDocument text ns → ms ≡ ns
members-one text ms ns a b = let same : Some ms ≡ Some ns = sym a.members ∙ b.members in cc

-- a text has one refusal at most
pub refusals_are_one : (text : List ℕ) (e f : ScenarioError) → IsRefused text e → IsRefused text f → e ≡ f
refusals_are_one text e f (inl a) (inl b) = a.1 ∙ sym b.1
refusals_are_one text e f (inl a) (inr (inl b)) = absurd (omega (arith, a.0, b.0))
refusals_are_one text e f (inl a) (inr (inr b)) = absurd (omega (arith, a.0, b.0))
refusals_are_one text e f (inr (inl a)) (inl b) = absurd (omega (arith, a.0, b.0))
refusals_are_one text e f (inr (inr a)) (inl b) = absurd (omega (arith, a.0, b.0))
refusals_are_one text e f (inr (inl a)) (inr (inl b)) = a.2 ∙ sym b.2
refusals_are_one text e f (inr (inl a)) (inr (inr b)) = absurd (a.1 b.1 b.2)
refusals_are_one text e f (inr (inr a)) (inr (inl b)) = absurd (b.1 a.1 a.2)
refusals_are_one text e f (inr (inr a)) (inr (inr b)) =
    let same : a.1 ≡ b.1 = members-one text a.1 b.1 a.2 b.2 in
    let read : asked_in b.1 ≡ Err e = subst (λ ms. asked_in ms ≡ Err e) same a.3 in
    let both : Err e ≡ asked_in b.1 = sym read in
    cc

-- and none where it is the text of a scenario
pub refused_is_no_text : (text : List ℕ) (e : ScenarioError) (s : Scenario) → IsRefused text e → IsText s text → ⊥
refused_is_no_text text e s (inl a) t = omega (arith, a.0, t.short)
refused_is_no_text text e s (inr (inl a)) t = a.1 t.members t.document
refused_is_no_text text e s (inr (inr a)) t =
    let same : a.1 ≡ t.members = members-one text a.1 t.members a.2 t.document in
    let read : asked_in t.members ≡ Err e = subst (λ ms. asked_in ms ≡ Err e) same a.3 in
    let asks : asked_in t.members ≡ Ok t.asked.asked = t.asked.reading in
    cc

-- what is asked for is one scenario
asked-one : (asked : Asked) (s t : Scenario) → IsScenario asked s → IsScenario asked t → AreSame s t
asked-one asked s t a b = record {
  protocol = a.protocol ∙ sym b.protocol;
  network = a.network ∙ sym b.network;
  bounds = a.bounds ∙ sym b.bounds;
  formula = a.formula ∙ sym b.formula;
  max_sets = a.max_sets ∙ sym b.max_sets;
}

-- two scenarios of one text are the same, links included
pub scenarios_are_one : (text : List ℕ) (s t : Scenario) → IsText s text → IsText t text → AreSame s t
scenarios_are_one text s t a b =
    let members : a.members ≡ b.members = members-one text a.members b.members a.document b.document in
    let reads : asked_in b.members ≡ Ok a.asked.asked = subst (λ ms. asked_in ms ≡ Ok a.asked.asked) members a.asked.reading in
    let both : Ok a.asked.asked ≡ Ok b.asked.asked = sym reads ∙ b.asked.reading in
    let asked : a.asked.asked ≡ b.asked.asked = cc in
    asked-one b.asked.asked s t (subst (λ x. IsScenario x s) asked a.asked.scenario) b.asked.scenario
