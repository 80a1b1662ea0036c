-- A text says one scenario of a protocol file, or has one refusal.
use Rattle.std.proofs.Common.{◌≡◌, ℕ, List, sym, ◌∙◌, subst, inl, inr, arith, Ok, Err}
use Rattle.std.specs.Prelude.{Some}
use Rattle.toml.specs.Data.{Members}
use Rattle.lf_protocol_file.specs.declared.declared.Declared.{Declared}
use Rattle.lf_scenario.specs.declared.error.ScenarioError.{ScenarioError}
use Rattle.lf_outcome.specs.declared.scenario.Scenario.{Scenario}
use Rattle.lf_outcome.specs.Sameness.{AreSame}
use Rattle.lf_scenario.specs.Scenarios.{Asked, IsDocument, IsScenario}
use Rattle.lf_own_scenario.specs.Scenarios.{IsRefusedWith, IsTextWith, asked_with}

-- a text has one list of members
members-one : (text : List ℕ) (ms ns : Members) → IsDocument text ms → IsDocument text ns → ms ≡ ns
members-one text ms ns a b = let same : Some ms ≡ Some ns = sym a.members ∙ b.members in cc

-- what is asked for is one scenario
asked-one : (asked : Asked) (s t : Scenario) → IsScenario asked s → IsScenario asked t → AreSame s t
asked-one asked s t a b = record {
  protocol = a.protocol ∙ sym b.protocol;
  network = a.network ∙ sym b.network;
  bounds = a.bounds ∙ sym b.bounds;
  formula = a.formula ∙ sym b.formula;
  max_sets = a.max_sets ∙ sym b.max_sets;
}

module _ (file : Declared) (text : List ℕ) where
  -- a text has one refusal at most
  pub refusal-one : (e f : ScenarioError) → IsRefusedWith file text e → IsRefusedWith file text f → e ≡ f
  refusal-one e f (inl a) (inl b) = a.1 ∙ sym b.1
  refusal-one e f (inl a) (inr (inl b)) = absurd (omega (arith, a.0, b.0))
  refusal-one e f (inl a) (inr (inr b)) = absurd (omega (arith, a.0, b.0))
  refusal-one e f (inr (inl a)) (inl b) = absurd (omega (arith, a.0, b.0))
  refusal-one e f (inr (inr a)) (inl b) = absurd (omega (arith, a.0, b.0))
  refusal-one e f (inr (inl a)) (inr (inl b)) = a.2 ∙ sym b.2
  refusal-one e f (inr (inl a)) (inr (inr b)) = absurd (a.1 b.1 b.2)
  refusal-one e f (inr (inr a)) (inr (inl b)) = absurd (b.1 a.1 a.2)
  refusal-one e f (inr (inr a)) (inr (inr b)) =
      let same : a.1 ≡ b.1 = members-one text a.1 b.1 a.2 b.2 in
      let read : asked_with file b.1 ≡ Err e = subst (λ ms. asked_with file ms ≡ Err e) same a.3 in
      let both : Err e ≡ asked_with file b.1 = sym read in
      cc

  -- and none where it is the text of a scenario
  pub refused-no-text : (e : ScenarioError) (s : Scenario) → IsRefusedWith file text e → IsTextWith file s text → ⊥
  refused-no-text e s (inl a) t = omega (arith, a.0, t.short)
  refused-no-text e s (inr (inl a)) t = a.1 t.members t.document
  refused-no-text e s (inr (inr a)) t =
      let same : a.1 ≡ t.members = members-one text a.1 t.members a.2 t.document in
      let read : asked_with file t.members ≡ Err e = subst (λ ms. asked_with file ms ≡ Err e) same a.3 in
      let asks : asked_with file t.members ≡ Ok t.asked.asked = t.asked.reading in
      cc

  -- two scenarios of one text are the same, links included
  pub scenario-one : (s t : Scenario) → IsTextWith file s text → IsTextWith file t text → AreSame s t
  scenario-one s t a b =
      let members : a.members ≡ b.members = members-one text a.members b.members a.document b.document in
      let reads : asked_with file b.members ≡ Ok a.asked.asked = subst (λ ms. asked_with file ms ≡ Ok a.asked.asked) members a.asked.reading in
      let both : Ok a.asked.asked ≡ Ok b.asked.asked = sym reads ∙ b.asked.reading in
      let asked : a.asked.asked ≡ b.asked.asked = cc in
      asked-one b.asked.asked s t (subst (λ x. IsScenario x s) asked a.asked.scenario) b.asked.scenario
