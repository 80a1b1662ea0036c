-- A text asks for one scenario or has one refusal, whichever protocol is known besides the shipped ones.
use Rattle.std.proofs.Common.{◌≡◌, ◌<◌, ◌≤◌, ◌+◌, ℕ, List, length, take, sym, ◌∙◌, subst, inl, inr, arith, Ok, Err}
use Rattle.std.specs.Prelude.{Option, None, Some}
use Rattle.std.proofs.lemmas.List.{length-take}
use Rattle.toml.specs.Data.{Members}
use Rattle.lf_protocol_file.specs.declared.declared.Declared.{Declared}
use Rattle.lf_scenario.specs.declared.error.ScenarioError.{ScenarioError}
use Rattle.lf_outcome.specs.declared.scenario.Scenario.{Scenario}
use Rattle.lf_scenario.specs.Limits.{longest}
use Rattle.lf_outcome.specs.Sameness.{AreSame}
use Rattle.lf_scenario.specs.Scenarios.{Asked, IsDocument, IsRefused, IsScenario}
use Rattle.lf_scenario.proofs.Laws as shipped
use Rattle.lf_own_scenario.specs.Scenarios.{IsRefusedWith, IsTextWith, asked_with}
use Rattle.leastfault.specs.Known.{IsRefusedOf, IsTextOf}

-- a text has one list of members
members_one : (text : List ℕ) (ms ns : Members) → IsDocument text ms → IsDocument text ns → ms ≡ ns
members_one text ms ns a b = let same : Some ms ≡ Some ns = sym a.members ∙ b.members in cc

-- where the protocol is a file's
module _ (file : Declared) where
  with_refusals_one : (text : List ℕ) (e f : ScenarioError) → IsRefusedWith file text e → IsRefusedWith file text f → e ≡ f
  with_refusals_one text e f (inl a) (inl b) = a.1 ∙ sym b.1
  with_refusals_one text e f (inl a) (inr (inl b)) = absurd (omega (arith, a.0, b.0))
  with_refusals_one text e f (inl a) (inr (inr b)) = absurd (omega (arith, a.0, b.0))
  with_refusals_one text e f (inr (inl a)) (inl b) = absurd (omega (arith, a.0, b.0))
  with_refusals_one text e f (inr (inr a)) (inl b) = absurd (omega (arith, a.0, b.0))
  with_refusals_one text e f (inr (inl a)) (inr (inl b)) = a.2 ∙ sym b.2
  with_refusals_one text e f (inr (inl a)) (inr (inr b)) = absurd (a.1 b.1 b.2)
  with_refusals_one text e f (inr (inr a)) (inr (inl b)) = absurd (b.1 a.1 a.2)
  with_refusals_one text e f (inr (inr a)) (inr (inr b)) =
      let same : a.1 ≡ b.1 = members_one text a.1 b.1 a.2 b.2 in
      let read : asked_with file b.1 ≡ Err e = subst (λ ms. asked_with file ms ≡ Err e) same a.3 in
      let both : Err e ≡ asked_with file b.1 = sym read in
      cc

  with_refused_no_text : (text : List ℕ) (e : ScenarioError) (s : Scenario) → IsRefusedWith file text e → IsTextWith file s text → ⊥
  with_refused_no_text text e s (inl a) t = omega (arith, a.0, t.short)
  with_refused_no_text text e s (inr (inl a)) t = a.1 t.members t.document
  with_refused_no_text text e s (inr (inr a)) t =
      let same : a.1 ≡ t.members = members_one text a.1 t.members a.2 t.document in
      let read : asked_with file t.members ≡ Err e = subst (λ ms. asked_with file ms ≡ Err e) same a.3 in
      let asks : asked_with file t.members ≡ Ok t.asked.asked = t.asked.reading in
      cc

  asked_one : (asked : Asked) (s t : Scenario) → IsScenario asked s → IsScenario asked t → AreSame s t
  asked_one asked s t a b = record {
    protocol = a.protocol ∙ sym b.protocol;
    network = a.network ∙ sym b.network;
    bounds = a.bounds ∙ sym b.bounds;
    formula = a.formula ∙ sym b.formula;
    max_sets = a.max_sets ∙ sym b.max_sets;
  }

  with_scenarios_one : (text : List ℕ) (s t : Scenario) → IsTextWith file s text → IsTextWith file t text → AreSame s t
  with_scenarios_one text s t a b =
      let members : a.members ≡ b.members = members_one text a.members b.members a.document b.document in
      let reads : asked_with file b.members ≡ Ok a.asked.asked = subst (λ ms. asked_with file ms ≡ Ok a.asked.asked) members a.asked.reading in
      let both : Ok a.asked.asked ≡ Ok b.asked.asked = sym reads ∙ b.asked.reading in
      let asked : a.asked.asked ≡ b.asked.asked = cc in
      asked_one b.asked.asked s t (subst (λ x. IsScenario x s) asked a.asked.scenario) b.asked.scenario

-- and whichever protocol is known
pub refusals_are_one : (known : Option Declared) (text : List ℕ) (e f : ScenarioError) → IsRefusedOf known text e → IsRefusedOf known text f → e ≡ f
refusals_are_one None text e f a b = shipped.refusals_are_one text e f a b
refusals_are_one (Some file) text e f a b = with_refusals_one file text e f a b

pub refused_is_no_text : (known : Option Declared) (text : List ℕ) (e : ScenarioError) (s : Scenario) → IsRefusedOf known text e → IsTextOf known s text → ⊥
refused_is_no_text None text e s a t = shipped.refused_is_no_text text e s a t
refused_is_no_text (Some file) text e s a t = with_refused_no_text file text e s a t

pub scenarios_are_one : (known : Option Declared) (text : List ℕ) (s t : Scenario) → IsTextOf known s text → IsTextOf known t text → AreSame s t
scenarios_are_one None text s t a b = shipped.scenarios_are_one text s t a b
scenarios_are_one (Some file) text s t a b = with_scenarios_one file text s t a b

-- the text of a scenario is short
pub text_is_short : (known : Option Declared) (text : List ℕ) (s : Scenario) → IsTextOf known s text → length text ≤ longest
text_is_short None text s reads = reads.short
text_is_short (Some file) text s reads = reads.short

-- past the longest text, the bytes at the front say all
front : (held : List ℕ) → longest < length held → length (take (longest + 1) held) ≤ longest → ⊥
front held more short = omega (arith, more, short, length-take (longest + 1) held)

pub front_is_no_text : (known : Option Declared) (held : List ℕ) (s : Scenario) → longest < length held → IsTextOf known s (take (longest + 1) held) → ⊥
front_is_no_text known held s more reads = front held more (text_is_short known (take (longest + 1) held) s reads)

shipped_refused : (held : List ℕ) (e : ScenarioError) → longest < length held → IsRefused (take (longest + 1) held) e → IsRefused held e
shipped_refused held e more (inl why) = inl (more, why.1)
shipped_refused held e more (inr (inl why)) = absurd (front held more why.0)
shipped_refused held e more (inr (inr why)) = absurd (front held more why.0)

with_refused : (file : Declared) (held : List ℕ) (e : ScenarioError) → longest < length held → IsRefusedWith file (take (longest + 1) held) e
    → IsRefusedWith file held e
with_refused file held e more (inl why) = inl (more, why.1)
with_refused file held e more (inr (inl why)) = absurd (front held more why.0)
with_refused file held e more (inr (inr why)) = absurd (front held more why.0)

pub refused_by_front : (known : Option Declared) (held : List ℕ) (e : ScenarioError) → longest < length held → IsRefusedOf known (take (longest + 1) held) e
    → IsRefusedOf known held e
refused_by_front None held e more why = shipped_refused held e more why
refused_by_front (Some file) held e more why = with_refused file held e more why
