-- The formula that is read is one of the scenario's.
use Rattle.std.proofs.Common.{◌≡◌, ℕ, ◌-◌, ◌≤◌, Bool, true, false, ◌&&◌, cond, List, [], ◌∷◌}
use Rattle.std.proofs.Common.{Option, Some, None, Ok, Err, IfOk, refl, sym, ap, ◌∙◌, subst, inl, inr, arith}
use Rattle.std.specs.Prelude.{nat_le, nat_lt, find, codes, pos, negsuc}
use Rattle.std.specs.List.{AllByRecursion, list_all}
use Rattle.std.specs.Str.{bytes_eq}
use Rattle.std.proofs.lemmas.Bool.{and_from, and_parts, cases_Bool, lt-ltb, le-leb, leb-true}
use Rattle.toml.specs.Data.{Data, string, integer, array, Items, no_items, item}
use Rattle.lf_faults.specs.Allowed.{IsInLimits}
use Rattle.lf_faults.specs.declared.spec.Bounds.{Bounds}
use Rattle.lf_protocols.specs.declared.fact.Fact.{Fact}
use Rattle.lf_protocols.specs.declared.protocol.Kind.{Kind}
use Rattle.std.proofs.lemmas.List.Folds.{list_any_at}
use Rattle.std.proofs.lemmas.Slice.Eq.{bytes_eq-Decides}
use Rattle.lf_list.proofs.Laws.{each-from}
use Rattle.lf_protocols.specs.Limits.{IsWithinLimits}
use Rattle.lf_protocols.specs.Protocols.{nodes_of}
use Rattle.lf_protocols.specs.Words.{fact_named, fact_name, facts_of}
use Rattle.lf_outcome.specs.declared.formula.Formula.{Formula}
use Rattle.lf_outcome.specs.declared.formula.Formula.TheVariants as kind
use Rattle.lf_outcome.specs.declared.outcome.Outcome.{Outcome}
use Rattle.lf_outcome.specs.Measures.{depth_of, atoms_of}
use Rattle.lf_outcome.specs.Named.{formula_of}
use Rattle.lf_outcome.specs.Outcomes.{outcome_named, outcome_word, outcomes_of}
use Rattle.lf_scenario.specs.declared.key.Key.{Key}
use Rattle.lf_scenario.specs.declared.key.Key.TheVariants as keys
use Rattle.lf_outcome.specs.Limits.{deepest}
use Rattle.lf_scenario.specs.Limits.{most_listed}
use Rattle.lf_scenario.specs.declared.error.ScenarioError.TheVariants as refusals
use Rattle.lf_scenario.specs.Values.{Reading, ◌>>=◌, whole}
use Rattle.lf_outcome.specs.Formulas.{is_point, is_fact_of, is_in_range, IsFormulaOf}
use Rattle.lf_scenario.specs.Outcomes.{by_word, down_in, fact_in, formula_in, found_fact, in_formula}
use Rattle.lf_scenario.specs.Outcomes.{limited, list_formula, named_in, node_in, outcome_in, parts_in, shows_in, step_in}
use Rattle.lf_scenario.proofs.PlainRanges.{written-fits}
use Rattle.lf_scenario.proofs.NamedRanges.{outcomes_fit, range-All, range-Any, range-Down, range-Shows}

-- what is read, if something is, has a property
abbrev Gives : {A : Type 0} → (A → Type 0) → Reading A → Type 0
Gives {A} P r = (x : A) → r ≡ Ok x → P x

given : {A : Type 0} (P : A → Type 0) (x : A) → P x → Gives P (Ok x)
given {A} P x h y is = let same : x ≡ y = cc in subst P same h

refused : {A : Type 0} (P : A → Type 0) (e : _) → Gives P (Err e)
refused P e x is = absurd cc

either : {A : Type 0} (P : A → Type 0) (t : Bool) (one other : Reading A) → Gives P one → Gives P other → Gives P (cond t one other)
either P true one other h k = h
either P false one other h k = k

next : {A B : Type 0} (P : B → Type 0) (r : Reading A) (f : A → Reading B) → ((x : A) → r ≡ Ok x → Gives P (f x)) → Gives P (r >>= f)
next P (Ok x) f h = h x refl
next P (Err e) f h = refused P e

-- the one that is found
found : {A : Type 0} (P : A → Type 0) (test : A → Bool) (xs : List A) → AllByRecursion P xs → (x : A) → find test xs ≡ Some x → P x
found P test [] each x is = absurd cc
found P test (y ∷ ys) each x is =
    elim (cases_Bool (test y)) [
      | inl holds ↦ let here : find test (y ∷ ys) ≡ Some y = rw holds refl in let both : Some y ≡ Some x = sym here
          ∙ is in let same : y ≡ x = cc in subst P same each.0
      | inr fails ↦ let there : find test (y ∷ ys) ≡ find test ys = rw fails refl in found P test ys each.1 x (sym there ∙ is)
    ]

-- a number within its bounds
abbrev Between : ℕ → ℕ → ℕ → Type 0
Between low high n = (low ≤ n) × (n ≤ high)

tested : (low high n : ℕ) (key : Key) (t : Bool) → t ≡ (nat_le low n && nat_le n high)
    → Gives (Between low high) (in_formula (cond t (Ok n) (Err (refusals.OutOfRange key))))
tested low high n key true is =
    let (more, less) = and_parts (nat_le low n) (nat_le n high) (sym is) in
    given (Between low high) n (leb-true low n more, leb-true n high less)
tested low high n key false is = refused (Between low high) refusals.Formula

within : (low high : ℕ) (key : Key) (d : Data) → Gives (Between low high) (in_formula (whole low high key d))
within low high key (integer (pos n)) = tested low high n key (nat_le low n && nat_le n high) refl
within low high key (integer (negsuc n)) = refused (Between low high) refusals.Formula
within low high key _ = refused (Between low high) refusals.Formula

fact-found : (P : Fact → Type 0) (o : Option Fact) → ((x : Fact) → o ≡ Some x → P x) → Gives P (found_fact o)
fact-found P (Some x) h = given P x (h x refl)
fact-found P None h = refused P refusals.Formula

own_facts : (k : Kind) → AllByRecursion (λ f. is_fact_of k f ≡ true) (facts_of k)
own_facts k =
    each-from (λ f. is_fact_of k f ≡ true) (facts_of k) (λ f h.
    let same : Fact → Bool = λ g. bytes_eq (fact_name k f) (fact_name k g) in
    list_any_at same (facts_of k) h.0 f h.1 (ap same h.2 ∙ (bytes_eq-Decides (fact_name k f) (fact_name k f)).1 refl))

own_fact : (k : Kind) (d : Data) → Gives (λ f. is_fact_of k f ≡ true) (fact_in k d)
own_fact k (string word) = fact-found (λ f. is_fact_of k f ≡ true) (fact_named k word) (found (λ f. is_fact_of k f ≡ true) (λ f. bytes_eq word
    (fact_name k f)) (facts_of k) (own_facts k))
own_fact k _ = refused (λ f. is_fact_of k f ≡ true) refusals.Formula

module _ (k : Kind) (b : Bounds) (limits : IsInLimits b) where
  abbrev fits : Formula Fact → Type 0
  fits f = is_in_range k b.nodes b.horizon f ≡ true

  point : (n t : ℕ) → (0 ≤ n) × (n ≤ b.nodes - 1) → (1 ≤ t) × (t ≤ b.horizon) → is_point b.nodes b.horizon n t ≡ true
  point n t node step =
      and_from (nat_lt n b.nodes) (nat_le 1 t && nat_le t b.horizon) (lt-ltb n b.nodes (omega (arith, node.1, limits.nodes.0)))
      (and_from (nat_le 1 t) (nat_le t b.horizon) (le-leb 1 t step.0) (le-leb t b.horizon step.1))

  down : (ds : Items) → Gives fits (down_in b ds)
  down (item n (item t no_items)) =
      next fits (node_in b n) (λ node. step_in b t >>= (λ step. Ok (kind.Down node step)))
      (λ node node_is. next fits (step_in b t) (λ step. Ok (kind.Down node step))
      (λ step step_is. given fits (kind.Down node step)
      (range-Down k b.nodes b.horizon node step ∙ point node step (within 0 (b.nodes - 1) keys.Outcome n node node_is)
      (within 1 b.horizon keys.Outcome t step step_is))))
  down _ = refused fits refusals.Formula

  shows : (ds : Items) → Gives fits (shows_in k b ds)
  shows (item n (item t (item f no_items))) =
      next fits (node_in b n) (λ node. step_in b t >>= (λ step. fact_in k f >>= (λ fact. Ok (kind.Shows node step fact))))
      (λ node node_is. next fits (step_in b t) (λ step. fact_in k f >>= (λ fact. Ok (kind.Shows node step fact)))
      (λ step step_is. next fits (fact_in k f) (λ fact. Ok (kind.Shows node step fact))
      (λ fact fact_is. given fits (kind.Shows node step fact)
      (range-Shows k b.nodes b.horizon node step fact
      ∙ and_from (is_point b.nodes b.horizon node step) (is_fact_of k fact)
      (point node step (within 0 (b.nodes - 1) keys.Outcome n node node_is) (within 1 b.horizon keys.Outcome t step step_is)) (own_fact k f fact fact_is)))))
  shows _ = refused fits refusals.Formula

  abbrev all_fit : List (Formula Fact) → Type 0
  all_fit fs = list_all (is_in_range k b.nodes b.horizon) fs ≡ true

  listed : (word : List ℕ) (parts : Reading (List (Formula Fact))) (one other : Reading (Formula Fact)) → Gives all_fit parts → Gives fits one
      → Gives fits other
      → Gives fits (by_word word parts one other)
  listed word parts one other h at_one at_other =
      either fits (bytes_eq word (codes "all")) (parts >>= (λ fs. Ok (kind.All fs))) _
      (next fits parts (λ fs. Ok (kind.All fs)) (λ fs is. given fits (kind.All fs) (range-All k b.nodes b.horizon fs ∙ h fs is)))
      (either fits (bytes_eq word (codes "any")) (parts >>= (λ fs. Ok (kind.Any fs))) _
      (next fits parts (λ fs. Ok (kind.Any fs)) (λ fs is. given fits (kind.Any fs) (range-Any k b.nodes b.horizon fs ∙ h fs is)))
      (either fits (bytes_eq word (codes "down")) one _ at_one
      (either fits (bytes_eq word (codes "shows")) other (Err refusals.Formula) at_other (refused fits refusals.Formula))))

  mutual
    formula_fits : (d : Data) → Gives fits (formula_in k b d)
    formula_fits (array (item (string word) ds)) = listed word (parts_in k b ds) (down_in b ds) (shows_in k b ds) (parts_fit ds) (down ds) (shows ds)
    formula_fits _ = refused fits refusals.Formula

    parts_fit : (ds : Items) → Gives all_fit (parts_in k b ds)
    parts_fit no_items = given all_fit [] refl
    parts_fit (item d ds) =
        next all_fit (formula_in k b d) (λ f. parts_in k b ds >>= (λ fs. Ok (f ∷ fs)))
        (λ f f_is. next all_fit (parts_in k b ds) (λ fs. Ok (f ∷ fs))
        (λ fs fs_is. given all_fit (f ∷ fs) (and_from (is_in_range k b.nodes b.horizon f) (list_all (is_in_range k b.nodes b.horizon) fs)
        (formula_fits d f f_is) (parts_fit ds fs fs_is))))

  kept : (f : Formula Fact) → fits f → (t : Bool) → t ≡ (nat_le (depth_of f) deepest && nat_le (atoms_of f) most_listed)
      → Gives (IsFormulaOf k b) (cond t (Ok f) (Err refusals.Formula))
  kept f h true is =
      let (deep, many) = and_parts (nat_le (depth_of f) deepest) (nat_le (atoms_of f) most_listed) (sym is) in
      given (IsFormulaOf k b) f (written-fits k b f (record {
        range = h;
        depth = leb-true (depth_of f) deepest deep;
        atoms = omega (arith, leb-true (atoms_of f) most_listed many);
      }))
  kept f h false is = refused (IsFormulaOf k b) refusals.Formula

  limits_kept : (f : Formula Fact) → fits f → Gives (IsFormulaOf k b) (limited f)
  limits_kept f h = kept f h (nat_le (depth_of f) deepest && nat_le (atoms_of f) most_listed) refl

  list_fits : (d : Data) → Gives (IsFormulaOf k b) (list_formula k b d)
  list_fits d = next (IsFormulaOf k b) (formula_in k b d) limited (λ f is. limits_kept f (formula_fits d f is))

  pub limited_fits : (d : Data) (f : Formula Fact) (r : Reading (Formula Fact)) → formula_in k b d ≡ Ok f → r ≡ limited f → IfOk r (IsFormulaOf k b)
  limited_fits d f (Ok x) read is = limits_kept f (formula_fits d f read) x (sym is)
  limited_fits d f (Err e) read is = tt

  module _ (within_limits : IsWithinLimits k) (same : nodes_of k ≡ b.nodes) where
    by_name : (o : Option Outcome) → ((x : Outcome) → o ≡ Some x → IsFormulaOf k b (formula_of x b.nodes b.horizon)) → Gives (IsFormulaOf k b) (named_in b o)
    by_name (Some x) h = given (IsFormulaOf k b) (formula_of x b.nodes b.horizon) (h x refl)
    by_name None h = refused (IsFormulaOf k b) refusals.Outcome

    outcome_fits : (key : Key) (d : Data) → Gives (IsFormulaOf k b) (outcome_in k b key d)
    outcome_fits key (string name) =
        by_name (outcome_named k name)
        (found (λ o. IsFormulaOf k b (formula_of o b.nodes b.horizon)) (λ o. bytes_eq name (outcome_word o)) (outcomes_of k)
        (outcomes_fit k b limits within_limits same))
    outcome_fits key (array ds) = list_fits (array ds)
    outcome_fits key _ = refused (IsFormulaOf k b) (refusals.WrongKind key)

    pub formula_fits-where : (key : Key) (d : Data) (r : Reading (Formula Fact)) → IfOk r (λ f. outcome_in k b key d ≡ Ok f) → IfOk r (IsFormulaOf k b)
    formula_fits-where key d (Ok f) h = outcome_fits key d f h
    formula_fits-where key d (Err e) h = tt
