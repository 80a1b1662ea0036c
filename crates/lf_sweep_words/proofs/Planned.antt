-- What the texts of --vary say.
use Rattle.std.proofs.Common.{◌≡◌, ◌∙◌, ◌≤◌, ◌+◌, ℕ, List, [], ◌∷◌, ◌++◌, Bor, Global, Vec, length, drop, map, append_assoc, append-nil, sym, subst, arith}
use Rattle.std.proofs.lemmas.Bool.{false≢true}
use Rattle.std.proofs.Math.ListN.{drop_of_length-le}
use Rattle.clap.specs.Words.{Text}
use Rattle.lf_sweep.specs.declared.error.PlanError.{PlanError}
use Rattle.lf_sweep.specs.declared.error.PlanError.TheVariants as faults
use Rattle.lf_sweep.specs.declared.plan.Plan.{Plan}
use Rattle.lf_sweep.specs.declared.varied.Varied.{Varied}
use Rattle.lf_sweep.specs.Apart.{HaveNoPlan}
use Rattle.lf_sweep_words.specs.Words.{AreVaried, IsNothing, IsVariedBy, IsWrong}
use Rattle.lf_sweep_words.specs.declared.unasked.SweepUnasked.{SweepUnasked}
use Rattle.lf_sweep_words.proofs.Laws.{nothing_by}
use Rattle.lf_sweep_words.proofs.Refusing.{wrong_nothing}
use Rattle.lf_sweep_words.proofs.Sameness.{all_once, no_plan_same}

abbrev nothing : List Varied
nothing = []

-- the texts say what varies so far, and the rest of it is said by the rest of them
pub record IsBegun (whole : List Text) (vs : List Varied) (rest : List Text) : Type 0 where
  pub on : (more : List Varied) → AreVaried rest more → AreVaried whole (vs ++ more)
  pub back : (all : List Varied) → AreVaried whole all → (more : List Varied) × AreVaried rest more

pub begun : (texts : List Text) → IsBegun texts [] texts
begun texts = record { on = λ more are. are; back = λ all are. (all, are) }

one_more : (whole rest : List Text) (text : Text) (v : Varied) (vs : List Varied) → IsVariedBy text v → IsBegun whole vs (text ∷ rest)
    → IsBegun whole (vs ++ v ∷ []) rest
one_more whole rest text v vs is begun = record {
  on = λ more are. subst (AreVaried whole) (sym (append_assoc vs (v ∷ []) more)) (begun.on (v ∷ more) (is, are));
  back = λ all are. behind (begun.back all are).0 (begun.back all are).1;
}
  where
    behind : (more : List Varied) → AreVaried (text ∷ rest) more → (later : List Varied) × AreVaried rest later
    behind [] are = absurd are
    behind (w ∷ ws) are = (ws, are.1)

none_there : (whole rest : List Text) (text : Text) (vs : List Varied) → ((v : Varied) → ¬ IsVariedBy text v) → IsBegun whole vs (text ∷ rest)
    → (all : List Varied) → ¬ AreVaried whole all
none_there whole rest text vs none begun all are = go (begun.back all are).0 (begun.back all are).1
  where
    go : (more : List Varied) → AreVaried (text ∷ rest) more → ⊥
    go [] is = is
    go (w ∷ ws) is = none w is.0

module _ (ts : List (Bor Text)) where
  abbrev pub all_texts : List Text
  all_texts = map (λ t. t.now) ts

  abbrev pub texts_from : ℕ → List Text
  texts_from i = map (λ t. t.now) (drop i ts)

  module _ (t : Bor Text) (i : ℕ) (same : drop i ts ≡ t ∷ drop (i + 1) ts) (vs : List Varied) (here : IsBegun all_texts vs (texts_from i)) where
    at_text : IsBegun all_texts vs (t.now ∷ texts_from (i + 1))
    at_text = subst (λ rest. IsBegun all_texts vs (map (λ (u : Bor Text). u.now) rest)) same here

    pub next : (v : Varied) (pushed : List Varied) → IsVariedBy t.now v → pushed ≡ vs ++ v ∷ [] → IsBegun all_texts pushed (texts_from (i + 1))
    next v pushed by all =
        subst (λ l. IsBegun all_texts l (texts_from (i + 1))) (sym all) (one_more all_texts (texts_from (i + 1)) t.now v vs by at_text)

    pub stopped : (u : SweepUnasked) → IsNothing (IsVariedBy t.now) u → IsNothing (AreVaried all_texts) u
    stopped u none = nothing_by (IsVariedBy t.now) (AreVaried all_texts) u (λ all are. there all are) none
      where
        first : (more : List Varied) → AreVaried (t.now ∷ texts_from (i + 1)) more → (v : Varied) × IsVariedBy t.now v
        first [] is_none = absurd is_none
        first (v ∷ more) is_some = (v, is_some.0)

        there : (all : List Varied) → AreVaried all_texts all → (v : Varied) × IsVariedBy t.now v
        there all are = first (at_text.back all are).0 (at_text.back all are).1

  pub ended : (i : ℕ) (vs : List Varied) → length ts ≤ i → IsBegun all_texts vs (texts_from i) → AreVaried all_texts vs
  ended i vs past here =
      let over : drop i ts ≡ [] = drop_of_length-le ts past in
      let last = subst (λ rest. IsBegun all_texts vs (map (λ (u : Bor Text). u.now) rest)) over here in
      subst (AreVaried all_texts) (append-nil vs) (last.on nothing tt)

-- what varies as a plan has it
plan_or_none : (plan : Plan) (e : PlanError) → HaveNoPlan plan.varied.items e → ⊥
plan_or_none plan faults.Twice none = false≢true (sym plan.apart.once ∙ none)
plan_or_none plan faults.Within none = false≢true (sym plan.apart.beside ∙ none.1)
plan_or_none plan faults.TooMany none = absurd (omega (arith, plan.counted, plan.few, none.1))

pub planned : (texts : List Text) (plan : Plan) (vs : Vec Varied Global) → plan.varied ≡ vs → AreVaried texts vs.items
    → AreVaried texts plan.varied.items
planned texts plan vs same are = subst (λ (l : Vec Varied Global). AreVaried texts l.items) (sym same) are

pub unplanned : (texts : List Text) (vs : List Varied) (e : PlanError) (u : SweepUnasked) → AreVaried texts vs → HaveNoPlan vs e → IsWrong u
    → IsNothing (λ (plan : Plan). AreVaried texts plan.varied.items) u
unplanned texts vs e u are none wrong =
    wrong_nothing (λ (plan : Plan). AreVaried texts plan.varied.items) u wrong
    (λ plan are_too. plan_or_none plan e (no_plan_same vs plan.varied.items e (all_once texts vs plan.varied.items are are_too) none))

pub unread : (texts : List Text) (u : SweepUnasked) → IsNothing (AreVaried texts) u → IsNothing (λ (plan : Plan). AreVaried texts plan.varied.items) u
unread texts u none = nothing_by (AreVaried texts) (λ (plan : Plan). AreVaried texts plan.varied.items) u (λ plan are. (plan.varied.items, are)) none
