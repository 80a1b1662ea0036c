-- The lists that are read as formulas.
use Rattle.std.proofs.Common.{◌≡◌, ℕ, ◌+◌, ◌-◌, ◌<◌, ◌≤◌, List, [], ◌∷◌, ◌++◌, length, get_or, append_assoc}
use Rattle.std.proofs.Common.{drop, take, Ok, Err, String, Vec, Global, string_bytes, refl, sym, ap, ◌∙◌, arith, true, false, IfOk, IfErr}
use Rattle.std.specs.Prelude.{◌≢◌, codes}
use Rattle.std.specs.Str.{bytes_eq}
use Rattle.std.proofs.lemmas.List.{append-nil, drop_all, length-drop, take_all}
use Rattle.toml.specs.Data.{Data, string, array, item, Items}
use Rattle.toml.specs.View.{view, view_step, items_view}
use Rattle.toml.specs.declared.value.Value.{Value, Array, String as Text, fold_out-Value, out-Value, roll-Value, roll-out-Value}
use Rattle.toml.specs.declared.value.Value.TheVariants.{rolls-Array, rolls-String}
use Rattle.toml.specs.declared.value.Value.TheOpen.{Value-F}
use Rattle.toml.specs.declared.value.Value.TheFolds.{map-Value}
use Rattle.toml.proofs.Views.{items_view-drop, view-Array, view-String}
use Rattle.lf_faults.specs.declared.spec.Bounds.{Bounds}
use Rattle.lf_protocols.specs.declared.fact.Fact.{Fact}
use Rattle.lf_protocols.specs.declared.protocol.Kind.{Kind}
use Rattle.lf_outcome.specs.declared.formula.Formula.{Formula}
use Rattle.lf_outcome.specs.declared.formula.Formula.TheVariants as kind
use Rattle.lf_scenario.specs.declared.error.ScenarioError.{ScenarioError}
use Rattle.lf_scenario.specs.declared.error.ScenarioError.TheVariants as refusals
use Rattle.lf_scenario.specs.Values.{Reading, ◌>>=◌}
use Rattle.lf_scenario.specs.Outcomes.{by_word, down_in, shows_in, formula_in, parts_in}

-- too few items, or too many
pub down_in-other : (b : Bounds) (vs : List Value) → (length vs ≡ 2 → ⊥) → Err refusals.Formula ≡ down_in b (items_view vs)
down_in-other b [] h = refl
down_in-other b (v ∷ []) h = refl
down_in-other b (v ∷ w ∷ []) h = absurd (h refl)
down_in-other b (v ∷ w ∷ x ∷ vs) h = refl

pub shows_in-other : (k : Kind) (b : Bounds) (vs : List Value) → (length vs ≡ 3 → ⊥) → Err refusals.Formula ≡ shows_in k b (items_view vs)
shows_in-other k b [] h = refl
shows_in-other k b (v ∷ []) h = refl
shows_in-other k b (v ∷ w ∷ []) h = refl
shows_in-other k b (v ∷ w ∷ x ∷ []) h = absurd (h refl)
shows_in-other k b (v ∷ w ∷ x ∷ y ∷ vs) h = refl

-- a list that begins with a text
pub formula_in-listed : (k : Kind) (b : Bounds) (v : Value) (items : Vec Value Global) (vs : List Value) (first : Value) (word : String Global)
    (bytes : List ℕ)
    → v ≡ Array items → vs ≡ items.items → 1 ≤ length vs → first ≡ get_or vs 0 first → first ≡ Text word → bytes ≡ string_bytes word
    → by_word bytes (parts_in k b (items_view (take (length vs - 1) (drop 1 vs)))) (down_in b (items_view (take (length vs - 1) (drop 1 vs))))
    (shows_in k b (items_view (take (length vs - 1) (drop 1 vs)))) ≡ formula_in k b (view v)
formula_in-listed k b v items vs first word bytes list same some here text spelled =
    let rest : take (length vs - 1) (drop 1 vs) ≡ drop 1 vs = take_all (length vs - 1) (drop 1 vs) (omega (arith, length-drop 1 vs)) in
    let whole : view v ≡ array (items_view vs) = ap view list ∙ view-Array items ∙ ap (λ xs. array (items_view xs)) (sym same) in
    let split : items_view vs ≡ item (view (get_or vs 0 first)) (items_view (drop 1 vs)) = items_view-drop vs 0 first (omega (arith, some)) in
    let head : view (get_or vs 0 first) ≡ string bytes = ap view (sym here ∙ text) ∙ view-String word ∙ ap string (sym spelled) in
    let all : view v ≡ array (item (string bytes) (items_view (drop 1 vs))) =
    whole ∙ ap array split ∙ ap (λ d. array (item d (items_view (drop 1 vs)))) head in
    ap (λ xs. by_word bytes (parts_in k b (items_view xs)) (down_in b (items_view xs)) (shows_in k b (items_view xs))) rest
    ∙ sym (ap (formula_in k b) all)

-- a value that is no list
other-value : (k : Kind) (b : Bounds) (y : Value-F Value) → ((items : Vec Value Global) → y ≡ Value-F.Array items → ⊥)
    → formula_in k b (view_step (map-Value Value Data view y)) ≡ Err refusals.Formula
other-value k b (Value-F.String s) h = refl
other-value k b (Value-F.Integer z) h = refl
other-value k b (Value-F.Float x) h = refl
other-value k b (Value-F.Boolean t) h = refl
other-value k b (Value-F.Datetime t) h = refl
other-value k b (Value-F.Array items) h = absurd (h items refl)
other-value k b (Value-F.Table m) h = refl

pub formula_in-other : (k : Kind) (b : Bounds) (v : Value) → ((items : Vec Value Global) → v ≡ Array items → ⊥)
    → formula_in k b (view v) ≡ Err refusals.Formula
formula_in-other k b v other =
    ap (formula_in k b) (fold_out-Value Data view_step v)
    ∙ other-value k b (out-Value v) (λ items is. other items (sym (roll-out-Value v) ∙ ap roll-Value is ∙ rolls-Array items))

-- a list that begins with no text
other-first : (k : Kind) (b : Bounds) (ds : Items) (y : Value-F Value) → ((s : String Global) → y ≡ Value-F.String s → ⊥)
    → formula_in k b (array (item (view_step (map-Value Value Data view y)) ds)) ≡ Err refusals.Formula
other-first k b ds (Value-F.String s) h = absurd (h s refl)
other-first k b ds (Value-F.Integer z) h = refl
other-first k b ds (Value-F.Float x) h = refl
other-first k b ds (Value-F.Boolean t) h = refl
other-first k b ds (Value-F.Datetime t) h = refl
other-first k b ds (Value-F.Array items) h = refl
other-first k b ds (Value-F.Table m) h = refl

pub formula_in-unnamed : (k : Kind) (b : Bounds) (v : Value) (items : Vec Value Global) (vs : List Value) (first : Value)
    → v ≡ Array items → vs ≡ items.items → 1 ≤ length vs → first ≡ get_or vs 0 first → ((s : String Global) → first ≡ Text s → ⊥)
    → formula_in k b (view v) ≡ Err refusals.Formula
formula_in-unnamed k b v items vs first list same some here other =
    let whole : view v ≡ array (items_view vs) = ap view list ∙ view-Array items ∙ ap (λ xs. array (items_view xs)) (sym same) in
    let split : items_view vs ≡ item (view (get_or vs 0 first)) (items_view (drop 1 vs)) = items_view-drop vs 0 first (omega (arith, some)) in
    let seen : view (get_or vs 0 first) ≡ view_step (map-Value Value Data view (out-Value first)) =
    ap view (sym here) ∙ fold_out-Value Data view_step first in
    ap (formula_in k b) (whole ∙ ap array (split ∙ ap (λ d. item d (items_view (drop 1 vs))) seen))
    ∙ other-first k b (items_view (drop 1 vs)) (out-Value first)
    (λ s is. other s (sym (roll-out-Value first) ∙ ap roll-Value is ∙ rolls-String s))

-- one part more, and what was read before
joined : (done : List (Formula Fact)) (x : Formula Fact) (more : Reading (List (Formula Fact)))
    → ((more >>= (λ xs. Ok (x ∷ xs))) >>= (λ xs. Ok (done ++ xs))) ≡ (more >>= (λ xs. Ok ((done ++ x ∷ []) ++ xs)))
joined done x (Ok xs) = ap Ok (sym (append_assoc done (x ∷ []) xs))
joined done x (Err e) = refl

-- a loop that reads each item as a formula: what it has read, put before what is read of the rest
module _ (k : Kind) (b : Bounds) (vs : List Value) (before : List (Formula Fact)) (i : ℕ) (whole : Reading (List (Formula Fact)))
    (h : (parts_in k b (items_view (drop i vs)) >>= (λ rest. Ok (before ++ rest))) ≡ whole) where
  next_part : (v : Value) → i < length vs → v ≡ get_or vs i v
      → ((formula_in k b (view v) >>= (λ x. parts_in k b (items_view (drop (i + 1) vs)) >>= (λ xs. Ok (x ∷ xs)))) >>= (λ xs. Ok (before ++ xs)))
      ≡ whole
  next_part v l is =
      sym (ap (λ ds. parts_in k b ds >>= (λ rest. Ok (before ++ rest)))
      (items_view-drop vs i v l ∙ ap (λ w. item (view w) (items_view (drop (i + 1) vs))) (sym is))) ∙ h

  -- one item more
  pub parts_in-more : (after : List (Formula Fact)) (v : Value) (x : Formula Fact) → i < length vs → v ≡ get_or vs i v → formula_in k b (view v) ≡ Ok x
      → after ≡ before ++ x ∷ [] → (parts_in k b (items_view (drop (i + 1) vs)) >>= (λ rest. Ok (after ++ rest))) ≡ whole
  parts_in-more after v x l is one pushed =
      let more = parts_in k b (items_view (drop (i + 1) vs)) in
      ap (λ ys. more >>= (λ rest. Ok (ys ++ rest))) pushed ∙ sym (joined before x more)
      ∙ sym (ap (λ r. (r >>= (λ y. more >>= (λ xs. Ok (y ∷ xs)))) >>= (λ xs. Ok (before ++ xs))) one) ∙ next_part v l is

  -- an item that is no formula
  pub parts_in-wrong : (v : Value) (e : ScenarioError) → i < length vs → v ≡ get_or vs i v → formula_in k b (view v) ≡ Err e → whole ≡ Err e
  parts_in-wrong v e l is wrong =
      let more = parts_in k b (items_view (drop (i + 1) vs)) in
      sym (next_part v l is) ∙ ap (λ r. (r >>= (λ y. more >>= (λ xs. Ok (y ∷ xs)))) >>= (λ xs. Ok (before ++ xs))) wrong

  -- after the last
  pub parts_in-last : length vs ≤ i → whole ≡ Ok before
  parts_in-last far =
      sym h ∙ ap (λ ys. parts_in k b (items_view ys) >>= (λ rest. Ok (before ++ rest))) (drop_all i vs far) ∙ ap Ok (append-nil before)

-- a list by its word
module _ (word : List ℕ) (parts : Reading (List (Formula Fact))) (down shows : Reading (Formula Fact)) where
  pub at-all : bytes_eq word (codes "all") ≡ true → by_word word parts down shows ≡ (parts >>= (λ fs. Ok (kind.All fs)))
  at-all all = rw all refl

  module _ (not_all : bytes_eq word (codes "all") ≡ false) where
    pub at-any : bytes_eq word (codes "any") ≡ true → by_word word parts down shows ≡ (parts >>= (λ fs. Ok (kind.Any fs)))
    at-any any = rw (not_all, any) refl

    module _ (not_any : bytes_eq word (codes "any") ≡ false) where
      pub at-down : bytes_eq word (codes "down") ≡ true → by_word word parts down shows ≡ down
      at-down is = rw (not_all, not_any, is) refl

      module _ (not_down : bytes_eq word (codes "down") ≡ false) where
        pub at-shows : bytes_eq word (codes "shows") ≡ true → by_word word parts down shows ≡ shows
        at-shows is = rw (not_all, not_any, not_down, is) refl

        pub at-none : bytes_eq word (codes "shows") ≡ false → by_word word parts down shows ≡ Err refusals.Formula
        at-none not_shows = rw (not_all, not_any, not_down, not_shows) refl

-- what is said of a reading that is equal
pub ok_same : {A : Type 0} (r whole : Reading A) → whole ≡ r → IfOk r (λ x. whole ≡ Ok x)
ok_same (Ok x) whole same = same
ok_same (Err e) whole same = tt

pub err_same : {A : Type 0} (r whole : Reading A) → whole ≡ r → IfErr r (λ e. e ≢ refusals.Memory → whole ≡ Err e)
err_same (Ok x) whole same = tt
err_same (Err e) whole same = λ other. same
