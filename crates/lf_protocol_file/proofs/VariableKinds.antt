-- The variables of a protocol, made of what their texts say, are of kinds that there are.
use Rattle.std.proofs.Common.{◌≡◌, ℕ, zero, suc, ◌+◌, ◌≤◌, ◌==◌, ◌&&◌, ◌||◌, Bool, true, false, cond, List, [], ◌∷◌, ◌++◌, append-nil, append_assoc}
use Rattle.std.proofs.Common.{length, Some, Ok, refl, sym, ap, subst, ◌∙◌, arith}
use Rattle.std.specs.Prelude.{nat_le, slice_get}
use Rattle.std.specs.Str.{bytes_eq}
use Rattle.std.proofs.lemmas.Bool.{and_from, or_left, or_right, le-leb, lt-ltb, eq-eqb}
use Rattle.std.proofs.lemmas.Option.{slice_get_within}
use Rattle.lf_rules.specs.Forms.{is_from, has_words, is_kind, is_word_of, is_variable, are_variables}
use Rattle.lf_rules.specs.declared.kind.Kind.{Kind}
use Rattle.lf_rules.specs.declared.kind.Kind.TheVariants as kinds
use Rattle.lf_rules.specs.Tables.{is_cells}
use Rattle.lf_rules.specs.declared.table.Cells.{Cells}
use Rattle.lf_rules.specs.declared.definition.Definition.{Definition}
use Rattle.lf_rules.specs.declared.definition.Variable.{Variable}
use Rattle.lf_grammar.specs.declared.token.Token.{Token}
use Rattle.lf_grammar.specs.Places.{Context}
use Rattle.lf_texts.specs.declared.variables.VariableText.{VariableText}
use Rattle.lf_texts.specs.declared.variables.VariableText.TheVariants as texts
use Rattle.lf_texts.specs.Variables.{variable_in, HasWords}
use Rattle.lf_texts.proofs.Laws.{kind-holds, words-hold}
use Rattle.lf_protocol_file.specs.declared.path.Path.TheVariants as paths
use Rattle.lf_protocol_file.specs.declared.section.Naming.TheVariants as namings
use Rattle.lf_protocol_file.specs.Refusals.{shown}
use Rattle.lf_protocol_file.specs.Readings.{located}
use Rattle.lf_protocol_file.specs.declared.variables.Sketch.{Sketch}
use Rattle.lf_protocol_file.specs.Drafts.{number_after}
use Rattle.lf_protocol_file.specs.Variables.{own_kind, kind_like, kind_of, words_of, variable_of, variable_at, variables_behind}
use Rattle.lf_protocol_file.proofs.Readings.{step-inv, located-inv}

pub small-number : (n : ℕ) → n ≤ 255 → number_after n ≡ n
small-number n low = ap (λ b. cond b n 255) (lt-ltb n 256 (omega (arith, low)))

-- ---- sketches

-- a kind that is one in every definition, or words that are neither too few nor too many
abbrev pub IsHeld : VariableText → Type 0
IsHeld (texts.Kind kind) = (d : Definition) → is_kind d kind ≡ true
IsHeld other = HasWords other

pub text-held : (at : Context) (ts : List Token) (found : Cells) (t : VariableText) → variable_in at ts ≡ Ok (found, t) → IsHeld t
text-held at ts found (texts.Kind kind) h = kind-holds at ts found kind h
text-held at ts found (texts.Like name) h = tt
text-held at ts found (texts.Words words) h = words-hold at ts (found, texts.Words words) h

-- so many cells as a variable may have, each of which holds what it may hold
pub record IsSketch (x : Sketch) : Type 0 where
  pub cells : is_cells x.cells ≡ true
  pub held : IsHeld x.held

-- all texts are texts of variables
pub AllHeld : List Sketch → Type 0
AllHeld [] = Unit {0}
AllHeld (x ∷ xs) = IsSketch x × AllHeld xs

pub held-none : AllHeld []
unfolding AllHeld
held-none = tt

pub held-push : (xs : List Sketch) (x : Sketch) → AllHeld xs → IsSketch x → AllHeld (xs ++ x ∷ [])
unfolding AllHeld
held-push [] x all is = (is, tt)
held-push (y ∷ ys) x all is = (all.0, held-push ys x all.1 is)

held-at : (xs : List Sketch) (j : ℕ) (x : Sketch) → AllHeld xs → slice_get xs j ≡ Some x → IsSketch x
unfolding AllHeld
held-at [] j x all there = absurd cc
held-at (y ∷ ys) zero x all there = let same : y ≡ x = cc in subst IsSketch same all.0
held-at (y ∷ ys) (suc j) x all there = held-at ys j x all.1 there

-- the variable of a sketch
record IsMade (all : List Sketch) (i : ℕ) (x : Sketch) (v : Variable) : Type 0 where
  pub kind : kind_of all i x.held ≡ Ok v.kind
  pub cells : v.cells ≡ x.cells
  pub words : v.words ≡ words_of x.held

AreMade : List Sketch → ℕ → List Sketch → List Variable → Type 0
AreMade all i [] [] = Unit {0}
AreMade all i [] (v ∷ vs) = ⊥
AreMade all i (x ∷ xs) [] = ⊥
AreMade all i (x ∷ xs) (v ∷ vs) = IsMade all i x v × AreMade all (suc i) xs vs

-- the variables of some sketches, behind those before
record AreBehind (all : List Sketch) (before : List Variable) (i : ℕ) (xs : List Sketch) (vs : List Variable) : Type 0 where
  pub own : List Variable
  pub same : vs ≡ before ++ own
  pub made : AreMade all i xs own

behind-made : (all : List Sketch) (before : List Variable) (i : ℕ) (xs : List Sketch) (vs : List Variable) → variables_behind all before i xs ≡ Ok vs
    → AreBehind all before i xs vs
unfolding AreMade
behind-made all before i [] vs h =
    let same : before ≡ vs = cc in
    record { own = []; same = sym same ∙ sym (append-nil before); made = tt }
behind-made all before i (x ∷ xs) vs h =
    let v = step-inv (variable_at all i x) (λ v. variables_behind all (before ++ v ∷ []) (suc i) xs) h in
    let kind = step-inv (located (paths.Entry namings.State (shown x.name)) (kind_of all i x.held)) (λ kind. Ok (variable_of x kind)) v.1 in
    let made : variable_of x kind.0 ≡ v.0 = cc in
    let rest = behind-made all (before ++ v.0 ∷ []) (suc i) xs vs v.2 in
    let one : IsMade all i x v.0 = record {
      kind = located-inv (paths.Entry namings.State (shown x.name)) (kind_of all i x.held) kind.0 kind.1 ∙ ap (λ (z : Variable). Ok z.kind) made;
      cells = ap (λ (z : Variable). z.cells) (sym made);
      words = ap (λ (z : Variable). z.words) (sym made);
    } in
    record { own = v.0 ∷ rest.own; same = rest.same ∙ append_assoc before (v.0 ∷ []) rest.own; made = (one, rest.made) }

made-length : (all : List Sketch) (i : ℕ) (xs : List Sketch) (vs : List Variable) → AreMade all i xs vs → length vs ≡ length xs
unfolding AreMade
made-length all i [] [] made = refl
made-length all i [] (v ∷ vs) made = absurd made
made-length all i (x ∷ xs) [] made = absurd made
made-length all i (x ∷ xs) (v ∷ vs) made = ap suc (made-length all (suc i) xs vs made.1)

-- the variable with the number of a sketch
record IsAt (vs : List Variable) (j : ℕ) (x : Sketch) : Type 0 where
  pub variable : Variable
  pub there : slice_get vs j ≡ Some variable
  pub words : variable.words ≡ words_of x.held

made-at : (all : List Sketch) (i : ℕ) (xs : List Sketch) (vs : List Variable) (j : ℕ) (x : Sketch) → AreMade all i xs vs → slice_get xs j ≡ Some x
    → IsAt vs j x
unfolding AreMade
made-at all i [] vs j x made there = absurd cc
made-at all i (y ∷ ys) [] j x made there = absurd made
made-at all i (y ∷ ys) (v ∷ vs) zero x made there =
    let same : y ≡ x = cc in
    record { variable = v; there = refl; words = made.0.words ∙ ap (λ (z : Sketch). words_of z.held) same }
made-at all i (y ∷ ys) (v ∷ vs) (suc j) x made there =
    let found = made-at all (suc i) ys vs j x made.1 there in
    record { variable = found.variable; there = found.there; words = found.words }

-- the sketch whose kind is another's
record IsLike (i : ℕ) (xs : List Sketch) (k : Kind) : Type 0 where
  pub place : ℕ
  pub number : ℕ
  pub sketch : Sketch
  pub counted : number ≡ i + place
  pub there : slice_get xs place ≡ Some sketch
  pub kind : own_kind number sketch.held ≡ Ok k

like-found : (i : ℕ) (name : List ℕ) (xs : List Sketch) (k : Kind) → kind_like i name xs ≡ Ok k → IsLike i xs k
like-found i name [] k h = absurd cc
like-found i name (x ∷ xs) k h = here_or_later (bytes_eq x.name name) (like-found (suc i) name xs k) h
  where
    here_or_later : (so : Bool) → (kind_like (suc i) name xs ≡ Ok k → IsLike (suc i) xs k)
        → cond so (own_kind i x.held) (kind_like (suc i) name xs) ≡ Ok k → IsLike i (x ∷ xs) k
    here_or_later true later e = record { place = 0; number = i; sketch = x; counted = omega arith; there = refl; kind = e }
    here_or_later false later e =
        let found = later e in
        record {
          place = suc found.place;
          number = found.number;
          sketch = found.sketch;
          counted = omega (arith, found.counted);
          there = found.there;
          kind = found.kind;
        }

module _ (all : List Sketch) (vs : List Variable) (e : Definition) (is : e.variables ≡ vs) (made : AreMade all 0 all vs) (held : AllHeld all)
    (few : length all ≤ 32) where
  own-fits : (j : ℕ) (x : Sketch) (k : Kind) → slice_get all j ≡ Some x → own_kind j x.held ≡ Ok k → is_kind e k ≡ true
  own-fits j x k there h = by_text x.held refl (held-at all j x held there).held h
    where
      by_text : (t : VariableText) → x.held ≡ t → IsHeld t → own_kind j t ≡ Ok k → is_kind e k ≡ true
      by_text (texts.Kind kind) said holds own = let same : kind ≡ k = cc in ap (is_kind e) (sym same) ∙ holds e
      by_text (texts.Like name) said holds own = absurd cc
      by_text (texts.Words words) said holds own =
          let same : kinds.Word (number_after j) (number_after (length words)) ≡ k = cc in
          let number = small-number j (omega (arith, slice_get_within all j x there, few)) in
          let count = small-number (length words) (omega (arith, holds.1)) in
          let found = made-at all 0 all vs j x made there in
          let own_words : length found.variable.words ≡ length words = ap length (found.words ∙ ap words_of said) in
          let has : has_words (slice_get e.variables j) (length words) ≡ true =
          ap (λ (xs : List Variable). has_words (slice_get xs j) (length words)) is ∙ ap (λ o. has_words o (length words)) found.there
          ∙ eq-eqb (length found.variable.words) (length words) own_words in
          let from : is_from 2 16 (length words) ≡ true =
          and_from (nat_le 2 (length words)) (nat_le (length words) 16) (le-leb 2 (length words) holds.0) (le-leb (length words) 16 holds.1) in
          ap (is_kind e) (sym same) ∙ ap (λ n. is_kind e (kinds.Word n (number_after (length words)))) number
          ∙ ap (λ n. is_kind e (kinds.Word j n)) count
          ∙ and_from (is_from 2 16 (length words)) (has_words (slice_get e.variables j) (length words)) from has

  kind-fits : (i : ℕ) (x : Sketch) (k : Kind) → slice_get all i ≡ Some x → kind_of all i x.held ≡ Ok k → is_kind e k ≡ true
  kind-fits i x k there h = by_text x.held refl h
    where
      by_text : (t : VariableText) → x.held ≡ t → kind_of all i t ≡ Ok k → is_kind e k ≡ true
      by_text (texts.Kind kind) said own = own-fits i x k there (ap (own_kind i) said ∙ own)
      by_text (texts.Words words) said own = own-fits i x k there (ap (own_kind i) said ∙ own)
      by_text (texts.Like name) said own =
          let found = like-found 0 name all k own in
          let number : found.place ≡ found.number = omega (arith, found.counted) in
          own-fits found.number found.sketch k (ap (slice_get all) (sym number) ∙ found.there) found.kind

  words-fit : (i : ℕ) (x : Sketch) (v : Variable) → i ≤ 32 → IsMade all i x v → (length v.words == 0 || is_word_of i v.kind) ≡ true
  words-fit i x v low one = by_text x.held refl
    where
      no_words : words_of x.held ≡ [] → (length v.words == 0 || is_word_of i v.kind) ≡ true
      no_words none = or_left (length v.words == 0) (is_word_of i v.kind) (eq-eqb (length v.words) 0 (ap length (one.words ∙ none)))

      by_text : (t : VariableText) → x.held ≡ t → (length v.words == 0 || is_word_of i v.kind) ≡ true
      by_text (texts.Kind kind) said = no_words (ap words_of said)
      by_text (texts.Like name) said = no_words (ap words_of said)
      by_text (texts.Words words) said =
          let made_kind : kind_of all i (texts.Words words) ≡ Ok v.kind = ap (kind_of all i) (sym said) ∙ one.kind in
          let same : kinds.Word (number_after i) (number_after (length words)) ≡ v.kind = cc in
          or_right (length v.words == 0) (is_word_of i v.kind)
          (ap (is_word_of i) (sym same) ∙ eq-eqb (number_after i) i (small-number i (omega (arith, low))))

  variables-fit : (i : ℕ) (xs : List Sketch) (ws : List Variable) → AreMade all i xs ws → i + length xs ≤ 32
      → ((j k : ℕ) (x : Sketch) → k ≡ i + j → slice_get xs j ≡ Some x → slice_get all k ≡ Some x) → are_variables e i ws ≡ true
  unfolding AreMade
  variables-fit i [] [] are low at = refl
  variables-fit i [] (w ∷ ws) are low at = absurd are
  variables-fit i (x ∷ xs) [] are low at = absurd are
  variables-fit i (x ∷ xs) (w ∷ ws) are low at =
      let next : i + 1 ≡ suc i = omega arith in
      let kind = kind-fits i x w.kind (at 0 i x (omega arith) refl) are.0.kind in
      let rest = variables-fit (suc i) xs ws are.1 (omega (arith, low)) (λ j k y is there. at (suc j) k y (omega (arith, is)) there) in
      let cells : is_cells w.cells ≡ true = ap is_cells are.0.cells ∙ (held-at all i x held (at 0 i x (omega arith) refl)).cells in
      and_from (is_variable e i w) (are_variables e (i + 1) ws)
      (and_from (is_kind e w.kind) (is_cells w.cells && (length w.words == 0 || is_word_of i w.kind)) kind
      (and_from (is_cells w.cells) (length w.words == 0 || is_word_of i w.kind) cells (words-fit i x w (omega (arith, low)) are.0)))
      (ap (λ n. are_variables e n ws) next ∙ rest)

-- all of them
pub record AreVariables (all : List Sketch) (vs : List Variable) : Type 0 where
  pub count : length vs ≡ length all
  pub fit : (e : Definition) → e.variables ≡ vs → are_variables e 0 vs ≡ true

pub all-variables : (all : List Sketch) (vs : List Variable) → AllHeld all → length all ≤ 32 → variables_behind all [] 0 all ≡ Ok vs → AreVariables all vs
all-variables all vs held few h =
    let found = behind-made all [] 0 all vs h in
    let made = subst (λ (ws : List Variable). AreMade all 0 all ws) (sym found.same) found.made in
    record {
      count = made-length all 0 all vs made;
      fit = λ e is. variables-fit all vs e is made held few 0 all vs made (omega (arith, few))
          (λ j k x same there. let number : k ≡ j = omega (arith, same) in ap (slice_get all) number ∙ there);
    }
