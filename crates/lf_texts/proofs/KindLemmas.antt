-- What is read of the texts of notes and variables is what may stand there.
use Rattle.std.proofs.Common.{◌≡◌, ℕ, zero, suc, ◌≤◌, ◌==◌, ◌&&◌, Bool, true, false, not, cond, List, [], ◌∷◌}
use Rattle.std.proofs.Common.{length, Option, Some, None, Ok, Err, refl, sym, ap, subst, ◌∙◌, map, arith, inl, inr}
use Rattle.std.specs.Prelude.{codes, nat_le}
use Rattle.std.specs.List.{list_all}
use Rattle.std.specs.Str.{bytes_eq}
use Rattle.std.proofs.lemmas.Bool.{and_from, and_parts, le-leb}
use Rattle.std.proofs.lemmas.List.Folds.{list_all-map}
use Rattle.lf_rules.specs.Forms.{is_kind, is_form}
use Rattle.lf_rules.specs.Tables.{is_cells}
use Rattle.lf_rules.specs.declared.table.Cells.{Cells}
use Rattle.lf_rules.specs.declared.table.Cells.TheVariants as cells
use Rattle.lf_rules.specs.declared.kind.Kind.{Kind}
use Rattle.lf_rules.specs.declared.kind.Kind.TheVariants as kinds
use Rattle.lf_rules.specs.declared.definition.Definition.{Definition}
use Rattle.lf_rules.specs.declared.definition.NoteForm.{NoteForm}
use Rattle.lf_rules.specs.declared.definition.Variable.{Variable}
use Rattle.lf_grammar.specs.declared.sign.Sign.TheVariants as signs
use Rattle.lf_grammar.specs.declared.token.Token.{Token}
use Rattle.lf_grammar.specs.declared.token.Token.TheVariants as tokens
use Rattle.lf_grammar.specs.Fronts.{behind_sign, behind_word}
use Rattle.lf_grammar.specs.Places.{Context}
use Rattle.lf_texts.specs.declared.error.TextError.TheVariants as faults
use Rattle.lf_texts.specs.declared.forms.Field.{Field}
use Rattle.lf_texts.specs.declared.variables.VariableText.{VariableText}
use Rattle.lf_texts.specs.declared.variables.VariableText.TheVariants as texts
use Rattle.lf_texts.specs.Forms as forms
use Rattle.lf_texts.specs.Forms.{is_field, first_field, kinds_inside, kinds_in, note_in}
use Rattle.lf_texts.specs.Fronts.{ended, first_word, first_number, past}
use Rattle.lf_texts.specs.Kinds.{kind_named, first_range, kind_of, kind_or, first_kind}
use Rattle.lf_texts.specs.Lists.{listed}
use Rattle.lf_texts.specs.Names.{is_name, is_note_name}
use Rattle.lf_texts.specs.Reading.{Reading, ◌>>=◌, checked, Read}
use Rattle.lf_texts.specs.Variables.{first_free, words_in, own_in, kind_alone, held_by, held_in, variable_in, HasWords}
use Rattle.lf_texts.specs.Tables.{places_to, first_numbered, first_places, cells_inside, first_cells}
use Rattle.lf_texts.proofs.ListLemmas.{listed_count}
use Rattle.lf_texts.proofs.SortLemmas.{step-inv, checked-inv, some-inv, listed-all}

-- ---- kinds

-- the kind that one word or another stands for
one-kind : (d : Definition) (so : Bool) (one k : Kind) (o : Option Kind) → is_kind d one ≡ true → (o ≡ Some k → is_kind d k ≡ true)
    → cond so (Some one) o ≡ Some k → is_kind d k ≡ true
one-kind d true one k o is other h = let same : one ≡ k = cc in ap (is_kind d) (sym same) ∙ is
one-kind d false one k o is other h = other h

named-kind : (d : Definition) (word : List ℕ) (k : Kind) → kind_named word ≡ Some k → is_kind d k ≡ true
named-kind d word k h =
    one-kind d (bytes_eq word (codes "flag")) kinds.Flag k
    (cond (bytes_eq word (codes "nodes")) (Some kinds.Nodes) (cond (bytes_eq word (codes "step")) (Some (kinds.UpTo 48)) None)) refl
    (one-kind d (bytes_eq word (codes "nodes")) kinds.Nodes k (cond (bytes_eq word (codes "step")) (Some (kinds.UpTo 48)) None) refl
    (one-kind d (bytes_eq word (codes "step")) (kinds.UpTo 48) k None refl (λ none. absurd cc))) h

positive : (n : ℕ) → not (n == 0) ≡ true → nat_le 1 n ≡ true
positive zero h = absurd cc
positive (suc n) h = le-leb 1 (suc n) (omega arith)

range-kind : (d : Definition) (ts : List Token) (r : Read Kind) → first_range ts ≡ Ok r → is_kind d r.value ≡ true
unfolding first_range
range-kind d ts r h =
    let least = step-inv (first_number ts)
    (λ least. past signs.To least.rest >>= λ last. first_number last >>= λ most. checked ((least.value == 0) && not (most.value == 0))
    >>= λ fit. Ok (record { value = kinds.UpTo most.value; rest = most.rest })) h in
    let last = step-inv (past signs.To least.0.rest)
    (λ last. first_number last >>= λ most. checked ((least.0.value == 0) && not (most.value == 0))
    >>= λ fit. Ok (record { value = kinds.UpTo most.value; rest = most.rest })) least.2 in
    let most = step-inv (first_number last.0)
    (λ most. checked ((least.0.value == 0) && not (most.value == 0)) >>= λ fit. Ok (record { value = kinds.UpTo most.value; rest = most.rest })) last.2 in
    let fit = step-inv (checked ((least.0.value == 0) && not (most.0.value == 0)))
    (λ fit. Ok (record { value = kinds.UpTo most.0.value; rest = most.0.rest })) most.2 in
    let made : record { value = kinds.UpTo most.0.value; rest = most.0.rest } ≡ r = cc in
    let parts = and_parts (least.0.value == 0) (not (most.0.value == 0)) (checked-inv ((least.0.value == 0) && not (most.0.value == 0)) fit.1) in
    ap (λ (z : Read Kind). is_kind d z.value) (sym made) ∙ positive most.0.value parts.1

module _ (d : Definition) where
  own-kind : (word : List ℕ) (xs : List Variable) (k : Kind) → list_all (λ x. is_kind d x.kind) xs ≡ true → kind_of word xs ≡ Ok k → is_kind d k ≡ true
  own-kind word [] k are h = absurd cc
  own-kind word (x ∷ xs) k are h =
      let each = and_parts (is_kind d x.kind) (list_all (λ x. is_kind d x.kind) xs) are in
      chosen (bytes_eq x.name word) x.kind (kind_of word xs) k each.0 (own-kind word xs k each.1) h
    where
      chosen : (so : Bool) (one : Kind) (other : Reading Kind) (k : Kind) → is_kind d one ≡ true → (other ≡ Ok k → is_kind d k ≡ true)
          → cond so (Ok one) other ≡ Ok k → is_kind d k ≡ true
      chosen true one other k is later h = let same : one ≡ k = cc in ap (is_kind d) (sym same) ∙ is
      chosen false one other k is later h = later h

  kind-or : (o : Option Kind) (other : Reading Kind) (k : Kind) → ((one : Kind) → o ≡ Some one → is_kind d one ≡ true)
      → (other ≡ Ok k → is_kind d k ≡ true) → kind_or o other ≡ Ok k → is_kind d k ≡ true
  kind-or None other k here later h = later h
  kind-or (Some one) other k here later h = let same : one ≡ k = cc in ap (is_kind d) (sym same) ∙ here one refl

  kind-first : (ts : List Token) (r : Read Kind) → list_all (λ x. is_kind d x.kind) d.variables ≡ true → first_kind d.variables ts ≡ Ok r
      → is_kind d r.value ≡ true
  unfolding first_kind
  kind-first [] r are h = range-kind d [] r h
  kind-first (tokens.Number n ∷ rest) r are h = range-kind d (tokens.Number n ∷ rest) r h
  kind-first (tokens.Sign sign ∷ rest) r are h = range-kind d (tokens.Sign sign ∷ rest) r h
  kind-first (tokens.Word word ∷ rest) r are h =
      let k = step-inv (kind_or (kind_named word) (kind_of word d.variables)) (λ kind. Ok (record { value = kind; rest = rest })) h in
      let made : record { value = k.0; rest = rest } ≡ r = cc in
      ap (λ (z : Read Kind). is_kind d z.value) (sym made)
      ∙ kind-or (kind_named word) (kind_of word d.variables) k.0 (named-kind d word) (own-kind word d.variables k.0 are) k.1

  -- ---- the form of a note

  abbrev is_kind_of : Field → Bool
  is_kind_of field = is_kind d field.kind

  field-first : (before : List Field) (ts : List Token) (r : Read Field) → list_all (λ x. is_kind d x.kind) d.variables ≡ true
      → first_field d.variables before ts ≡ Ok r → is_kind_of r.value ≡ true
  unfolding first_field
  field-first before ts r are h =
      let x = step-inv (first_word ts)
      (λ x. checked (is_name x.value && not (is_field before x.value)) >>= λ fit. past signs.Colon x.rest >>= λ inner. first_kind d.variables inner
      >>= λ kind. Ok (record { value = record { name = x.value; kind = kind.value }; rest = kind.rest })) h in
      let fit = step-inv (checked (is_name x.0.value && not (is_field before x.0.value)))
      (λ fit. past signs.Colon x.0.rest >>= λ inner. first_kind d.variables inner
      >>= λ kind. Ok (record { value = record { name = x.0.value; kind = kind.value }; rest = kind.rest })) x.2 in
      let inner = step-inv (past signs.Colon x.0.rest)
      (λ inner. first_kind d.variables inner >>= λ kind. Ok (record { value = record { name = x.0.value; kind = kind.value }; rest = kind.rest })) fit.2 in
      let kind = step-inv (first_kind d.variables inner.0)
      (λ kind. Ok (record { value = record { name = x.0.value; kind = kind.value }; rest = kind.rest })) inner.2 in
      let made : record { value = record { name = x.0.value; kind = kind.0.value }; rest = kind.0.rest } ≡ r = cc in
      ap (λ (z : Read Field). is_kind_of z.value) (sym made) ∙ kind-first inner.0 kind.0 are kind.1

  -- kinds of fields, of which there are few
  record AreKinds (ks : List Kind) : Type 0 where
    pub all : list_all (is_kind d) ks ≡ true
    pub few : length ks ≤ 7

  kept-length : (xs : List Field) → length (map (λ field. field.kind) xs) ≡ length xs
  kept-length [] = refl
  kept-length (x ∷ xs) = ap suc (kept-length xs)

  kinds-few : (ts : List Token) (ks : List Kind) → list_all (λ x. is_kind d x.kind) d.variables ≡ true → kinds_inside d.variables ts ≡ Ok ks → AreKinds ks
  unfolding kinds_inside
  kinds-few ts ks are h =
      let inner = step-inv (past signs.OpenRound ts)
      (λ inner. listed (first_field d.variables) signs.Comma 7 [] inner >>= λ x. past signs.CloseRound x.rest >>= λ rest. ended rest
      >>= λ end. Ok (map (λ field. field.kind) x.value)) h in
      let x = step-inv (listed (first_field d.variables) signs.Comma 7 [] inner.0)
      (λ x. past signs.CloseRound x.rest >>= λ rest. ended rest >>= λ end. Ok (map (λ field. field.kind) x.value)) inner.2 in
      let rest = step-inv (past signs.CloseRound x.0.rest) (λ rest. ended rest >>= λ end. Ok (map (λ field. field.kind) x.0.value)) x.2 in
      let end = step-inv (ended rest.0) (λ end. Ok (map (λ field. field.kind) x.0.value)) rest.2 in
      let made : map (λ field. field.kind) x.0.value ≡ ks = cc in
      let all = listed-all (first_field d.variables) signs.Comma is_kind_of (λ before ts r is. field-first before ts r are is) 7 [] inner.0 x.0 refl x.1 in
      let count = listed_count (first_field d.variables) signs.Comma 7 [] inner.0 x.0 x.1 in
      record {
        all = ap (list_all (is_kind d)) (sym made) ∙ list_all-map (is_kind d) (λ (field : Field). field.kind) x.0.value ∙ all;
        few = omega (arith, ap length made, kept-length x.0.value, count.1);
      }

  kinds-all : (ts : List Token) (ks : List Kind) → list_all (λ x. is_kind d x.kind) d.variables ≡ true → kinds_in d.variables ts ≡ Ok ks → AreKinds ks
  kinds-all [] ks are h =
      let same : [] ≡ ks = cc in
      record { all = ap (list_all (is_kind d)) (sym same); few = omega (arith, ap length same) }
  kinds-all (t ∷ ts) ks are h = kinds-few (t ∷ ts) ks are h

  pub note-fits : (ts : List Token) (form : NoteForm) → list_all (λ x. is_kind d x.kind) d.variables ≡ true → note_in d ts ≡ Ok form
      → is_form d form ≡ true
  unfolding note_in
  note-fits ts form are h =
      let x = step-inv (first_word ts)
      (λ x. checked (is_note_name x.value && not (forms.is_form d.notes x.value)) >>= λ fit. kinds_in d.variables x.rest
      >>= λ kinds. Ok (record { name = x.value; fields = kinds })) h in
      let fit = step-inv (checked (is_note_name x.0.value && not (forms.is_form d.notes x.0.value)))
      (λ fit. kinds_in d.variables x.0.rest >>= λ kinds. Ok (record { name = x.0.value; fields = kinds })) x.2 in
      let kinds = step-inv (kinds_in d.variables x.0.rest) (λ kinds. Ok (record { name = x.0.value; fields = kinds })) fit.2 in
      let made : record { name = x.0.value; fields = kinds.0 } ≡ form = cc in
      let found = kinds-all x.0.rest kinds.0 are kinds.1 in
      ap (is_form d) (sym made) ∙ and_from (nat_le (length kinds.0) 7) (list_all (is_kind d) kinds.0) (le-leb (length kinds.0) 7 found.few) found.all

-- ---- what a variable holds

-- a kind that is one in every definition, or words that are neither too few nor too many
abbrev IsHeld : VariableText → Type 0
IsHeld (texts.Kind kind) = (d : Definition) → is_kind d kind ≡ true
IsHeld other = HasWords other

module _ (at : Context) where
  held-by-kind : (x : Read Kind) (text : VariableText) → ((d : Definition) → is_kind d x.value ≡ true) → kind_alone x ≡ Ok text → IsHeld text
  held-by-kind x text is h =
      let end = step-inv (ended x.rest) (λ end. Ok (texts.Kind x.value)) h in
      let made : texts.Kind x.value ≡ text = cc in
      subst IsHeld made is

  words-held : (ts : List Token) (text : VariableText) → words_in at.names ts ≡ Ok text → IsHeld text
  unfolding words_in
  words-held ts text h =
      let first = step-inv (first_free at.names [] ts)
      (λ first. past signs.Bar first.rest >>= λ next. listed (first_free at.names) signs.Bar 15 (first.value ∷ []) next >>= λ x. ended x.rest
      >>= λ end. Ok (texts.Words x.value)) h in
      let next = step-inv (past signs.Bar first.0.rest)
      (λ next. listed (first_free at.names) signs.Bar 15 (first.0.value ∷ []) next >>= λ x. ended x.rest >>= λ end. Ok (texts.Words x.value)) first.2 in
      let x = step-inv (listed (first_free at.names) signs.Bar 15 (first.0.value ∷ []) next.0) (λ x. ended x.rest >>= λ end. Ok (texts.Words x.value)) next.2 in
      let end = step-inv (ended x.0.rest) (λ end. Ok (texts.Words x.0.value)) x.2 in
      let made : texts.Words x.0.value ≡ text = cc in
      let count = listed_count (first_free at.names) signs.Bar 15 (first.0.value ∷ []) next.0 x.0 x.1 in
      let held : IsHeld (texts.Words x.0.value) = (omega (arith, count.0), omega (arith, count.1)) in
      subst IsHeld made held

  own-held : (ts : List Token) (word : List ℕ) (rest : List Token) (text : VariableText) → own_in at ts word rest ≡ Ok text → IsHeld text
  own-held ts word [] text h =
      let fit = step-inv (checked (is_name word)) (λ fit. Ok (texts.Like word)) h in
      let made : texts.Like word ≡ text = cc in
      let held : IsHeld (texts.Like word) = tt in
      subst IsHeld made held
  own-held ts word (t ∷ more) text h = words-held ts text h

  by-held : (ts : List Token) (word : List ℕ) (rest : List Token) (o : Option Kind) (text : VariableText)
      → ((k : Kind) → o ≡ Some k → (d : Definition) → is_kind d k ≡ true) → held_by at ts word rest o ≡ Ok text → IsHeld text
  by-held ts word rest None text is h = own-held ts word rest text h
  by-held ts word rest (Some k) text is h = held-by-kind (record { value = k; rest = rest }) text (is k refl) h

  ranged-held : (ts : List Token) (text : VariableText) → (first_range ts >>= λ x. kind_alone x) ≡ Ok text → IsHeld text
  ranged-held ts text h =
      let x = step-inv (first_range ts) (λ x. kind_alone x) h in
      held-by-kind x.0 text (λ d. range-kind d ts x.0 x.1) x.2

  cell-held : (ts : List Token) (text : VariableText) → held_in at ts ≡ Ok text → IsHeld text
  unfolding held_in
  cell-held [] text h = ranged-held [] text h
  cell-held (tokens.Number n ∷ rest) text h = ranged-held (tokens.Number n ∷ rest) text h
  cell-held (tokens.Sign sign ∷ rest) text h = ranged-held (tokens.Sign sign ∷ rest) text h
  cell-held (tokens.Word word ∷ rest) text h =
      by-held (tokens.Word word ∷ rest) word rest (kind_named word) text (λ k is d. named-kind d word k is) h

  -- ---- how many cells it has

  places-by : (none few : Bool) (n : ℕ) (found : Cells) → (n == 0) ≡ none → nat_le n 32 ≡ few
      → cond none (Err faults.Unfit) (cond few (Ok (cells.UpTo n)) (Err faults.PastLimit)) ≡ Ok found → is_cells found ≡ true
  places-by true few n found none small h = absurd cc
  places-by false true n found none small h =
      let made : cells.UpTo n ≡ found = cc in
      ap is_cells (sym made) ∙ and_from (nat_le 1 n) (nat_le n 32) (positive n (ap not none)) small
  places-by false false n found none small h = absurd cc

  numbered-fit : (ts : List Token) (r : Read Cells) → first_numbered ts ≡ Ok r → is_cells r.value ≡ true
  unfolding first_numbered
  numbered-fit ts r h =
      let first = step-inv (first_number ts)
      (λ first. checked (first.value == 1) >>= λ fit. past signs.To first.rest >>= λ inner. first_number inner >>= λ last. places_to last.value
      >>= λ found. Ok (record { value = found; rest = last.rest })) h in
      let fit = step-inv (checked (first.0.value == 1))
      (λ fit. past signs.To first.0.rest >>= λ inner. first_number inner >>= λ last. places_to last.value
      >>= λ found. Ok (record { value = found; rest = last.rest })) first.2 in
      let inner = step-inv (past signs.To first.0.rest)
      (λ inner. first_number inner >>= λ last. places_to last.value >>= λ found. Ok (record { value = found; rest = last.rest })) fit.2 in
      let last = step-inv (first_number inner.0)
      (λ last. places_to last.value >>= λ found. Ok (record { value = found; rest = last.rest })) inner.2 in
      let found = step-inv (places_to last.0.value) (λ found. Ok (record { value = found; rest = last.0.rest })) last.2 in
      let made : record { value = found.0; rest = last.0.rest } ≡ r = cc in
      ap (λ (z : Read Cells). is_cells z.value) (sym made) ∙ places-by (last.0.value == 0) (nat_le last.0.value 32) last.0.value found.0 refl refl found.1

  places-fit : (ts : List Token) (r : Read Cells) → first_places ts ≡ Ok r → is_cells r.value ≡ true
  unfolding first_places
  places-fit ts r h =
      elim (some-inv (behind_word (codes "nodes") ts) (first_numbered ts) (λ rest. Ok (record { value = cells.EachNode; rest = rest })) h) [
        | inl numbered ↦ numbered-fit ts r numbered
        | inr nodes ↦
            let made : record { value = cells.EachNode; rest = nodes.0 } ≡ r = cc (nodes.1) in
            ap (λ (z : Read Cells). is_cells z.value) (sym made)
      ]

  inside-fits : (ts : List Token) (r : Read Cells) → cells_inside ts ≡ Ok r → is_cells r.value ≡ true
  unfolding cells_inside
  inside-fits ts r h =
      let x = step-inv (first_places ts) (λ x. past signs.CloseSquare x.rest >>= λ rest. Ok (record { value = x.value; rest = rest })) h in
      let rest = step-inv (past signs.CloseSquare x.0.rest) (λ rest. Ok (record { value = x.0.value; rest = rest })) x.2 in
      let made : record { value = x.0.value; rest = rest.0 } ≡ r = cc in
      ap (λ (z : Read Cells). is_cells z.value) (sym made) ∙ places-fit ts x.0 x.1

  cells-fit : (ts : List Token) (r : Read Cells) → first_cells ts ≡ Ok r → is_cells r.value ≡ true
  unfolding first_cells
  cells-fit ts r h =
      elim (some-inv (behind_sign signs.OpenSquare ts) (Ok (record { value = cells.One; rest = ts })) (λ inner. cells_inside inner) h) [
        | inl one ↦
            let made : record { value = cells.One; rest = ts } ≡ r = cc (one) in
            ap (λ (z : Read Cells). is_cells z.value) (sym made)
        | inr more ↦ inside-fits more.0 r more.1
      ]

  -- ---- both

  record IsVariable (v : Cells × VariableText) : Type 0 where
    pub cells : is_cells v.0 ≡ true
    pub held : IsHeld v.1

  variable-held : (ts : List Token) (v : Cells × VariableText) → variable_in at ts ≡ Ok v → IsVariable v
  unfolding variable_in
  variable-held ts v h =
      let x = step-inv (first_cells ts) (λ x. held_in at x.rest >>= λ text. Ok (x.value, text)) h in
      let text = step-inv (held_in at x.0.rest) (λ text. Ok (x.0.value, text)) x.2 in
      let made : (x.0.value, text.0) ≡ v = cc in
      record {
        cells = ap (λ (z : Cells × VariableText). is_cells z.0) (sym made) ∙ cells-fit ts x.0 x.1;
        held = subst (λ (z : Cells × VariableText). IsHeld z.1) made (cell-held x.0.rest text.0 text.1);
      }

  pub cells-hold : (ts : List Token) (v : Cells × VariableText) → variable_in at ts ≡ Ok v → is_cells v.0 ≡ true
  cells-hold ts v h = (variable-held ts v h).cells

  pub kind-holds : (ts : List Token) (found : Cells) (kind : Kind) → variable_in at ts ≡ Ok (found, texts.Kind kind)
      → (d : Definition) → is_kind d kind ≡ true
  kind-holds ts found kind h = (variable-held ts (found, texts.Kind kind) h).held

  words-in : (text : VariableText) → IsHeld text → HasWords text
  words-in (texts.Kind kind) held = tt
  words-in (texts.Like name) held = tt
  words-in (texts.Words words) held = held

  pub words-hold : (ts : List Token) (v : Cells × VariableText) → variable_in at ts ≡ Ok v → HasWords v.1
  words-hold ts v h = words-in v.1 (variable-held ts v h).held
