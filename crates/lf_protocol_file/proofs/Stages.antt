-- What a draft keeps while the sections before the rules are read, entry by entry.
use Rattle.std.proofs.Common.{◌≡◌, ℕ, suc, ◌+◌, ◌≤◌, ◌==◌, ◌&&◌, ◌||◌, true, List, [], ◌∷◌, ◌++◌, length}
use Rattle.std.proofs.Common.{Option, Some, None, Ok, refl, sym, ap, subst, ◌∙◌, arith}
use Rattle.std.specs.Prelude.{nat_le, slice_get}
use Rattle.std.specs.List.{list_all}
use Rattle.std.proofs.lemmas.Bool.{and_from, and_parts, leb-true}
use Rattle.toml.specs.Data.{Data}
use Rattle.lf_rules.specs.Forms.{is_kind, is_word_of, is_variable, are_variables, is_form, is_constant, is_let, is_fact, is_chain, is_shown}
use Rattle.lf_rules.specs.Tables.{is_cells, others_of, cells_in, is_table_of}
use Rattle.lf_rules.specs.declared.expr.Leaf.TheVariants as leaves
use Rattle.lf_rules.specs.declared.table.Cells.{Cells}
use Rattle.lf_rules.specs.declared.table.Table.{Table}
use Rattle.lf_rules.specs.declared.sort.Scope.TheVariants as scopes
use Rattle.lf_rules.specs.declared.definition.Constant.{Constant}
use Rattle.lf_rules.specs.declared.definition.Definition.{Definition}
use Rattle.lf_rules.specs.declared.definition.Given.{Given}
use Rattle.lf_rules.specs.declared.definition.Guard.{Guard}
use Rattle.lf_rules.specs.declared.definition.Named.{Named}
use Rattle.lf_rules.specs.declared.definition.Variable.{Variable}
use Rattle.lf_texts.specs.declared.variables.VariableText.{VariableText}
use Rattle.lf_texts.specs.declared.variables.VariableText.TheVariants as texts
use Rattle.lf_texts.specs.Forms.{note_in}
use Rattle.lf_texts.specs.Values.{value_in, guard_in}
use Rattle.lf_texts.specs.Variables.{variable_in}
use Rattle.lf_texts.proofs.Laws.{note-fits, cells-hold, value-sorted, guard-sorted}
use Rattle.lf_protocol_file.specs.declared.error.ProtocolError.TheVariants as refusals
use Rattle.lf_protocol_file.specs.declared.path.Path.TheVariants as paths
use Rattle.lf_protocol_file.specs.declared.section.Naming.TheVariants as namings
use Rattle.lf_protocol_file.specs.declared.section.Section.TheVariants as sections
use Rattle.lf_protocol_file.specs.Readings.{◌>>=◌, as_value}
use Rattle.lf_protocol_file.specs.Texts.{tokens_in}
use Rattle.lf_protocol_file.specs.declared.declared.Outcome.{Outcome}
use Rattle.lf_protocol_file.specs.declared.draft.Begun.{Begun}
use Rattle.lf_protocol_file.specs.declared.draft.Draft.{Draft}
use Rattle.lf_protocol_file.specs.declared.variables.Sketch.{Sketch}
use Rattle.lf_protocol_file.specs.Constants.{given_sort, given_in}
use Rattle.lf_protocol_file.specs.Constants.{with_given, with_constant}
use Rattle.lf_protocol_file.specs.Drafts.{place_in, check_new, with_name, number_after}
use Rattle.lf_protocol_file.specs.Named.{and_note, and_let, and_fact, with_note, let_in, with_let, fact_in, with_fact}
use Rattle.lf_protocol_file.specs.Variables.{held_in, with_words, with_words_of, with_held, with_text, with_sketch, variables_behind, settled}
use Rattle.lf_protocol_file.specs.Variables.{limited, with_variables}
use Rattle.lf_protocol_file.proofs.ConstantLemmas.{given-fits}
use Rattle.lf_protocol_file.proofs.Growing.{Grows, all-push, all-stay, constant-stays}
use Rattle.lf_protocol_file.proofs.Readings.{step-inv, as_value-inv, through}
use Rattle.lf_protocol_file.proofs.Sounding.{IsSound, one-longer, and_constant, grows-constant, sound-note, sound-let, sound-fact}
use Rattle.lf_protocol_file.proofs.VariableKinds.{IsHeld, IsSketch, text-held, AllHeld, held-push, all-variables}

-- before the variables are known there are constants alone
pub record IsEarly (d : Definition) (begun : Option Begun) (outcomes : List Outcome) : Type 0 where
  pub given : list_all (is_constant d) d.given ≡ true
  pub variables : d.variables ≡ []
  pub notes : d.notes ≡ []
  pub lets : d.lets ≡ []
  pub facts : d.facts ≡ []
  pub chains : d.chains ≡ []
  pub trace : d.trace ≡ []
  pub unbegun : begun ≡ None
  pub unpromised : outcomes ≡ []

-- with so many constants
pub record HasGiven (n : ℕ) (d : Draft) : Type 0 where
  pub early : IsEarly d.definition d.begun d.outcomes
  pub count : length d.definition.given ≡ n
  pub sketches : d.sketches ≡ []

pub given-step : (n : ℕ) (d : Draft) (key : List ℕ) (x : Data) (e : Draft) → HasGiven n d → with_constant d key x ≡ Ok e → HasGiven (suc n) e
unfolding with_constant
given-step n d key x e p h =
    let leaf = leaves.Given (number_after (length d.definition.given)) in
    let fit = step-inv (check_new d key)
    (λ fit. given_sort x >>= λ sort. given_in d x
    >>= λ value. Ok (with_given (record { name = key; sort = sort; value = value }) (with_name key leaf d))) h in
    let sort = step-inv (given_sort x)
    (λ sort. given_in d x >>= λ value. Ok (with_given (record { name = key; sort = sort; value = value }) (with_name key leaf d))) fit.2 in
    let value = step-inv (given_in d x)
    (λ value. Ok (with_given (record { name = key; sort = sort.0; value = value }) (with_name key leaf d))) sort.2 in
    let c : Constant = record { name = key; sort = sort.0; value = value.0 } in
    let made : with_given c (with_name key leaf d) ≡ e = cc in
    let is : is_constant d.definition c ≡ true = given-fits d x sort.0 value.0 sort.1 value.1 in
    let g = grows-constant d.definition c in
    let old = all-stay (is_constant d.definition) (is_constant (and_constant d.definition c)) (constant-stays g) d.definition.given p.early.given in
    subst (HasGiven (suc n)) made (record {
      early = record {
        given = all-push (is_constant (and_constant d.definition c)) d.definition.given c old (constant-stays g c is);
        variables = p.early.variables;
        notes = p.early.notes;
        lets = p.early.lets;
        facts = p.early.facts;
        chains = p.early.chains;
        trace = p.early.trace;
        unbegun = p.early.unbegun;
        unpromised = p.early.unpromised;
      };
      count = omega (arith, one-longer d.definition.given c, p.count);
      sketches = p.sketches;
    })

-- ---- variables

-- the texts of so many variables
pub record HasSketches (n : ℕ) (d : Draft) : Type 0 where
  pub early : IsEarly d.definition d.begun d.outcomes
  pub few_given : length d.definition.given ≤ 16
  pub held : AllHeld d.sketches
  pub count : length d.sketches ≡ n

-- all but what names mean
record IsRenamed (d e : Draft) : Type 0 where
  pub definition : e.definition ≡ d.definition
  pub begun : e.begun ≡ d.begun
  pub outcomes : e.outcomes ≡ d.outcomes
  pub sketches : e.sketches ≡ d.sketches

words-rename : (of i : ℕ) (ws : List (List ℕ)) (d : Draft) → IsRenamed d (with_words of i ws d)
words-rename of i [] d = record { definition = refl; begun = refl; outcomes = refl; sketches = refl }
words-rename of i (w ∷ ws) d =
    let rest = words-rename of (suc i) ws (with_name w (leaves.Word of (number_after i)) d) in
    record { definition = rest.definition; begun = rest.begun; outcomes = rest.outcomes; sketches = rest.sketches }

text-renames : (of : ℕ) (t : VariableText) (d : Draft) → IsRenamed d (with_words_of of t d)
text-renames of (texts.Words words) d = words-rename of 0 words d
text-renames of (texts.Kind kind) d = record { definition = refl; begun = refl; outcomes = refl; sketches = refl }
text-renames of (texts.Like name) d = record { definition = refl; begun = refl; outcomes = refl; sketches = refl }

-- what the text of a variable says may stand there
record IsText (v : Cells × VariableText) : Type 0 where
  pub cells : is_cells v.0 ≡ true
  pub held : IsHeld v.1

held-text : (d : Draft) (x : Data) (v : Cells × VariableText) → held_in d x ≡ Ok v → IsText v
unfolding held_in
held-text d x v h =
    let at = place_in d [] scopes.Given in
    let ts = step-inv (tokens_in x) (λ ts. as_value (variable_in at ts)) h in
    let read = as_value-inv (variable_in at ts.0) v ts.2 in
    record { cells = cells-hold at ts.0 v read; held = text-held at ts.0 v.0 v.1 read }

early-renamed : (d e : Draft) → IsRenamed d e → IsEarly d.definition d.begun d.outcomes → IsEarly e.definition e.begun e.outcomes
early-renamed d e r p =
    let one = subst (λ (z : Definition). IsEarly z d.begun d.outcomes) (sym r.definition) p in
    let two = subst (λ (z : Option Begun). IsEarly e.definition z d.outcomes) (sym r.begun) one in
    subst (λ (z : List Outcome). IsEarly e.definition e.begun z) (sym r.outcomes) two

sketched : (n of : ℕ) (d : Draft) (key : List ℕ) (x : Data) (e : Draft) → HasSketches n d → with_text of d key x ≡ Ok e → HasSketches (suc n) e
unfolding with_text
sketched n of d key x e p h =
    let text = step-inv (held_in d x) (λ text. Ok (with_held (record { name = key; cells = text.0; held = text.1 }) (with_words_of of text.1 d))) h in
    let s : Sketch = record { name = key; cells = text.0.0; held = text.0.1 } in
    let named = with_words_of of text.0.1 d in
    let made : with_held s named ≡ e = cc in
    let r = text-renames of text.0.1 d in
    let is = held-text d x text.0 text.1 in
    let sketch : IsSketch s = record { cells = is.cells; held = is.held } in
    let early = early-renamed d named r p.early in
    let few : length named.definition.given ≤ 16 = omega (arith, ap (λ (z : Definition). length z.given) r.definition, p.few_given) in
    let held = held-push named.sketches s (subst AllHeld (sym r.sketches) p.held) sketch in
    let count : length (named.sketches ++ s ∷ []) ≡ suc n = omega (arith, one-longer named.sketches s, ap length r.sketches, p.count) in
    subst (HasSketches (suc n)) made (record { early = early; few_given = few; held = held; count = count })

pub sketch-step : (n : ℕ) (d : Draft) (key : List ℕ) (x : Data) (e : Draft) → HasSketches n d → with_sketch d key x ≡ Ok e → HasSketches (suc n) e
unfolding with_sketch
sketch-step n d key x e p h =
    let of = number_after (length d.sketches) in
    let named = with_name key (leaves.Variable of) d in
    let fit = step-inv (check_new d key) (λ fit. with_text of named key x) h in
    let q : HasSketches n named = record { early = p.early; few_given = p.few_given; held = p.held; count = p.count } in
    sketched n of named key x e q fit.2

-- ---- notes, named expressions and named guards

-- how many variables, cells and constants there are
pub record AreMeasured (variables cells given : ℕ) : Type 0 where
  pub some_variables : 1 ≤ variables
  pub few_variables : variables ≤ 32
  pub few_cells : cells ≤ 64
  pub few_given : given ≤ 16

-- the parts fit, and there are so many notes, named expressions and named guards, and neither rules nor outcomes
pub record HasParts (ns ls fs : ℕ) (d : Draft) : Type 0 where
  pub sound : IsSound d.definition
  pub measured : AreMeasured (length d.definition.variables) (cells_in d.definition) (length d.definition.given)
  pub notes : length d.definition.notes ≡ ns
  pub lets : length d.definition.lets ≡ ls
  pub facts : length d.definition.facts ≡ fs
  pub chains : d.definition.chains ≡ []
  pub trace : d.definition.trace ≡ []
  pub unbegun : d.begun ≡ None
  pub unpromised : d.outcomes ≡ []

-- the variables, once all are there
pub variables-step : (n : ℕ) (d e : Draft) → HasSketches n d → 1 ≤ n → n ≤ 32 → with_variables d ≡ Ok e → HasParts 0 0 0 e
unfolding with_variables
variables-step n d e p some few h =
    let vs = step-inv (variables_behind d.sketches [] 0 d.sketches) (λ variables. limited (settled variables d)) h in
    let within = through (refusals.PastLimit (paths.Section (sections.Naming namings.State))) (nat_le (cells_in (settled vs.0 d).definition) 64)
    (Ok (settled vs.0 d)) e vs.2 in
    let made : settled vs.0 d ≡ e = cc (within.1) in
    let all = all-variables d.sketches vs.0 p.held (omega (arith, p.count, few)) vs.1 in
    let new : Definition = record d.definition { variables = vs.0 } in
    let fit : are_variables new 0 vs.0 ≡ true = all.fit new refl in
    let g : Grows d.definition new = record {
      variables = λ i x there. let none : slice_get [] i ≡ Some x = ap (λ (xs : List Variable). slice_get xs i) (sym p.early.variables) ∙ there in
          absurd (nothing i x none);
      notes = λ i x there. there;
      given = λ i x there. there;
      lets = λ i x there. there;
      facts = λ i x there. there;
      tables = λ t is. let none : is_table_of (slice_get [] t.of) t.cells ≡ true =
          ap (λ (xs : List Variable). is_table_of (slice_get xs t.of) t.cells) (sym p.early.variables)
          ∙ (and_parts (is_table_of (slice_get d.definition.variables t.of) t.cells) (t.others == others_of d.definition t.of) is).0 in absurd (nowhere t none);
      more_variables = omega (arith, ap length p.early.variables);
      more_notes = omega arith;
    } in
    subst (HasParts 0 0 0) made (record {
      sound = record {
        variables = fit;
        notes = ap (list_all (is_form new)) p.early.notes;
        given = all-stay (is_constant d.definition) (is_constant new) (constant-stays g) d.definition.given p.early.given;
        lets = ap (list_all (is_let new)) p.early.lets;
        facts = ap (list_all (is_fact new)) p.early.facts;
        chains = ap (list_all (is_chain new)) p.early.chains;
        trace = ap (list_all (is_shown new)) p.early.trace;
      };
      measured = record {
        some_variables = omega (arith, all.count, p.count, some);
        few_variables = omega (arith, all.count, p.count, few);
        few_cells = leb-true (cells_in (settled vs.0 d).definition) 64 within.0;
        few_given = p.few_given;
      };
      notes = ap length p.early.notes;
      lets = ap length p.early.lets;
      facts = ap length p.early.facts;
      chains = p.early.chains;
      trace = p.early.trace;
      unbegun = p.early.unbegun;
      unpromised = p.early.unpromised;
    })
  where
    nothing : (i : ℕ) (x : Variable) → slice_get [] i ≡ Some x → ⊥
    nothing i x none = cc

    nowhere : (t : Table) → is_table_of (slice_get [] t.of) t.cells ≡ true → ⊥
    nowhere t none = cc

-- the kinds of variables that fit
kinds-of : (d : Definition) (i : ℕ) (xs : List Variable) → are_variables d i xs ≡ true → list_all (λ x. is_kind d x.kind) xs ≡ true
kinds-of d i [] h = refl
kinds-of d i (x ∷ xs) h =
    let each = and_parts (is_variable d i x) (are_variables d (i + 1) xs) h in
    let own = and_parts (is_kind d x.kind) (is_cells x.cells && (length x.words == 0 || is_word_of i x.kind)) each.0 in
    and_from (is_kind d x.kind) (list_all (λ x. is_kind d x.kind) xs) own.0 (kinds-of d (i + 1) xs each.1)

pub note-step : (n ls fs : ℕ) (d : Draft) (x : Data) (e : Draft) → HasParts n ls fs d → with_note d x ≡ Ok e → HasParts (suc n) ls fs e
unfolding with_note
note-step n ls fs d x e p h =
    let ts = step-inv (tokens_in x) (λ ts. as_value (note_in d.definition ts) >>= λ form. Ok (and_note form d)) h in
    let form = step-inv (as_value (note_in d.definition ts.0)) (λ form. Ok (and_note form d)) ts.2 in
    let made : and_note form.0 d ≡ e = cc in
    let is = note-fits d.definition ts.0 form.0 (kinds-of d.definition 0 d.definition.variables p.sound.variables)
    (as_value-inv (note_in d.definition ts.0) form.0 form.1) in
    subst (HasParts (suc n) ls fs) made (record {
      sound = sound-note d.definition p.sound form.0 is;
      measured = p.measured;
      notes = omega (arith, one-longer d.definition.notes form.0, p.notes);
      lets = p.lets;
      facts = p.facts;
      chains = p.chains;
      trace = p.trace;
      unbegun = p.unbegun;
      unpromised = p.unpromised;
    })

let-fits : (d : Draft) (key : List ℕ) (x : Data) (named : Named) → let_in d key x ≡ Ok named → is_let d.definition named ≡ true
unfolding let_in
let-fits d key x named h =
    let at = place_in d [] scopes.Let in
    let fit = step-inv (check_new d key)
    (λ fit. tokens_in x >>= λ ts. as_value (value_in at ts) >>= λ value. Ok (record { name = key; sort = value.1; value = value.0 })) h in
    let ts = step-inv (tokens_in x) (λ ts. as_value (value_in at ts) >>= λ value. Ok (record { name = key; sort = value.1; value = value.0 })) fit.2 in
    let value = step-inv (as_value (value_in at ts.0)) (λ value. Ok (record { name = key; sort = value.1; value = value.0 })) ts.2 in
    let made : record { name = key; sort = value.0.1; value = value.0.0 } ≡ named = cc in
    ap (is_let d.definition) (sym made) ∙ value-sorted at ts.0 value.0 (as_value-inv (value_in at ts.0) value.0 value.1)

pub let-step : (ns n fs : ℕ) (d : Draft) (key : List ℕ) (x : Data) (e : Draft) → HasParts ns n fs d → with_let d key x ≡ Ok e → HasParts ns (suc n) fs e
unfolding with_let
let-step ns n fs d key x e p h =
    let leaf = leaves.Let (number_after (length d.definition.lets)) in
    let named = step-inv (let_in d key x) (λ named. Ok (and_let named (with_name key leaf d))) h in
    let made : and_let named.0 (with_name key leaf d) ≡ e = cc in
    subst (HasParts ns (suc n) fs) made (record {
      sound = sound-let d.definition p.sound named.0 (let-fits d key x named.0 named.1);
      measured = p.measured;
      notes = p.notes;
      lets = omega (arith, one-longer d.definition.lets named.0, p.lets);
      facts = p.facts;
      chains = p.chains;
      trace = p.trace;
      unbegun = p.unbegun;
      unpromised = p.unpromised;
    })

fact-fits : (d : Draft) (key : List ℕ) (x : Data) (guard : Guard) → fact_in d key x ≡ Ok guard → is_fact d.definition guard ≡ true
unfolding fact_in
fact-fits d key x guard h =
    let at = place_in d [] scopes.Fact in
    let fit = step-inv (check_new d key) (λ fit. tokens_in x >>= λ ts. as_value (guard_in at ts) >>= λ value. Ok (record { name = key; value = value })) h in
    let ts = step-inv (tokens_in x) (λ ts. as_value (guard_in at ts) >>= λ value. Ok (record { name = key; value = value })) fit.2 in
    let value = step-inv (as_value (guard_in at ts.0)) (λ value. Ok (record { name = key; value = value })) ts.2 in
    let made : record { name = key; value = value.0 } ≡ guard = cc in
    ap (is_fact d.definition) (sym made) ∙ guard-sorted at ts.0 value.0 (as_value-inv (guard_in at ts.0) value.0 value.1)

pub fact-step : (ns ls n : ℕ) (d : Draft) (key : List ℕ) (x : Data) (e : Draft) → HasParts ns ls n d → with_fact d key x ≡ Ok e → HasParts ns ls (suc n) e
unfolding with_fact
fact-step ns ls n d key x e p h =
    let leaf = leaves.Fact (number_after (length d.definition.facts)) in
    let guard = step-inv (fact_in d key x) (λ guard. Ok (and_fact guard (with_name key leaf d))) h in
    let made : and_fact guard.0 (with_name key leaf d) ≡ e = cc in
    subst (HasParts ns ls (suc n)) made (record {
      sound = sound-fact d.definition p.sound guard.0 (fact-fits d key x guard.0 guard.1);
      measured = p.measured;
      notes = p.notes;
      lets = p.lets;
      facts = omega (arith, one-longer d.definition.facts guard.0, p.facts);
      chains = p.chains;
      trace = p.trace;
      unbegun = p.unbegun;
      unpromised = p.unpromised;
    })
