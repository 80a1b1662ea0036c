-- A definition whose parts fit, with one part more.
use Rattle.std.proofs.Common.{◌≡◌, ℕ, zero, suc, ◌+◌, true, List, [], ◌∷◌, ◌++◌, length, length-append, arith}
use Rattle.std.specs.Prelude.{Some, slice_get}
use Rattle.std.specs.List.{list_all}
use Rattle.lf_rules.specs.Forms.{are_variables, is_form, is_constant, is_let, is_fact, is_chain, is_shown}
use Rattle.lf_rules.specs.declared.rule.Chain.{Chain}
use Rattle.lf_rules.specs.declared.definition.Constant.{Constant}
use Rattle.lf_rules.specs.declared.definition.Definition.{Definition}
use Rattle.lf_rules.specs.declared.definition.Guard.{Guard}
use Rattle.lf_rules.specs.declared.definition.Named.{Named}
use Rattle.lf_rules.specs.declared.definition.NoteForm.{NoteForm}
use Rattle.lf_protocol_file.proofs.Growing.{Grows, all-stay, variables-stay, form-stays, constant-stays, let-stays, fact-stays, chain-stays, shown-stays}
use Rattle.lf_protocol_file.proofs.Growing.{all-push}

-- the parts of one definition fit in another
pub record AreSound (d e : Definition) : Type 0 where
  pub variables : are_variables e 0 d.variables ≡ true
  pub notes : list_all (is_form e) d.notes ≡ true
  pub given : list_all (is_constant e) d.given ≡ true
  pub lets : list_all (is_let e) d.lets ≡ true
  pub facts : list_all (is_fact e) d.facts ≡ true
  pub chains : list_all (is_chain e) d.chains ≡ true
  pub trace : list_all (is_shown e) d.trace ≡ true

-- all parts of a definition fit
abbrev pub IsSound : Definition → Type 0
IsSound d = AreSound d d

pub carried : {d e : Definition} → Grows d e → IsSound d → AreSound d e
carried {d} {e} g s = record {
  variables = variables-stay g 0 d.variables s.variables;
  notes = all-stay (is_form d) (is_form e) (form-stays g) d.notes s.notes;
  given = all-stay (is_constant d) (is_constant e) (constant-stays g) d.given s.given;
  lets = all-stay (is_let d) (is_let e) (let-stays g) d.lets s.lets;
  facts = all-stay (is_fact d) (is_fact e) (fact-stays g) d.facts s.facts;
  chains = all-stay (is_chain d) (is_chain e) (chain-stays g) d.chains s.chains;
  trace = all-stay (is_shown d) (is_shown e) (shown-stays g) d.trace s.trace;
}

-- what is found in a list is found in a longer one
pub get-more : {X : Type 0} (xs ys : List X) (i : ℕ) (x : X) → slice_get xs i ≡ Some x → slice_get (xs ++ ys) i ≡ Some x
get-more [] ys i x h = absurd cc
get-more (y ∷ xs) ys zero x h = h
get-more (y ∷ xs) ys (suc i) x h = get-more xs ys i x h

pub one-longer : {X : Type 0} (xs : List X) (x : X) → length (xs ++ x ∷ []) ≡ length xs + 1
one-longer xs x = length-append xs (x ∷ [])

module _ (d : Definition) where
  abbrev pub and_constant : Constant → Definition
  and_constant x = record d { given = d.given ++ x ∷ [] }

  pub grows-constant : (x : Constant) → Grows d (and_constant x)
  grows-constant x = record {
    variables = λ i y h. h;
    notes = λ i y h. h;
    given = λ i y h. get-more d.given (x ∷ []) i y h;
    lets = λ i y h. h;
    facts = λ i y h. h;
    tables = λ t h. h;
    more_variables = omega arith;
    more_notes = omega arith;
  }

  abbrev pub and_note : NoteForm → Definition
  and_note x = record d { notes = d.notes ++ x ∷ [] }

  pub grows-note : (x : NoteForm) → Grows d (and_note x)
  grows-note x = record {
    variables = λ i y h. h;
    notes = λ i y h. get-more d.notes (x ∷ []) i y h;
    given = λ i y h. h;
    lets = λ i y h. h;
    facts = λ i y h. h;
    tables = λ t h. h;
    more_variables = omega arith;
    more_notes = omega (arith, one-longer d.notes x);
  }

  abbrev pub and_let : Named → Definition
  and_let x = record d { lets = d.lets ++ x ∷ [] }

  pub grows-let : (x : Named) → Grows d (and_let x)
  grows-let x = record {
    variables = λ i y h. h;
    notes = λ i y h. h;
    given = λ i y h. h;
    lets = λ i y h. get-more d.lets (x ∷ []) i y h;
    facts = λ i y h. h;
    tables = λ t h. h;
    more_variables = omega arith;
    more_notes = omega arith;
  }

  abbrev pub and_fact : Guard → Definition
  and_fact x = record d { facts = d.facts ++ x ∷ [] }

  pub grows-fact : (x : Guard) → Grows d (and_fact x)
  grows-fact x = record {
    variables = λ i y h. h;
    notes = λ i y h. h;
    given = λ i y h. h;
    lets = λ i y h. h;
    facts = λ i y h. get-more d.facts (x ∷ []) i y h;
    tables = λ t h. h;
    more_variables = omega arith;
    more_notes = omega arith;
  }

  abbrev pub and_chain : Chain → Definition
  and_chain x = record d { chains = d.chains ++ x ∷ [] }

  pub grows-chain : (x : Chain) → Grows d (and_chain x)
  grows-chain x = record {
    variables = λ i y h. h;
    notes = λ i y h. h;
    given = λ i y h. h;
    lets = λ i y h. h;
    facts = λ i y h. h;
    tables = λ t h. h;
    more_variables = omega arith;
    more_notes = omega arith;
  }

  abbrev pub with_trace : List ℕ → Definition
  with_trace is = record d { trace = is }

  pub grows-trace : (is : List ℕ) → Grows d (with_trace is)
  grows-trace is = record {
    variables = λ i y h. h;
    notes = λ i y h. h;
    given = λ i y h. h;
    lets = λ i y h. h;
    facts = λ i y h. h;
    tables = λ t h. h;
    more_variables = omega arith;
    more_notes = omega arith;
  }

  module _ (s : IsSound d) where
    pub sound-constant : (x : Constant) → is_constant d x ≡ true → IsSound (and_constant x)
    sound-constant x is =
        let g = grows-constant x in
        let c = carried g s in
        record {
          variables = c.variables;
          notes = c.notes;
          given = all-push (is_constant (and_constant x)) d.given x c.given (constant-stays g x is);
          lets = c.lets;
          facts = c.facts;
          chains = c.chains;
          trace = c.trace;
        }

    pub sound-note : (x : NoteForm) → is_form d x ≡ true → IsSound (and_note x)
    sound-note x is =
        let g = grows-note x in
        let c = carried g s in
        record {
          variables = c.variables;
          notes = all-push (is_form (and_note x)) d.notes x c.notes (form-stays g x is);
          given = c.given;
          lets = c.lets;
          facts = c.facts;
          chains = c.chains;
          trace = c.trace;
        }

    pub sound-let : (x : Named) → is_let d x ≡ true → IsSound (and_let x)
    sound-let x is =
        let g = grows-let x in
        let c = carried g s in
        record {
          variables = c.variables;
          notes = c.notes;
          given = c.given;
          lets = all-push (is_let (and_let x)) d.lets x c.lets (let-stays g x is);
          facts = c.facts;
          chains = c.chains;
          trace = c.trace;
        }

    pub sound-fact : (x : Guard) → is_fact d x ≡ true → IsSound (and_fact x)
    sound-fact x is =
        let g = grows-fact x in
        let c = carried g s in
        record {
          variables = c.variables;
          notes = c.notes;
          given = c.given;
          lets = c.lets;
          facts = all-push (is_fact (and_fact x)) d.facts x c.facts (fact-stays g x is);
          chains = c.chains;
          trace = c.trace;
        }

    pub sound-chain : (x : Chain) → is_chain d x ≡ true → IsSound (and_chain x)
    sound-chain x is =
        let g = grows-chain x in
        let c = carried g s in
        record {
          variables = c.variables;
          notes = c.notes;
          given = c.given;
          lets = c.lets;
          facts = c.facts;
          chains = all-push (is_chain (and_chain x)) d.chains x c.chains (chain-stays g x is);
          trace = c.trace;
        }

    pub sound-trace : (is : List ℕ) → list_all (is_shown d) is ≡ true → IsSound (with_trace is)
    sound-trace is all =
        let g = grows-trace is in
        let c = carried g s in
        record {
          variables = c.variables;
          notes = c.notes;
          given = c.given;
          lets = c.lets;
          facts = c.facts;
          chains = c.chains;
          trace = all-stay (is_shown d) (is_shown (with_trace is)) (shown-stays g) is all;
        }
