-- What crates above may cite of this one beside its contracts: what is read of a text is what may stand there.
use Rattle.std.proofs.Common.{◌≡◌, ◌≤◌, true, List, length, Ok}
use Rattle.std.specs.List.{list_all}
use Rattle.lf_rules.specs.Forms.{is_kind, is_form, is_assignment, is_send, is_event}
use Rattle.lf_rules.specs.Sorts.{is_a}
use Rattle.lf_rules.specs.Tables.{is_cells}
use Rattle.lf_rules.specs.Terms.{Term}
use Rattle.lf_rules.specs.declared.kind.Kind.{Kind}
use Rattle.lf_rules.specs.declared.rule.Assignment.{Assignment}
use Rattle.lf_rules.specs.declared.rule.Send.{Send}
use Rattle.lf_rules.specs.declared.sort.Sort.{Sort}
use Rattle.lf_rules.specs.declared.sort.Sort.TheVariants as sorts
use Rattle.lf_rules.specs.declared.table.Cells.{Cells}
use Rattle.lf_rules.specs.declared.definition.Definition.{Definition}
use Rattle.lf_rules.specs.declared.definition.NoteForm.{NoteForm}
use Rattle.lf_grammar.specs.declared.token.Token.{Token}
use Rattle.lf_grammar.specs.Places.{Context}
use Rattle.lf_texts.specs.declared.events.Heard.{Heard}
use Rattle.lf_texts.specs.declared.values.When.{When}
use Rattle.lf_texts.specs.declared.variables.VariableText.{VariableText}
use Rattle.lf_texts.specs.declared.variables.VariableText.TheVariants as texts
use Rattle.lf_texts.specs.Assignments.{sets_in}
use Rattle.lf_texts.specs.Events.{event_in}
use Rattle.lf_texts.specs.Forms.{note_in}
use Rattle.lf_texts.specs.Sends.{sends_in}
use Rattle.lf_texts.specs.Values.{nodes_in, value_in, guard_in, when_in}
use Rattle.lf_texts.specs.Variables.{variable_in, HasWords}
use Rattle.lf_texts.proofs.KindLemmas as kinds
use Rattle.lf_texts.proofs.PartLemmas as parts
use Rattle.lf_texts.proofs.SortLemmas as sorting

module _ (at : Context) where
  -- an expression is of the sort that its place wants
  pub nodes-sorted : (ts : List Token) (e : Term) → nodes_in at ts ≡ Ok e → is_a at.definition at.scope at.within sorts.Nodes e ≡ true
  nodes-sorted = sorting.nodes-sorted at

  pub value-sorted : (ts : List Token) (v : Term × Sort) → value_in at ts ≡ Ok v → is_a at.definition at.scope at.within v.1 v.0 ≡ true
  value-sorted = sorting.value-sorted at

  pub guard-sorted : (ts : List Token) (e : Term) → guard_in at ts ≡ Ok e → is_a at.definition at.scope at.within sorts.Truth e ≡ true
  guard-sorted = sorting.guard-sorted at

  pub when-sorted : (ts : List Token) (w : When) → when_in at ts ≡ Ok w → is_a at.definition at.scope at.within sorts.Truth w.guard ≡ true
  when-sorted = sorting.when-sorted at

  -- what a rule is on is there, and all that it sets and sends fits
  pub event-fits : (ts : List Token) (heard : Heard) → event_in at ts ≡ Ok heard → is_event at.definition heard.on ≡ true
  event-fits = parts.event-fits at

  pub sets-fit : (ts : List Token) (xs : List Assignment) → sets_in at ts ≡ Ok xs
      → (list_all (is_assignment at.definition at.scope) xs ≡ true) × (length xs ≤ 16)
  sets-fit = parts.sets-fit at

  pub sends-fit : (ts : List Token) (xs : List Send) → sends_in at ts ≡ Ok xs
      → (list_all (is_send at.definition at.scope) xs ≡ true) × (length xs ≤ 8)
  sends-fit = parts.sends-fit at

  -- a variable has as many cells as it may have, its kind is one in every definition, and its words are neither too few nor too many
  pub cells-hold : (ts : List Token) (v : Cells × VariableText) → variable_in at ts ≡ Ok v → is_cells v.0 ≡ true
  cells-hold = kinds.cells-hold at

  pub kind-holds : (ts : List Token) (found : Cells) (kind : Kind) → variable_in at ts ≡ Ok (found, texts.Kind kind)
      → (d : Definition) → is_kind d kind ≡ true
  kind-holds = kinds.kind-holds at

  pub words-hold : (ts : List Token) (v : Cells × VariableText) → variable_in at ts ≡ Ok v → HasWords v.1
  words-hold = kinds.words-hold at

-- a form of notes is one of a definition whose variables are of kinds that there are
pub note-fits : (d : Definition) (ts : List Token) (form : NoteForm) → list_all (λ x. is_kind d x.kind) d.variables ≡ true → note_in d ts ≡ Ok form
    → is_form d form ≡ true
note-fits = kinds.note-fits
