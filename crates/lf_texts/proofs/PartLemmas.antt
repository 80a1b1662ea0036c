-- What is read of the parts of a rule is what may stand there.
use Rattle.std.proofs.Common.{◌≡◌, ℕ, suc, ◌+◌, ◌≤◌, ◌==◌, ◌&&◌, Bool, true, false, not, cond, List, [], ◌∷◌, ◌++◌, append-nil, append_assoc}
use Rattle.std.proofs.Common.{length, Option, Some, None, Ok, Err, refl, sym, ap, subst, ◌∙◌, arith}
use Rattle.std.specs.Prelude.{codes, nat_lt, slice_get}
use Rattle.std.specs.List.{list_all, list_any}
use Rattle.std.specs.Str.{bytes_eq}
use Rattle.std.proofs.lemmas.Bool.{and_from, and_parts, eq-eqb, lt-ltb}
use Rattle.std.proofs.lemmas.Option.{slice_get_within}
use Rattle.lf_rules.specs.Forms as forms
use Rattle.lf_rules.specs.Forms.{is_assigned, is_whole, within_of, is_assignment, are_fields, are_sent, same_truth, is_send, is_event}
use Rattle.lf_rules.specs.Kinds.{sort_of}
use Rattle.lf_rules.specs.Sorts.{is_a}
use Rattle.lf_rules.specs.Tables.{is_one, is_each_node, same_cells, others_of, is_table_of, is_table}
use Rattle.lf_rules.specs.Terms.{Term}
use Rattle.lf_rules.specs.Trees.{has_it}
use Rattle.lf_rules.specs.declared.expr.Leaf.{Leaf}
use Rattle.lf_rules.specs.declared.expr.Leaf.TheVariants as leaves
use Rattle.lf_rules.specs.declared.expr.Row.{Row}
use Rattle.lf_rules.specs.declared.expr.Row.TheVariants as rows
use Rattle.lf_rules.specs.declared.kind.Kind.{Kind}
use Rattle.lf_rules.specs.declared.rule.Assignment.{Assignment}
use Rattle.lf_rules.specs.declared.rule.Event.{Event}
use Rattle.lf_rules.specs.declared.rule.Event.TheVariants as events
use Rattle.lf_rules.specs.declared.rule.Send.{Send}
use Rattle.lf_rules.specs.declared.rule.Target.{Target}
use Rattle.lf_rules.specs.declared.rule.Target.TheVariants as targets
use Rattle.lf_rules.specs.declared.sort.Sort.{Sort}
use Rattle.lf_rules.specs.declared.sort.Sort.TheVariants as sorts
use Rattle.lf_rules.specs.declared.sort.Within.{Within}
use Rattle.lf_rules.specs.declared.sort.Within.TheVariants as withins
use Rattle.lf_rules.specs.declared.table.Cells.{Cells}
use Rattle.lf_rules.specs.declared.table.Cells.TheVariants as cells
use Rattle.lf_rules.specs.declared.table.Table.{Table}
use Rattle.lf_rules.specs.declared.definition.Definition.{Definition}
use Rattle.lf_rules.specs.declared.definition.NoteForm.{NoteForm}
use Rattle.lf_rules.specs.declared.definition.Variable.{Variable}
use Rattle.lf_grammar.specs.declared.sign.Sign.TheVariants as signs
use Rattle.lf_grammar.specs.declared.token.Token.{Token}
use Rattle.lf_grammar.specs.Expressions.{first_sum}
use Rattle.lf_grammar.specs.Places.{Context, leaf_of, row_of, table_of, table_by}
use Rattle.lf_texts.specs.declared.assignments.Aim.{Aim}
use Rattle.lf_texts.specs.declared.error.TextError.TheVariants as faults
use Rattle.lf_texts.specs.declared.events.Heard.{Heard}
use Rattle.lf_texts.specs.Assignments.{variable_at, variable_of, variable_named, is_set, whole, target_at, first_cell, aim_by, first_aim}
use Rattle.lf_texts.specs.Assignments.{within_value, first_set, sets_in}
use Rattle.lf_texts.specs.Events.{event_named, names_in, heard_in, event_by, event_in}
use Rattle.lf_texts.specs.Forms.{Form, form_from}
use Rattle.lf_texts.specs.Fronts.{ended, first_word, past, past_word}
use Rattle.lf_texts.specs.Lists.{listed, opened, closed, bracketed}
use Rattle.lf_texts.specs.Reading.{Reading, ◌>>=◌, checked, wanted, Read}
use Rattle.lf_texts.specs.Sends.{first_receivers, sent, first_send, sends_in}
use Rattle.lf_texts.specs.Values.{with_it, expression, first_of_sort, first_nodes}
use Rattle.lf_texts.proofs.ListLemmas.{listed_count}
use Rattle.lf_texts.proofs.SortLemmas.{step-inv, checked-inv, listed-all, first-sorted, nodes-first, sum-here}

-- what is let through
through : {A : Type 0} (so : Bool) (r : Reading A) (y : A) → cond so r (Err faults.Unfit) ≡ Ok y → r ≡ Ok y
through true r y h = h
through false r y h = absurd cc

-- the form that a word names
record IsNamed (i : ℕ) (xs : List NoteForm) (f : Form) : Type 0 where
  pub place : ℕ
  pub form : NoteForm
  pub number : f.number ≡ i + place
  pub there : slice_get xs place ≡ Some form
  pub fields : form.fields ≡ f.kinds

form-found : (i : ℕ) (word : List ℕ) (xs : List NoteForm) (f : Form) → form_from i word xs ≡ Ok f → IsNamed i xs f
form-found i word [] f h = absurd cc
form-found i word (x ∷ xs) f h = here_or_later (bytes_eq x.name word) (form-found (suc i) word xs f) h
  where
    here_or_later : (so : Bool) → (form_from (suc i) word xs ≡ Ok f → IsNamed (suc i) xs f)
        → cond so (cond (nat_lt i 256) (Ok (record { number = i; kinds = x.fields })) (Err faults.Unfit)) (form_from (suc i) word xs) ≡ Ok f
        → IsNamed i (x ∷ xs) f
    here_or_later true later e =
        let found = through (nat_lt i 256) (Ok (record { number = i; kinds = x.fields })) f e in
        let made : record { number = i; kinds = x.fields } ≡ f = cc in
        record {
          place = 0;
          form = x;
          number = omega (arith, ap (λ (z : Form). z.number) made);
          there = refl;
          fields = ap (λ (z : Form). z.kinds) made;
        }
    here_or_later false later e =
        let found = later e in
        record { place = suc found.place; form = found.form; number = omega (arith, found.number); there = found.there; fields = found.fields }

-- by its own number
record IsForm (xs : List NoteForm) (f : Form) : Type 0 where
  pub form : NoteForm
  pub there : slice_get xs f.number ≡ Some form
  pub fields : form.fields ≡ f.kinds

form-numbered : (word : List ℕ) (xs : List NoteForm) (f : Form) → form_from 0 word xs ≡ Ok f → IsForm xs f
form-numbered word xs f h =
    let found = form-found 0 word xs f h in
    let same : f.number ≡ found.place = omega (arith, found.number) in
    record { form = found.form; there = ap (slice_get xs) same ∙ found.there; fields = found.fields }

module _ (at : Context) where
  abbrev d : Definition
  d = at.definition

  -- a variable that is there
  record IsVariable (v : ℕ × Sort × Cells) : Type 0 where
    pub variable : Variable
    pub there : slice_get d.variables v.0 ≡ Some variable
    pub sort : v.1 ≡ sort_of variable.kind
    pub cells : v.2 ≡ variable.cells

  variable-there : (i : ℕ) (o : Option Variable) (v : ℕ × Sort × Cells) → o ≡ slice_get d.variables i → variable_at i o ≡ Ok v → IsVariable v
  variable-there i None v is h = absurd cc
  variable-there i (Some x) v is h =
      let made : (i, sort_of x.kind, x.cells) ≡ v = cc in
      record {
        variable = x;
        there = ap (λ (z : ℕ × Sort × Cells). slice_get d.variables z.0) (sym made) ∙ sym is;
        sort = ap (λ (z : ℕ × Sort × Cells). z.1) (sym made);
        cells = ap (λ (z : ℕ × Sort × Cells). z.2) (sym made);
      }

  variable-meant : (o : Option Leaf) (v : ℕ × Sort × Cells) → variable_of d.variables o ≡ Ok v → IsVariable v
  variable-meant (Some (leaves.Variable i)) v h = variable-there i (slice_get d.variables i) v refl h
  variable-meant other v h = absurd cc

  -- a value of the sort that a target wants may be set
  record IsFit (sort : Sort) (target : Target) : Type 0 where
    pub sets : (e : Term) → is_a d at.scope (within_value target) sort e ≡ true → forms.is_set d at.scope target e ≡ true

  -- the value of a variable's kind, by the variable
  valued : (within : Within) (v : ℕ × Sort × Cells) (x : IsVariable v) (e : Term) → is_a d at.scope within v.1 e ≡ true
      → is_assigned d at.scope within (slice_get d.variables v.0) e ≡ true
  valued within v x e is = ap (λ o. is_assigned d at.scope within o e) x.there ∙ ap (λ s. is_a d at.scope within s e) (sym x.sort) ∙ is

  -- a variable as a whole
  whole-fits : (before : List Assignment) (v : ℕ × Sort × Cells) (x : IsVariable v) (aim : Aim) → whole before v ≡ Ok aim → IsFit aim.sort aim.target
  whole-fits before v x aim h =
      let fit = step-inv (checked (is_one v.2 && not (is_set before v.0))) (λ fit. Ok (record { target = targets.Variable v.0; sort = v.1 })) h in
      let one = (and_parts (is_one v.2) (not (is_set before v.0)) (checked-inv (is_one v.2 && not (is_set before v.0)) fit.1)).0 in
      let made : record { target = targets.Variable v.0; sort = v.1 } ≡ aim = cc in
      let alone : is_whole (slice_get d.variables v.0) ≡ true = ap is_whole x.there ∙ ap is_one (sym x.cells) ∙ one in
      let fits : IsFit v.1 (targets.Variable v.0) =
      record {
        sets = λ e is.
            and_from (is_whole (slice_get d.variables v.0)) (is_assigned d at.scope withins.Nothing (slice_get d.variables v.0) e) alone
            (valued withins.Nothing v x e is);
      } in
      subst (λ (z : Aim). IsFit z.sort z.target) made fits

  -- a table by its variable
  record IsTable (v : ℕ × Sort × Cells) (t : Table) : Type 0 where
    pub of : t.of ≡ v.0
    pub there : is_table d t ≡ true

  same-cells : (found : Cells) → same_cells found found ≡ true
  same-cells cells.One = refl
  same-cells cells.EachNode = refl
  same-cells (cells.UpTo n) = eq-eqb n n refl

  by-cells : (one small : Bool) (made t : Table) → cond one None (cond small (Some (rows.Table made)) None) ≡ Some (rows.Table t)
      → (one ≡ false) × (made ≡ t)
  by-cells true small made t h = absurd cc
  by-cells false true made t h = (refl, cc)
  by-cells false false made t h = absurd cc

  table-there : (v : ℕ × Sort × Cells) (x : IsVariable v) (t : Table) → row_of d (leaves.Variable v.0) ≡ Some (rows.Table t) → IsTable v t
  table-there v x t h =
      let row : table_by v.0 (others_of d v.0) x.variable.cells ≡ Some (rows.Table t) = ap (table_of d v.0) (sym x.there) ∙ h in
      let found = by-cells (is_one x.variable.cells) (nat_lt (others_of d v.0) 256)
      (record { of = v.0; others = others_of d v.0; cells = x.variable.cells }) t row in
      let there : is_table d (record { of = v.0; others = others_of d v.0; cells = x.variable.cells }) ≡ true =
      and_from (is_table_of (slice_get d.variables v.0) x.variable.cells) (others_of d v.0 == others_of d v.0)
      (ap (λ o. is_table_of o x.variable.cells) x.there
      ∙ and_from (same_cells x.variable.cells x.variable.cells) (not (is_one x.variable.cells)) (same-cells x.variable.cells) (ap not found.0))
      (eq-eqb (others_of d v.0) (others_of d v.0) refl) in
      record {
        of = ap (λ (z : Table). z.of) (sym found.1);
        there = ap (is_table d) (sym found.1) ∙ there;
      }

  -- a cell of it, or the cells of a set of nodes
  placed : (v : ℕ × Sort × Cells) (x : IsVariable v) (t : Table) → IsTable v t → (sort : Sort) (e : Term) (target : Target)
      → is_a d at.scope withins.Nothing sort e ≡ true → target_at t sort e ≡ Ok target → IsFit v.1 target
  placed v x t table sorts.Number e target is h =
      let made : targets.Cell t e ≡ target = cc in
      let fits : IsFit v.1 (targets.Cell t e) =
      record {
        sets = λ value value_is.
            and_from (is_table d t)
            (is_a d at.scope withins.Nothing sorts.Number e && is_assigned d at.scope (within_of t.cells) (slice_get d.variables t.of) value) table.there
            (and_from (is_a d at.scope withins.Nothing sorts.Number e) (is_assigned d at.scope (within_of t.cells) (slice_get d.variables t.of) value) is
            (ap (λ i. is_assigned d at.scope (within_of t.cells) (slice_get d.variables i) value) table.of ∙ valued (within_of t.cells) v x value value_is));
      } in
      subst (IsFit v.1) made fits
  placed v x t table sorts.Nodes e target is h =
      let fit = step-inv (checked (is_each_node t.cells)) (λ fit. Ok (targets.Cells t e)) h in
      let made : targets.Cells t e ≡ target = cc in
      let fits : IsFit v.1 (targets.Cells t e) =
      record {
        sets = λ value value_is.
            and_from (is_table d t)
            (is_each_node t.cells
            && (is_a d at.scope withins.Nothing sorts.Nodes e && is_assigned d at.scope withins.Receiver (slice_get d.variables t.of) value)) table.there
            (and_from (is_each_node t.cells) (is_a d at.scope withins.Nothing sorts.Nodes e
            && is_assigned d at.scope withins.Receiver (slice_get d.variables t.of) value) (checked-inv (is_each_node t.cells) fit.1)
            (and_from (is_a d at.scope withins.Nothing sorts.Nodes e) (is_assigned d at.scope withins.Receiver (slice_get d.variables t.of) value) is
            (ap (λ i. is_assigned d at.scope withins.Receiver (slice_get d.variables i) value) table.of ∙ valued withins.Receiver v x value value_is)));
      } in
      subst (IsFit v.1) made fits
  placed v x t table other e target is h = absurd cc

  cell-fits : (v : ℕ × Sort × Cells) (x : IsVariable v) (t : Table) → IsTable v t → (ts : List Token) (r : Read Target) → first_cell at t ts ≡ Ok r
      → IsFit v.1 r.value
  unfolding first_cell
  cell-fits v x t table ts r h =
      let inner = step-inv (past signs.OpenSquare ts)
      (λ inner. wanted (first_sum (with_it withins.Nothing at) inner) >>= λ x. expression x.said.term >>= λ e. target_at t x.said.sort e
      >>= λ target. past signs.CloseSquare x.rest >>= λ rest. Ok (record { value = target; rest = rest })) h in
      let found = step-inv (wanted (first_sum (with_it withins.Nothing at) inner.0))
      (λ x. expression x.said.term >>= λ e. target_at t x.said.sort e >>= λ target. past signs.CloseSquare x.rest
      >>= λ rest. Ok (record { value = target; rest = rest })) inner.2 in
      let e = step-inv (expression found.0.said.term)
      (λ e. target_at t found.0.said.sort e >>= λ target. past signs.CloseSquare found.0.rest
      >>= λ rest. Ok (record { value = target; rest = rest })) found.2 in
      let target = step-inv (target_at t found.0.said.sort e.0)
      (λ target. past signs.CloseSquare found.0.rest >>= λ rest. Ok (record { value = target; rest = rest })) e.2 in
      let rest = step-inv (past signs.CloseSquare found.0.rest) (λ rest. Ok (record { value = target.0; rest = rest })) target.2 in
      let made : record { value = target.0; rest = rest.0 } ≡ r = cc in
      let place = sum-here (with_it withins.Nothing at) inner.0 found.0 e.0 found.1 e.1 in
      subst (λ (z : Read Target). IsFit v.1 z.value) made (placed v x t table found.0.said.sort e.0 target.0 place target.1)

  whole-alone : (before : List Assignment) (v : ℕ × Sort × Cells) (x : IsVariable v) (ts : List Token) (r : Read Aim)
      → (whole before v >>= λ aim. Ok (record { value = aim; rest = ts })) ≡ Ok r → IsFit r.value.sort r.value.target
  whole-alone before v x ts r h =
      let aim = step-inv (whole before v) (λ aim. Ok (record { value = aim; rest = ts })) h in
      let made : record { value = aim.0; rest = ts } ≡ r = cc in
      subst (λ (z : Read Aim). IsFit z.value.sort z.value.target) made (whole-fits before v x aim.0 aim.1)

  aim-by-fits : (before : List Assignment) (v : ℕ × Sort × Cells) (x : IsVariable v) (o : Option Row) (ts : List Token) (r : Read Aim)
      → row_of d (leaves.Variable v.0) ≡ o → aim_by at before v o ts ≡ Ok r → IsFit r.value.sort r.value.target
  aim-by-fits before v x (Some (rows.Table t)) ts r is h =
      let cell = step-inv (first_cell at t ts) (λ x. Ok (record { value = record { target = x.value; sort = v.1 }; rest = x.rest })) h in
      let made : record { value = record { target = cell.0.value; sort = v.1 }; rest = cell.0.rest } ≡ r = cc in
      subst (λ (z : Read Aim). IsFit z.value.sort z.value.target) made (cell-fits v x t (table-there v x t is) ts cell.0 cell.1)
  aim-by-fits before v x (Some (rows.Given i)) ts r is h = whole-alone before v x ts r h
  aim-by-fits before v x None ts r is h = whole-alone before v x ts r h

  aim-fits : (before : List Assignment) (ts : List Token) (r : Read Aim) → first_aim at before ts ≡ Ok r → IsFit r.value.sort r.value.target
  unfolding first_aim
  aim-fits before ts r h =
      let x = step-inv (first_word ts)
      (λ x. variable_named at x.value >>= λ v. aim_by at before v (row_of d (leaves.Variable v.0)) x.rest) h in
      let v = step-inv (variable_named at x.0.value) (λ v. aim_by at before v (row_of d (leaves.Variable v.0)) x.0.rest) x.2 in
      aim-by-fits before v.0 (variable-meant (leaf_of at.fields at.names x.0.value) v.0 v.1) (row_of d (leaves.Variable v.0.0)) x.0.rest r refl v.2

  set-fits : (before : List Assignment) (ts : List Token) (r : Read Assignment) → first_set at before ts ≡ Ok r
      → is_assignment d at.scope r.value ≡ true
  unfolding first_set
  set-fits before ts r h =
      let x = step-inv (first_aim at before ts)
      (λ x. past signs.Equal x.rest >>= λ inner. first_of_sort (with_it (within_value x.value.target) at) x.value.sort inner
      >>= λ e. Ok (record { value = record { target = x.value.target; value = e.value }; rest = e.rest })) h in
      let inner = step-inv (past signs.Equal x.0.rest)
      (λ inner. first_of_sort (with_it (within_value x.0.value.target) at) x.0.value.sort inner
      >>= λ e. Ok (record { value = record { target = x.0.value.target; value = e.value }; rest = e.rest })) x.2 in
      let e = step-inv (first_of_sort (with_it (within_value x.0.value.target) at) x.0.value.sort inner.0)
      (λ e. Ok (record { value = record { target = x.0.value.target; value = e.value }; rest = e.rest })) inner.2 in
      let made : record { value = record { target = x.0.value.target; value = e.0.value }; rest = e.0.rest } ≡ r = cc in
      let fits = aim-fits before ts x.0 x.1 in
      ap (λ (z : Read Assignment). is_assignment d at.scope z.value) (sym made)
      ∙ fits.sets e.0.value (first-sorted (with_it (within_value x.0.value.target) at) x.0.value.sort inner.0 e.0 e.1)

  pub sets-fit : (ts : List Token) (xs : List Assignment) → sets_in at ts ≡ Ok xs → (list_all (is_assignment d at.scope) xs ≡ true) × (length xs ≤ 16)
  unfolding sets_in
  sets-fit ts xs h =
      let x = step-inv (listed (first_set at) signs.Comma 16 [] ts) (λ x. ended x.rest >>= λ end. Ok x.value) h in
      let end = step-inv (ended x.0.rest) (λ end. Ok x.0.value) x.2 in
      let same : x.0.value ≡ xs = cc in
      let all = listed-all (first_set at) signs.Comma (is_assignment d at.scope) set-fits 16 [] ts x.0 refl x.1 in
      let count = listed_count (first_set at) signs.Comma 16 [] ts x.0 x.1 in
      (ap (list_all (is_assignment d at.scope)) (sym same) ∙ all, omega (arith, ap length same, count.1))

  -- where fields stand, and where the set of nodes does
  abbrev receiving : Context
  receiving = with_it withins.Receiver at

  abbrev outside : Context
  outside = with_it withins.Nothing at

  -- the values of fields, behind those before
  record AreValues (ks : List Kind) (before whole : List Term) : Type 0 where
    pub own : List Term
    pub same : whole ≡ before ++ own
    pub fit : are_fields d at.scope ks own ≡ true

  fields-fit : (ks : List Kind) (before : List Term) (ts : List Token) (r : Read (List Term))
      → bracketed (λ kind before. first_of_sort receiving (sort_of kind)) ks before ts ≡ Ok r → AreValues ks before r.value
  fields-fit [] before ts r h =
      let rest = step-inv (closed before ts) (λ rest. Ok (record { value = before; rest = rest })) h in
      let made : record { value = before; rest = rest.0 } ≡ r = cc in
      record { own = []; same = ap (λ (z : Read (List Term)). z.value) (sym made) ∙ sym (append-nil before); fit = refl }
  fields-fit (k ∷ ks) before ts r h =
      let inner = step-inv (opened before ts)
      (λ inner. first_of_sort receiving (sort_of k) inner
      >>= λ x. bracketed (λ kind before. first_of_sort receiving (sort_of kind)) ks (before ++ x.value ∷ []) x.rest) h in
      let x = step-inv (first_of_sort receiving (sort_of k) inner.0)
      (λ x. bracketed (λ kind before. first_of_sort receiving (sort_of kind)) ks (before ++ x.value ∷ []) x.rest) inner.2 in
      let rest = fields-fit ks (before ++ x.0.value ∷ []) x.0.rest r x.2 in
      record {
        own = x.0.value ∷ rest.own;
        same = rest.same ∙ append_assoc before (x.0.value ∷ []) rest.own;
        fit =
            and_from (is_a d at.scope withins.Receiver (sort_of k) x.0.value) (are_fields d at.scope ks rest.own)
            (first-sorted receiving (sort_of k) inner.0 x.0 x.1) rest.fit;
      }

  same-truth : (so : Bool) → same_truth so so ≡ true
  same-truth true = refl
  same-truth false = refl

  receivers-fit : (ts : List Token) (r : Read Term) → first_receivers at ts ≡ Ok r → is_a d at.scope withins.Nothing sorts.Nodes r.value ≡ true
  unfolding first_receivers
  receivers-fit ts r h =
      let inner = step-inv (past_word (codes "to") ts) (λ inner. first_nodes outside inner) h in
      nodes-first outside inner.0 r inner.2

  send-fits : (ts : List Token) (r : Read Send) → first_send at ts ≡ Ok r → is_send d at.scope r.value ≡ true
  unfolding first_send
  send-fits ts r h =
      let x = step-inv (first_word ts)
      (λ x. form_from 0 x.value d.notes >>= λ form. bracketed (λ kind before. first_of_sort receiving (sort_of kind)) form.kinds [] x.rest
      >>= λ fields. first_receivers at fields.rest
      >>= λ to. Ok (record { value = sent form.number fields.value to.value; rest = to.rest })) h in
      let form = step-inv (form_from 0 x.0.value d.notes)
      (λ form. bracketed (λ kind before. first_of_sort receiving (sort_of kind)) form.kinds [] x.0.rest
      >>= λ fields. first_receivers at fields.rest
      >>= λ to. Ok (record { value = sent form.number fields.value to.value; rest = to.rest })) x.2 in
      let fields = step-inv (bracketed (λ kind before. first_of_sort receiving (sort_of kind)) form.0.kinds [] x.0.rest)
      (λ fields. first_receivers at fields.rest
      >>= λ to. Ok (record { value = sent form.0.number fields.value to.value; rest = to.rest })) form.2 in
      let to = step-inv (first_receivers at fields.0.rest)
      (λ to. Ok (record { value = sent form.0.number fields.0.value to.value; rest = to.rest })) fields.2 in
      let made : record { value = sent form.0.number fields.0.value to.0.value; rest = to.0.rest } ≡ r = cc in
      let found = form-numbered x.0.value d.notes form.0 form.1 in
      let values = fields-fit form.0.kinds [] x.0.rest fields.0 fields.1 in
      let fit =
      ap (λ o. are_sent d at.scope o fields.0.value) found.there ∙ ap (λ ks. are_fields d at.scope ks fields.0.value) found.fields
      ∙ ap (are_fields d at.scope form.0.kinds) values.same ∙ values.fit in
      ap (λ (z : Read Send). is_send d at.scope z.value) (sym made)
      ∙ and_from (are_sent d at.scope (slice_get d.notes form.0.number) fields.0.value)
      (is_a d at.scope withins.Nothing sorts.Nodes to.0.value && same_truth (list_any has_it fields.0.value) (list_any has_it fields.0.value)) fit
      (and_from (is_a d at.scope withins.Nothing sorts.Nodes to.0.value) (same_truth (list_any has_it fields.0.value) (list_any has_it fields.0.value))
      (receivers-fit fields.0.rest to.0 to.1) (same-truth (list_any has_it fields.0.value)))

  pub sends-fit : (ts : List Token) (xs : List Send) → sends_in at ts ≡ Ok xs → (list_all (is_send d at.scope) xs ≡ true) × (length xs ≤ 8)
  unfolding sends_in
  sends-fit ts xs h =
      let x = step-inv (listed (λ before. first_send at) signs.Comma 8 [] ts) (λ x. ended x.rest >>= λ end. Ok x.value) h in
      let end = step-inv (ended x.0.rest) (λ end. Ok x.0.value) x.2 in
      let same : x.0.value ≡ xs = cc in
      let all = listed-all (λ before. first_send at) signs.Comma (is_send d at.scope) (λ before ts r is. send-fits ts r is) 8 [] ts x.0 refl x.1 in
      let count = listed_count (λ before. first_send at) signs.Comma 8 [] ts x.0 x.1 in
      (ap (list_all (is_send d at.scope)) (sym same) ∙ all, omega (arith, ap length same, count.1))

  one-event : (so : Bool) (one on : Event) (o : Option Event) → is_event d one ≡ true → (o ≡ Some on → is_event d on ≡ true)
      → cond so (Some one) o ≡ Some on → is_event d on ≡ true
  one-event true one on o is other h = let same : one ≡ on = cc in ap (is_event d) (sym same) ∙ is
  one-event false one on o is other h = other h

  named-event : (word : List ℕ) (on : Event) → event_named word ≡ Some on → is_event d on ≡ true
  named-event word on h =
      let last = cond (bytes_eq word (codes "end")) (Some events.End) None in
      let third = cond (bytes_eq word (codes "begin")) (Some events.Begin) last in
      let second = cond (bytes_eq word (codes "wake")) (Some events.Wake) third in
      one-event (bytes_eq word (codes "start")) events.Start on second refl
      (one-event (bytes_eq word (codes "wake")) events.Wake on third refl
      (one-event (bytes_eq word (codes "begin")) events.Begin on last refl
      (one-event (bytes_eq word (codes "end")) events.End on None refl (λ none. absurd cc)))) h

  heard-fits : (word : List ℕ) (ts : List Token) (heard : Heard) → heard_in at word ts ≡ Ok heard → is_event d heard.on ≡ true
  unfolding heard_in
  heard-fits word ts heard h =
      let form = step-inv (form_from 0 word d.notes)
      (λ form. names_in at.names form.kinds ts >>= λ fields. Ok (record { on = events.Note form.number; fields = fields })) h in
      let fields = step-inv (names_in at.names form.0.kinds ts) (λ fields. Ok (record { on = events.Note form.0.number; fields = fields })) form.2 in
      let made : record { on = events.Note form.0.number; fields = fields.0 } ≡ heard = cc in
      let found = form-numbered word d.notes form.0 form.1 in
      ap (λ (z : Heard). is_event d z.on) (sym made)
      ∙ lt-ltb form.0.number (length d.notes) (slice_get_within d.notes form.0.number found.form found.there)

  event-by : (x : Read (List ℕ)) (o : Option Event) (heard : Heard) → ((on : Event) → o ≡ Some on → is_event d on ≡ true)
      → event_by at x o ≡ Ok heard → is_event d heard.on ≡ true
  event-by x None heard is h = heard-fits x.value x.rest heard h
  event-by x (Some on) heard is h =
      let end = step-inv (ended x.rest) (λ end. Ok (record { on = on; fields = [] })) h in
      let made : record { on = on; fields = [] } ≡ heard = cc in
      ap (λ (z : Heard). is_event d z.on) (sym made) ∙ is on refl

  pub event-fits : (ts : List Token) (heard : Heard) → event_in at ts ≡ Ok heard → is_event d heard.on ≡ true
  unfolding event_in
  event-fits ts heard h =
      let x = step-inv (first_word ts) (λ x. event_by at x (event_named x.value)) h in
      event-by x.0 (event_named x.0.value) heard (named-event x.0.value) x.2
