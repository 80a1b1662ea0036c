-- Members without floats have one text.
use Rattle.std.proofs.Common.{◌≡◌, ℕ, Bool, true, false, List, [], ◌∷◌, ◌++◌, refl, sym, ap, subst, ◌∙◌, inl, inr, codes}
use Rattle.std.proofs.lemmas.Bool.{cases_Bool, and_parts, false≢true}
use Rattle.std.proofs.lemmas.Option.{same_Some}
use Rattle.toml.specs.Data.{Data, string, integer, float, boolean, datetime, table, array, Items, item, no_items, Members, member, no_members}
use Rattle.toml.specs.Tables.{Expression, Definition, key_value, std_table, array_table}
use Rattle.toml.specs.Text.{IsValueText, IsItemsText, IsMembersText, IsLineText, IsLinesText, IsDocumentText, after_item, are_tables}
use Rattle.toml.specs.Text.{before_item, breaks_lines, elements, expressions, is_section, needs_header, pairs, section, sections}
use Rattle.lf_sweep.specs.declared.varied.Varied.{Varied}
use Rattle.lf_sweep.specs.Exact.{has_no_floats, items_have_no_floats, members_have_no_floats}
use Rattle.lf_sweep.specs.Texts.{IsScenario, IsTextWith, with_words}

behind : (front a b c d : List ℕ) → a ≡ b → c ≡ d → front ++ (a ++ c) ≡ front ++ (b ++ d)
behind front a b c d first more = rw (first, more) refl

mutual
  value_once : (d : Data) (a b : List ℕ) → has_no_floats d ≡ true → IsValueText false d a → IsValueText false d b → a ≡ b
  value_once (string s) a b exact one other = one ∙ sym other
  value_once (integer z) a b exact one other = one.0 ∙ sym other.0
  value_once (float x) a b exact one other = absurd (false≢true exact)
  value_once (boolean v) a b exact one other = one ∙ sym other
  value_once (datetime dt) a b exact one other = one ∙ sym other
  value_once (array ds) a b exact one other =
      one.1 ∙ ap (λ l. codes "[" ++ l) (items_once (breaks_lines false ds) true ds one.0 other.0 exact one.2 other.2) ∙ sym other.1
  value_once (table ms) a b exact one other =
      one.1 ∙ ap (λ l. codes "{" ++ l) (members_once true ms one.0 other.0 exact one.2 other.2) ∙ sym other.1

  items_once : (lines first : Bool) (ds : Items) (a b : List ℕ) → items_have_no_floats ds ≡ true → IsItemsText false lines first ds a
      → IsItemsText false lines first ds b → a ≡ b
  items_once lines first no_items a b exact one other = one ∙ sym other
  items_once lines first (item d ds) a b exact one other =
      let (here, more) = and_parts (has_no_floats d) (items_have_no_floats ds) exact in
      let this = value_once d one.0 other.0 here one.3 other.3 in
      let rest = items_once lines false ds one.1 other.1 more one.4 other.4 in
      one.2 ∙ behind (before_item lines first) one.0 other.0 (after_item lines ++ one.1) (after_item lines ++ other.1) this (ap (λ l. after_item lines ++ l)
      rest)
      ∙ sym other.2

  members_once : (first : Bool) (ms : Members) (a b : List ℕ) → members_have_no_floats ms ≡ true → IsMembersText false first ms a
      → IsMembersText false first ms b → a ≡ b
  members_once first no_members a b exact one other = one ∙ sym other
  members_once first (member k d ms) a b exact one other =
      let (here, more) = and_parts (has_no_floats d) (members_have_no_floats ms) exact in
      let this = value_once d one.0 other.0 here one.3 other.3 in
      let rest = members_once false ms one.1 other.1 more one.4 other.4 in
      let moved = rw (this, rest) at one.2 in
      moved ∙ sym other.2

-- no float stands on a line
abbrev IsExact : Definition → Type 0
IsExact (key_value d) = has_no_floats d ≡ true
IsExact std_table = Unit {0}
IsExact array_table = Unit {0}

abbrev AreExact : List Expression → Type 0
AreExact [] = Unit {0}
AreExact (e ∷ es) = IsExact e.1 × AreExact es

line_once : (started : Bool) (key : List (List ℕ) × List ℕ) (what : Definition) (a b : List ℕ) → IsExact what → IsLineText false started key what a
    → IsLineText false started key what b → a ≡ b
line_once started key (key_value d) a b exact one other =
    let this = value_once d one.0 other.0 exact one.2 other.2 in
    let moved = rw this at one.1 in
    moved ∙ sym other.1
line_once started key std_table a b exact one other = one ∙ sym other
line_once started key array_table a b exact one other = one ∙ sym other

lines_once : (started : Bool) (es : List Expression) (a b : List ℕ) → AreExact es → IsLinesText false started es a → IsLinesText false started es b
    → a ≡ b
lines_once started [] a b exact one other = one ∙ sym other
lines_once started (e ∷ es) a b exact one other =
    let this = line_once started e.0 e.1 one.0 other.0 exact.0 one.3 other.3 in
    let rest = lines_once true es one.1 other.1 exact.1 one.4 other.4 in
    one.2 ∙ behind [] one.0 other.0 one.1 other.1 this rest ∙ sym other.2

exact_behind : (es fs : List Expression) → AreExact es → AreExact fs → AreExact (es ++ fs)
exact_behind [] fs a b = b
exact_behind (e ∷ es) fs a b = (a.0, exact_behind es fs a.1 b)

pairs_exact : (ms : Members) → members_have_no_floats ms ≡ true → AreExact (pairs ms)
pairs_exact no_members exact = tt
pairs_exact (member k d ms) exact =
    let (here, more) = and_parts (has_no_floats d) (members_have_no_floats ms) exact in
    elim (cases_Bool (is_section d)) [
      | inl in_section ↦ rw in_section (pairs_exact ms more)
      | inr pair ↦ rw pair (here, pairs_exact ms more)
    ]

mutual
  sections_exact : (ms : Members) (p : List (List ℕ)) → members_have_no_floats ms ≡ true → AreExact (sections p ms)
  sections_exact no_members p exact = tt
  sections_exact (member k d ms) p exact =
      let (here, more) = and_parts (has_no_floats d) (members_have_no_floats ms) exact in
      exact_behind _ _ (section_exact d p k here) (sections_exact ms p more)

  section_exact : (d : Data) (p : List (List ℕ)) (k : List ℕ) → has_no_floats d ≡ true → AreExact (section (p, k) d)
  section_exact (string x) p k exact = tt
  section_exact (integer x) p k exact = tt
  section_exact (float x) p k exact = tt
  section_exact (boolean x) p k exact = tt
  section_exact (datetime x) p k exact = tt
  section_exact (array ds) p k exact =
      elim (cases_Bool (are_tables ds)) [
        | inl all ↦ rw all (elements_exact ds p k exact)
        | inr other ↦ rw other tt
      ]
  section_exact (table ms) p k exact =
      let below = exact_behind _ _ (pairs_exact ms exact) (sections_exact ms (p ++ k ∷ []) exact) in
      elim (cases_Bool (needs_header ms)) [
        | inl needed ↦ rw needed (tt, below)
        | inr none ↦ rw none below
      ]

  elements_exact : (ds : Items) (p : List (List ℕ)) (k : List ℕ) → items_have_no_floats ds ≡ true → AreExact (elements (p, k) ds)
  elements_exact no_items p k exact = tt
  elements_exact (item (string x) ds) p k exact = elements_exact ds p k exact
  elements_exact (item (integer x) ds) p k exact = elements_exact ds p k exact
  elements_exact (item (float x) ds) p k exact = absurd (false≢true exact)
  elements_exact (item (boolean x) ds) p k exact = elements_exact ds p k exact
  elements_exact (item (datetime x) ds) p k exact = elements_exact ds p k exact
  elements_exact (item (array es) ds) p k exact =
      let (here, more) = and_parts (items_have_no_floats es) (items_have_no_floats ds) exact in elements_exact ds p k more
  elements_exact (item (table ms) ds) p k exact =
      let (here, more) = and_parts (members_have_no_floats ms) (items_have_no_floats ds) exact in (
        tt,
        exact_behind _ _ (exact_behind _ _ (pairs_exact ms here) (sections_exact ms (p ++ k ∷ []) here)) (elements_exact ds p k more),
      )

document_once : (ms : Members) (a b : List ℕ) → members_have_no_floats ms ≡ true → IsDocumentText false ms a → IsDocumentText false ms b → a ≡ b
document_once ms a b exact one other =
    lines_once false (expressions ms) a b (exact_behind _ _ (pairs_exact ms exact) (sections_exact ms [] exact)) one other

-- a combination has one text
pub text_once : (scenario : List ℕ) (vs : List Varied) (words : List (List ℕ)) (a b : List ℕ)
    → ((ms : Members) → IsScenario scenario ms → members_have_no_floats (with_words vs words ms) ≡ true) → IsTextWith scenario vs words a
    → IsTextWith scenario vs words b → a ≡ b
text_once scenario vs words a b exact one other =
    let same : other.members ≡ one.members = same_Some other.members one.members (sym other.held.1 ∙ one.held.1) in
    document_once (with_words vs words one.members) a b (exact one.members one.held) one.document.written
    (subst (λ ms. IsDocumentText false (with_words vs words ms) b) same other.document.written)
