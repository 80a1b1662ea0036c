-- Values at the keys of a scenario, by the entries of a map.
use Rattle.std.proofs.Common.{◌≡◌, ℕ, ◌+◌, ◌≤◌, false, ◌++◌, ◌∙◌, replicate, Some, subst, List, [], ◌∷◌, String}
use Rattle.std.proofs.Common.{Global, Ordering, Less, Equal, Greater, string_bytes, nat_cmp, refl, ap}
use Rattle.std.proofs.lemmas.List.{replicate_more}
use Rattle.std.proofs.lemmas.Cmp.{nat_list_cmp_total}
use Rattle.std.specs.Cmp.{tied_itself}
use Rattle.std.specs.Cmp.Lexicographic.{slice_cmp}
use Rattle.std.specs.BTreeMap.{insert_entry}
use Rattle.std.specs.Ordering.{match_ordering}
use Rattle.std.specs.String.{string_cmp}
use Rattle.std.specs.Prelude.{IsUtf8}
use Rattle.toml.specs.Data.{Data, Members, no_members, member, members_depth}
use Rattle.toml.specs.Parse.{parse_document}
use Rattle.toml.specs.Text.{IsDocumentText}
use Rattle.toml.specs.View.{members_view, view}
use Rattle.toml.specs.declared.value.Value.{Value}
use Rattle.lf_sweep.specs.Limits.{deepest}
use Rattle.lf_sweep.specs.Members.{with_member}
use Rattle.lf_sweep.specs.Texts.{IsDocumentOf}

abbrev pub Entry : Type 0
Entry = String Global × Value

moved : (o : Ordering) (k : String Global) (v : Value) (e : Entry) (es more : List Entry) (ms : Members) → members_view more ≡ ms
    → members_view (match_ordering o ((k, v) ∷ e ∷ es) ((e.0, v) ∷ es) (e ∷ more))
    ≡ match_ordering o (member (string_bytes k) (view v) (members_view (e ∷ es))) (member (string_bytes e.0) (view v) (members_view es))
    (member (string_bytes e.0) (view e.1) ms)
moved Less k v e es more ms h = refl
moved Equal k v e es more ms h = refl
moved Greater k v e es more ms h = ap (member (string_bytes e.0) (view e.1)) h

-- an entry that is put into a map is a value that is put at its key
pub inserted_view : (k : String Global) (v : Value) (es : List Entry)
    → members_view (insert_entry string_cmp es k v) ≡ with_member (string_bytes k) (view v) (members_view es)
inserted_view k v [] = refl
inserted_view k v (e ∷ es) =
    moved (string_cmp k e.0) k v e es (insert_entry string_cmp es k v) (with_member (string_bytes k) (view v) (members_view es)) (inserted_view k v es)

twice_at : (o : Ordering) (k l : List ℕ) (d p e : Data) (ms : Members) → o ≡ slice_cmp nat_cmp k l
    → with_member k d (with_member k p ms) ≡ with_member k d ms
    → with_member k d (match_ordering o (member k p (member l e ms)) (member l p ms) (member l e (with_member k p ms)))
    ≡ match_ordering o (member k d (member l e ms)) (member l d ms) (member l e (with_member k d ms))
twice_at Less k l d p e ms is rest = rw (tied_itself nat_list_cmp_total k)
twice_at Equal k l d p e ms is rest = rw (← is)
twice_at Greater k l d p e ms is rest = rw (← is) (ap (member l e) rest)

-- of two values at one key the last one stands
pub with_member-twice : (k : List ℕ) (d p : Data) (ms : Members) → with_member k d (with_member k p ms) ≡ with_member k d ms
with_member-twice k d p no_members = rw (tied_itself nat_list_cmp_total k)
with_member-twice k d p (member l e ms) = twice_at (slice_cmp nat_cmp k l) k l d p e ms refl (with_member-twice k d p ms)

-- a text of members is one of members that are the same
pub document_of : (ms ns : Members) (text : List ℕ) → ns ≡ ms → IsUtf8 text → IsDocumentText false ns text
    → (members_depth ns ≤ deepest → parse_document text ≡ Some ns) → IsDocumentOf ms text
document_of ms ns text same utf8 written read = subst (λ m. IsDocumentOf m text) same (record { utf8 = utf8; written = written; read = read })

-- one more zero (48)
pub more_zeros : (n : ℕ) (text zero pushed : List ℕ) → text ≡ replicate n 48 → zero ≡ 48 ∷ [] → pushed ≡ text ++ zero → pushed ≡ replicate (n + 1) 48
more_zeros n text zero pushed is one all = all ∙ ap (λ l. l ++ zero) is ∙ ap (λ l. replicate n 48 ++ l) one ∙ replicate_more n 48
