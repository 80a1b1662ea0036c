-- Searches with one option.
use Rattle.std.proofs.Common.{◌≡◌, ◌&&◌, ◌||◌, not, ◌∙◌, ℕ, List, [], ◌∷◌, Option, Some, None, String, Global, inl, inr, refl, sym, ap, subst}
use Rattle.std.proofs.Common.{true, false, codes, map, option_map}
use Rattle.std.specs.Prelude.{Bool}
use Rattle.std.specs.Str.{bytes_eq}
use Rattle.std.specs.String.{string_bytes}
use Rattle.std.proofs.lemmas.Bool.{not-true}
use Rattle.std.proofs.lemmas.Slice.Eq.{bytes_eq-Decides}
use Rattle.clap.specs.Words.{Kinds, Row, Text, fault_of, subcommand_of}
use Rattle.lf_words.specs.Commands.{program}
use Rattle.lf_words.specs.Plain.{is_overwriting, is_plain}
use Rattle.lf_words.specs.Words.{AreNamed, Asks, HasStatus, IsAskedIn, IsRefusal, IsUncounted, IsOfWorkers, IsOverwriting}
use Rattle.lf_words.specs.Words.{has_name, is_input, lacks_protocol, overwrites, shares_input, workers_of}
use Rattle.lf_words.specs.declared.types.Asked.{Asked}
use Rattle.lf_words.specs.declared.types.Asked.TheVariants as asked
use Rattle.lf_words.specs.declared.unasked.Unasked.{Unasked}
use Rattle.lf_words.specs.declared.unasked.Unasked.TheVariants as unasked
use Rattle.lf_words.proofs.Plain.{counted_fault, counted_names, is_taken, named_search, written_fault, written_names}
use Rattle.lf_words.proofs.Plainly.{Search, answer_or_search, both, check_or_search, draw_or_search, no_thing}
use Rattle.lf_words.proofs.Plainly.{protocol_or_search, run_or_search, some_is, why_or_search}
use Rattle.lf_words.proofs.Reading.{no_truth}

-- a certificate for the scenario of a file would be written into it, or into the file of its protocol
abbrev is_over : Text → Option Text → Option Text → Bool
is_over file None protocol = false
is_over file (Some tree) protocol = (not (is_input file) && bytes_eq file tree) || has_name tree protocol

over_is : (file : String Global) (tree : Option (String Global)) (all : Bool) (workers : ℕ) (quiet : Bool) (protocol : Option (String Global))
    → overwrites (asked.Search file tree all workers quiet protocol)
    ≡ is_over file.bytes.items (option_map (λ t. t.bytes.items) tree) (option_map (λ t. t.bytes.items) protocol)
over_is file None all workers quiet protocol = refl
over_is file (Some tree) all workers quiet protocol = refl

-- what a search of a shipped protocol with these options is
record IsSearch (file : Text) (tree workers : Option Text) (a : Asked) : Type 0 where
  over : overwrites a ≡ is_over file tree None
  ruled : lacks_protocol a ≡ false
  apart : shares_input a ≡ false
  named : AreNamed workers (workers_of a)

search_is : (words : List Text) (o : Option (Text × List Row)) (file : Text) (tree : Option Text) (all : Bool) (workers : Option Text) (quiet : Bool)
    (a : Asked) → option_map named_search o ≡ Some (codes "search", Some file, tree, all, workers, quiet, None)
    → IsAskedIn words o a → IsSearch file tree workers a
search_is words None file tree all workers quiet a names asked = elim asked [ ]
search_is words (Some p) file tree all workers quiet (asked.Search own own_tree own_all own_workers own_quiet own_protocol) names asked =
    let found : named_search p ≡ (codes "search", Some file, tree, all, workers, quiet, None) = some_is _ _ names in
    let same : own.bytes.items ≡ file = some_is _ _ (sym asked.0.1 ∙ ap (λ (q : Search). q.1) found) in
    let same_tree : option_map (λ t. t.bytes.items) own_tree ≡ tree = sym asked.0.2 ∙ ap (λ (q : Search). q.2) found in
    let same_protocol : option_map (λ t. t.bytes.items) own_protocol ≡ None = sym asked.0.6 ∙ ap (λ (q : Search). q.6) found in
    record {
      over = over_is own own_tree own_all own_workers own_quiet own_protocol ∙ rw (same, same_tree, same_protocol) refl;
      ruled = refl;
      apart = refl;
      named = subst (λ o. AreNamed o own_workers) (ap (λ (q : Search). q.4) found) asked.0.4;
    }
search_is words (Some p) file tree all workers quiet (asked.Run own faults shown delays protocol) names asked =
    let found : named_search p ≡ (codes "search", Some file, tree, all, workers, quiet, None) = some_is _ _ names in
    absurd (run_or_search p.0 asked.0.0 (ap (λ (q : Search). q.0) found))
search_is words (Some p) file tree all workers quiet (asked.Draw own faults delays protocol) names asked =
    let found : named_search p ≡ (codes "search", Some file, tree, all, workers, quiet, None) = some_is _ _ names in
    absurd (draw_or_search p.0 asked.0.0 (ap (λ (q : Search). q.0) found))
search_is words (Some p) file tree all workers quiet (asked.Check own own_tree own_quiet own_protocol) names asked =
    let found : named_search p ≡ (codes "search", Some file, tree, all, workers, quiet, None) = some_is _ _ names in
    absurd (check_or_search p.0 asked.0.0 (ap (λ (q : Search). q.0) found))
search_is words (Some p) file tree all workers quiet (asked.Answer own own_quiet every_delay own_protocol) names asked =
    let found : named_search p ≡ (codes "search", Some file, tree, all, workers, quiet, None) = some_is _ _ names in
    absurd (answer_or_search p.0 asked.0.0 (ap (λ (q : Search). q.0) found))
search_is words (Some p) file tree all workers quiet (asked.Why own own_quiet own_protocol) names asked =
    let found : named_search p ≡ (codes "search", Some file, tree, all, workers, quiet, None) = some_is _ _ names in
    absurd (why_or_search p.0 asked.0.0 (ap (λ (q : Search). q.0) found))
search_is words (Some p) file tree all workers quiet (asked.Protocol own) names asked =
    let found : named_search p ≡ (codes "search", Some file, tree, all, workers, quiet, None) = some_is _ _ names in
    absurd (protocol_or_search p.0 asked.0.0 (ap (λ (q : Search). q.0) found))

-- search FILE --workers N

uncounted_is : (o : Option (Text × List Row)) (file number : Text)
    → option_map named_search o ≡ Some (codes "search", Some file, None, false, Some number, false, None)
    → ((n : ℕ) → AreNamed (Some number) n → ⊥) → IsUncounted o
uncounted_is None file number names none = absurd (no_thing _ names)
uncounted_is (Some p) file number names none =
    let found : named_search p ≡ (codes "search", Some file, None, false, Some number, false, None) = some_is _ _ names in (
      ap (λ (q : Search). q.0) found,
      λ n named. none n (subst (λ o. AreNamed o n) (ap (λ (q : Search). q.4) found) named),
    )

abbrev with_workers : Text → Text → List Text
with_workers file number = codes "search" ∷ file ∷ codes "--workers" ∷ number ∷ []

workers_search : (file number : Text) (a : Asked) → is_plain file ≡ true → is_plain number ≡ true
    → Asks (with_workers file number) a → IsSearch file None (Some number) a
workers_search file number a plain plain_too asks =
    search_is _ (subcommand_of program (with_workers file number)) file None false (Some number) false a
    (counted_names file number (is_taken file plain) (is_taken number plain_too)) asks.1

pub uncounted_is_refused : (words : List Text) (file number : Text) (a : Asked) → words ≡ with_workers file number → is_plain file ≡ true
    → is_plain number ≡ true → ((n : ℕ) → AreNamed (Some number) n → ⊥) → Asks words a → ⊥
uncounted_is_refused words file number a is plain plain_too none asks =
    none (workers_of a) (workers_search file number a plain plain_too (subst (λ ws. Asks ws a) is asks)).named

only_workers : (file number : Text) (u : Unasked) → is_plain file ≡ true → is_plain number ≡ true
    → ((n : ℕ) → AreNamed (Some number) n → ⊥) → IsRefusal (with_workers file number) u → IsOfWorkers u
only_workers file number (unasked.Told text) plain plain_too none refusal =
    absurd (subst (λ (kinds : Kinds). HasStatus kinds 0) (counted_fault file number (is_taken file plain) (is_taken number plain_too)) refusal)
only_workers file number (unasked.Wrong text) plain plain_too none (inl kind) =
    absurd (subst (λ (kinds : Kinds). HasStatus kinds 2) (counted_fault file number (is_taken file plain) (is_taken number plain_too)) kind)
only_workers file number (unasked.Wrong text) plain plain_too none (inr (inl nothing)) =
    absurd (nothing.2 (uncounted_is (subcommand_of program (with_workers file number)) file number
    (counted_names file number (is_taken file plain) (is_taken number plain_too)) none))
only_workers file number (unasked.Wrong text) plain plain_too none (inr (inr lacking)) =
    absurd (no_truth (sym (workers_search file number lacking.0 plain plain_too lacking.1).ruled ∙ lacking.2))
only_workers file number (unasked.Workers text) plain plain_too none refusal = tt
only_workers file number (unasked.Overwrites text) plain plain_too none over =
    absurd (none (workers_of over.0) (workers_search file number over.0 plain plain_too over.1).named)
only_workers file number unasked.SharedInput plain plain_too none shared =
    absurd (none (workers_of shared.0) (workers_search file number shared.0 plain plain_too shared.1).named)
only_workers file number unasked.Memory plain plain_too none refusal = tt

pub uncounted_refusal : (words : List Text) (file number : Text) (u : Unasked) → words ≡ with_workers file number → is_plain file ≡ true
    → is_plain number ≡ true → ((n : ℕ) → AreNamed (Some number) n → ⊥) → IsRefusal words u → IsOfWorkers u
uncounted_refusal words file number u is plain plain_too none refusal =
    only_workers file number u plain plain_too none (subst (λ ws. IsRefusal ws u) is refusal)

-- search FILE --tree FILE

abbrev with_tree : Text → Text → List Text
with_tree file tree = codes "search" ∷ file ∷ codes "--tree" ∷ tree ∷ []

record IsOver (command file name tree : Text) : Type 0 where
  searches : command ≡ codes "search"
  writes : name ≡ codes "--tree"
  plain : is_plain file ≡ true
  over : is_over file (Some tree) None ≡ true
  same : file ≡ tree

over_words : (command file name tree : Text) → is_overwriting (command ∷ file ∷ name ∷ tree ∷ []) ≡ true → IsOver command file name tree
over_words command file name tree is =
    let h = both (bytes_eq command (codes "search") && bytes_eq name (codes "--tree")) ((is_plain file && not (is_input file)) && bytes_eq file tree) is in
    let k = both (bytes_eq command (codes "search")) (bytes_eq name (codes "--tree")) h.0 in
    let l = both (is_plain file && not (is_input file)) (bytes_eq file tree) h.1 in
    let m = both (is_plain file) (not (is_input file)) l.0 in
    record {
      searches = (bytes_eq-Decides command (codes "search")).0 k.0;
      writes = (bytes_eq-Decides name (codes "--tree")).0 k.1;
      plain = m.0;
      over = rw (not-true _ m.1, l.1) refl;
      same = (bytes_eq-Decides file tree).0 l.1;
    }

tree_search : (file tree : Text) (a : Asked) → is_plain file ≡ true → is_plain tree ≡ true → Asks (with_tree file tree) a
    → IsSearch file (Some tree) None a
tree_search file tree a plain plain_too asks =
    search_is _ (subcommand_of program (with_tree file tree)) file (Some tree) false None false a
    (written_names file tree (is_taken file plain) (is_taken tree plain_too)) asks.1

asks_tree : (o : Option (Text × List Row)) (file tree : String Global)
    → option_map named_search o ≡ Some (codes "search", Some (string_bytes file), Some (string_bytes tree), false, None, false, None)
    → IsAskedIn (with_tree (string_bytes file) (string_bytes tree)) o (asked.Search file (Some tree) false 1 false None)
asks_tree None file tree names = absurd (no_thing _ names)
asks_tree (Some p) file tree names =
    let found : named_search p ≡ (codes "search", Some (string_bytes file), Some (string_bytes tree), false, None, false, None) = some_is _ _ names in (
      (
        ap (λ (q : Search). q.0) found,
        ap (λ (q : Search). q.1) found,
        ap (λ (q : Search). q.2) found,
        ap (λ (q : Search). q.3) found,
        subst (λ o. AreNamed o 1) (sym (ap (λ (q : Search). q.4) found)) refl,
        ap (λ (q : Search). q.5) found,
        ap (λ (q : Search). q.6) found,
      ),
      inl (refl, inl (refl, tt)),
    )

uncounted_not : (o : Option (Text × List Row)) (file tree : Text)
    → option_map named_search o ≡ Some (codes "search", Some file, Some tree, false, None, false, None) → IsUncounted o → ⊥
uncounted_not None file tree names uncounted = elim uncounted [ ]
uncounted_not (Some p) file tree names uncounted =
    let found : named_search p ≡ (codes "search", Some file, Some tree, false, None, false, None) = some_is _ _ names in
    uncounted.1 1 (subst (λ o. AreNamed o 1) (sym (ap (λ (q : Search). q.4) found)) refl)

module _ (file tree : String Global) (plain : is_plain (string_bytes file) ≡ true) (plain_too : is_plain (string_bytes tree) ≡ true) where
  abbrev tree_words : List Text
  tree_words = with_tree (string_bytes file) (string_bytes tree)

  fault_is : fault_of program tree_words ≡ []
  fault_is = written_fault (string_bytes file) (string_bytes tree) (is_taken (string_bytes file) plain) (is_taken (string_bytes tree) plain_too)

  names_are : option_map named_search (subcommand_of program tree_words)
      ≡ Some (codes "search", Some (string_bytes file), Some (string_bytes tree), false, None, false, None)
  names_are = written_names (string_bytes file) (string_bytes tree) (is_taken (string_bytes file) plain) (is_taken (string_bytes tree) plain_too)

  only_over : (u : Unasked) → IsRefusal tree_words u → IsOverwriting u
  only_over (unasked.Told text) refusal = absurd (subst (λ (kinds : Kinds). HasStatus kinds 0) fault_is refusal)
  only_over (unasked.Wrong text) (inl kind) = absurd (subst (λ (kinds : Kinds). HasStatus kinds 2) fault_is kind)
  only_over (unasked.Wrong text) (inr (inl nothing)) =
      absurd (nothing.1 (asked.Search file (Some tree) false 1 false None)
      (fault_is, asks_tree (subcommand_of program tree_words) file tree names_are))
  only_over (unasked.Wrong text) (inr (inr lacking)) =
      absurd (no_truth (sym (tree_search (string_bytes file) (string_bytes tree) lacking.0 plain plain_too lacking.1).ruled ∙ lacking.2))
  only_over (unasked.Workers text) refusal =
      absurd (uncounted_not (subcommand_of program tree_words) (string_bytes file) (string_bytes tree) names_are refusal.1)
  only_over (unasked.Overwrites text) over = tt
  only_over unasked.SharedInput shared =
      absurd (no_truth (sym (tree_search (string_bytes file) (string_bytes tree) shared.0 plain plain_too shared.1).apart ∙ shared.2))
  only_over unasked.Memory refusal = tt

pub overwriting_is_refused : (ws : List (String Global)) (a : Asked) → is_overwriting (map string_bytes ws) ≡ true
    → Asks (map string_bytes ws) a → overwrites a ≡ false → ⊥
overwriting_is_refused [] a is asks kept = no_truth is
overwriting_is_refused (command ∷ []) a is asks kept = no_truth is
overwriting_is_refused (command ∷ file ∷ []) a is asks kept = no_truth is
overwriting_is_refused (command ∷ file ∷ name ∷ []) a is asks kept = no_truth is
overwriting_is_refused (command ∷ file ∷ name ∷ tree ∷ []) a is asks kept =
    let h = over_words (string_bytes command) (string_bytes file) (string_bytes name) (string_bytes tree) is in
    let Asked_by : Text → Text → Type 0 = λ c n. Asks (c ∷ string_bytes file ∷ n ∷ string_bytes tree ∷ []) a in
    let asks_too = subst (λ n. Asked_by (codes "search") n) h.writes (subst (λ c. Asked_by c (string_bytes name)) h.searches asks) in
    no_truth (sym kept ∙ ((tree_search (string_bytes file) (string_bytes tree) a h.plain (subst (λ t. is_plain t ≡ true) h.same h.plain) asks_too).over
    ∙ h.over))
overwriting_is_refused (command ∷ file ∷ name ∷ tree ∷ more ∷ rest) a is asks kept = no_truth is

pub overwriting_refusal : (ws : List (String Global)) (u : Unasked) → is_overwriting (map string_bytes ws) ≡ true
    → IsRefusal (map string_bytes ws) u → IsOverwriting u
overwriting_refusal [] u is refusal = absurd (no_truth is)
overwriting_refusal (command ∷ []) u is refusal = absurd (no_truth is)
overwriting_refusal (command ∷ file ∷ []) u is refusal = absurd (no_truth is)
overwriting_refusal (command ∷ file ∷ name ∷ []) u is refusal = absurd (no_truth is)
overwriting_refusal (command ∷ file ∷ name ∷ tree ∷ []) u is refusal =
    let h = over_words (string_bytes command) (string_bytes file) (string_bytes name) (string_bytes tree) is in
    let Refused_by : Text → Text → Type 0 = λ c n. IsRefusal (c ∷ string_bytes file ∷ n ∷ string_bytes tree ∷ []) u in
    let refusal_too = subst (λ n. Refused_by (codes "search") n) h.writes (subst (λ c. Refused_by c (string_bytes name)) h.searches refusal) in
    only_over file tree h.plain (subst (λ t. is_plain t ≡ true) h.same h.plain) u refusal_too
overwriting_refusal (command ∷ file ∷ name ∷ tree ∷ more ∷ rest) u is refusal = absurd (no_truth is)
