-- Plain words ask for just what they say.
use Rattle.std.proofs.Common.{◌≡◌, ◌&&◌, ◌||◌, not, ◌∙◌, ℕ, List, [], ◌∷◌, Option, Some, None, String, Global, inl, inr, refl, sym, ap, subst}
use Rattle.std.proofs.Common.{true, false, codes, map, option_map, slice_index, arith}
use Rattle.std.specs.Prelude.{Bool, unwrap_or, ◌⊎◌}
use Rattle.std.specs.Str.{bytes_eq}
use Rattle.std.specs.String.{string_bytes}
use Rattle.std.proofs.lemmas.Bool.{not-true}
use Rattle.std.proofs.lemmas.Slice.Eq.{bytes_eq-Decides}
use Rattle.clap.specs.declared.error.kind.ErrorKind.{ErrorKind}
use Rattle.clap.specs.declared.error.kind.ErrorKind.TheVariants as kind
use Rattle.clap.specs.Words.{Kinds, Row, Text, fault_of, subcommand_of}
use Rattle.lf_words.specs.Commands.{program}
use Rattle.lf_words.specs.Plain.{asks_help, asks_version, is_plain, is_plain_command, is_unknown, takes_one, takes_two}
use Rattle.lf_words.specs.Statuses.{exit_status, status_of}
use Rattle.lf_words.specs.Words.{AreNamed, Asks, CanBeDone, HasStatus, IsAskedIn, IsPlainly, IsRefusal, IsUncounted}
use Rattle.lf_words.specs.Words.{Flags, flags_of, is_input, lacks_protocol, overwrites, shares_input, texts_of, written_to}
use Rattle.lf_words.specs.declared.types.Asked.{Asked}
use Rattle.lf_words.specs.declared.types.Asked.TheVariants as asked
use Rattle.lf_words.specs.declared.types.Shown.{Shown}
use Rattle.lf_words.specs.declared.types.Shown.TheVariants as shown
use Rattle.lf_words.specs.declared.unasked.Unasked.{Unasked}
use Rattle.lf_words.specs.declared.unasked.Unasked.TheVariants as unasked
use Rattle.lf_words.proofs.Plain.{IsTaken, is_taken, named_alone, named_answer, named_check, named_draw, named_one, named_run, named_search}
use Rattle.lf_words.proofs.Plain.{answer_fault, answer_names, check_fault, check_names, draw_fault}
use Rattle.lf_words.proofs.Plain.{draw_names, run_fault, run_names, search_fault, search_names}
use Rattle.lf_words.proofs.Plain.{help_fault, protocol_fault, protocol_names, short_help_fault, short_version_fault}
use Rattle.lf_words.proofs.Plain.{unknown_fault, version_fault, why_fault, why_names}
use Rattle.lf_words.proofs.Reading.{apart, no_truth}

abbrev Run : Type 0
Run = Text × Option Text × Option Text × Flags × Option Text × Option Text

abbrev Draw : Type 0
Draw = Text × Option Text × Option Text × Option Text × Option Text

abbrev Check : Type 0
Check = Text × Option Text × Option Text × Bool × Option Text

abbrev Answer : Type 0
Answer = Text × Option Text × Bool × Bool × Option Text

abbrev One : Type 0
One = Text × Option Text × Bool × Option Text

abbrev Alone : Type 0
Alone = Text × Option Text

abbrev pub Search : Type 0
Search = Text × Option Text × Option Text × Bool × Option Text × Bool × Option Text

pub both : (x y : Bool) → (x && y) ≡ true → (x ≡ true) × (y ≡ true)
both true y h = (refl, h)
both false y h = absurd (no_truth h)

either : (x y : Bool) → (x || y) ≡ true → (x ≡ true) ⊎ (y ≡ true)
either true y h = inl refl
either false y h = inr h

abbrev count : {X : Type 0} → Option X → ℕ
count None = 0
count (Some x) = 1

pub no_thing : {X : Type 0} (x : X) → None ≡ Some x → ⊥
no_thing x h = apart 0 1 (omega arith) (ap count h)

pub some_is : {X : Type 0} (x y : X) → Some x ≡ Some y → x ≡ y
some_is x y h = ap (λ o. unwrap_or o x) h

-- the names of the commands differ in their first letters
abbrev first : Text → ℕ
first text = slice_index text 0

pub run_or_search : (name : Text) → name ≡ codes "run" → name ≡ codes "search" → ⊥
run_or_search name is_run is_search = apart 114 115 (omega arith) (ap first (sym is_run ∙ is_search))

pub check_or_search : (name : Text) → name ≡ codes "check" → name ≡ codes "search" → ⊥
check_or_search name is_check is_search = apart 99 115 (omega arith) (ap first (sym is_check ∙ is_search))

pub draw_or_search : (name : Text) → name ≡ codes "draw" → name ≡ codes "search" → ⊥
draw_or_search name is_draw is_search = apart 100 115 (omega arith) (ap first (sym is_draw ∙ is_search))

draw_or_run : (name : Text) → name ≡ codes "draw" → name ≡ codes "run" → ⊥
draw_or_run name is_draw is_run = apart 100 114 (omega arith) (ap first (sym is_draw ∙ is_run))

check_or_draw : (name : Text) → name ≡ codes "check" → name ≡ codes "draw" → ⊥
check_or_draw name is_check is_draw = apart 99 100 (omega arith) (ap first (sym is_check ∙ is_draw))

answer_or_draw : (name : Text) → name ≡ codes "answer" → name ≡ codes "draw" → ⊥
answer_or_draw name is_answer is_draw = apart 97 100 (omega arith) (ap first (sym is_answer ∙ is_draw))

protocol_or_draw : (name : Text) → name ≡ codes "protocol" → name ≡ codes "draw" → ⊥
protocol_or_draw name is_protocol is_draw = apart 100 112 (omega arith) (ap first (sym is_draw ∙ is_protocol))

check_or_run : (name : Text) → name ≡ codes "check" → name ≡ codes "run" → ⊥
check_or_run name is_check is_run = apart 99 114 (omega arith) (ap first (sym is_check ∙ is_run))

pub answer_or_search : (name : Text) → name ≡ codes "answer" → name ≡ codes "search" → ⊥
answer_or_search name is_answer is_search = apart 97 115 (omega arith) (ap first (sym is_answer ∙ is_search))

answer_or_run : (name : Text) → name ≡ codes "answer" → name ≡ codes "run" → ⊥
answer_or_run name is_answer is_run = apart 97 114 (omega arith) (ap first (sym is_answer ∙ is_run))

answer_or_check : (name : Text) → name ≡ codes "answer" → name ≡ codes "check" → ⊥
answer_or_check name is_answer is_check = apart 97 99 (omega arith) (ap first (sym is_answer ∙ is_check))

pub protocol_or_search : (name : Text) → name ≡ codes "protocol" → name ≡ codes "search" → ⊥
protocol_or_search name is_protocol is_search = apart 112 115 (omega arith) (ap first (sym is_protocol ∙ is_search))

protocol_or_run : (name : Text) → name ≡ codes "protocol" → name ≡ codes "run" → ⊥
protocol_or_run name is_protocol is_run = apart 112 114 (omega arith) (ap first (sym is_protocol ∙ is_run))

protocol_or_check : (name : Text) → name ≡ codes "protocol" → name ≡ codes "check" → ⊥
protocol_or_check name is_protocol is_check = apart 99 112 (omega arith) (ap first (sym is_check ∙ is_protocol))

protocol_or_answer : (name : Text) → name ≡ codes "protocol" → name ≡ codes "answer" → ⊥
protocol_or_answer name is_protocol is_answer = apart 97 112 (omega arith) (ap first (sym is_answer ∙ is_protocol))

pub why_or_search : (name : Text) → name ≡ codes "why" → name ≡ codes "search" → ⊥
why_or_search name is_why is_search = apart 115 119 (omega arith) (ap first (sym is_search ∙ is_why))

why_or_run : (name : Text) → name ≡ codes "why" → name ≡ codes "run" → ⊥
why_or_run name is_why is_run = apart 114 119 (omega arith) (ap first (sym is_run ∙ is_why))

why_or_draw : (name : Text) → name ≡ codes "why" → name ≡ codes "draw" → ⊥
why_or_draw name is_why is_draw = apart 100 119 (omega arith) (ap first (sym is_draw ∙ is_why))

why_or_check : (name : Text) → name ≡ codes "why" → name ≡ codes "check" → ⊥
why_or_check name is_why is_check = apart 99 119 (omega arith) (ap first (sym is_check ∙ is_why))

why_or_answer : (name : Text) → name ≡ codes "why" → name ≡ codes "answer" → ⊥
why_or_answer name is_why is_answer = apart 97 119 (omega arith) (ap first (sym is_answer ∙ is_why))

protocol_or_why : (name : Text) → name ≡ codes "protocol" → name ≡ codes "why" → ⊥
protocol_or_why name is_protocol is_why = apart 112 119 (omega arith) (ap first (sym is_protocol ∙ is_why))

search_of : (words : List Text) (o : Option (Text × List Row)) (file : Text) (a : Asked)
    → option_map named_search o ≡ Some (codes "search", Some file, None, false, None, false, None)
    → IsAskedIn words o a → IsPlainly (codes "search" ∷ file ∷ []) a
search_of words None file a names asked = elim asked [ ]
search_of words (Some p) file (asked.Search own tree all workers quiet protocol) names asked =
    let found : named_search p ≡ (codes "search", Some file, None, false, None, false, None) = some_is _ _ names in
    let same : own.bytes.items ≡ file = some_is _ _ (sym asked.0.1 ∙ ap (λ (q : Search). q.1) found) in
    record {
      texts = ap (λ x. codes "search" ∷ x ∷ []) same;
      unwritten = sym asked.0.2 ∙ ap (λ (q : Search). q.2) found;
      one = sym asked.0.3 ∙ ap (λ (q : Search). q.3) found;
      alone = subst (λ o. AreNamed o workers) (ap (λ (q : Search). q.4) found) asked.0.4;
      told = sym asked.0.5 ∙ ap (λ (q : Search). q.5) found;
      shipped = sym asked.0.6 ∙ ap (λ (q : Search). q.6) found;
      short = refl;
      undelayed = refl;
      drawn = refl;
    }
search_of words (Some p) file (asked.Run own faults shown delays protocol) names asked =
    let found : named_search p ≡ (codes "search", Some file, None, false, None, false, None) = some_is _ _ names in
    absurd (run_or_search p.0 asked.0.0 (ap (λ (q : Search). q.0) found))
search_of words (Some p) file (asked.Draw own drawn_faults delays protocol) names asked =
    let found : named_search p ≡ (codes "search", Some file, None, false, None, false, None) = some_is _ _ names in
    absurd (draw_or_search p.0 asked.0.0 (ap (λ (q : Search). q.0) found))
search_of words (Some p) file (asked.Check own tree quiet protocol) names asked =
    let found : named_search p ≡ (codes "search", Some file, None, false, None, false, None) = some_is _ _ names in
    absurd (check_or_search p.0 asked.0.0 (ap (λ (q : Search). q.0) found))
search_of words (Some p) file (asked.Answer own quiet every_delay protocol) names asked =
    let found : named_search p ≡ (codes "search", Some file, None, false, None, false, None) = some_is _ _ names in
    absurd (answer_or_search p.0 asked.0.0 (ap (λ (q : Search). q.0) found))
search_of words (Some p) file (asked.Why own quiet protocol) names asked =
    let found : named_search p ≡ (codes "search", Some file, None, false, None, false, None) = some_is _ _ names in
    absurd (why_or_search p.0 asked.0.0 (ap (λ (q : Search). q.0) found))
search_of words (Some p) file (asked.Protocol own) names asked =
    let found : named_search p ≡ (codes "search", Some file, None, false, None, false, None) = some_is _ _ names in
    absurd (protocol_or_search p.0 asked.0.0 (ap (λ (q : Search). q.0) found))

asks_search : (words : List Text) (o : Option (Text × List Row)) (file : String Global)
    → option_map named_search o ≡ Some (codes "search", Some (string_bytes file), None, false, None, false, None)
    → words ≡ codes "search" ∷ string_bytes file ∷ [] → IsAskedIn words o (asked.Search file None false 1 false None)
asks_search words None file names is = absurd (no_thing _ names)
asks_search words (Some p) file names is =
    let found : named_search p ≡ (codes "search", Some (string_bytes file), None, false, None, false, None) = some_is _ _ names in (
      (
        ap (λ (q : Search). q.0) found,
        ap (λ (q : Search). q.1) found,
        ap (λ (q : Search). q.2) found,
        ap (λ (q : Search). q.3) found,
        subst (λ o. AreNamed o 1) (sym (ap (λ (q : Search). q.4) found)) refl,
        ap (λ (q : Search). q.5) found,
        ap (λ (q : Search). q.6) found,
      ),
      rw (is) (inl (refl, inl (refl, tt))),
    )

-- a run of which no flag is set is told whole
whole_is : (told : Shown) → flags_of told ≡ (false, false, false, None) → told ≡ shown.Whole
whole_is shown.Whole is = refl
whole_is shown.Rules is = absurd (no_truth (sym (ap (λ (q : Flags). q.0) is)))
whole_is shown.Changes is = absurd (no_truth (sym (ap (λ (q : Flags). q.1) is)))
whole_is shown.Json is = absurd (no_truth (sym (ap (λ (q : Flags). q.2) is)))
whole_is (shown.Beside other) is = absurd (no_thing _ (sym (ap (λ (q : Flags). q.3) is)))

run_of : (words : List Text) (o : Option (Text × List Row)) (file faults : Text) (a : Asked)
    → option_map named_run o ≡ Some (codes "run", Some file, Some faults, (false, false, false, None), None, None)
    → IsAskedIn words o a → IsPlainly (codes "run" ∷ file ∷ faults ∷ []) a
run_of words None file faults a names asked = elim asked [ ]
run_of words (Some p) file faults (asked.Search own tree all workers quiet protocol) names asked =
    let pair : named_run p ≡ (codes "run", Some file, Some faults, (false, false, false, None), None, None) = some_is _ _ names in
    absurd (run_or_search p.0 (ap (λ (q : Run). q.0) pair) asked.0.0)
run_of words (Some p) file faults (asked.Run own own_faults shown delays protocol) names asked =
    let pair : named_run p ≡ (codes "run", Some file, Some faults, (false, false, false, None), None, None) = some_is _ _ names in
    let same : own.bytes.items ≡ file = some_is _ _ (sym asked.0.1 ∙ ap (λ (q : Run). q.1) pair) in
    let same_too : own_faults.bytes.items ≡ faults = some_is _ _ (sym asked.0.2 ∙ ap (λ (q : Run). q.2) pair) in
    record {
      texts = rw (same, same_too) refl;
      unwritten = refl;
      one = refl;
      alone = refl;
      told = refl;
      shipped = sym asked.0.5 ∙ ap (λ (q : Run). q.5) pair;
      short = whole_is shown (sym asked.0.3 ∙ ap (λ (q : Run). q.3) pair);
      undelayed = sym asked.0.4 ∙ ap (λ (q : Run). q.4) pair;
      drawn = refl;
    }
run_of words (Some p) file faults (asked.Draw own drawn_faults delays protocol) names asked =
    let pair : named_run p ≡ (codes "run", Some file, Some faults, (false, false, false, None), None, None) = some_is _ _ names in
    absurd (draw_or_run p.0 asked.0.0 (ap (λ (q : Run). q.0) pair))
run_of words (Some p) file faults (asked.Check own tree quiet protocol) names asked =
    let pair : named_run p ≡ (codes "run", Some file, Some faults, (false, false, false, None), None, None) = some_is _ _ names in
    absurd (check_or_run p.0 asked.0.0 (ap (λ (q : Run). q.0) pair))
run_of words (Some p) file faults (asked.Answer own quiet every_delay protocol) names asked =
    let pair : named_run p ≡ (codes "run", Some file, Some faults, (false, false, false, None), None, None) = some_is _ _ names in
    absurd (answer_or_run p.0 asked.0.0 (ap (λ (q : Run). q.0) pair))
run_of words (Some p) file faults (asked.Why own quiet protocol) names asked =
    let pair : named_run p ≡ (codes "run", Some file, Some faults, (false, false, false, None), None, None) = some_is _ _ names in
    absurd (why_or_run p.0 asked.0.0 (ap (λ (q : Run). q.0) pair))
run_of words (Some p) file faults (asked.Protocol own) names asked =
    let pair : named_run p ≡ (codes "run", Some file, Some faults, (false, false, false, None), None, None) = some_is _ _ names in
    absurd (protocol_or_run p.0 asked.0.0 (ap (λ (q : Run). q.0) pair))

asks_run : (words : List Text) (o : Option (Text × List Row)) (file faults : String Global)
    → option_map named_run o ≡ Some (codes "run", Some (string_bytes file), Some (string_bytes faults), (false, false, false, None), None, None)
    → words ≡ codes "run" ∷ string_bytes file ∷ string_bytes faults ∷ [] → IsAskedIn words o (asked.Run file faults shown.Whole None None)
asks_run words None file faults names is = absurd (no_thing _ names)
asks_run words (Some p) file faults names is =
    let pair : named_run p ≡ (codes "run", Some (string_bytes file), Some (string_bytes faults), (false, false, false, None), None, None) =
    some_is _ _ names in (
      (
        ap (λ (q : Run). q.0) pair,
        ap (λ (q : Run). q.1) pair,
        ap (λ (q : Run). q.2) pair,
        ap (λ (q : Run). q.3) pair,
        ap (λ (q : Run). q.4) pair,
        ap (λ (q : Run). q.5) pair,
      ),
      rw (is) (inl (refl, inl (refl, inl (refl, tt)))),
    )

draw_of : (words : List Text) (o : Option (Text × List Row)) (file faults : Text) (a : Asked)
    → option_map named_draw o ≡ Some (codes "draw", Some file, Some faults, None, None)
    → IsAskedIn words o a → IsPlainly (codes "draw" ∷ file ∷ faults ∷ []) a
draw_of words None file faults a names asked = elim asked [ ]
draw_of words (Some p) file faults (asked.Search own tree all workers quiet protocol) names asked =
    let pair : named_draw p ≡ (codes "draw", Some file, Some faults, None, None) = some_is _ _ names in
    absurd (draw_or_search p.0 (ap (λ (q : Draw). q.0) pair) asked.0.0)
draw_of words (Some p) file faults (asked.Run own own_faults shown delays protocol) names asked =
    let pair : named_draw p ≡ (codes "draw", Some file, Some faults, None, None) = some_is _ _ names in
    absurd (draw_or_run p.0 (ap (λ (q : Draw). q.0) pair) asked.0.0)
draw_of words (Some p) file faults (asked.Draw own own_faults delays protocol) names asked =
    let pair : named_draw p ≡ (codes "draw", Some file, Some faults, None, None) = some_is _ _ names in
    let same : own.bytes.items ≡ file = some_is _ _ (sym asked.0.1 ∙ ap (λ (q : Draw). q.1) pair) in
    let same_too : own_faults.bytes.items ≡ faults = some_is _ _ (sym asked.0.2 ∙ ap (λ (q : Draw). q.2) pair) in
    record {
      texts = rw (same, same_too) refl;
      unwritten = refl;
      one = refl;
      alone = refl;
      told = refl;
      shipped = sym asked.0.4 ∙ ap (λ (q : Draw). q.4) pair;
      short = refl;
      undelayed = sym asked.0.3 ∙ ap (λ (q : Draw). q.3) pair;
      drawn = refl;
    }
draw_of words (Some p) file faults (asked.Check own tree quiet protocol) names asked =
    let pair : named_draw p ≡ (codes "draw", Some file, Some faults, None, None) = some_is _ _ names in
    absurd (check_or_draw p.0 asked.0.0 (ap (λ (q : Draw). q.0) pair))
draw_of words (Some p) file faults (asked.Answer own quiet every_delay protocol) names asked =
    let pair : named_draw p ≡ (codes "draw", Some file, Some faults, None, None) = some_is _ _ names in
    absurd (answer_or_draw p.0 asked.0.0 (ap (λ (q : Draw). q.0) pair))
draw_of words (Some p) file faults (asked.Why own quiet protocol) names asked =
    let pair : named_draw p ≡ (codes "draw", Some file, Some faults, None, None) = some_is _ _ names in
    absurd (why_or_draw p.0 asked.0.0 (ap (λ (q : Draw). q.0) pair))
draw_of words (Some p) file faults (asked.Protocol own) names asked =
    let pair : named_draw p ≡ (codes "draw", Some file, Some faults, None, None) = some_is _ _ names in
    absurd (protocol_or_draw p.0 asked.0.0 (ap (λ (q : Draw). q.0) pair))

asks_draw : (words : List Text) (o : Option (Text × List Row)) (file faults : String Global)
    → option_map named_draw o ≡ Some (codes "draw", Some (string_bytes file), Some (string_bytes faults), None, None)
    → words ≡ codes "draw" ∷ string_bytes file ∷ string_bytes faults ∷ [] → IsAskedIn words o (asked.Draw file faults None None)
asks_draw words None file faults names is = absurd (no_thing _ names)
asks_draw words (Some p) file faults names is =
    let pair : named_draw p ≡ (codes "draw", Some (string_bytes file), Some (string_bytes faults), None, None) = some_is _ _ names in (
      (
        ap (λ (q : Draw). q.0) pair,
        ap (λ (q : Draw). q.1) pair,
        ap (λ (q : Draw). q.2) pair,
        ap (λ (q : Draw). q.3) pair,
        ap (λ (q : Draw). q.4) pair,
      ),
      rw (is) (inl (refl, inl (refl, inl (refl, tt)))),
    )

check_of : (words : List Text) (o : Option (Text × List Row)) (file tree : Text) (a : Asked)
    → option_map named_check o ≡ Some (codes "check", Some file, Some tree, false, None)
    → IsAskedIn words o a → IsPlainly (codes "check" ∷ file ∷ tree ∷ []) a
check_of words None file tree a names asked = elim asked [ ]
check_of words (Some p) file tree (asked.Search own written all workers quiet protocol) names asked =
    let pair : named_check p ≡ (codes "check", Some file, Some tree, false, None) = some_is _ _ names in
    absurd (check_or_search p.0 (ap (λ (q : Check). q.0) pair) asked.0.0)
check_of words (Some p) file tree (asked.Run own faults shown delays protocol) names asked =
    let pair : named_check p ≡ (codes "check", Some file, Some tree, false, None) = some_is _ _ names in
    absurd (check_or_run p.0 (ap (λ (q : Check). q.0) pair) asked.0.0)
check_of words (Some p) file tree (asked.Draw own drawn_faults delays protocol) names asked =
    let pair : named_check p ≡ (codes "check", Some file, Some tree, false, None) = some_is _ _ names in
    absurd (check_or_draw p.0 (ap (λ (q : Check). q.0) pair) asked.0.0)
check_of words (Some p) file tree (asked.Check own own_tree quiet protocol) names asked =
    let pair : named_check p ≡ (codes "check", Some file, Some tree, false, None) = some_is _ _ names in
    let same : own.bytes.items ≡ file = some_is _ _ (sym asked.0.1 ∙ ap (λ (q : Check). q.1) pair) in
    let same_too : own_tree.bytes.items ≡ tree = some_is _ _ (sym asked.0.2 ∙ ap (λ (q : Check). q.2) pair) in
    record {
      texts = rw (same, same_too) refl;
      unwritten = refl;
      one = refl;
      alone = refl;
      told = sym asked.0.3 ∙ ap (λ (q : Check). q.3) pair;
      shipped = sym asked.0.4 ∙ ap (λ (q : Check). q.4) pair;
      short = refl;
      undelayed = refl;
      drawn = refl;
    }
check_of words (Some p) file tree (asked.Answer own quiet every_delay protocol) names asked =
    let pair : named_check p ≡ (codes "check", Some file, Some tree, false, None) = some_is _ _ names in
    absurd (answer_or_check p.0 asked.0.0 (ap (λ (q : Check). q.0) pair))
check_of words (Some p) file tree (asked.Why own quiet protocol) names asked =
    let pair : named_check p ≡ (codes "check", Some file, Some tree, false, None) = some_is _ _ names in
    absurd (why_or_check p.0 asked.0.0 (ap (λ (q : Check). q.0) pair))
check_of words (Some p) file tree (asked.Protocol own) names asked =
    let pair : named_check p ≡ (codes "check", Some file, Some tree, false, None) = some_is _ _ names in
    absurd (protocol_or_check p.0 asked.0.0 (ap (λ (q : Check). q.0) pair))

asks_check : (words : List Text) (o : Option (Text × List Row)) (file tree : String Global)
    → option_map named_check o ≡ Some (codes "check", Some (string_bytes file), Some (string_bytes tree), false, None)
    → words ≡ codes "check" ∷ string_bytes file ∷ string_bytes tree ∷ [] → IsAskedIn words o (asked.Check file tree false None)
asks_check words None file tree names is = absurd (no_thing _ names)
asks_check words (Some p) file tree names is =
    let pair : named_check p ≡ (codes "check", Some (string_bytes file), Some (string_bytes tree), false, None) = some_is _ _ names in (
      (
        ap (λ (q : Check). q.0) pair,
        ap (λ (q : Check). q.1) pair,
        ap (λ (q : Check). q.2) pair,
        ap (λ (q : Check). q.3) pair,
        ap (λ (q : Check). q.4) pair,
      ),
      rw (is) (inl (refl, inl (refl, inl (refl, tt)))),
    )

answer_of : (words : List Text) (o : Option (Text × List Row)) (file : Text) (a : Asked)
    → option_map named_answer o ≡ Some (codes "answer", Some file, false, false, None) → IsAskedIn words o a → IsPlainly (codes "answer" ∷ file ∷ []) a
answer_of words None file a names asked = elim asked [ ]
answer_of words (Some p) file (asked.Search own tree all workers quiet protocol) names asked =
    let found : named_answer p ≡ (codes "answer", Some file, false, false, None) = some_is _ _ names in
    absurd (answer_or_search p.0 (ap (λ (q : Answer). q.0) found) asked.0.0)
answer_of words (Some p) file (asked.Run own faults shown delays protocol) names asked =
    let found : named_answer p ≡ (codes "answer", Some file, false, false, None) = some_is _ _ names in
    absurd (answer_or_run p.0 (ap (λ (q : Answer). q.0) found) asked.0.0)
answer_of words (Some p) file (asked.Draw own drawn_faults delays protocol) names asked =
    let found : named_answer p ≡ (codes "answer", Some file, false, false, None) = some_is _ _ names in
    absurd (answer_or_draw p.0 (ap (λ (q : Answer). q.0) found) asked.0.0)
answer_of words (Some p) file (asked.Check own tree quiet protocol) names asked =
    let found : named_answer p ≡ (codes "answer", Some file, false, false, None) = some_is _ _ names in
    absurd (answer_or_check p.0 (ap (λ (q : Answer). q.0) found) asked.0.0)
answer_of words (Some p) file (asked.Answer own quiet every_delay protocol) names asked =
    let found : named_answer p ≡ (codes "answer", Some file, false, false, None) = some_is _ _ names in
    let same : own.bytes.items ≡ file = some_is _ _ (sym asked.0.1 ∙ ap (λ (q : Answer). q.1) found) in
    record {
      texts = rw (same) refl;
      unwritten = refl;
      one = refl;
      alone = refl;
      told = sym asked.0.2 ∙ ap (λ (q : Answer). q.2) found;
      shipped = sym asked.0.4 ∙ ap (λ (q : Answer). q.4) found;
      short = refl;
      undelayed = refl;
      drawn = sym asked.0.3 ∙ ap (λ (q : Answer). q.3) found;
    }
answer_of words (Some p) file (asked.Why own quiet protocol) names asked =
    let found : named_answer p ≡ (codes "answer", Some file, false, false, None) = some_is _ _ names in
    absurd (why_or_answer p.0 asked.0.0 (ap (λ (q : Answer). q.0) found))
answer_of words (Some p) file (asked.Protocol own) names asked =
    let found : named_answer p ≡ (codes "answer", Some file, false, false, None) = some_is _ _ names in
    absurd (protocol_or_answer p.0 asked.0.0 (ap (λ (q : Answer). q.0) found))

asks_answer : (words : List Text) (o : Option (Text × List Row)) (file : String Global)
    → option_map named_answer o ≡ Some (codes "answer", Some (string_bytes file), false, false, None)
    → words ≡ codes "answer" ∷ string_bytes file ∷ [] → IsAskedIn words o (asked.Answer file false false None)
asks_answer words None file names is = absurd (no_thing _ names)
asks_answer words (Some p) file names is =
    let found : named_answer p ≡ (codes "answer", Some (string_bytes file), false, false, None) = some_is _ _ names in (
      (
        ap (λ (q : Answer). q.0) found,
        ap (λ (q : Answer). q.1) found,
        ap (λ (q : Answer). q.2) found,
        ap (λ (q : Answer). q.3) found,
        ap (λ (q : Answer). q.4) found,
      ),
      rw (is) (inl (refl, inl (refl, tt))),
    )

why_of : (words : List Text) (o : Option (Text × List Row)) (file : Text) (a : Asked)
    → option_map named_one o ≡ Some (codes "why", Some file, false, None) → IsAskedIn words o a → IsPlainly (codes "why" ∷ file ∷ []) a
why_of words None file a names asked = elim asked [ ]
why_of words (Some p) file (asked.Search own tree all workers quiet protocol) names asked =
    let found : named_one p ≡ (codes "why", Some file, false, None) = some_is _ _ names in
    absurd (why_or_search p.0 (ap (λ (q : One). q.0) found) asked.0.0)
why_of words (Some p) file (asked.Run own faults shown delays protocol) names asked =
    let found : named_one p ≡ (codes "why", Some file, false, None) = some_is _ _ names in
    absurd (why_or_run p.0 (ap (λ (q : One). q.0) found) asked.0.0)
why_of words (Some p) file (asked.Draw own drawn_faults delays protocol) names asked =
    let found : named_one p ≡ (codes "why", Some file, false, None) = some_is _ _ names in
    absurd (why_or_draw p.0 (ap (λ (q : One). q.0) found) asked.0.0)
why_of words (Some p) file (asked.Check own tree quiet protocol) names asked =
    let found : named_one p ≡ (codes "why", Some file, false, None) = some_is _ _ names in
    absurd (why_or_check p.0 (ap (λ (q : One). q.0) found) asked.0.0)
why_of words (Some p) file (asked.Answer own quiet every_delay protocol) names asked =
    let found : named_one p ≡ (codes "why", Some file, false, None) = some_is _ _ names in
    absurd (why_or_answer p.0 (ap (λ (q : One). q.0) found) asked.0.0)
why_of words (Some p) file (asked.Why own quiet protocol) names asked =
    let found : named_one p ≡ (codes "why", Some file, false, None) = some_is _ _ names in
    let same : own.bytes.items ≡ file = some_is _ _ (sym asked.0.1 ∙ ap (λ (q : One). q.1) found) in
    record {
      texts = rw (same) refl;
      unwritten = refl;
      one = refl;
      alone = refl;
      told = sym asked.0.2 ∙ ap (λ (q : One). q.2) found;
      shipped = sym asked.0.3 ∙ ap (λ (q : One). q.3) found;
      short = refl;
      undelayed = refl;
      drawn = refl;
    }
why_of words (Some p) file (asked.Protocol own) names asked =
    let found : named_one p ≡ (codes "why", Some file, false, None) = some_is _ _ names in
    absurd (protocol_or_why p.0 asked.0.0 (ap (λ (q : One). q.0) found))

asks_why : (words : List Text) (o : Option (Text × List Row)) (file : String Global)
    → option_map named_one o ≡ Some (codes "why", Some (string_bytes file), false, None)
    → words ≡ codes "why" ∷ string_bytes file ∷ [] → IsAskedIn words o (asked.Why file false None)
asks_why words None file names is = absurd (no_thing _ names)
asks_why words (Some p) file names is =
    let found : named_one p ≡ (codes "why", Some (string_bytes file), false, None) = some_is _ _ names in (
      (ap (λ (q : One). q.0) found, ap (λ (q : One). q.1) found, ap (λ (q : One). q.2) found, ap (λ (q : One). q.3) found),
      rw (is) (inl (refl, inl (refl, tt))),
    )

protocol_of : (words : List Text) (o : Option (Text × List Row)) (file : Text) (a : Asked)
    → option_map named_alone o ≡ Some (codes "protocol", Some file) → IsAskedIn words o a → IsPlainly (codes "protocol" ∷ file ∷ []) a
protocol_of words None file a names asked = elim asked [ ]
protocol_of words (Some p) file (asked.Search own tree all workers quiet protocol) names asked =
    let found : named_alone p ≡ (codes "protocol", Some file) = some_is _ _ names in
    absurd (protocol_or_search p.0 (ap (λ (q : Alone). q.0) found) asked.0.0)
protocol_of words (Some p) file (asked.Run own faults shown delays protocol) names asked =
    let found : named_alone p ≡ (codes "protocol", Some file) = some_is _ _ names in
    absurd (protocol_or_run p.0 (ap (λ (q : Alone). q.0) found) asked.0.0)
protocol_of words (Some p) file (asked.Draw own drawn_faults delays protocol) names asked =
    let found : named_alone p ≡ (codes "protocol", Some file) = some_is _ _ names in
    absurd (protocol_or_draw p.0 (ap (λ (q : Alone). q.0) found) asked.0.0)
protocol_of words (Some p) file (asked.Check own tree quiet protocol) names asked =
    let found : named_alone p ≡ (codes "protocol", Some file) = some_is _ _ names in
    absurd (protocol_or_check p.0 (ap (λ (q : Alone). q.0) found) asked.0.0)
protocol_of words (Some p) file (asked.Answer own quiet every_delay protocol) names asked =
    let found : named_alone p ≡ (codes "protocol", Some file) = some_is _ _ names in
    absurd (protocol_or_answer p.0 (ap (λ (q : Alone). q.0) found) asked.0.0)
protocol_of words (Some p) file (asked.Why own quiet protocol) names asked =
    let found : named_alone p ≡ (codes "protocol", Some file) = some_is _ _ names in
    absurd (protocol_or_why p.0 (ap (λ (q : Alone). q.0) found) asked.0.0)
protocol_of words (Some p) file (asked.Protocol own) names asked =
    let found : named_alone p ≡ (codes "protocol", Some file) = some_is _ _ names in
    let same : own.bytes.items ≡ file = some_is _ _ (sym asked.0.1 ∙ ap (λ (q : Alone). q.1) found) in
    record { texts = rw (same) refl; unwritten = refl; one = refl; alone = refl; told = refl; shipped = refl; short = refl; undelayed = refl; drawn = refl }

asks_protocol : (words : List Text) (o : Option (Text × List Row)) (file : String Global)
    → option_map named_alone o ≡ Some (codes "protocol", Some (string_bytes file))
    → words ≡ codes "protocol" ∷ string_bytes file ∷ [] → IsAskedIn words o (asked.Protocol file)
asks_protocol words None file names is = absurd (no_thing _ names)
asks_protocol words (Some p) file names is =
    let found : named_alone p ≡ (codes "protocol", Some (string_bytes file)) = some_is _ _ names in
    ((ap (λ (q : Alone). q.0) found, ap (λ (q : Alone). q.1) found), rw (is) (inl (refl, inl (refl, tt))))

-- what is asked for by some number of workers isn't asked for by none
pub counted : (words : List Text) (o : Option (Text × List Row)) (a : Asked) → IsAskedIn words o a → IsUncounted o → ⊥
counted words None a asked uncounted = elim asked [ ]
counted words (Some p) (asked.Search file tree all workers quiet protocol) asked uncounted = uncounted.1 workers asked.0.4
counted words (Some p) (asked.Run file faults shown delays protocol) asked uncounted = run_or_search p.0 asked.0.0 uncounted.0
counted words (Some p) (asked.Draw file faults delays protocol) asked uncounted = draw_or_search p.0 asked.0.0 uncounted.0
counted words (Some p) (asked.Check file tree quiet protocol) asked uncounted = check_or_search p.0 asked.0.0 uncounted.0
counted words (Some p) (asked.Answer file quiet every_delay protocol) asked uncounted = answer_or_search p.0 asked.0.0 uncounted.0
counted words (Some p) (asked.Why file quiet protocol) asked uncounted = why_or_search p.0 asked.0.0 uncounted.0
counted words (Some p) (asked.Protocol file) asked uncounted = protocol_or_search p.0 asked.0.0 uncounted.0

-- words that are taken, and ask for something that can be done, are refused for want of memory alone
only_memory : (words : List Text) (a : Asked) (u : Unasked) → Asks words a → ((b : Asked) → Asks words b → CanBeDone b)
    → IsRefusal words u → u ≡ unasked.Memory
only_memory words a (unasked.Told text) asks possible refusal = absurd (subst (λ (kinds : Kinds). HasStatus kinds 0) asks.0 refusal)
only_memory words a (unasked.Wrong text) asks possible (inl kind) = absurd (subst (λ (kinds : Kinds). HasStatus kinds 2) asks.0 kind)
only_memory words a (unasked.Wrong text) asks possible (inr (inl nothing)) = absurd (nothing.1 a asks)
only_memory words a (unasked.Wrong text) asks possible (inr (inr lacking)) = absurd (no_truth (sym (possible lacking.0 lacking.1).ruled ∙ lacking.2))
only_memory words a (unasked.Workers text) asks possible refusal = absurd (counted words (subcommand_of program words) a asks.1 refusal.1)
only_memory words a (unasked.Overwrites text) asks possible over = absurd (no_truth (sym (possible over.0 over.1).kept ∙ over.2))
only_memory words a unasked.SharedInput asks possible shared = absurd (no_truth (sym (possible shared.0 shared.1).apart ∙ shared.2))
only_memory words a unasked.Memory asks possible refusal = refl

abbrev IsOfOne : Text → Type 0
IsOfOne command =
    (command ≡ codes "search") ⊎ ((command ≡ codes "answer") ⊎ ((command ≡ codes "why") ⊎ (command ≡ codes "protocol")))

alone_is : (command : Text) → takes_one command ≡ true → IsOfOne command
alone_is command takes =
    let last = bytes_eq command (codes "why") || bytes_eq command (codes "protocol") in
    elim (either (bytes_eq command (codes "search")) (bytes_eq command (codes "answer") || last) takes) [
      | inl search ↦ inl ((bytes_eq-Decides command (codes "search")).0 search)
      | inr other ↦ inr (elim (either (bytes_eq command (codes "answer")) last other) [
        | inl answer ↦ inl ((bytes_eq-Decides command (codes "answer")).0 answer)
        | inr rest ↦ inr (elim (either (bytes_eq command (codes "why")) (bytes_eq command (codes "protocol")) rest) [
          | inl why ↦ inl ((bytes_eq-Decides command (codes "why")).0 why)
          | inr protocol ↦ inr ((bytes_eq-Decides command (codes "protocol")).0 protocol)
        ])
      ])
    ]

one_is : (command file : Text) → is_plain_command (command ∷ file ∷ []) ≡ true → IsOfOne command × IsTaken file
one_is command file plain =
    let h = both (takes_one command) (is_plain file) plain in
    (alone_is command h.0, is_taken file h.1)

abbrev IsOfTwo : Text → Text → Text → Type 0
IsOfTwo command one other =
    (command ≡ codes "run") ⊎ ((command ≡ codes "draw") ⊎ ((command ≡ codes "check") × (not (is_input one && is_input other) ≡ true)))

command_is : (command one other : Text) → takes_two command one other ≡ true → IsOfTwo command one other
command_is command one other takes =
    let checks = bytes_eq command (codes "check") && not (is_input one && is_input other) in
    elim (either (bytes_eq command (codes "run")) (bytes_eq command (codes "draw") || checks) takes) [
      | inl run ↦ inl ((bytes_eq-Decides command (codes "run")).0 run)
      | inr other_one ↦ inr (elim (either (bytes_eq command (codes "draw")) checks other_one) [
        | inl draw ↦ inl ((bytes_eq-Decides command (codes "draw")).0 draw)
        | inr check ↦
            let h = both (bytes_eq command (codes "check")) (not (is_input one && is_input other)) check in
            inr ((bytes_eq-Decides command (codes "check")).0 h.0, h.1)
      ])
    ]

two_are : (command one other : Text) → is_plain_command (command ∷ one ∷ other ∷ []) ≡ true → IsOfTwo command one other × IsTaken one × IsTaken other
two_are command one other plain =
    let h = both (takes_two command one other) (is_plain one && is_plain other) plain in
    let k = both (is_plain one) (is_plain other) h.1 in
    (command_is command one other h.0, is_taken one k.0, is_taken other k.1)

pub asks_plainly : (words : List Text) (a : Asked) → is_plain_command words ≡ true → Asks words a → IsPlainly words a
asks_plainly [] a plain asks = absurd (no_truth plain)
asks_plainly (command ∷ []) a plain asks = absurd (no_truth plain)
asks_plainly (command ∷ file ∷ []) a plain asks =
    let is = one_is command file plain in
    elim is.0 [
      | inl search ↦ subst (λ c. Asks (c ∷ file ∷ []) a → IsPlainly (c ∷ file ∷ []) a) (sym search)
          (λ h. search_of _ (subcommand_of program (codes "search" ∷ file ∷ [])) file a (search_names file is.1) h.1) asks
      | inr (inl answer) ↦ subst (λ c. Asks (c ∷ file ∷ []) a → IsPlainly (c ∷ file ∷ []) a) (sym answer)
          (λ h. answer_of _ (subcommand_of program (codes "answer" ∷ file ∷ [])) file a (answer_names file is.1) h.1) asks
      | inr (inr (inl why)) ↦ subst (λ c. Asks (c ∷ file ∷ []) a → IsPlainly (c ∷ file ∷ []) a) (sym why)
          (λ h. why_of _ (subcommand_of program (codes "why" ∷ file ∷ [])) file a (why_names file is.1) h.1) asks
      | inr (inr (inr protocol)) ↦ subst (λ c. Asks (c ∷ file ∷ []) a → IsPlainly (c ∷ file ∷ []) a) (sym protocol)
          (λ h. protocol_of _ (subcommand_of program (codes "protocol" ∷ file ∷ [])) file a (protocol_names file is.1) h.1) asks
    ]
asks_plainly (command ∷ one ∷ other ∷ []) a plain asks =
    let is = two_are command one other plain in
    elim is.0 [
      | inl run ↦ subst (λ c. Asks (c ∷ one ∷ other ∷ []) a → IsPlainly (c ∷ one ∷ other ∷ []) a) (sym run)
          (λ h. run_of _ (subcommand_of program (codes "run" ∷ one ∷ other ∷ [])) one other a (run_names one other is.1 is.2) h.1) asks
      | inr (inl draw) ↦ subst (λ c. Asks (c ∷ one ∷ other ∷ []) a → IsPlainly (c ∷ one ∷ other ∷ []) a) (sym draw)
          (λ h. draw_of _ (subcommand_of program (codes "draw" ∷ one ∷ other ∷ [])) one other a (draw_names one other is.1 is.2) h.1) asks
      | inr (inr check) ↦ subst (λ c. Asks (c ∷ one ∷ other ∷ []) a → IsPlainly (c ∷ one ∷ other ∷ []) a) (sym check.0)
          (λ h. check_of _ (subcommand_of program (codes "check" ∷ one ∷ other ∷ [])) one other a (check_names one other is.1 is.2) h.1) asks
    ]
asks_plainly (command ∷ one ∷ other ∷ more ∷ rest) a plain asks = absurd (no_truth plain)

-- what shares standard input isn't asked for by plain words
shared_not_plain : (a : Asked) (shared : Bool) → shares_input a ≡ shared → is_plain_command (texts_of a) ≡ true → shares_input a ≡ false
shared_not_plain a false is plain = is
shared_not_plain (asked.Search file tree all workers quiet protocol) true is plain = absurd (no_truth is)
shared_not_plain (asked.Run file faults shown delays protocol) true is plain = absurd (no_truth is)
shared_not_plain (asked.Draw file faults delays protocol) true is plain = absurd (no_truth is)
shared_not_plain (asked.Check file tree quiet protocol) true is plain =
    elim (two_are (codes "check") file.bytes.items tree.bytes.items plain).0 [
      | inl run ↦ absurd (check_or_run (codes "check") refl run)
      | inr (inl draw) ↦ absurd (check_or_draw (codes "check") refl draw)
      | inr (inr check) ↦ absurd (no_truth (sym (not-true _ check.1) ∙ is))
    ]
shared_not_plain (asked.Answer file quiet every_delay protocol) true is plain = absurd (no_truth is)
shared_not_plain (asked.Why file quiet protocol) true is plain = absurd (no_truth is)
shared_not_plain (asked.Protocol file) true is plain = absurd (no_truth is)

-- nor a certificate
unwritten_is_kept : (a : Asked) → written_to a ≡ None → overwrites a ≡ false
unwritten_is_kept (asked.Search file None all workers quiet protocol) unwritten = refl
unwritten_is_kept (asked.Search file (Some tree) all workers quiet protocol) unwritten = absurd (no_thing _ (sym unwritten))
unwritten_is_kept (asked.Run file faults shown delays protocol) unwritten = refl
unwritten_is_kept (asked.Draw file faults delays protocol) unwritten = refl
unwritten_is_kept (asked.Check file tree quiet protocol) unwritten = refl
unwritten_is_kept (asked.Answer file quiet every_delay protocol) unwritten = refl
unwritten_is_kept (asked.Why file quiet protocol) unwritten = refl
unwritten_is_kept (asked.Protocol file) unwritten = refl

can_be_done : (words : List Text) → is_plain_command words ≡ true → (a : Asked) → Asks words a → CanBeDone a
can_be_done words plain a asks =
    let plainly = asks_plainly words a plain asks in
    record {
      apart = shared_not_plain a (shares_input a) refl (subst (λ ws. is_plain_command ws ≡ true) (sym plainly.texts) plain);
      kept = unwritten_is_kept a plainly.unwritten;
      ruled = rw (plainly.short) refl;
    }

asks_some : (ws : List (String Global)) → is_plain_command (map string_bytes ws) ≡ true → (a : Asked) × Asks (map string_bytes ws) a
asks_some [] plain = absurd (no_truth plain)
asks_some (command ∷ []) plain = absurd (no_truth plain)
asks_some (command ∷ file ∷ []) plain =
    let is = one_is (string_bytes command) (string_bytes file) plain in
    elim is.0 [
      | inl search ↦
          let words = codes "search" ∷ string_bytes file ∷ [] in
          subst (λ c. (a : Asked) × Asks (c ∷ string_bytes file ∷ []) a) (sym search) (
            asked.Search file None false 1 false None,
            (
              search_fault (string_bytes file) is.1,
              asks_search words (subcommand_of program words) file (search_names (string_bytes file) is.1) refl,
            ),
          )
      | inr (inl answer) ↦
          let words = codes "answer" ∷ string_bytes file ∷ [] in
          subst (λ c. (a : Asked) × Asks (c ∷ string_bytes file ∷ []) a) (sym answer) (
            asked.Answer file false false None,
            (
              answer_fault (string_bytes file) is.1,
              asks_answer words (subcommand_of program words) file (answer_names (string_bytes file) is.1) refl,
            ),
          )
      | inr (inr (inl why)) ↦
          let words = codes "why" ∷ string_bytes file ∷ [] in
          subst (λ c. (a : Asked) × Asks (c ∷ string_bytes file ∷ []) a) (sym why) (
            asked.Why file false None,
            (
              why_fault (string_bytes file) is.1,
              asks_why words (subcommand_of program words) file (why_names (string_bytes file) is.1) refl,
            ),
          )
      | inr (inr (inr protocol)) ↦
          let words = codes "protocol" ∷ string_bytes file ∷ [] in
          subst (λ c. (a : Asked) × Asks (c ∷ string_bytes file ∷ []) a) (sym protocol) (
            asked.Protocol file,
            (
              protocol_fault (string_bytes file) is.1,
              asks_protocol words (subcommand_of program words) file (protocol_names (string_bytes file) is.1) refl,
            ),
          )
    ]
asks_some (command ∷ one ∷ other ∷ []) plain =
    let is = two_are (string_bytes command) (string_bytes one) (string_bytes other) plain in
    elim is.0 [
      | inl run ↦
          let words = codes "run" ∷ string_bytes one ∷ string_bytes other ∷ [] in
          subst (λ c. (a : Asked) × Asks (c ∷ string_bytes one ∷ string_bytes other ∷ []) a) (sym run) (
            asked.Run one other shown.Whole None None,
            (
              run_fault (string_bytes one) (string_bytes other) is.1 is.2,
              asks_run words (subcommand_of program words) one other (run_names (string_bytes one) (string_bytes other) is.1 is.2) refl,
            ),
          )
      | inr (inl draw) ↦
          let words = codes "draw" ∷ string_bytes one ∷ string_bytes other ∷ [] in
          subst (λ c. (a : Asked) × Asks (c ∷ string_bytes one ∷ string_bytes other ∷ []) a) (sym draw) (
            asked.Draw one other None None,
            (
              draw_fault (string_bytes one) (string_bytes other) is.1 is.2,
              asks_draw words (subcommand_of program words) one other (draw_names (string_bytes one) (string_bytes other) is.1 is.2) refl,
            ),
          )
      | inr (inr check) ↦
          let words = codes "check" ∷ string_bytes one ∷ string_bytes other ∷ [] in
          subst (λ c. (a : Asked) × Asks (c ∷ string_bytes one ∷ string_bytes other ∷ []) a) (sym check.0) (
            asked.Check one other false None,
            (
              check_fault (string_bytes one) (string_bytes other) is.1 is.2,
              asks_check words (subcommand_of program words) one other (check_names (string_bytes one) (string_bytes other) is.1 is.2) refl,
            ),
          )
    ]
asks_some (command ∷ one ∷ other ∷ more ∷ rest) plain = absurd (no_truth plain)

pub refused_plainly : (ws : List (String Global)) (u : Unasked) → is_plain_command (map string_bytes ws) ≡ true → IsRefusal (map string_bytes ws) u
    → u ≡ unasked.Memory
refused_plainly ws u plain refusal =
    let some = asks_some ws plain in
    only_memory (map string_bytes ws) some.0 u some.1 (can_be_done (map string_bytes ws) plain) refusal

-- `check - -`
abbrev shared_words : List Text
shared_words = codes "check" ∷ codes "-" ∷ codes "-" ∷ []

minus_is_taken : IsTaken (codes "-")
minus_is_taken = is_taken (codes "-") refl

abbrev head : List Text → Text
head [] = []
head (x ∷ rest) = x

abbrev second : List Text → Text
second (x ∷ y ∷ rest) = y
second _ = []

abbrev third : List Text → Text
third (x ∷ y ∷ z ∷ rest) = z
third _ = []

abbrev size : List Text → ℕ
size [] = 0
size (x ∷ []) = 1
size (x ∷ y ∷ []) = 2
size (x ∷ y ∷ z ∷ []) = 3
size (x ∷ y ∷ z ∷ more ∷ rest) = 4

shared_is : (a : Asked) → texts_of a ≡ shared_words → shares_input a ≡ true
shared_is (asked.Search file tree all workers quiet protocol) is = absurd (apart 2 3 (omega arith) (ap size is))
shared_is (asked.Run file faults shown delays protocol) is = absurd (check_or_run (codes "check") refl (sym (ap head is)))
shared_is (asked.Draw file faults delays protocol) is = absurd (check_or_draw (codes "check") refl (sym (ap head is)))
shared_is (asked.Check file tree quiet protocol) is =
    let one : is_input file.bytes.items ≡ true = (bytes_eq-Decides file.bytes.items (codes "-")).1 (ap second is) in
    let other : is_input tree.bytes.items ≡ true = (bytes_eq-Decides tree.bytes.items (codes "-")).1 (ap third is) in
    rw (one, other) refl
shared_is (asked.Answer file quiet every_delay protocol) is = absurd (apart 2 3 (omega arith) (ap size is))
shared_is (asked.Why file quiet protocol) is = absurd (apart 2 3 (omega arith) (ap size is))
shared_is (asked.Protocol file) is = absurd (apart 2 3 (omega arith) (ap size is))

shared_plainly : (a : Asked) → Asks shared_words a → IsPlainly shared_words a
shared_plainly a asks = check_of _ (subcommand_of program shared_words) (codes "-") (codes "-") a
    (check_names (codes "-") (codes "-") minus_is_taken minus_is_taken) asks.1

pub shared_is_refused : (words : List Text) (a : Asked) → words ≡ shared_words → Asks words a → shares_input a ≡ false → ⊥
shared_is_refused words a is asks possible =
    no_truth (sym possible ∙ shared_is a (shared_plainly a (subst (λ ws. Asks ws a) is asks)).texts)

only_shared : (a : Asked) (u : Unasked) → Asks shared_words a → IsRefusal shared_words u → (u ≡ unasked.SharedInput) ⊎ (u ≡ unasked.Memory)
only_shared a (unasked.Told text) asks refusal = absurd (subst (λ (kinds : Kinds). HasStatus kinds 0) asks.0 refusal)
only_shared a (unasked.Wrong text) asks (inl kind) = absurd (subst (λ (kinds : Kinds). HasStatus kinds 2) asks.0 kind)
only_shared a (unasked.Wrong text) asks (inr (inl nothing)) = absurd (nothing.1 a asks)
only_shared a (unasked.Wrong text) asks (inr (inr lacking)) =
    let none : lacks_protocol lacking.0 ≡ false = rw ((shared_plainly lacking.0 lacking.1).short) refl in
    absurd (no_truth (sym none ∙ lacking.2))
only_shared a (unasked.Workers text) asks refusal = absurd (counted shared_words (subcommand_of program shared_words) a asks.1 refusal.1)
only_shared a (unasked.Overwrites text) asks over =
    absurd (no_truth (sym (unwritten_is_kept over.0 (shared_plainly over.0 over.1).unwritten) ∙ over.2))
only_shared a unasked.SharedInput asks refusal = inl refl
only_shared a unasked.Memory asks refusal = inr refl

pub shared_refusal : (ws : List (String Global)) (u : Unasked) → map string_bytes ws ≡ shared_words → IsRefusal (map string_bytes ws) u
    → (u ≡ unasked.SharedInput) ⊎ (u ≡ unasked.Memory)
shared_refusal [] u is refusal = absurd (apart 0 3 (omega arith) (ap size is))
shared_refusal (command ∷ []) u is refusal = absurd (apart 1 3 (omega arith) (ap size is))
shared_refusal (command ∷ file ∷ []) u is refusal = absurd (apart 2 3 (omega arith) (ap size is))
shared_refusal (command ∷ file ∷ tree ∷ []) u is refusal =
    let names : option_map named_check (subcommand_of program shared_words)
    ≡ Some (codes "check", Some (string_bytes file), Some (string_bytes tree), false, None) =
    rw (ap second is, ap third is) (check_names (codes "-") (codes "-") minus_is_taken minus_is_taken) in
    let words : shared_words ≡ codes "check" ∷ string_bytes file ∷ string_bytes tree ∷ [] = rw (ap second is, ap third is) refl in
    only_shared (asked.Check file tree false None) u (
      check_fault (codes "-") (codes "-") minus_is_taken minus_is_taken,
      asks_check shared_words (subcommand_of program shared_words) file tree names words,
    )
    (subst (λ words. IsRefusal words u) is refusal)
shared_refusal (command ∷ file ∷ tree ∷ more ∷ rest) u is refusal = absurd (apart 3 4 (omega arith) (sym (ap size is)))

pub help_is : (words : List Text) → asks_help words ≡ true → fault_of program words ≡ kind.DisplayHelp ∷ []
help_is [] help = absurd (no_truth help)
help_is (word ∷ words) help = elim (either (bytes_eq word (codes "--help")) (bytes_eq word (codes "-h")) help) [
  | inl long ↦ rw ((bytes_eq-Decides word (codes "--help")).0 long) (help_fault words)
  | inr short ↦ rw ((bytes_eq-Decides word (codes "-h")).0 short) (short_help_fault words)
]

pub version_is : (words : List Text) → asks_version words ≡ true → fault_of program words ≡ kind.DisplayVersion ∷ []
version_is [] version = absurd (no_truth version)
version_is (word ∷ words) version = elim (either (bytes_eq word (codes "--version")) (bytes_eq word (codes "-V")) version) [
  | inl long ↦ rw ((bytes_eq-Decides word (codes "--version")).0 long) (version_fault words)
  | inr short ↦ rw ((bytes_eq-Decides word (codes "-V")).0 short) (short_version_fault words)
]

pub unknown_is : (words : List Text) → is_unknown words ≡ true → fault_of program words ≡ kind.UnknownArgument ∷ kind.InvalidSubcommand ∷ []
unknown_is [] unknown = absurd (no_truth unknown)
unknown_is (word ∷ words) unknown =
    let no_why = not (bytes_eq (codes "why") word) && not (bytes_eq (codes "protocol") word) in
    let no_answer = not (bytes_eq (codes "answer") word) && no_why in
    let no_check = not (bytes_eq (codes "check") word) && no_answer in
    let no_draw = not (bytes_eq (codes "draw") word) && no_check in
    let no_run = not (bytes_eq (codes "run") word) && no_draw in
    let h = both (is_plain word) (not (bytes_eq (codes "search") word) && no_run) unknown in
    let k = both (not (bytes_eq (codes "search") word)) no_run h.1 in
    let l = both (not (bytes_eq (codes "run") word)) no_draw k.1 in
    let d = both (not (bytes_eq (codes "draw") word)) no_check l.1 in
    let m = both (not (bytes_eq (codes "check") word)) no_answer d.1 in
    let n = both (not (bytes_eq (codes "answer") word)) no_why m.1 in
    let y = both (not (bytes_eq (codes "why") word)) (not (bytes_eq (codes "protocol") word)) n.1 in
    unknown_fault word words (is_taken word h.0) (not-true _ k.0) (not-true _ l.0) (not-true _ d.0) (not-true _ m.0) (not-true _ n.0) (not-true _ y.0)
    (not-true _ y.1)

abbrev kinds_count : Kinds → ℕ
kinds_count [] = 0
kinds_count (kind ∷ kinds) = 1

pub takes_none : (k : ErrorKind) (ks : Kinds) (kinds : Kinds) → kinds ≡ k ∷ ks → kinds ≡ [] → ⊥
takes_none k ks kinds some none = apart 0 1 (omega arith) (ap kinds_count (sym none ∙ some))

-- the kinds of a refusal have one status alone
abbrev HaveOne : Kinds → ℕ → Type 0
HaveOne kinds status = (n : ℕ) → HasStatus kinds n → n ≡ status

one_has : (k : ErrorKind) → HaveOne (k ∷ []) (status_of k)
one_has k n (inl is) = is
one_has k n (inr none) = absurd none

unknown_has : HaveOne (kind.UnknownArgument ∷ kind.InvalidSubcommand ∷ []) 2
unknown_has n (inl is) = is
unknown_has n (inr (inl is)) = is
unknown_has n (inr (inr none)) = absurd none

-- so words that are refused have this status
has_one : (words : List Text) (k : ErrorKind) (ks : Kinds) (status : ℕ) (u : Unasked) → fault_of program words ≡ k ∷ ks → HaveOne (k ∷ ks) status
    → IsRefusal words u → (exit_status u ≡ status) ⊎ (u ≡ unasked.Memory)
has_one words k ks status (unasked.Told text) are one refusal = inl (one 0 (subst (λ (kinds : Kinds). HasStatus kinds 0) are refusal))
has_one words k ks status (unasked.Wrong text) are one (inl kind) = inl (one 2 (subst (λ (kinds : Kinds). HasStatus kinds 2) are kind))
has_one words k ks status (unasked.Wrong text) are one (inr (inl nothing)) = absurd (takes_none _ _ _ are nothing.0)
has_one words k ks status (unasked.Wrong text) are one (inr (inr lacking)) = absurd (takes_none _ _ _ are lacking.1.0)
has_one words k ks status (unasked.Workers text) are one refusal = absurd (takes_none _ _ _ are refusal.0)
has_one words k ks status (unasked.Overwrites text) are one over = absurd (takes_none _ _ _ are over.1.0)
has_one words k ks status unasked.SharedInput are one shared = absurd (takes_none _ _ _ are shared.1.0)
has_one words k ks status unasked.Memory are one refusal = inr refl

pub one_status : (words : List Text) (k : ErrorKind) (u : Unasked) → fault_of program words ≡ k ∷ [] → IsRefusal words u
    → (exit_status u ≡ status_of k) ⊎ (u ≡ unasked.Memory)
one_status words k u alone refusal = has_one words k [] (status_of k) u alone (one_has k) refusal

pub unknown_status : (words : List Text) (u : Unasked) → is_unknown words ≡ true → IsRefusal words u → (exit_status u ≡ 2) ⊎ (u ≡ unasked.Memory)
unknown_status words u unknown refusal = has_one words _ _ 2 u (unknown_is words unknown) unknown_has refusal
