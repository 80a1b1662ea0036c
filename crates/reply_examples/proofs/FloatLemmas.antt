-- Where no float stands in a scenario, and none is a value of what varies, none stands in it with these values.
use Rattle.std.proofs.Common.{◌≡◌, ℕ, zero, suc, ◌/◌, ◌%◌, map, slice_index_or, Bool, true, false, List, [], ◌∷◌, codes, Option, Some, None, refl, sym, subst}
use Rattle.std.specs.Prelude.{IfSome, String, Vec, string_bytes, if◌then◌else◌}
use Rattle.std.specs.declared.alloc.Global.{Global}
use Rattle.std.proofs.lemmas.Bool.{and_from, and_parts}
use Rattle.std.specs.Cmp.Lexicographic.{slice_cmp}
use Rattle.std.specs.Ordering.{nat_cmp, match_ordering}
use Rattle.std.specs.declared.cmp.Ordering.{Ordering}
use Rattle.std.specs.declared.cmp.Ordering.TheVariants.{Less, Equal, Greater}
use Rattle.toml.specs.Data.{Data, string, integer, float, boolean, datetime, array, table, Members, no_members, member, get_member}
use Rattle.lf_sweep.specs.declared.varied.Place.{Place}
use Rattle.lf_sweep.specs.declared.varied.Place.TheVariants as places
use Rattle.lf_sweep.specs.declared.varied.Varied.{Varied}
use Rattle.lf_sweep.specs.Combinations.{combinations, words_at}
use Rattle.lf_sweep.specs.Exact.{has_no_floats, members_have_no_floats}
use Rattle.lf_sweep.specs.Members.{constants_of, is_seed, seed_text, value_of, with_member, with_place, written_value}
use Rattle.lf_sweep.specs.declared.words.Words.TheVariants as some
use Rattle.lf_sweep.specs.Texts.{IsScenario, with_words}
use Rattle.lf_sweep.specs.Words.{word_at}
use Rattle.toml.specs.Parse.{parse_document, parse_value}
use Rattle.toml.proofs.OnLiterals.{toml_on_literals}
use Rattle.reply_examples.specs.Floats.{AreExact, ArePlain, IsExact, IsPlain, scenario_text}

chosen : (o : Ordering) (a b c : Members) → members_have_no_floats a ≡ true → members_have_no_floats b ≡ true → members_have_no_floats c ≡ true
    → members_have_no_floats (match_ordering o a b c) ≡ true
chosen Less a b c one other last = one
chosen Equal a b c one other last = other
chosen Greater a b c one other last = last

member_exact : (k : List ℕ) (d : Data) (ms : Members) → has_no_floats d ≡ true → members_have_no_floats ms ≡ true
    → members_have_no_floats (with_member k d ms) ≡ true
member_exact k d no_members this all = and_from (has_no_floats d) true this refl
member_exact k d (member l e ms) this all =
    let (here, more) = and_parts (has_no_floats e) (members_have_no_floats ms) all in
    chosen (slice_cmp nat_cmp k l) (member k d (member l e ms)) (member l d ms) (member l e (with_member k d ms))
    (and_from (has_no_floats d) (members_have_no_floats (member l e ms)) this all)
    (and_from (has_no_floats d) (members_have_no_floats ms) this more)
    (and_from (has_no_floats e) (members_have_no_floats (with_member k d ms)) here (member_exact k d ms this more))

abbrev IsFloatless : Option Data → Type 0
IsFloatless None = Unit {0}
IsFloatless (Some d) = has_no_floats d ≡ true

found : (o : Ordering) (a b c : Option Data) → IsFloatless a → IsFloatless b → IsFloatless c → IsFloatless (match_ordering o a b c)
found Less a b c one other last = one
found Equal a b c one other last = other
found Greater a b c one other last = last

get_exact : (k : List ℕ) (ms : Members) → members_have_no_floats ms ≡ true → IsFloatless (get_member k ms)
get_exact k no_members all = tt
get_exact k (member l d ms) all =
    let (here, more) = and_parts (has_no_floats d) (members_have_no_floats ms) all in
    found (slice_cmp nat_cmp k l) (get_member k ms) (Some d) (get_member k ms) (get_exact k ms more) here (get_exact k ms more)

constants_exact : (o : Option Data) → IsFloatless o → members_have_no_floats (constants_of o) ≡ true
constants_exact None is = refl
constants_exact (Some (string s)) is = refl
constants_exact (Some (integer z)) is = refl
constants_exact (Some (float x)) is = refl
constants_exact (Some (boolean b)) is = refl
constants_exact (Some (datetime t)) is = refl
constants_exact (Some (array ds)) is = refl
constants_exact (Some (table ms)) is = is

place_exact : (place : Place) (d : Data) (ms : Members) → has_no_floats d ≡ true → members_have_no_floats ms ≡ true
    → members_have_no_floats (with_place place d ms) ≡ true
place_exact (places.Key name) d ms this all = member_exact (string_bytes name) d ms this all
place_exact (places.Constant name) d ms this all =
    let constants = constants_of (get_member (codes "given") ms) in
    member_exact (codes "given") (table (with_member (string_bytes name) d constants)) ms
    (member_exact (string_bytes name) d constants this (constants_exact (get_member (codes "given") ms) (get_exact (codes "given") ms all))) all

words_exact : (vs : List Varied) (number : ℕ) (ms : Members) → AreExact vs → members_have_no_floats ms ≡ true
    → members_have_no_floats (with_words vs (words_at vs number) ms) ≡ true
words_exact [] number ms are all = all
words_exact (v ∷ vs) number ms are all =
    let word = word_at v.words (number / combinations vs) in
    words_exact vs (number % combinations vs) (with_place v.place (value_of v.place word) ms) are.1
    (place_exact v.place (value_of v.place word) ms (are.0 (number / combinations vs)) all)

-- no word is past the end of a list, and the empty one stands for a text
plain_empty : IsPlain []
unfolding toml_on_literals
plain_empty = refl

placed : (words : List (List ℕ)) → ArePlain words → (k : ℕ) → IsPlain (slice_index_or words k [])
placed [] are k = plain_empty
placed (word ∷ words) are zero = are.0
placed (word ∷ words) are (suc k) = placed words are.1 k

valued : (place : Place) (word : List ℕ) → IsPlain word → has_no_floats (value_of place word) ≡ true
valued place word plain = either (is_seed place) (seed_text word) (written_value word (parse_value word)) plain
  where
    either : (b : Bool) (text : List ℕ) (d : Data) → has_no_floats d ≡ true → has_no_floats (if b then string text else d) ≡ true
    either true text d is = refl
    either false text d is = is

pub listed_exact : (v : Varied) (listed : Vec (String Global) Global) → v.words ≡ some.Listed listed → ArePlain (map string_bytes listed.items) → IsExact v
listed_exact v listed is are place =
    let texts = map string_bytes listed.items in
    subst (λ w. has_no_floats (value_of v.place (word_at w place)) ≡ true) (sym is)
    (valued v.place (slice_index_or texts place []) (placed texts are place))

-- none stands in the scenario
scenario_exact : IfSome (parse_document scenario_text) (λ ms. members_have_no_floats ms ≡ true)
unfolding toml_on_literals
scenario_exact = refl

pub none_stands : (text : List ℕ) (vs : List Varied) → text ≡ scenario_text → AreExact vs → (number : ℕ) (ms : Members) → IsScenario text ms
    → members_have_no_floats (with_words vs (words_at vs number) ms) ≡ true
none_stands text vs same are number ms is =
    words_exact vs number ms are
    (subst (λ o. IfSome o (λ x. members_have_no_floats x ≡ true)) (subst (λ t. parse_document t ≡ Some ms) same is.1) scenario_exact)
