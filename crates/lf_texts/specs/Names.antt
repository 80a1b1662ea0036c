-- Names.
use Rattle.std.specs.Prelude.{ℕ, Bool, false, not, ◌&&◌, ◌||◌, ◌==◌, nat_le, List, [], ◌∷◌, length, codes}
use Rattle.std.specs.Char.{is_ascii_digit, is_ascii_lowercase, is_ascii_uppercase}
use Rattle.std.specs.List.{list_all, list_any, starts_with}
use Rattle.std.specs.Str.{bytes_eq}
use Rattle.lf_grammar.specs.declared.place.Meaning.{Meaning}

-- a name goes on with at most 23 of these bytes
abbrev pub is_of_name : ℕ → Bool
is_of_name b = is_ascii_lowercase b || (is_ascii_digit b || b == 95)

abbrev pub is_name_behind : List ℕ → Bool
is_name_behind bs = nat_le (length bs) 23 && list_all is_of_name bs

-- as the opposite of a fact does
abbrev pub begins_with_not : List ℕ → Bool
begins_with_not text = starts_with ◌==◌ text (codes "not_")

-- a small letter and at most 23 small letters, digits and _, not beginning with not_
unfoldable pub is_name : List ℕ → Bool
is_name [] = false
is_name (b ∷ bs) = is_ascii_lowercase b && (is_name_behind bs && not (begins_with_not (b ∷ bs)))

abbrev pub is_of_note_name : ℕ → Bool
is_of_note_name b = is_ascii_uppercase b || (is_ascii_digit b || b == 95)

abbrev pub is_note_name_behind : List ℕ → Bool
is_note_name_behind bs = nat_le (length bs) 23 && list_all is_of_note_name bs

-- a capital and at most 23 capitals, digits and _
unfoldable pub is_note_name : List ℕ → Bool
is_note_name [] = false
is_note_name (b ∷ bs) = is_ascii_uppercase b && is_note_name_behind bs

-- the words of the language: values, what stands between or before them, and what belongs to outcomes, kinds and the parts of a rule
unfoldable pub is_value : List ℕ → Bool
is_value w =
    bytes_eq w (codes "t") || (bytes_eq w (codes "me") || (bytes_eq w (codes "sender") || (bytes_eq w (codes "it")
    || (bytes_eq w (codes "nodes") || (bytes_eq w (codes "all") || (bytes_eq w (codes "true") || (bytes_eq w (codes "false")
    || (bytes_eq w (codes "clamped") || bytes_eq w (codes "replaced")))))))))

unfoldable pub is_operator : List ℕ → Bool
is_operator w =
    bytes_eq w (codes "and") || (bytes_eq w (codes "or") || (bytes_eq w (codes "not") || (bytes_eq w (codes "in")
    || (bytes_eq w (codes "where") || (bytes_eq w (codes "mod") || (bytes_eq w (codes "count") || (bytes_eq w (codes "lowest")
    || (bytes_eq w (codes "highest") || (bytes_eq w (codes "majority") || (bytes_eq w (codes "min") || bytes_eq w (codes "max")))))))))))

unfoldable pub is_of_outcomes : List ℕ → Bool
is_of_outcomes w =
    bytes_eq w (codes "to") || (bytes_eq w (codes "else") || (bytes_eq w (codes "flag") || (bytes_eq w (codes "step") || (bytes_eq w (codes "each")
    || (bytes_eq w (codes "some") || (bytes_eq w (codes "no") || (bytes_eq w (codes "at") || (bytes_eq w (codes "down")
    || (bytes_eq w (codes "always") || bytes_eq w (codes "ever"))))))))))

unfoldable pub is_reserved : List ℕ → Bool
is_reserved w = is_value w || (is_operator w || is_of_outcomes w)

-- a name is one of some, or means something already
abbrev pub is_among : List (List ℕ) → List ℕ → Bool
is_among names w = list_any (λ name. bytes_eq name w) names

abbrev pub is_declared : List Meaning → List ℕ → Bool
is_declared names w = list_any (λ x. bytes_eq x.name w) names

-- a name for something new: it is none of the language, means nothing so far, and is none of some others
unfoldable pub is_free : List Meaning → List (List ℕ) → List ℕ → Bool
is_free names others w = is_name w && (not (is_reserved w) && (not (is_declared names w) && not (is_among others w)))
