-- Small letters, character by character and byte by byte.
use Rattle.std.proofs.Common.{◌≡◌, ℕ, ◌+◌, ◌/◌, ◌%◌, ◌<◌, Bool, true, false, List, [], ◌∷◌, ◌++◌, map, cond}
use Rattle.std.proofs.Common.{refl, sym, ap, ◌∙◌, arith, append_assoc, append-nil, inl, inr, ltb}
use Rattle.std.specs.Char.{to_ascii_lowercase}
use Rattle.std.specs.Str.{IsUtf8, chars}
use Rattle.std.proofs.Math.Utf8.{encode, encodes}
use Rattle.std.proofs.lemmas.List.{map-append, map-id}
use Rattle.std.proofs.lemmas.Str.{encodes-append, encodes-chars}
use Rattle.std.proofs.lemmas.Str.Ascii.{lowercase_ascii, lowercase_is}
use Rattle.std.proofs.lemmas.Bool.{cases_lt}
use Rattle.std.proofs.lemmas.Bool.Decides.{nat_tests}

-- a byte past the capitals stays
stays : (b : ℕ) → 90 < b → to_ascii_lowercase b ≡ b
stays b high = (lowercase_is b).2 high

all_stay : (b : ℕ) (bs : List ℕ) → 90 < b → map to_ascii_lowercase bs ≡ bs → map to_ascii_lowercase (b ∷ bs) ≡ b ∷ bs
all_stay b bs high same = λ i. stays b high i ∷ same i

in_each : (p q r : Bool) (w x y z : List ℕ) → map to_ascii_lowercase w ≡ w → map to_ascii_lowercase x ≡ x → map to_ascii_lowercase y ≡ y
    → map to_ascii_lowercase z ≡ z → map to_ascii_lowercase (cond p w (cond q x (cond r y z))) ≡ cond p w (cond q x (cond r y z))
in_each true q r w x y z a b c d = a
in_each false true r w x y z a b c d = b
in_each false false true w x y z a b c d = c
in_each false false false w x y z a b c d = d

-- the bytes of a character past the capitals stay
encode-stays : (c : ℕ) → 90 < c → map to_ascii_lowercase (encode c) ≡ encode c
unfolding encode
encode-stays c high =
    in_each (ltb c 128) (ltb c 2048) (ltb c 65536) (c ∷ []) ((192 + c / 64) ∷ last) ((224 + c / 4096) ∷ third) ((240 + c / 262144) ∷ second)
    (all_stay c [] high refl) (all_stay (192 + c / 64) last (omega arith) last_stays) (all_stay (224 + c / 4096) third (omega arith) third_stays)
    (all_stay (240 + c / 262144) second (omega arith) (all_stay (128 + (c / 4096) % 64) third (omega arith) third_stays))
  where
    last : List ℕ
    last = (128 + c % 64) ∷ []

    third : List ℕ
    third = (128 + (c / 64) % 64) ∷ (128 + c % 64) ∷ []

    second : List ℕ
    second = (128 + (c / 4096) % 64) ∷ (128 + (c / 64) % 64) ∷ (128 + c % 64) ∷ []

    last_stays : map to_ascii_lowercase ((128 + c % 64) ∷ []) ≡ (128 + c % 64) ∷ []
    last_stays = all_stay (128 + c % 64) [] (omega arith) refl

    third_stays : map to_ascii_lowercase ((128 + (c / 64) % 64) ∷ (128 + c % 64) ∷ []) ≡ (128 + (c / 64) % 64) ∷ (128 + c % 64) ∷ []
    third_stays = all_stay (128 + (c / 64) % 64) ((128 + c % 64) ∷ []) (omega arith) last_stays

encode_one : (c : ℕ) → c < 128 → encode c ≡ c ∷ []
unfolding encode
encode_one c low = grind (arith, nat_tests)

small_char : (c : ℕ) → encode (to_ascii_lowercase c) ≡ map to_ascii_lowercase (encode c)
small_char c =
    elim (cases_lt c 91) [
      | inl low ↦ encode_one (to_ascii_lowercase c) (lowercase_ascii c (omega arith)) ∙ sym (ap (map to_ascii_lowercase) (encode_one c (omega arith)))
      | inr high ↦ ap encode (stays c (omega arith)) ∙ sym (encode-stays c (omega arith))
    ]

small_chars : (cs : List ℕ) → encodes (map to_ascii_lowercase cs) ≡ map to_ascii_lowercase (encodes cs)
small_chars [] = refl
small_chars (c ∷ cs) =
    ap (λ bs. bs ++ encodes (map to_ascii_lowercase cs)) (small_char c)
    ∙ ap (λ bs. map to_ascii_lowercase (encode c) ++ bs) (small_chars cs)
    ∙ sym (map-append to_ascii_lowercase (encode c) (encodes cs))

-- one character more
pub small_more : (old text new cs : List ℕ) (c : ℕ) → text ≡ old ++ encodes (map to_ascii_lowercase cs) → new ≡ text ++ encode (to_ascii_lowercase c)
    → new ≡ old ++ encodes (map to_ascii_lowercase (cs ++ c ∷ []))
small_more old text new cs c so next =
    next ∙ ap (λ t. t ++ encode (to_ascii_lowercase c)) so
    ∙ append_assoc old (encodes (map to_ascii_lowercase cs)) (encode (to_ascii_lowercase c))
    ∙ ap (λ bs. old ++ (encodes (map to_ascii_lowercase cs) ++ bs)) (sym (append-nil (encode (to_ascii_lowercase c))))
    ∙ ap (λ bs. old ++ bs) (sym (ap encodes (map-append to_ascii_lowercase cs (c ∷ []))
    ∙ encodes-append (map to_ascii_lowercase cs) (to_ascii_lowercase c ∷ [])))

-- and all of them
pub small_told : (old new name cs : List ℕ) → IsUtf8 name → new ≡ old ++ encodes (map to_ascii_lowercase cs) → map (λ (x : ℕ). x) cs ≡ chars name
    → new ≡ old ++ map to_ascii_lowercase name
small_told old new name cs valid so all =
    so ∙ ap (λ bs. old ++ bs) (ap (λ xs. encodes (map to_ascii_lowercase xs)) (sym (map-id cs) ∙ all) ∙ small_chars (chars name)
    ∙ ap (map to_ascii_lowercase) (encodes-chars name valid))
