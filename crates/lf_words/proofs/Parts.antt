-- A list of texts in the order of the words: one word on.
use Rattle.std.proofs.Common.{◌≡◌, ◌≢◌, ◌↔◌, ◌⊎◌, ◌<◌, ◌≤◌, ◌+◌, ℕ, List, [], ◌∷◌, Bor, String, Global, inl, inr, subst, map, drop, length}
use Rattle.std.proofs.Common.{slice_index_or, zero, suc, IsTrue, nat_eq, arith}
use Rattle.std.proofs.lemmas.Bool.Decides.{nat_tests}
use Rattle.std.specs.String.{string_bytes}
use Rattle.std.proofs.lemmas.List.{drop_more}
use Rattle.std.proofs.Math.ListN.{drop_of_length-le}
use Rattle.clap.specs.Words.{Text}
use Rattle.lf_words.specs.Words.{IsPartOf}

more : (texts : List Text) (word : Text) (words : List Text) → IsPartOf texts words → IsPartOf texts (word ∷ words)
more [] word words part = tt
more (text ∷ texts) word words part = inr part

later : (text : Text) (texts words : List Text) → IsPartOf (text ∷ texts) words → IsPartOf texts words
later text texts [] part = elim part [ ]
later text texts (word ∷ words) (inl part) = more texts word words part.1
later text texts (word ∷ words) (inr part) = more texts word words (later text texts words part)

met_back : (text : Text) (texts : List Text) (word : Text) (words : List Text) → IsPartOf (text ∷ texts) (word ∷ words) → IsPartOf texts words
met_back text texts word words (inl part) = part.1
met_back text texts word words (inr part) = later text texts words part

other_back : (text : Text) (texts : List Text) (word : Text) (words : List Text) → text ≢ word
    → IsPartOf (text ∷ texts) (word ∷ words) → IsPartOf (text ∷ texts) words
other_back text texts word words other (inl part) = absurd (other part.0)
other_back text texts word words other (inr part) = part

-- what is left to be met, of the texts from k on in the words from i on
abbrev pub IsLeft : List (Bor Text) → List (String Global) → ℕ → ℕ → Type 0
IsLeft ts ws k i = IsPartOf (map (λ t. t.now) (drop k ts)) (map string_bytes (drop i ws))

pub met : (ts : List (Bor Text)) (ws : List (String Global)) (k i : ℕ) (t : Bor Text) (w : String Global) → k < length ts → i < length ws
    → w ≡ slice_index_or ws i w → (slice_index_or ts k t).now ≡ string_bytes w → IsLeft ts ws (k + 1) (i + 1) ↔ IsLeft ts ws k i
met ts ws k i t w in_ts in_ws is same = rw (drop_more ts k t in_ts, drop_more ws i w in_ws, ← is)
    ((λ part. inl (same, part)), met_back _ _ _ _)

pub other : (ts : List (Bor Text)) (ws : List (String Global)) (k i : ℕ) (t : Bor Text) (w : String Global) → k < length ts → i < length ws
    → w ≡ slice_index_or ws i w → (slice_index_or ts k t).now ≢ string_bytes w → IsLeft ts ws k (i + 1) ↔ IsLeft ts ws k i
other ts ws k i t w in_ts in_ws is differ = rw (drop_more ts k t in_ts, drop_more ws i w in_ws, ← is)
    ((λ part. inr part), other_back _ _ _ _ differ)

pub over : (ts : List (Bor Text)) (ws : List (String Global)) (k i j : ℕ) → length ts ≤ k → IsLeft ts ws k j ↔ IsLeft ts ws k i
over ts ws k i j end = rw (drop_of_length-le ts end) ((λ part. tt), (λ part. tt))

pub chain : {A B C : Type 0} → A ↔ B → B ↔ C → A ↔ C
chain ab bc = ((λ a. bc.0 (ab.0 a)), (λ c. ab.1 (bc.1 c)))

none_left : (ts : List (Bor Text)) (k : ℕ) → k < length ts → IsPartOf (map (λ t. t.now) (drop k ts)) [] → ⊥
none_left [] k within part = absurd (omega arith)
none_left (t ∷ ts) zero within part = part
none_left (t ∷ ts) (suc k) within part = none_left ts k (omega arith) part

pub at_end : (ts : List (Bor Text)) (ws : List (String Global)) (k i : ℕ) → k ≤ length ts → length ws ≤ i
    → IsLeft ts ws k i ↔ IsPartOf (map (λ t. t.now) ts) (map string_bytes ws)
    → IsTrue (nat_eq k (length ts)) ↔ IsPartOf (map (λ t. t.now) ts) (map string_bytes ws)
at_end ts ws k i within past same = (
  (λ end. same.0 (rw (drop_of_length-le ts (at_most end)) tt)),
  (λ part. ended (two within) (same.1 part)),
)
  where
    at_most : IsTrue (nat_eq k (length ts)) → length ts ≤ k
    at_most end = grind (arith, nat_tests)

    two : k ≤ length ts → (k < length ts) ⊎ (k ≡ length ts)
    two h = grind (arith, nat_tests)

    ended : (k < length ts) ⊎ (k ≡ length ts) → IsLeft ts ws k i → IsTrue (nat_eq k (length ts))
    ended (inr is) part = grind (arith, nat_tests)
    ended (inl less) part =
        let Left : List (String Global) → Type 0 = λ rest. IsPartOf (map (λ t. t.now) (drop k ts)) (map string_bytes rest) in
        absurd (none_left ts k less (subst Left (drop_of_length-le ws past) part))
