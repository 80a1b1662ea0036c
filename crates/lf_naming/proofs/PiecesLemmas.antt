-- Texts that grow piece by piece.
use Rattle.std.proofs.Common.{◌≡◌, ℕ, ◌+◌, ◌<◌, ◌≤◌, Bool, true, false, append-nil, length-append, List, [], ◌∷◌, ◌++◌}
use Rattle.std.proofs.Common.{length, get_or, take, map, cond, refl, sym, ap, ◌∙◌, arith, append_assoc, zero-add}
use Rattle.std.specs.List.{enumerate_from, filter, join_with_byte, range_with_len}
use Rattle.std.proofs.lemmas.List.{length-take-le, map-append, map-id, take_all, take_more}
use Rattle.std.proofs.lemmas.List.FromFn.{filter_of_map_range_with_len_more, get_or-enumerate_from, length-enumerate_from}
use Rattle.std.proofs.lemmas.List.FromFn.{length-map-range_with_len, map-range_with_len_more}
use Rattle.std.proofs.Math.ListN.{length-map}
use Rattle.lf_naming.specs.Pieces.{before_piece}

join_more : (c : ℕ) (xs : List (List ℕ)) (x : List ℕ) → join_with_byte c (xs ++ x ∷ []) ≡ join_with_byte c xs ++ (before_piece c (length xs) ++ x)
join_more c [] x = refl
join_more c (y ∷ []) x = refl
join_more c (y ∷ z ∷ xs) x =
    ap (λ rest. y ++ (c ∷ rest)) (join_more c (z ∷ xs) x)
    ∙ sym (append_assoc y (c ∷ join_with_byte c (z ∷ xs)) (c ∷ x))

-- the pieces of the first so many of a list, and one more
pub pieces_more : {A : Type 0} (c : ℕ) (f : A → List ℕ) (xs : List A) (i : ℕ) (d : A) → i < length xs
    → join_with_byte c (map f (take (i + 1) xs)) ≡ join_with_byte c (map f (take i xs)) ++ (before_piece c i ++ f (get_or xs i d))
pieces_more c f xs i d within =
    let so_far = map f (take i xs) in
    let x = get_or xs i d in
    let many : length so_far ≡ i = length-map (take i xs) f ∙ length-take-le i xs (omega arith) in
    ap (λ ys. join_with_byte c (map f ys)) (take_more xs i d within)
    ∙ ap (join_with_byte c) (map-append f (take i xs) (x ∷ []))
    ∙ join_more c so_far (f x)
    ∙ ap (λ k. join_with_byte c so_far ++ (before_piece c k ++ f x)) many

-- of the numbers below n, and of n too
pub numbers_more : (c : ℕ) (f : ℕ → List ℕ) (n : ℕ) → join_with_byte c (map f (range_with_len 0 (n + 1)))
    ≡ join_with_byte c (map f (range_with_len 0 n)) ++ (before_piece c n ++ f n)
numbers_more c f n =
    let so_far = map f (range_with_len 0 n) in
    ap (join_with_byte c) (map-range_with_len_more f 0 n n (zero-add n))
    ∙ join_more c so_far (f n)
    ∙ ap (λ k. join_with_byte c so_far ++ (before_piece c k ++ f n)) (length-map-range_with_len f 0 n)

-- of a list with the number of each
pub fields_more : {A : Type 0} (c : ℕ) (f : ℕ × A → List ℕ) (xs : List A) (i : ℕ) (d : A) → i < length xs
    → join_with_byte c (map f (take (i + 1) (enumerate_from 0 xs)))
    ≡ join_with_byte c (map f (take i (enumerate_from 0 xs))) ++ (before_piece c i ++ f (i, get_or xs i d))
fields_more {A} c f xs i d within =
    let numbered = enumerate_from 0 xs in
    let inside : i < length numbered = omega (arith, length-enumerate_from 0 xs) in
    pieces_more c f numbered i (0, d) inside
    ∙ ap (λ x. join_with_byte c (map f (take i numbered)) ++ (before_piece c i ++ f x)) (get_or-enumerate_from 0 xs i (0, d) within)
    ∙ ap (λ n. join_with_byte c (map f (take i numbered)) ++ (before_piece c i ++ f (n, get_or xs i d))) (zero-add i)

pub fields_whole : {A : Type 0} (xs : List A) (i : ℕ) → length xs ≤ i → take i (enumerate_from 0 xs) ≡ enumerate_from 0 xs
fields_whole xs i all = take_all i (enumerate_from 0 xs) (omega (arith, length-enumerate_from 0 xs))

-- a separator and a piece after what was told so far
pub piece_told : (old text between new all before piece more : List ℕ) → text ≡ old ++ all → between ≡ text ++ before → new ≡ between ++ piece
    → more ≡ all ++ (before ++ piece) → new ≡ old ++ more
piece_told old text between new all before piece more so first second is =
    second ∙ ap (λ t. t ++ piece) (first ∙ ap (λ t. t ++ before) so) ∙ append_assoc (old ++ all) before piece
    ∙ append_assoc old all (before ++ piece) ∙ ap (λ t. old ++ t) (sym is)

-- the numbers below n that pass, and one more
pub filter_more : (p : ℕ → Bool) (n : ℕ) → filter p (range_with_len 0 (n + 1)) ≡ filter p (range_with_len 0 n) ++ cond (p n) (n ∷ []) []
filter_more p n =
    ap (filter p) (sym (map-id (range_with_len 0 (n + 1)))) ∙ filter_of_map_range_with_len_more p (λ x. x) 0 n n (omega arith)
    ∙ ap (λ xs. filter p xs ++ cond (p n) (n ∷ []) []) (map-id (range_with_len 0 n))

-- a node that passes, and one that doesn't
pub passing_more : (p : ℕ → Bool) (n : ℕ) → p n ≡ true → filter p (range_with_len 0 (n + 1)) ≡ filter p (range_with_len 0 n) ++ n ∷ []
passing_more p n passes = filter_more p n ∙ ap (λ b. filter p (range_with_len 0 n) ++ cond b (n ∷ []) []) passes

pub failing_more : (p : ℕ → Bool) (n : ℕ) → p n ≡ false → filter p (range_with_len 0 (n + 1)) ≡ filter p (range_with_len 0 n)
failing_more p n fails =
    filter_more p n ∙ ap (λ b. filter p (range_with_len 0 n) ++ cond b (n ∷ []) []) fails ∙ append-nil (filter p (range_with_len 0 n))

pub passing_count : (p : ℕ → Bool) (n place : ℕ) → p n ≡ true → length (filter p (range_with_len 0 n)) ≡ place
    → length (filter p (range_with_len 0 (n + 1))) ≡ place + 1
passing_count p n place passes so =
    ap length (passing_more p n passes) ∙ length-append (filter p (range_with_len 0 n)) (n ∷ []) ∙ ap (λ k. k + 1) so

pub passing_told : (p : ℕ → Bool) (f : ℕ → List ℕ) (n place : ℕ) → p n ≡ true → length (filter p (range_with_len 0 n)) ≡ place
    → join_with_byte 44 (map f (filter p (range_with_len 0 (n + 1))))
    ≡ join_with_byte 44 (map f (filter p (range_with_len 0 n))) ++ (before_piece 44 place ++ f n)
passing_told p f n place passes so =
    let so_far = filter p (range_with_len 0 n) in
    ap (λ xs. join_with_byte 44 (map f xs)) (passing_more p n passes)
    ∙ ap (join_with_byte 44) (map-append f so_far (n ∷ []))
    ∙ join_more 44 (map f so_far) (f n)
    ∙ ap (λ k. join_with_byte 44 (map f so_far) ++ (before_piece 44 k ++ f n)) (length-map so_far f ∙ so)
