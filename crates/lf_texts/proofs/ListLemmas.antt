-- Items in a row, read one by one.
use Rattle.std.proofs.Common.{◌≡◌, ℕ, suc, ◌+◌, ◌-◌, ◌<◌, ◌≤◌, List, [], ◌∷◌, ◌++◌, Option, Some, None, Ok, Err, length, zero, drop, get_or, drop-cons}
use Rattle.std.proofs.Common.{add-one, length-append, subst, refl, arith}
use Rattle.lf_grammar.specs.declared.sign.Sign.{Sign}
use Rattle.lf_grammar.specs.declared.token.Token.{Token}
use Rattle.lf_grammar.specs.Fronts.{behind_sign}
use Rattle.lf_texts.specs.declared.error.TextError.{TextError}
use Rattle.lf_texts.specs.declared.error.TextError.TheVariants as faults
use Rattle.lf_texts.specs.Lists.{listed, bracketed, opened, where_some}
use Rattle.lf_texts.specs.Reading.{Reading, ◌>>=◌, Read}

-- there is room for one more
room : (most k : ℕ) → k < most → most - k ≡ suc (most - (k + 1))
room most k h = omega arith

no_room : (most k : ℕ) → most ≤ k → most - k ≡ 0
no_room most k h = omega arith

-- an item, and the sign behind it
pub listed_more : {A : Type 0} (item : List A → List Token → Reading (Read A)) (sign : Sign) (most k : ℕ) (before : List A) (ts : List Token) (x : A)
    (rest next : List Token) → k < most → item before ts ≡ Ok (record { value = x; rest = rest }) → behind_sign sign rest ≡ Some next →
    listed item sign (most - k) before ts ≡ listed item sign (most - (k + 1)) (before ++ x ∷ []) next
unfolding listed
listed_more item sign most k before ts x rest next h e f = rw (room most k h, e, f) refl

-- the last item
pub listed_last : {A : Type 0} (item : List A → List Token → Reading (Read A)) (sign : Sign) (most k : ℕ) (before : List A) (ts : List Token) (x : A)
    (rest : List Token) → k < most → item before ts ≡ Ok (record { value = x; rest = rest }) → behind_sign sign rest ≡ None →
    listed item sign (most - k) before ts ≡ Ok (record { value = before ++ x ∷ []; rest = rest })
unfolding listed
listed_last item sign most k before ts x rest h e f = rw (room most k h, e, f) refl

-- an item that can't be read
pub listed_wrong : {A : Type 0} (item : List A → List Token → Reading (Read A)) (sign : Sign) (most k : ℕ) (before : List A) (ts : List Token)
    (fault : TextError) → k < most → item before ts ≡ Err fault → listed item sign (most - k) before ts ≡ Err fault
unfolding listed
listed_wrong item sign most k before ts fault h e = rw (room most k h, e) refl

-- one too many
pub listed_past : {A : Type 0} (item : List A → List Token → Reading (Read A)) (sign : Sign) (most k : ℕ) (before : List A) (ts : List Token) →
    most ≤ k → listed item sign (most - k) before ts ≡ Err faults.PastLimit
unfolding listed
listed_past item sign most k before ts h = rw (no_room most k h) refl

-- what should stand before an item doesn't
pub bracketed_shut : {A B : Type 0} (item : B → List A → List Token → Reading (Read A)) (d : B) (ys : List B) (i : ℕ) (before : List A) (ts : List Token)
    (fault : TextError) → i < length ys → opened before ts ≡ Err fault → bracketed item (drop i ys) before ts ≡ Err fault
bracketed_shut item d ys i before ts fault h e = rw (drop-cons ys i d, e) refl

-- an item in brackets that can't be read
pub bracketed_wrong : {A B : Type 0} (item : B → List A → List Token → Reading (Read A)) (d : B) (ys : List B) (i : ℕ) (before : List A) (ts inner : List Token)
    (fault : TextError) → i < length ys → opened before ts ≡ Ok inner → item (get_or ys i d) before inner ≡ Err fault →
    bracketed item (drop i ys) before ts ≡ Err fault
bracketed_wrong item d ys i before ts inner fault h e f = rw (drop-cons ys i d, e, f) refl

-- an item in brackets
pub bracketed_more : {A B : Type 0} (item : B → List A → List Token → Reading (Read A)) (d : B) (ys : List B) (i : ℕ) (before : List A) (ts inner : List Token)
    (x : A) (rest : List Token) → i < length ys → opened before ts ≡ Ok inner → item (get_or ys i d) before inner ≡ Ok (record { value = x; rest = rest }) →
    bracketed item (drop i ys) before ts ≡ bracketed item (drop (i + 1) ys) (before ++ x ∷ []) rest
bracketed_more item d ys i before ts inner x rest h e f = rw (add-one, drop-cons ys i d, e, f) refl

-- so many items are more than those before, and no more than there was room for
abbrev AreMore : {A : Type 0} → List A → ℕ → List A → Type 0
AreMore before room items = (length before < length items) × (length items ≤ length before + room)

last_more : {A : Type 0} (before : List A) (room : ℕ) (x : A) → AreMore before (suc room) (before ++ x ∷ [])
last_more before room x = let e = length-append before (x ∷ []) in (omega arith, omega arith)

next_more : {A : Type 0} (before : List A) (room : ℕ) (x : A) (items : List A) → AreMore (before ++ x ∷ []) room items → AreMore before (suc room) items
next_more before room x items (a, b) = let e = length-append before (x ∷ []) in (omega arith, omega arith)

end_more : {A : Type 0} (item : List A → List Token → Reading (Read A)) (sign : Sign) (room : ℕ) (before : List A) (found : Read (List A)) (x : Read A)
    (o : Option (List Token)) → ((next : List Token) → listed item sign room (before ++ x.value ∷ []) next ≡ Ok found →
    AreMore (before ++ x.value ∷ []) room found.value) →
    where_some o (Ok (record { value = before ++ x.value ∷ []; rest = x.rest })) (λ next. listed item sign room (before ++ x.value ∷ []) next) ≡ Ok found →
    AreMore before (suc room) found.value
end_more item sign room before found x None more e =
    let same : before ++ x.value ∷ [] ≡ found.value = cc in
    subst (AreMore before (suc room)) same (last_more before room x.value)
end_more item sign room before found x (Some next) more e = next_more before room x.value found.value (more next e)

item_more : {A : Type 0} (item : List A → List Token → Reading (Read A)) (sign : Sign) (room : ℕ) (before : List A) (found : Read (List A))
    (r : Reading (Read A)) → ((x : A) (next : List Token) → listed item sign room (before ++ x ∷ []) next ≡ Ok found →
    AreMore (before ++ x ∷ []) room found.value) →
    (r >>= λ x. where_some (behind_sign sign x.rest) (Ok (record { value = before ++ x.value ∷ []; rest = x.rest }))
    (λ next. listed item sign room (before ++ x.value ∷ []) next)) ≡ Ok found → AreMore before (suc room) found.value
item_more item sign room before found (Ok x) more e = end_more item sign room before found x (behind_sign sign x.rest) (more x.value) e
item_more item sign room before found (Err fault) more e = cc

pub listed_count : {A : Type 0} (item : List A → List Token → Reading (Read A)) (sign : Sign) (room : ℕ) (before : List A) (ts : List Token)
    (found : Read (List A)) → listed item sign room before ts ≡ Ok found →
    (length before < length found.value) × (length found.value ≤ length before + room)
unfolding listed
listed_count item sign zero before ts found e = cc
listed_count item sign (suc room) before ts found e =
    item_more item sign room before found (item before ts) (λ x next. listed_count item sign room (before ++ x ∷ []) next found) e

-- what holds of rows: a set for `grind`
pub ruleset rows = (listed_more, listed_last, listed_wrong, listed_past)
