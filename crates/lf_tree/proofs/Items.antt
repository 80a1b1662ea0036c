-- Reading a list item by item.
use Rattle.std.proofs.Common.{◌≡◌, ℕ, suc, ◌+◌, ◌<◌, ◌≤◌, List, [], ◌∷◌, ◌++◌, length, get_or, take, drop, Ok, Err, refl, sym, ap, ap₂, ◌∙◌, arith, drop-cons}
use Rattle.std.proofs.Common.{append_assoc}
use Rattle.std.proofs.Math.ListN.{set}
use Rattle.std.proofs.lemmas.List.{append-nil, drop_all, take_more_set}
use Rattle.serde_json.specs.Data.{Data, item}
use Rattle.serde_json.specs.View.{view, items_view}
use Rattle.serde_json.specs.declared.value.Value.{Value}
use Rattle.lf_tree.specs.declared.fault.TreeFault.{TreeFault}
use Rattle.lf_tree.specs.Reading.{Reading, ◌>>=◌, all_in, step_in, steps_in}

-- one more, and what was read before
joined : {A : Type 0} (done : List A) (x : A) (more : Reading (List A)) → ((more >>= (λ xs. Ok (x ∷ xs))) >>= (λ xs. Ok (done ++ xs)))
    ≡ (more >>= (λ xs. Ok ((done ++ x ∷ []) ++ xs)))
joined done x (Ok xs) = ap Ok (sym (append_assoc done (x ∷ []) xs))
joined done x (Err e) = refl

next_item : (vs : List Value) (i : ℕ) (v : Value) → i < length vs → v ≡ get_or vs i v → items_view (drop i vs) ≡ item (view v) (items_view (drop (i + 1) vs))
next_item vs i v l is =
    let e : suc i ≡ i + 1 = omega arith in
    ap items_view (drop-cons vs i v l) ∙ ap₂ item (ap view (sym is)) (ap (λ k. items_view (drop k vs)) e)

-- a loop that puts each number of a list at its place goes on
pub placed : (vs : List Value) (steps : List ℕ) (i x : ℕ) (v : Value) → i < length vs → i < length steps → v ≡ get_or vs i v → step_in (view v) ≡ Ok x
    → (whole : Reading (List ℕ)) → (steps_in (items_view (drop i vs)) >>= (λ rest. Ok (take i steps ++ rest))) ≡ whole
    → (steps_in (items_view (drop (i + 1) vs)) >>= (λ rest. Ok (take (i + 1) (set steps i x) ++ rest))) ≡ whole
placed vs steps i x v l room is read whole h =
    let more = steps_in (items_view (drop (i + 1) vs)) in
    let first : (steps_in (items_view (drop i vs)) >>= (λ rest. Ok (take i steps ++ rest)))
    ≡ ((more >>= (λ xs. Ok (x ∷ xs))) >>= (λ xs. Ok (take i steps ++ xs))) =
    ap (λ ds. steps_in ds >>= (λ rest. Ok (take i steps ++ rest))) (next_item vs i v l is)
    ∙ ap (λ r. (r >>= (λ y. more >>= (λ xs. Ok (y ∷ xs)))) >>= (λ xs. Ok (take i steps ++ xs))) read in
    ap (λ ys. more >>= (λ rest. Ok (ys ++ rest))) (take_more_set steps i x room) ∙ sym (joined (take i steps) x more) ∙ sym first ∙ h

-- a loop that reads each item of a list: what it has read, put before what is read of the rest
module _ {A : Type 0} (read : Data → Reading A) (vs : List Value) (before : List A) (i : ℕ) (whole : Reading (List A))
    (h : (all_in read (items_view (drop i vs)) >>= (λ rest. Ok (before ++ rest))) ≡ whole) where
  next_read : (v : Value) → i < length vs → v ≡ get_or vs i v
      → (read (view v) >>= (λ x. all_in read (items_view (drop (i + 1) vs)) >>= (λ xs. Ok (x ∷ xs))) >>= (λ xs. Ok (before ++ xs))) ≡ whole
  next_read v l is = sym (ap (λ ds. all_in read ds >>= (λ rest. Ok (before ++ rest))) (next_item vs i v l is)) ∙ h

  -- one item more
  pub read-more : (after : List A) (v : Value) (x : A) → i < length vs → v ≡ get_or vs i v → Ok x ≡ read (view v) → after ≡ before ++ x ∷ []
      → (all_in read (items_view (drop (i + 1) vs)) >>= (λ rest. Ok (after ++ rest))) ≡ whole
  read-more after v x l is one pushed =
      let more = all_in read (items_view (drop (i + 1) vs)) in
      ap (λ ys. more >>= (λ rest. Ok (ys ++ rest))) pushed ∙ sym (joined before x more)
      ∙ ap (λ r. (r >>= (λ y. more >>= (λ xs. Ok (y ∷ xs)))) >>= (λ xs. Ok (before ++ xs))) one ∙ next_read v l is

  -- an item that is wrong
  pub read-wrong : (v : Value) (e : TreeFault) → i < length vs → v ≡ get_or vs i v → Err e ≡ read (view v) → whole ≡ Err e
  read-wrong v e l is wrong =
      let more = all_in read (items_view (drop (i + 1) vs)) in
      sym (next_read v l is) ∙ ap (λ r. (r >>= (λ y. more >>= (λ xs. Ok (y ∷ xs)))) >>= (λ xs. Ok (before ++ xs))) (sym wrong)

  -- after the last
  pub read-last : length vs ≤ i → whole ≡ Ok before
  read-last far =
      sym h ∙ ap (λ ys. all_in read (items_view ys) >>= (λ rest. Ok (before ++ rest))) (drop_all i vs far) ∙ ap Ok (append-nil before)
