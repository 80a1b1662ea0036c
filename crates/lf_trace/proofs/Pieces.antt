-- A set of faults, read piece by piece.
use Rattle.std.proofs.Common.{◌≡◌, ◌≢◌, ℕ, ◌+◌, ◌<◌, ◌≤◌, true, false, eqb, ne_eqb, List, [], ◌∷◌, length, map, Option, Some, None, IsSome, IfSome}
use Rattle.std.proofs.Common.{length-append, refl, sym, ap, subst, ◌∙◌, inl, inr, arith}
use Rattle.std.specs.Prelude.{◌⊎◌}
use Rattle.std.specs.List.{All, AllByRecursion, Contains, join_with_byte, slice_split}
use Rattle.std.specs.Iterator.{AlwaysYields}
use Rattle.std.proofs.lemmas.List.{nil_from_length}
use Rattle.std.proofs.lemmas.List.Elements.{All-weaker}
use Rattle.std.proofs.lemmas.List.Splits.{join_with_byte-slice_split, slice_split_at, slice_split_none}
use Rattle.lf_faults.specs.declared.fault.Parts.{Parts}
use Rattle.lf_faults.specs.declared.fault.Parts.TheVariants.{Omit, Crash, Pause}
use Rattle.lf_faults.specs.Faults.{IsAscending, IsFault, inserted}
use Rattle.lf_faults.specs.Texts.{spelling}
use Rattle.lf_list.proofs.Laws.{Contains-first, Contains-more, cases_in, none-in}
use Rattle.lf_faults.proofs.Laws.{cases_inserted, in-inserted, inserted-ascending, length-inserted, same_members, spelling_bytes, still-in}
use Rattle.lf_trace.specs.Namings.{Adds, AreDistinct, Names}

-- the set, read so far, becomes the target by the faults that the pieces still to come spell
pub record Completes (pieces : List (List ℕ)) (set target : List Parts) : Type 0 where
  pub more : List Parts
  pub faults : AllByRecursion IsFault more
  pub distinct : AreDistinct more
  pub new : (f : Parts) → Contains more f → ¬ (Contains set f)
  pub few : length more + length set ≤ 6
  pub spelled : pieces ≡ map spelling more
  pub ascending : IsAscending target
  pub same : (f : Parts) → (Contains target f → Contains more f ⊎ Contains set f) × (Contains more f ⊎ Contains set f → Contains target f)

-- what the words name is what the pieces still to come add to the set
pub record IsReading (words : List ℕ) (pieces : List (List ℕ)) (set : List Parts) : Type 0 where
  pub rest : (target : List Parts) → (Names words target → Completes pieces set target) × (Completes pieces set target → Names words target)
  pub ascending : IsAscending set
  pub few : length set ≤ 6

-- the texts of faults, joined by commas, are cut into these texts
no_cut : (f : Parts) → IsFault f → All (λ b. eqb b 44 ≡ false) (spelling f)
no_cut f h = All-weaker (λ b. (b ≢ 44) × (b ≢ 10)) (λ b. eqb b 44 ≡ false) (λ b plain. ne_eqb b 44 plain.0) (spelling f) (spelling_bytes f h)

split_joined : (f : Parts) (fs : List Parts) → AllByRecursion IsFault (f ∷ fs)
    → slice_split (λ b. eqb b 44) (join_with_byte 44 (map spelling (f ∷ fs))) ≡ map spelling (f ∷ fs)
split_joined f [] h = slice_split_none (λ b. eqb b 44) (spelling f) (no_cut f h.0)
split_joined f (g ∷ gs) h =
    slice_split_at (λ b. eqb b 44) (spelling f) 44 (join_with_byte 44 (map spelling (g ∷ gs))) (no_cut f h.0) refl
    ∙ ap (λ ps. spelling f ∷ ps) (split_joined g gs h.1)

split_named : (words : List ℕ) (fs : List Parts) → 0 < length words → AllByRecursion IsFault fs → words ≡ join_with_byte 44 (map spelling fs)
    → slice_split (λ b. eqb b 44) words ≡ map spelling fs
split_named words [] some h joined = absurd (omega (arith, some, ap length joined))
split_named words (f ∷ fs) some h joined = ap (slice_split (λ b. eqb b 44)) joined ∙ split_joined f fs h

-- at first all pieces are still to come
pub at_first : (words : List ℕ) → 0 < length words → IsReading words (slice_split (λ b. eqb b 44) words) []
at_first words some = record {
  rest = λ target. (
    (λ names. record {
      more = names.named;
      faults = names.list.faults;
      distinct = names.list.distinct;
      new = λ f there here. none-in f here;
      few = omega (arith, names.list.few);
      spelled = split_named words names.named some names.list.faults names.joined;
      ascending = names.ascending;
      same = λ f. ((λ h. inl ((names.same f).0 h)), (λ h. elim h [ inl there ↦ (names.same f).1 there | inr here ↦ absurd (none-in f here) ]));
    }),
    (λ rest. record {
      named = rest.more;
      list = record { faults = rest.faults; distinct = rest.distinct; few = omega (arith, rest.few) };
      joined = sym (join_with_byte-slice_split 44 words) ∙ ap (join_with_byte 44) rest.spelled;
      ascending = rest.ascending;
      same = λ f. ((λ h. elim ((rest.same f).0 h) [ inl there ↦ there | inr here ↦ absurd (none-in f here) ]), (λ h. (rest.same f).1 (inl h)));
    }),
  );
  ascending = tt;
  few = omega arith;
}

heads : (x y : List ℕ) (xs ys : List (List ℕ)) → x ∷ xs ≡ y ∷ ys → x ≡ y
heads x y xs ys e = cc

tails : (x y : List ℕ) (xs ys : List (List ℕ)) → x ∷ xs ≡ y ∷ ys → xs ≡ ys
tails x y xs ys e = cc

-- the first piece is the text of a fault that isn't in the set yet
pub record IsNew (piece : List ℕ) (pieces : List (List ℕ)) (set target : List Parts) : Type 0 where
  pub fault : Parts
  pub in_range : IsFault fault
  pub spelled : piece ≡ spelling fault
  pub new : ¬ (Contains set fault)
  pub few : length set < 6
  pub after : Completes pieces (inserted fault set) target

module _ (piece : List ℕ) (pieces : List (List ℕ)) (set target : List Parts) where
  taken : (rest : Completes (piece ∷ pieces) set target) (more : List Parts) → rest.more ≡ more → IsNew piece pieces set target
  taken rest [] is =
      let none : piece ∷ pieces ≡ [] = rest.spelled ∙ ap (map spelling) is in absurd (omega (arith, ap length none))
  taken rest (f ∷ fs) is =
      let spelled : piece ∷ pieces ≡ map spelling (f ∷ fs) = rest.spelled ∙ ap (map spelling) is in
      let faults : AllByRecursion IsFault (f ∷ fs) = subst (AllByRecursion IsFault) is rest.faults in
      let distinct : AreDistinct (f ∷ fs) = subst AreDistinct is rest.distinct in
      let new : (x : Parts) → Contains (f ∷ fs) x → ¬ (Contains set x) = λ x h. rest.new x (subst (λ m. Contains m x) (sym is) h) in
      let few : length (f ∷ fs) + length set ≤ 6 = subst (λ m. length m + length set ≤ 6) is rest.few in
      record {
        fault = f;
        in_range = faults.0;
        spelled = heads piece (spelling f) pieces (map spelling fs) spelled;
        new = new f (Contains-first f fs);
        few = omega (arith, few);
        after = record {
          more = fs;
          faults = faults.1;
          distinct = distinct.1;
          new = λ x there here. elim (cases_inserted f set x here) [
            | inl same ↦ distinct.0 (subst (Contains fs) (sym same) there)
            | inr before ↦ new x (Contains-more f fs x there) before
          ];
          few = omega (arith, few, length-inserted f set);
          spelled = tails piece (spelling f) pieces (map spelling fs) spelled;
          ascending = rest.ascending;
          same = λ x. (
            (λ h. elim ((rest.same x).0 h) [
              | inl there ↦ elim (cases_in f fs x (subst (λ m. Contains m x) is there)) [
                | inl same ↦ inr (subst (Contains (inserted f set)) same (in-inserted f set))
                | inr later ↦ inl later
              ]
              | inr here ↦ inr (still-in f set x here)
            ]),
            (λ h. elim h [
              | inl later ↦ (rest.same x).1 (inl (subst (λ m. Contains m x) (sym is) (Contains-more f fs x later)))
              | inr here ↦ elim (cases_inserted f set x here) [
                | inl same ↦ (rest.same x).1 (inl (subst (λ m. Contains m x) (sym is) (subst (Contains (f ∷ fs)) same (Contains-first f fs))))
                | inr before ↦ (rest.same x).1 (inr before)
              ]
            ]),
          );
        };
      }

  pub take_one : Completes (piece ∷ pieces) set target → IsNew piece pieces set target
  take_one rest = taken rest rest.more refl

  pub put_back : IsNew piece pieces set target → Completes (piece ∷ pieces) set target
  put_back new = let rest = new.after in let f = new.fault in record {
    more = f ∷ rest.more;
    faults = (new.in_range, rest.faults);
    distinct = ((λ there. rest.new f there (in-inserted f set)), rest.distinct);
    new = λ x there here. elim (cases_in f rest.more x there) [
      | inl same ↦ new.new (subst (Contains set) (sym same) here)
      | inr later ↦ rest.new x later (still-in f set x here)
    ];
    few = omega (arith, rest.few, length-inserted f set);
    spelled = ap (λ p. p ∷ pieces) new.spelled ∙ ap (λ ps. spelling f ∷ ps) rest.spelled;
    ascending = rest.ascending;
    same = λ x. (
      (λ h. elim ((rest.same x).0 h) [
        | inl later ↦ inl (Contains-more f rest.more x later)
        | inr here ↦ elim (cases_inserted f set x here) [
          | inl same ↦ inl (subst (Contains (f ∷ rest.more)) same (Contains-first f rest.more))
          | inr before ↦ inr before
        ]
      ]),
      (λ h. elim h [
        | inl there ↦ elim (cases_in f rest.more x there) [
          | inl same ↦ (rest.same x).1 (inr (subst (Contains (inserted f set)) same (in-inserted f set)))
          | inr later ↦ (rest.same x).1 (inl later)
        ]
        | inr here ↦ (rest.same x).1 (inr (still-in f set x here))
      ]),
    );
  }

-- one piece further, by the set with the fault that it spells
module _ (words piece : List ℕ) (pieces : List (List ℕ)) (set : List Parts) (reading : IsReading words (piece ∷ pieces) set)
    (larger : Option (List Parts)) (adds : (s : List Parts) → (larger ≡ Some s → Adds piece set s) × (Adds piece set s → larger ≡ Some s)) where
  first_of : (target : List Parts) → Names words target → IsNew piece pieces set target
  first_of target names = take_one piece pieces set target ((reading.rest target).0 names)

  found : (target : List Parts) (first : IsNew piece pieces set target) → larger ≡ Some (inserted first.fault set)
  found target first = (adds (inserted first.fault set)).1 (record {
    fault = first.fault;
    in_range = first.in_range;
    spelled = first.spelled;
    new = first.new;
    few = first.few;
    is = refl;
  })

  pub stops : larger ≡ None → (target : List Parts) → ¬ (Names words target)
  stops none target names =
      let first = first_of target names in
      let never : None ≡ Some (inserted first.fault set) = sym none ∙ found target first in
      cc

  pub further : (s : List Parts) → larger ≡ Some s → IsReading words pieces s
  further s is = let one = (adds s).0 is in record {
    rest = λ target. (
      (λ names.
          let first = first_of target names in
          let both : Some (inserted first.fault set) ≡ Some s = sym (found target first) ∙ is in
          let same : inserted first.fault set ≡ s = cc in
          subst (λ t. Completes pieces t target) same first.after),
      (λ rest. (reading.rest target).1 (put_back piece pieces set target (record {
        fault = one.fault;
        in_range = one.in_range;
        spelled = one.spelled;
        new = one.new;
        few = one.few;
        after = subst (λ t. Completes pieces t target) one.is rest;
      }))),
    );
    ascending = subst IsAscending (sym one.is) (inserted-ascending one.fault set one.new reading.ascending);
    few = omega (arith, one.few, length-inserted one.fault set, ap length one.is);
  }

-- the set with the fault that a piece spells
module _ (piece : List ℕ) (set : List Parts) (read : Option Parts)
    (reads : (f : Parts) → IsFault f → (read ≡ Some f → piece ≡ spelling f) × (piece ≡ spelling f → read ≡ Some f)) where
  same_fault : (f : Parts) → read ≡ Some f → (larger : List Parts) (a : Adds piece set larger) → a.fault ≡ f
  same_fault f is larger a = let both : Some a.fault ≡ Some f = sym ((reads a.fault a.in_range).1 a.spelled) ∙ is in cc

  pub adds_none : read ≡ None → (answer : Option (List Parts)) → answer ≡ None → (larger : List Parts)
      → (answer ≡ Some larger → Adds piece set larger) × (Adds piece set larger → answer ≡ Some larger)
  adds_none none answer is larger = (
    (λ some. let never : None ≡ Some larger = sym is ∙ some in cc),
    (λ a. let never : None ≡ Some a.fault = sym none ∙ (reads a.fault a.in_range).1 a.spelled in cc),
  )

  pub adds_one : (f : Parts) → IsFault f → read ≡ Some f → (made : Option (List Parts))
      → (IsSome made → (¬ (Contains set f)) × (length set < 6)) × ((¬ (Contains set f)) × (length set < 6) → IsSome made)
      → IfSome made (λ s. s ≡ inserted f set) → (larger : List Parts)
      → (made ≡ Some larger → Adds piece set larger) × (Adds piece set larger → made ≡ Some larger)
  adds_one f fault is None some value larger = (
    (λ e. cc),
    (λ a. let never : false ≡ true = some.1 (subst (λ g. ¬ (Contains set g)) (same_fault f is larger a) a.new, a.few) in cc),
  )
  adds_one f fault is (Some made) some value larger = (
    (λ e. let same : made ≡ larger = cc in record {
      fault = f;
      in_range = fault;
      spelled = (reads f fault).0 is;
      new = (some.0 refl).0;
      few = (some.0 refl).1;
      is = sym same ∙ value;
    }),
    (λ a. ap Some (value ∙ ap (λ g. inserted g set) (sym (same_fault f is larger a)) ∙ sym a.is)),
  )

-- at the end the set is what the words name
module _ (words : List ℕ) (set : List Parts) (reading : IsReading words [] set) (target : List Parts) where
  none_more : (more : List Parts) → [] ≡ map spelling more → more ≡ []
  none_more [] is = refl
  none_more (f ∷ fs) is = absurd (omega (arith, ap length is))

  pub at_end : Names words target → set ≡ target
  at_end names =
      let rest = (reading.rest target).0 names in
      let bare : rest.more ≡ [] = none_more rest.more rest.spelled in
      same_members set target reading.ascending rest.ascending (λ f here. (rest.same f).1 (inr here))
      (λ f h. elim ((rest.same f).0 h) [ inl there ↦ absurd (none-in f (subst (λ m. Contains m f) bare there)) | inr here ↦ here ])

  pub named : set ≡ target → Names words target
  named is = subst (Names words) is ((reading.rest set).1 (record {
    more = [];
    faults = tt;
    distinct = tt;
    new = λ f there. absurd (none-in f there);
    few = omega (arith, reading.few);
    spelled = refl;
    ascending = reading.ascending;
    same = λ f. ((λ h. inr h), (λ h. elim h [ inl there ↦ absurd (none-in f there) | inr here ↦ here ]));
  }))

-- the empty text names the empty set alone
text_not_empty : (f : Parts) → 0 < length (spelling f)
text_not_empty (Omit from to step) = omega arith
text_not_empty (Crash node step) = omega arith
text_not_empty (Pause node step) = omega arith

joined_not_empty : (f : Parts) (fs : List Parts) → 0 < length (join_with_byte 44 (map spelling (f ∷ fs)))
joined_not_empty f [] = text_not_empty f
joined_not_empty f (g ∷ gs) = omega (arith, text_not_empty f, length-append (spelling f) (44 ∷ join_with_byte 44 (map spelling (g ∷ gs))))

joined_nothing : (words : List ℕ) (fs : List Parts) → length words ≡ 0 → words ≡ join_with_byte 44 (map spelling fs) → fs ≡ []
joined_nothing words [] none is = refl
joined_nothing words (f ∷ fs) none is = absurd (omega (arith, none, ap length is, joined_not_empty f fs))

module _ (words : List ℕ) (none : length words ≡ 0) (target : List Parts) where
  pub named_empty : [] ≡ target → Names words target
  named_empty is = subst (Names words) is (record {
    named = [];
    list = record { faults = tt; distinct = tt; few = omega arith };
    joined = nil_from_length words none;
    ascending = tt;
    same = λ f. ((λ h. h), (λ h. h));
  })

  pub empty_named : Names words target → [] ≡ target
  empty_named names =
      let bare : names.named ≡ [] = joined_nothing words names.named none names.joined in
      same_members [] target tt names.ascending (λ f here. absurd (none-in f here))
      (λ f h. subst (λ m. Contains m f) bare ((names.same f).0 h))

-- what an iterator gives that yields these pieces
module _ {S A : Type 0} (steps : S → Option A → S → Type 0) (v : A → List ℕ) (s t : S) where
  pub yields_some : (x : A) (pieces : List (List ℕ)) → AlwaysYields steps v s pieces → steps s (Some x) t
      → (rest : List (List ℕ)) × (pieces ≡ v x ∷ rest) × AlwaysYields steps v t rest
  yields_some x [] h step = absurd (h x t step)
  yields_some x (p ∷ ps) h step = let first = h.1 x t step in (ps, ap (λ q. q ∷ ps) (sym first.0), first.1)

  pub yields_none : (pieces : List (List ℕ)) → AlwaysYields steps v s pieces → steps s None t → pieces ≡ []
  yields_none [] h step = refl
  yields_none (p ∷ ps) h step = absurd (h.0 t step)

-- what is answered, from which sets the words name
pub none_named : (words : List ℕ) (answer : Option (List Parts)) → answer ≡ None → ((set : List Parts) → ¬ (Names words set))
    → (set : List Parts) → (answer ≡ Some set → Names words set) × (Names words set → answer ≡ Some set)
none_named words answer is none set = (
  (λ some. let never : None ≡ Some set = sym is ∙ some in cc),
  (λ names. absurd (none set names)),
)

pub one_named : (words : List ℕ) (read : List Parts) → ((set : List Parts) → (read ≡ set → Names words set) × (Names words set → read ≡ set))
    → (set : List Parts) → (Some read ≡ Some set → Names words set) × (Names words set → Some read ≡ Some set)
one_named words read h set = (
  (λ some. let same : read ≡ set = cc in (h set).0 same),
  (λ names. ap Some ((h set).1 names)),
)
