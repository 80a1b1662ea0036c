-- The walk over the sets with at most one fault.
use Rattle.std.proofs.Common.{◌≡◌, ◌<◌, ◌≤◌, Bool, true, false, List, [], ◌∷◌, ◌++◌, length, refl, sym, subst, inl, inr, arith}
use Rattle.std.specs.Prelude.{◌⊎◌, Some, slice_get}
use Rattle.std.specs.Cmp.{IsTotalOrder}
use Rattle.std.specs.List.{Contains}
use Rattle.std.proofs.lemmas.Bool.{both_ways}
use Rattle.std.proofs.lemmas.List.Elements.{Contains-append_left, Contains-append_right, Contains-append_cases}
use Rattle.lf_faults.specs.declared.fault.Parts.{Parts}
use Rattle.lf_faults.specs.declared.spec.Bounds.{Bounds}
use Rattle.lf_faults.specs.Allowed.{AreAscending, IsLast, IsNext}
use Rattle.lf_faults.specs.Faults.{set_cmp, set_is_before}
use Rattle.lf_faults.proofs.Laws.{before-fewer, cases_sets, empty_allowed, fewer-before}
use Rattle.lf_list.proofs.Laws.{Contains-first, cases_in, none-in}
use Rattle.lf_stakes.specs.Singles.{AreSingles, IsLastSingle, IsSingle}
use Rattle.lf_stakes.proofs.OrdersLemmas.{ascending_more, lists_one, set_later}

-- the set comes before this one, or is it
abbrev pub IsUpTo : List Parts → List Parts → Type 0
IsUpTo here s = (set_is_before s here ≡ true) ⊎ (s ≡ here)

-- the empty set is the first
up_to_empty : (s : List Parts) → IsUpTo [] s → s ≡ []
up_to_empty s (inr same) = same
up_to_empty [] (inl before) = refl
up_to_empty (f ∷ fs) (inl before) = let few = before-fewer (f ∷ fs) [] before in absurd (omega (arith, few))

-- the first of a list stays where more is put behind it
first_more : (sets more : List (List Parts)) (s : List Parts) → slice_get sets 0 ≡ Some s → slice_get (sets ++ more) 0 ≡ Some s
first_more [] more s is = cc
first_more (x ∷ xs) more s is = is

module _ (b : Bounds) where
  -- the sets are those up to this one
  pub record IsListedTo (here : List Parts) (sets : List (List Parts)) : Type 0 where
    pub single : IsSingle b here
    pub complete : (s : List Parts) → IsSingle b s → IsUpTo here s → Contains sets s
    pub sound : (s : List Parts) → Contains sets s → IsSingle b s × IsUpTo here s
    pub ascending : AreAscending sets
    pub first : slice_get sets 0 ≡ Some []

  pub at_start : IsListedTo [] ([] ∷ [])
  at_start = record {
    single = record { allowed = empty_allowed b; few = omega arith };
    complete = λ s single up. subst (Contains ([] ∷ [])) (sym (up_to_empty s up)) (Contains-first [] []);
    sound = λ s has. elim (cases_in [] [] s has) [
      | inl same ↦ subst (λ t. IsSingle b t × IsUpTo [] t) same (record { allowed = empty_allowed b; few = omega arith }, inr refl)
      | inr never ↦ absurd (none-in s never)
    ];
    ascending = (tt, tt);
    first = refl;
  }

  -- one set further
  pub one_further : IsTotalOrder set_cmp → (here next : List Parts) (sets : List (List Parts)) → IsListedTo here sets → IsNext b here next
      → length next ≤ 1 → IsListedTo next (sets ++ next ∷ [])
  one_further total here next sets so_far step few = record {
    single = single_next;
    complete = λ s single up. reached s single up;
    sound = λ s has. elim (Contains-append_cases sets (next ∷ []) s has) [
      | inl early ↦ let is = so_far.sound s early in (is.0, inl (earlier s is.1))
      | inr last ↦ elim (cases_in next [] s last) [
        | inl same ↦ subst (λ t. IsSingle b t × IsUpTo next t) same (single_next, inr refl)
        | inr never ↦ absurd (none-in s never)
      ]
    ];
    ascending = ascending_more sets next so_far.ascending (λ s has. earlier s (so_far.sound s has).1);
    first = first_more sets (next ∷ []) [] so_far.first;
  }
    where
      single_next : IsSingle b next
      single_next = record { allowed = step.allowed; few = few }

      earlier : (s : List Parts) → IsUpTo here s → set_is_before s next ≡ true
      earlier s (inl before) = set_later total s here next before step.after
      earlier s (inr same) = subst (λ x. set_is_before x next ≡ true) (sym same) step.after

      reached : (s : List Parts) → IsSingle b s → IsUpTo next s → Contains (sets ++ next ∷ []) s
      reached s single (inr same) = Contains-append_right sets (next ∷ []) s (subst (Contains (next ∷ [])) (sym same) (Contains-first next []))
      reached s single (inl before) = elim (cases_sets s here) [
        | inl early ↦ Contains-append_left sets (next ∷ []) s (so_far.complete s single (inl early))
        | inr (inl same) ↦ Contains-append_left sets (next ∷ []) s (so_far.complete s single (inr same))
        | inr (inr after) ↦ absurd (both_ways (set_is_before s next) (step.least s single.allowed after) before)
      ]

  -- where none is left
  pub all_listed : (here : List Parts) (sets : List (List Parts)) → IsListedTo here sets → IsLastSingle b here → AreSingles b sets
  all_listed here sets so_far last = record {
    complete = λ s single. elim (cases_sets s here) [
      | inl early ↦ so_far.complete s single (inl early)
      | inr (inl same) ↦ so_far.complete s single (inr same)
      | inr (inr after) ↦ absurd (both_ways (set_is_before here s) (last s single) after)
    ];
    sound = λ s has. (so_far.sound s has).0;
    ascending = so_far.ascending;
    first = so_far.first;
  }

  -- none is left at the last allowed set,
  pub last_single : (here : List Parts) → IsLast b here → IsLastSingle b here
  last_single here last = λ other single. last other single.allowed

  -- and where the next has more faults
  pub larger_next : (here next : List Parts) → IsNext b here next → 1 < length next → IsLastSingle b here
  larger_next here next step more = λ other single. before_or_not other single (set_is_before here other) refl
    where
      before_or_not : (other : List Parts) → IsSingle b other → (t : Bool) → set_is_before here other ≡ t → t ≡ false
      before_or_not other single false is = refl
      before_or_not other single true is =
          let fewer : length other < length next = omega (arith, more, single.few) in
          absurd (both_ways (set_is_before other next) (step.least other single.allowed is) (fewer-before other next fewer))

  -- two such lists are one
  pub singles_one : IsTotalOrder set_cmp → (xs ys : List (List Parts)) → AreSingles b xs → AreSingles b ys → xs ≡ ys
  singles_one total xs ys one other =
      lists_one total xs ys one.ascending other.ascending (λ s has. other.complete s (one.sound s has)) (λ s has. one.complete s (other.sound s has))
