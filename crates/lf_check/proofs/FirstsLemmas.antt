-- The first set of some and of others, in the order of sets.
use Rattle.std.proofs.Common.{◌≡◌, true, false, List, length, refl, sym, ap, ◌∙◌, subst, inl, inr}
use Rattle.std.specs.Prelude.{◌⊎◌, Option, None, Some}
use Rattle.std.specs.declared.cmp.Ordering.{Ordering}
use Rattle.std.specs.declared.cmp.Ordering.TheVariants.{Less, Equal, Greater}
use Rattle.std.specs.Ordering.{is_lt}
use Rattle.std.specs.Cmp.{IsTotalOrder}
use Rattle.std.proofs.lemmas.Cmp.{on_total, then_total, lists_total, nat_cmp_total}
use Rattle.std.proofs.lemmas.Bool.{both_ways, false_from_ne_true}
use Rattle.lf_faults.specs.declared.fault.Parts.{Parts}
use Rattle.lf_faults.specs.Faults.{step_of, rank_of, node_of, receiver_of, set_cmp, set_is_before}
use Rattle.lf_faults.proofs.Laws.{cases_sets, set_not_itself}
use Rattle.lf_check.specs.Walks.{Lowers}

set_total : IsTotalOrder set_cmp
set_total =
    then_total (on_total length nat_cmp_total) (lists_total (then_total (on_total step_of nat_cmp_total)
    (then_total (on_total rank_of nat_cmp_total) (then_total (on_total node_of nat_cmp_total) (on_total receiver_of nat_cmp_total)))))

Less-from : (o : Ordering) → is_lt o ≡ true → o ≡ Less
Less-from Less h = refl
Less-from Equal h = cc
Less-from Greater h = cc

set_trans : (f g h : List Parts) → set_is_before f g ≡ true → set_is_before g h ≡ true → set_is_before f h ≡ true
set_trans f g h a b = ap is_lt (set_total.trans f g h (Less-from (set_cmp f g) a) (Less-from (set_cmp g h) b))

pub not_itself : (s : List Parts) → set_is_before s s ≡ false
not_itself s = false_from_ne_true (set_is_before s s) (set_not_itself s)

-- h isn't before f, and f isn't before g: h isn't before g
pub not_before : (f g h : List Parts) → set_is_before f g ≡ false → set_is_before h f ≡ false → set_is_before h g ≡ false
not_before f g h a b = false_from_ne_true (set_is_before h g) (λ k. elim (cases_sets f g) [
  | inl before ↦ both_ways (set_is_before f g) a before
  | inr rest ↦ elim rest [
    | inl same ↦ both_ways (set_is_before h f) b (subst (λ x. set_is_before h x ≡ true) (sym same) k)
    | inr after ↦ both_ways (set_is_before h f) b (set_trans h g f k after)
  ]
])

some : {A : Type 0} (x y : A) → Some x ≡ Some y → x ≡ y
some x y e = cc

pub none_some : {A : Type 0} (x : A) → None ≡ Some x → ⊥
none_some x e = cc

-- nothing new
pub lowers-none : (P : List Parts → Type 0) (o : Option (List Parts)) → ((s : List Parts) → P s → ⊥) → Lowers P o o
lowers-none P None h = λ s k. elim k [ inl e ↦ none_some s e | inr p ↦ h s p ]
lowers-none P (Some x) h =
    (inl refl, λ s k. elim k [ inl e ↦ subst (λ y. set_is_before y x ≡ false) (some x s e) (not_itself x) | inr p ↦ absurd (h s p) ])

-- the same sets
pub lowers-same : (P Q : List Parts → Type 0) (o n : Option (List Parts)) → ((s : List Parts) → P s → Q s) → ((s : List Parts) → Q s → P s)
    → Lowers P o n → Lowers Q o n
lowers-same P Q o None to back l = λ s k. elim k [ inl e ↦ l s (inl e) | inr q ↦ l s (inr (back s q)) ]
lowers-same P Q o (Some x) to back l =
    (elim l.0 [ inl e ↦ inl e | inr p ↦ inr (to x p) ], λ s k. elim k [ inl e ↦ l.1 s (inl e) | inr q ↦ l.1 s (inr (back s q)) ])

-- some sets, and then others
pub lowers-both : (P Q : List Parts → Type 0) (a b c : Option (List Parts)) → Lowers P a b → Lowers Q b c → Lowers (λ s. P s ⊎ Q s) a c
lowers-both P Q a None None h j = λ s k. elim k [ inl e ↦ h s (inl e) | inr pq ↦ elim pq [ inl p ↦ h s (inr p) | inr q ↦ j s (inr q) ] ]
lowers-both P Q a None (Some x) h j = (
  elim j.0 [ inl e ↦ absurd (none_some x e) | inr q ↦ inr (inr q) ],
  λ s k. elim k [
    | inl e ↦ absurd (h s (inl e))
    | inr pq ↦ elim pq [ inl p ↦ absurd (h s (inr p)) | inr q ↦ j.1 s (inr q) ]
  ],
)
lowers-both P Q a (Some y) None h j = absurd (j y (inl refl))
lowers-both P Q a (Some y) (Some x) h j =
    let low : set_is_before y x ≡ false = j.1 y (inl refl) in (
      elim j.0 [
        | inl e ↦ subst (λ z. (a ≡ Some z) ⊎ (P z ⊎ Q z)) (some y x e) (elim h.0 [ inl e ↦ inl e | inr p ↦ inr (inl p) ])
        | inr q ↦ inr (inr q)
      ],
      λ s k. elim k [
        | inl e ↦ not_before y x s low (h.1 s (inl e))
        | inr pq ↦ elim pq [ inl p ↦ not_before y x s low (h.1 s (inr p)) | inr q ↦ j.1 s (inr q) ]
      ],
    )

-- one set
module _ (set : List Parts) where
  abbrev Own : List Parts → Type 0
  Own s = set ≡ s

  not_after : (x : List Parts) → set_is_before set x ≡ true → set_is_before x set ≡ false
  not_after x h = false_from_ne_true (set_is_before x set) (λ k. set_not_itself set (set_trans set x set h k))

  own_least : (s : List Parts) → set ≡ s → set_is_before s set ≡ false
  own_least s e = subst (λ y. set_is_before y set ≡ false) e (not_itself set)

  pub one-first : (o : Option (List Parts)) → o ≡ None → Lowers Own o (Some set)
  one-first o is = (inr refl, λ s k. elim k [ inl e ↦ absurd (none_some s (sym is ∙ e)) | inr e ↦ own_least s e ])

  pub one-before : (o : Option (List Parts)) (x : List Parts) → o ≡ Some x → set_is_before set x ≡ true → Lowers Own o (Some set)
  one-before o x is h = (
    inr refl,
    λ s k. elim k [
      | inl e ↦ subst (λ y. set_is_before y set ≡ false) (some x s (sym is ∙ e)) (not_after x h)
      | inr e ↦ own_least s e
    ],
  )

  pub one-behind : (o : Option (List Parts)) (x : List Parts) → o ≡ Some x → set_is_before set x ≡ false → Lowers Own o (Some x)
  one-behind o x is h = (
    inl is,
    λ s k. elim k [
      | inl e ↦ subst (λ y. set_is_before y x ≡ false) (some x s (sym is ∙ e)) (not_itself x)
      | inr e ↦ subst (λ y. set_is_before y x ≡ false) e h
    ],
  )
