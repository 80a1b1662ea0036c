-- Orders and tests for equality that tell apart what differs, put together from those of the parts.
use Rattle.std.proofs.Common.{◌≡◌, Bool, true, false, List, [], ◌∷◌, refl, sym, ap, ◌∙◌, inl, inr}
use Rattle.std.specs.Prelude.{None, Some}
use Rattle.std.specs.Option.{option_cmp}
use Rattle.std.specs.declared.cmp.Ordering.{Ordering}
use Rattle.std.specs.declared.cmp.Ordering.TheVariants.{Less, Equal, Greater}
use Rattle.std.specs.Ordering.{ordering_then, bool_cmp, is_eq}
use Rattle.std.specs.Cmp.Lexicographic.{slice_cmp}
use Rattle.std.proofs.lemmas.Map.Lookups.{CmpEqualImpliesEq}
use denote.Struct.Field.{Field}
use denote.Enum.Bare.{Bare}
use denote.Enum.Declared.{Record}
use denote.Enum.Compared.{Each, by}

-- one order and then another: both are level
pub then_Equal : (a b : Ordering) → ordering_then a b ≡ Equal → (a ≡ Equal) × (b ≡ Equal)
then_Equal Less b h = cc
then_Equal Equal b h = (refl, h)
then_Equal Greater b h = cc

Equal-from : (a : Ordering) → is_eq a ≡ true → a ≡ Equal
Equal-from Less h = cc
Equal-from Equal h = refl
Equal-from Greater h = cc

pub exact_flags : CmpEqualImpliesEq bool_cmp
exact_flags false false h = refl
exact_flags false true h = cc
exact_flags true false h = cc
exact_flags true true h = refl

module _ {A : Type 0} (R : A → A → Ordering) (exact : CmpEqualImpliesEq R) where
  pub exact_lists : CmpEqualImpliesEq (slice_cmp R)
  exact_lists [] [] h = refl
  exact_lists [] (y ∷ ys) h = cc
  exact_lists (x ∷ xs) [] h = cc
  exact_lists (x ∷ xs) (y ∷ ys) h =
      let both = then_Equal (R x y) (slice_cmp R xs ys) h in
      let first = exact x y both.0 in let rest = exact_lists xs ys both.1 in
      λ i. first i ∷ rest i

  pub exact_options : CmpEqualImpliesEq (option_cmp R)
  exact_options None None h = refl
  exact_options None (Some y) h = cc
  exact_options (Some x) None h = cc
  exact_options (Some x) (Some y) h = ap Some (exact x y h)

  -- a test that agrees with the order
  pub same_by_order : (x y : A) (test : Bool) → test ≡ is_eq (R x y) → test ≡ true → x ≡ y
  same_by_order x y test agrees h = exact x y (Equal-from (R x y) (sym agrees ∙ h))

-- an enum, where the order of each variant's fields tells them apart
abbrev pub Exacts : (Fss : List (List Field)) → Each Ordering Fss → Type 0
Exacts [] each = Unit {0}
Exacts (Fs ∷ Fss) each = CmpEqualImpliesEq each.0 × Exacts Fss each.1

exact_choices : (Fss : List (List Field)) (each : Each Ordering Fss) → Exacts Fss each → CmpEqualImpliesEq (by Less Greater Fss each)
exact_choices [] each exact x y h = absurd x
exact_choices (Fs ∷ Fss) each exact (inl x) (inl y) h = ap inl (exact.0 x y h)
exact_choices (Fs ∷ Fss) each exact (inl x) (inr y) h = cc
exact_choices (Fs ∷ Fss) each exact (inr x) (inl y) h = cc
exact_choices (Fs ∷ Fss) each exact (inr x) (inr y) h = ap inr (exact_choices Fss each.1 exact.1 x y h)

-- and one whose variants have no fields
abbrev level : (Fss : List (List Field)) → Each Ordering Fss
level [] = tt
level (Fs ∷ Fss) = (λ x y. Equal, level Fss)

exact_level : (Fss : List (List Field)) → Bare Fss → Exacts Fss (level Fss)
exact_level [] bare = tt
exact_level ([] ∷ Fss) bare = (λ x y h. refl, exact_level Fss bare)
exact_level ((F ∷ Fs) ∷ Fss) bare = absurd bare

-- a variant without fields before others
abbrev pub bare : {Rest : Type 0} → Rest → CmpEqualImpliesEq {K = Unit {0}} (λ x y. Equal) × Rest
bare rest = (λ x y h. refl, rest)

module _ (N : Record) where
  pub exact_variants : (each : Each Ordering N.parts) → Exacts N.parts each → (x y : N.D)
      → by Less Greater N.parts each (N.as_values x) (N.as_values y) ≡ Equal → x ≡ y
  exact_variants each exact x y h =
      sym (N.eta x) ∙ ap N.make (exact_choices N.parts each exact (N.as_values x) (N.as_values y) h) ∙ N.eta y

  pub exact_bare : Bare N.parts → (x y : N.D) → by Less Greater N.parts (level N.parts) (N.as_values x) (N.as_values y) ≡ Equal → x ≡ y
  exact_bare bare = exact_variants (level N.parts) (exact_level N.parts bare)
