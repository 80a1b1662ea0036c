-- What may not vary together.
use Rattle.std.specs.Prelude.{◌≡◌, ◌<◌, ℕ, ◌==◌, ◌&&◌, ◌||◌, Bool, true, false, nat_lt, if◌then◌else◌}
use Rattle.std.specs.Prelude.{List, [], ◌∷◌, codes, length, take, slice_index_or, string_bytes}
use Rattle.std.specs.List.{list_any}
use Rattle.std.specs.Str.{bytes_eq}
use Rattle.lf_sweep.specs.declared.error.PlanError.{PlanError}
use Rattle.lf_sweep.specs.declared.error.PlanError.TheVariants as faults
use Rattle.lf_sweep.specs.declared.varied.Place.{Place}
use Rattle.lf_sweep.specs.declared.varied.Place.TheVariants as places
use Rattle.lf_sweep.specs.declared.varied.Varied.{Varied}
use Rattle.lf_sweep.specs.Combinations.{combinations}
use Rattle.lf_sweep.specs.Limits.{most_combinations}

-- two keys, or two constants, with one name
abbrev pub are_same : Place → Place → Bool
are_same (places.Key a) (places.Key b) = bytes_eq (string_bytes a) (string_bytes b)
are_same (places.Key a) (places.Constant b) = false
are_same (places.Constant a) (places.Key b) = false
are_same (places.Constant a) (places.Constant b) = bytes_eq (string_bytes a) (string_bytes b)

-- the second name is the first, a point (46) and more
unfoldable pub is_under : List ℕ → List ℕ → Bool
is_under outer inner =
    nat_lt (length outer) (length inner) && (bytes_eq (take (length outer) inner) outer && slice_index_or inner (length outer) 0 == 46)

-- the second stands within the first, as each constant does within `given`
abbrev pub is_within : Place → Place → Bool
is_within (places.Key a) (places.Key b) = is_under (string_bytes a) (string_bytes b)
is_within (places.Key a) (places.Constant b) = bytes_eq (string_bytes a) (codes "given")
is_within (places.Constant a) (places.Key b) = false
is_within (places.Constant a) (places.Constant b) = is_under (string_bytes a) (string_bytes b)

-- they are one, or else one of them stands within the other
abbrev pub clash : Bool → Place → Place → Bool
clash nested a b = if nested then is_within a b || is_within b a else are_same a b

-- two of those that vary do
abbrev pub some_clash : Bool → List Varied → Bool
some_clash nested [] = false
some_clash nested (v ∷ vs) = list_any (λ (w : Varied). clash nested v.place w.place) vs || some_clash nested vs

-- no two of them do
pub record AreApart (vs : List Varied) : Type 0 where
  pub once : some_clash false vs ≡ false
  pub beside : some_clash true vs ≡ false

-- why some values can't be combined, the first of these that is so
abbrev pub HaveNoPlan : List Varied → PlanError → Type 0
HaveNoPlan vs faults.Twice = some_clash false vs ≡ true
HaveNoPlan vs faults.Within = (some_clash false vs ≡ false) × (some_clash true vs ≡ true)
HaveNoPlan vs faults.TooMany = AreApart vs × (most_combinations < combinations vs)
