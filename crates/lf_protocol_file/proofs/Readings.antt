-- What stood before, where something is read.
use Rattle.std.proofs.Common.{◌≡◌, Bool, true, false, cond, Option, Some, None, Result, Ok, Err, refl, ap}
use Rattle.lf_texts.specs.declared.error.TextError.{TextError}
use Rattle.lf_protocol_file.specs.declared.path.Path.{Path}
use Rattle.lf_protocol_file.specs.Readings.{Valued, ◌>>=◌, as_value, located, wanted, checked}

pub step-inv : {A B E : Type 0} {y : B} (r : Result A E) (next : A → Result B E) → (r >>= next) ≡ Ok y → (x : A) × (r ≡ Ok x) × (next x ≡ Ok y)
step-inv (Err e) next h = absurd cc
step-inv (Ok x) next h = (x, refl, h)

pub located-inv : {A : Type 0} (path : Path) (r : Valued A) (x : A) → located path r ≡ Ok x → r ≡ Ok x
located-inv path (Ok y) x h = let same : y ≡ x = cc in ap Ok same
located-inv path (Err e) x h = absurd cc

pub as_value-inv : {A : Type 0} (r : Result A TextError) (x : A) → as_value r ≡ Ok x → r ≡ Ok x
as_value-inv (Ok y) x h = let same : y ≡ x = cc in ap Ok same
as_value-inv (Err e) x h = absurd cc

pub checked-inv : {x : Unit {0}} (so : Bool) → checked so ≡ Ok x → so ≡ true
checked-inv true h = refl
checked-inv false h = absurd cc

pub wanted-inv : {A : Type 0} {x : A} (o : Option A) → wanted o ≡ Ok x → o ≡ Some x
wanted-inv None h = absurd cc
wanted-inv {x = x} (Some y) h = let same : y ≡ x = cc in ap Some same

-- what is let through
pub through : {A E : Type 0} (e : E) (so : Bool) (r : Result A E) (y : A) → cond so r (Err e) ≡ Ok y → (so ≡ true) × (r ≡ Ok y)
through e true r y h = (refl, h)
through e false r y h = absurd cc
