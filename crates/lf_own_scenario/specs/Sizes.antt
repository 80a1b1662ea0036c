-- How large the formula is that so many of some nodes show a fact, by how many nodes there are.
use Rattle.std.specs.Prelude.{ℕ, ◌-◌, ◌*◌, zero, suc}
use Rattle.lf_promises.specs.declared.promise.Many.{Many}
use Rattle.lf_promises.specs.declared.promise.Many.TheVariants as manys

-- how deep it is
abbrev pub depth_of_many : Many → ℕ → ℕ
depth_of_many many zero = 1
depth_of_many manys.Each (suc n) = 3
depth_of_many manys.No (suc n) = 3
depth_of_many manys.Some (suc n) = 2
depth_of_many manys.AtMostOne (suc zero) = 2
depth_of_many manys.AtMostOne (suc (suc n)) = 4

-- how many atoms it has
abbrev pub atoms_of_many : Many → ℕ → ℕ
atoms_of_many manys.Each n = n * 2
atoms_of_many manys.No n = n * 2
atoms_of_many manys.Some n = n
atoms_of_many manys.AtMostOne n = n * ((n - 1) * 2)
