-- How many cells a variable has.
use Rattle.std.specs.Prelude.{ℕ, ◌==◌, nat_le, if◌then◌else◌, List, codes, Ok, Err}
use Rattle.lf_rules.specs.declared.table.Cells.{Cells}
use Rattle.lf_rules.specs.declared.table.Cells.TheVariants as cells
use Rattle.lf_grammar.specs.declared.sign.Sign.TheVariants as signs
use Rattle.lf_grammar.specs.declared.token.Token.{Token}
use Rattle.lf_grammar.specs.Fronts.{behind_sign, behind_word}
use Rattle.lf_texts.specs.declared.error.TextError.TheVariants as faults
use Rattle.lf_texts.specs.Fronts.{first_number, past}
use Rattle.lf_texts.specs.Lists.{where_some}
use Rattle.lf_texts.specs.Reading.{Reading, ◌>>=◌, Read, checked}

-- the places from 1 to a number: one at least, and 32 at most
abbrev pub places_to : ℕ → Reading Cells
places_to n = if n == 0 then Err faults.Unfit else if nat_le n 32 then Ok (cells.UpTo n) else Err faults.PastLimit

-- 1 and .. and the last place
unfoldable pub first_numbered : List Token → Reading (Read Cells)
first_numbered ts = do
  first ← first_number ts
  fit ← checked (first.value == 1)
  inner ← past signs.To first.rest
  last ← first_number inner
  found ← places_to last.value
  Ok (record { value = found; rest = last.rest })

-- a place for each node, or numbered ones
unfoldable pub first_places : List Token → Reading (Read Cells)
first_places ts = where_some (behind_word (codes "nodes") ts) (first_numbered ts) (λ rest. Ok (record { value = cells.EachNode; rest = rest }))

unfoldable pub cells_inside : List Token → Reading (Read Cells)
cells_inside ts = do
  x ← first_places ts
  rest ← past signs.CloseSquare x.rest
  Ok (record { value = x.value; rest = rest })

-- those in square brackets, or one where no such bracket opens
unfoldable pub first_cells : List Token → Reading (Read Cells)
first_cells ts = where_some (behind_sign signs.OpenSquare ts) (Ok (record { value = cells.One; rest = ts })) (λ inner. cells_inside inner)
