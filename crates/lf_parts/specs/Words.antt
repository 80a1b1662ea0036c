-- The words of a part.
use Rattle.std.specs.Prelude.{ℕ, List, ◌++◌, codes}
use Rattle.std.specs.Fmt.{decimal}
use Rattle.lf_parts.specs.declared.part.Part.{Part}
use Rattle.lf_parts.specs.declared.part.Part.TheVariants as parts

abbrev pub part_words : Part → List ℕ
part_words parts.Each = codes "each"
part_words parts.No = codes "no"
part_words parts.Some = codes "some"
part_words parts.AtMostOne = codes "at most one"
part_words (parts.At n) = codes "node " ++ decimal n
part_words (parts.One number) = codes "one value"
