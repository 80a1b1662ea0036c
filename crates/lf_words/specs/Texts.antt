-- What is told.
use Rattle.std.specs.Prelude.{List, [], ℕ, codes}
use Rattle.lf_words.specs.declared.unasked.Unasked.{Unasked}
use Rattle.lf_words.specs.declared.unasked.Unasked.TheVariants as unasked

-- nothing for want of memory
abbrev pub text_of : Unasked → List ℕ
text_of (unasked.Told text) = text.bytes.items
text_of (unasked.Wrong text) = text.bytes.items
text_of (unasked.Workers text) = text.bytes.items
text_of (unasked.Overwrites text) = text.bytes.items
text_of unasked.SharedInput = codes "refused usage\nFILE and TREE are both -: only one of them can be standard input\n"
text_of unasked.Memory = []
