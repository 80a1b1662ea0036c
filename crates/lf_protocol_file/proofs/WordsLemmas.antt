-- The words of a variable, one by one.
use Rattle.std.proofs.Common.{◌≡◌, ℕ, ◌+◌, ◌<◌, List, length, get_or, drop, refl, add-one}
use Rattle.std.proofs.lemmas.List.{drop_more}
use Rattle.lf_rules.specs.declared.expr.Leaf.TheVariants as leaves
use Rattle.lf_protocol_file.specs.declared.draft.Draft.{Draft}
use Rattle.lf_protocol_file.specs.Drafts.{with_name, number_after}
use Rattle.lf_protocol_file.specs.Variables.{with_words}

pub words-step : (of i n : ℕ) (ws : List (List ℕ)) (w name : List ℕ) (d e : Draft) → i < length ws → w ≡ get_or ws i w → name ≡ w → n ≡ number_after i
    → e ≡ with_name name (leaves.Word of n) d → with_words of i (drop i ws) d ≡ with_words of (i + 1) (drop (i + 1) ws) e
words-step of i n ws w name d e h is same number made = rw (drop_more ws i w h, ← is, made, same, number, add-one) refl
