use Rattle.std.proofs.Common.{◌≡◌, true, [], Some, codes, pos, refl, sym, subst, ◌∙◌}
use Rattle.std.proofs.lemmas.Option.{same_Some}
use Rattle.toml.specs.Data.{Members, no_members, member, integer}
use Rattle.toml.specs.Parse.{parse_document}
use Rattle.toml.proofs.OnLiterals.{toml_on_literals}
use Rattle.lf_sweep.specs.Exact.{members_have_no_floats}
use Rattle.lf_sweep.specs.Texts.{IsScenario, with_words}
use Rattle.reply_examples.proofs.sweep_laws.text_twice.Goals as goal

known : parse_document (codes "nodes = 3\n") ≡ Some (member (codes "nodes") (integer (pos 3)) no_members)
unfolding toml_on_literals
known = refl

floatless : (ms : Members) → IsScenario (codes "nodes = 3\n") ms → members_have_no_floats (with_words [] [] ms) ≡ true
floatless ms is = subst (λ x. members_have_no_floats x ≡ true) (same_Some _ ms (sym known ∙ is.1)) refl

pub returns : goal.returns
returns c =
    c.texts_are_one.ensures c.args.scenario.now [] [] _ _ (λ ms is. floatless ms (subst (λ text. IsScenario text ms) c.requires is)) c.in_ok-one.ensures
    c.in_ok-other.ensures
