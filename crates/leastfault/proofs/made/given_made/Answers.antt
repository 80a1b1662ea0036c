use Rattle.std.proofs.Common.{Ok}
use Rattle.std.specs.Prelude.{None}
use Rattle.leastfault.specs.declared.reading.Texts.{Texts}
use Rattle.leastfault.specs.Checks.{IsGiven}
use Rattle.leastfault.proofs.EngineLemmas.{made_of_both}
use Rattle.leastfault.proofs.ReplyLemmas.{given_by_front, given_by_tree_front}
use Rattle.leastfault.proofs.made.given_made.Goals as goal

pub returns : goal.returns
returns g c =
    made_of_both g.R.Source.left g.R.Source.has_failed c.args.reader.now c.read_texts.new.reader g.S.Source.left g.S.Source.has_failed
    c.args.tree_reader.now c.read_texts.new.tree_reader (λ (t : Texts). t.scenario.items) (λ (t : Texts). t.tree.items) (IsGiven None)
    c.in_ok-texts.texts
    c.as_slice.result.now c.as_slice-2.result.now (Ok c.in_ok-texts_given.field-0) (given_by_front None)
    (given_by_tree_front None) c.in_ok-texts.ensures
    c.as_slice.ensures.value c.as_slice-2.ensures.value c.in_ok-texts_given.ensures
