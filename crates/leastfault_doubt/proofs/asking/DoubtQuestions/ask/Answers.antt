use Rattle.std.proofs.Common.{rules, string_bytes, [], ◌∷◌, ap, ◌∙◌}
use Rattle.std.proofs.lemmas.Option.{slice_get-get_or}
use Rattle.lf_sweep.specs.Lines.{line_of}
use Rattle.leastfault_doubt.proofs.LineLemmas.{line-told}
use Rattle.leastfault_doubt.proofs.asking.DoubtQuestions.ask.Goals as goal

pub returns-clause-line : goal.returns-clause-line
returns-clause-line c =
    let there = slice_get-get_or c.args.self.now.questions.now c.args.number _ c.requires in (
      (string_bytes c.in_ok-reply.reply.text, c.in_ok-reply.reply.status),
      record { question = _; there = there; replied = c.in_ok-reply.ensures.reply },
      line-told c.args.self.now.questions.now c.args.number _ _ c.in_ok-bytes.bytes.items
          (string_bytes c.in_ok-reply.reply.text, c.in_ok-reply.reply.status) there c.in_ok-name.ensures
          (c.in_ok-bytes.ensures ∙ ap (λ text. line_of (string_bytes c.in_ok-name.field-0 ∷ []) text) c.as_str-2.ensures.value),
      (search rules),
    )
