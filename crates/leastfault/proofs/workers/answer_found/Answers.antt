use Rattle.std.proofs.Common.{◌≡◌, Some, refl, ap, ◌∙◌, string_bytes}
use Rattle.leastfault.specs.declared.answering.Wanted.TheVariants as wanted
use Rattle.leastfault.specs.declared.reply.Reply.{Reply}
use Rattle.leastfault.specs.declared.reply.Searched.{Searched}
use Rattle.leastfault.specs.declared.said.Said.TheVariants as said
use Rattle.leastfault.specs.Replies.{IsTreeFor}
use Rattle.leastfault.proofs.ReplyLemmas.{found_for, report_of}
use Rattle.leastfault.proofs.workers.answer_found.Goals as goal

pub returns : goal.returns
returns c =
    let s = c.args.scenario.now in
    let h = c.requires.1 in
    let tree = c.args.tree in
    let text = c.in_ok-text.text in
    let within : c.budget.result ≡ s.setting.spec.budget = c.budget.ensures.value ∙ ap (λ x. x.spec.budget) c.setting.ensures in
    let hands : IsTreeFor s tree = record { search = h.searched.grown; accepted = h.searched.accepted } in
    let told = report_of s c.args.set.now c.budget.result (string_bytes text) c.search_status.result h.searched.fits h.answer within
    c.in_ok-text.ensures c.search_status.ensures in
    let found : Reply Searched = record {
      text = text;
      value = record { status = c.search_status.result; tree = Some tree };
      said = said.Answer c.args.set.now;
    } in
    found_for wanted.Answer s s tree found refl hands refl told
