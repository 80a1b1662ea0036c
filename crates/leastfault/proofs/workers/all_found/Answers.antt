use Rattle.std.proofs.Common.{◌≡◌, Some, refl, ap, ◌∙◌, string_bytes}
use Rattle.leastfault.specs.declared.answering.Wanted.TheVariants as wanted
use Rattle.leastfault.specs.declared.reply.Reply.{Reply}
use Rattle.leastfault.specs.declared.reply.Searched.{Searched}
use Rattle.leastfault.specs.declared.said.Said.TheVariants as said
use Rattle.leastfault.specs.Replies.{IsTreeFor}
use Rattle.leastfault.specs.Reports.{all_report}
use Rattle.leastfault.proofs.ReplyLemmas.{all_report_of, found_for}
use Rattle.leastfault.proofs.workers.all_found.Goals as goal

pub returns : goal.returns
returns c =
    let s = c.args.scenario.now in
    let h = c.requires.1 in
    let tree = c.args.tree in
    let text = c.in_ok-text.text in
    let within : c.budget.result ≡ s.setting.spec.budget = c.budget.ensures.value ∙ ap (λ x. x.spec.budget) c.setting.ensures in
    let hands : IsTreeFor s tree = record { search = h.searched.grown; accepted = h.searched.accepted } in
    let told = all_report_of s tree.answer c.args.sets.items c.budget.result (string_bytes text) c.search_status.result h.searched.fits
    h.searched.grown.answer h.least within (c.in_ok-text.ensures ∙ ap (all_report c.budget.result) c.as_slice.ensures.value) c.search_status.ensures in
    let found : Reply Searched = record {
      text = text;
      value = record { status = c.search_status.result; tree = Some tree };
      said = said.AllLeast c.args.sets;
    } in
    found_for wanted.AllLeast s s tree found refl hands refl told
