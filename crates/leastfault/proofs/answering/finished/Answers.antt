use Rattle.std.proofs.Common.{refl, Some}
use Rattle.lf_book.specs.Books.{scenario_of}
use Rattle.leastfault.specs.declared.reply.Reply.{Reply}
use Rattle.leastfault.specs.declared.reply.Searched.{Searched}
use Rattle.leastfault.specs.Replies.{IsTreeFor}
use Rattle.leastfault.proofs.ReplyLemmas.{found_for}
use Rattle.leastfault.proofs.answering.finished.Goals as goal

pub returns : goal.returns
returns c =
    let s = scenario_of c.args.book in
    let tree : IsTreeFor s c.in-Ok.tree = record { search = c.in-Ok.ensures.tree; accepted = c.in-Ok.ensures.accepted } in
    let found : Reply Searched = record {
      text = c.in_ok-text.field-0.text;
      value = record { status = c.in_ok-text.field-0.value; tree = Some c.in-Ok.tree };
      said = c.in_ok-text.field-0.said;
    } in
    found_for c.args.wanted s s c.in-Ok.tree found refl tree refl c.in_ok-text.ensures
