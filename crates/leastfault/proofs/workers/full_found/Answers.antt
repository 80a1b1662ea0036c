use Rattle.std.proofs.Common.{◌≡◌, ℕ, ◌+◌, None, Some, ap, sym, subst, string_bytes, ◌∙◌}
use Rattle.lf_book.specs.Ends.{IsFull}
use Rattle.lf_book.specs.Books.{state_of}
use Rattle.lf_book.specs.declared.book.Book.{Book}
use Rattle.lf_book.proofs.Laws.{count_one}
use Rattle.lf_marks.specs.Counting.{IsCount}
use Rattle.lf_marks.specs.Steps as mark
use Rattle.lf_pool.specs.Solved.{IsFullBook}
use Rattle.lf_outcome.specs.declared.scenario.Scenario.{Scenario}
use Rattle.leastfault.specs.declared.answering.Wanted.{Wanted}
use Rattle.leastfault.specs.declared.answering.Wanted.TheVariants as wanted
use Rattle.leastfault.specs.declared.reply.Reply.{Reply}
use Rattle.leastfault.specs.declared.reply.Searched.{Searched}
use Rattle.leastfault.specs.Reports.{full_line}
use Rattle.leastfault.specs.Searches.{IsFoundFor}
use Rattle.leastfault.proofs.ReplyLemmas.{full_for}
use Rattle.leastfault.proofs.workers.full_found.Goals as goal

-- a full book replies by its level and by how many sets wait
full_reply : (wanted : Wanted) (s : Scenario) (book : Book) (count waiting level : ℕ) (found : Reply Searched) → IsFullBook s count book
    → IsCount (λ p. (state_of book).marks p ≡ Some mark.Waiting) waiting → level ≡ (state_of book).level
    → string_bytes found.text ≡ full_line (level + 1) waiting → found.value.status ≡ 2 → found.value.tree ≡ None → IsFoundFor wanted s found
full_reply wanted s book count waiting level found h counted is told two none =
    let same : count ≡ waiting = count_one (λ p. (state_of book).marks p ≡ Some mark.Waiting) count waiting h.full.waiting counted in
    let first : IsFull s (level + 1) count = subst (λ l. IsFull s (l + 1) count) (sym is) h.first in
    full_for wanted s (level + 1) waiting found (subst (λ n. IsFull s (level + 1) n) same first) told two none

pub returns-clause-answer : goal.returns-clause-answer
returns-clause-answer c =
    full_reply wanted.Answer c.args.scenario.now c.args.book.now c.requires.0 c.counts.result.waiting c.level.result c.without_tree.result c.requires.1
    c.counts.ensures.waiting c.level.ensures.value (ap string_bytes c.without_tree.ensures.text ∙ c.in_ok-told.ensures.0)
    (c.without_tree.ensures.status ∙ c.in_ok-told.ensures.1) c.without_tree.ensures.tree

pub returns-clause-all : goal.returns-clause-all
returns-clause-all c =
    full_reply wanted.AllLeast c.args.scenario.now c.args.book.now c.requires.0 c.counts.result.waiting c.level.result c.without_tree.result c.requires.1
    c.counts.ensures.waiting c.level.ensures.value (ap string_bytes c.without_tree.ensures.text ∙ c.in_ok-told.ensures.0)
    (c.without_tree.ensures.status ∙ c.in_ok-told.ensures.1) c.without_tree.ensures.tree
