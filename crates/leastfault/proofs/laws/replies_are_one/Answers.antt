use Rattle.leastfault.specs.Replies.{RepliesAll, RepliesReport}
use Rattle.leastfault.proofs.CertificateLemmas.{certified_one}
use Rattle.leastfault.proofs.Uniqueness.{all_replies_one, answer_replies_agree, answer_replies_one, handed_one, run_replies_one}
use Rattle.leastfault.proofs.Uniqueness.{search_replies_one, statuses_agree, why_replies_one}
use Rattle.leastfault.proofs.WhyLemmas.{begins_as_search}
use Rattle.leastfault.proofs.laws.replies_are_one.Goals as goal

pub returns-clause-search : goal.returns-clause-search
returns-clause-search c known text one other m n a b = search_replies_one known text one other m n a b

pub returns-clause-all : goal.returns-clause-all
returns-clause-all c known text one other m n a b = all_replies_one c.orders_are_total.ensures.sets known text one other m n a b

pub returns-clause-answer : goal.returns-clause-answer
returns-clause-answer c known text one other m n a b = answer_replies_one known text one other m n a b

pub returns-clause-agree : goal.returns-clause-agree
returns-clause-agree c known text one other m n a b = answer_replies_agree known text one other m n a b

pub returns-clause-status : goal.returns-clause-status
returns-clause-status c known text one other m n a b = statuses_agree known text one other m n a b

pub returns-clause-tree : goal.returns-clause-tree
returns-clause-tree c known text status one other a b = handed_one known text status one other a b

pub returns-clause-run : goal.returns-clause-run
returns-clause-run c known rules text one other m n a b = run_replies_one c.args.faults.now c.names_are_one.ensures known rules text one other m n a b

pub returns-clause-why : goal.returns-clause-why
returns-clause-why c known text one other m n a b = why_replies_one known text one other m n a b

pub returns-clause-begins : goal.returns-clause-begins
returns-clause-begins c known text reply status told = begins_as_search known text reply status told

pub returns-clause-certified : goal.returns-clause-certified
returns-clause-certified c known text one other x y a b =
    certified_one known RepliesReport text (λ l r m n. search_replies_one known text l r m n) one other x y a b

pub returns-clause-certified_all : goal.returns-clause-certified_all
returns-clause-certified_all c known text one other x y a b =
    certified_one known RepliesAll text (λ l r m n. all_replies_one c.orders_are_total.ensures.sets known text l r m n) one other x y a b
