-- The reply to a text, and to the bytes at its front.
use Rattle.std.proofs.Common.{◌≡◌, ℕ, ◌+◌, ◌<◌, ◌≤◌, List, length, not, take, refl, sym, ap, ◌∙◌, subst, inl, inr, arith, string_bytes}
use Rattle.std.specs.Prelude.{◌⊎◌, Bool, Option, None, Some, Result, Ok, Err, slice_get}
use Rattle.std.proofs.lemmas.List.{length-take}
use Rattle.lf_book.specs.Ends.{IsFull, IsNeverFull}
use Rattle.lf_faults.specs.declared.fault.Parts.{Parts}
use Rattle.lf_faults.specs.Allowed.{IsAllowed}
use Rattle.lf_faults.specs.declared.spec.Bounds.{Bounds}
use Rattle.lf_faults.proofs.Laws.{first_is_one}
use Rattle.lf_protocol_file.specs.declared.error.ProtocolError.{ProtocolError}
use Rattle.lf_protocol_file.specs.Files as files
use Rattle.lf_pool.specs.declared.error.PoolError.{PoolError}
use Rattle.lf_pool.specs.declared.error.PoolError.TheVariants as errors
use Rattle.lf_pool.specs.Solved.{IsRefused}
use Rattle.lf_scenario.specs.declared.error.ScenarioError.{ScenarioError}
use Rattle.lf_scenario.specs.Limits.{longest}
use Rattle.lf_outcome.specs.declared.scenario.Scenario.{Scenario}
use Rattle.lf_protocol_file.specs.declared.declared.Declared.{Declared}
use Rattle.lf_sim.specs.Settings.{world_of}
use Rattle.lf_trace.specs.Namings.{Names}
use Rattle.lf_check.specs.declared.verdict.Verdict.{Verdict}
use Rattle.lf_check.specs.declared.verdict.Verdict.TheVariants as verdicts
use Rattle.lf_check.specs.Verdicts.{IsVerdict}
use Rattle.lf_tree.specs.declared.tree.Tree.{Tree}
use Rattle.lf_tree.specs.declared.fault.TreeFault.{TreeFault}
use Rattle.lf_tree.specs.declared.fault.TreeFault.TheVariants as tree
use Rattle.lf_tree.specs.FirstFaults.{IsFirstFault}
use Rattle.lf_tree.specs.Texts.{most_bytes}
use Rattle.leastfault.specs.declared.checking.Given.{Given}
use Rattle.leastfault.specs.declared.checking.Given.TheVariants as given
use Rattle.leastfault.specs.declared.fault.BytesFault.{BytesFault}
use Rattle.leastfault.specs.declared.fault.BytesFault.TheVariants as faults
use Rattle.leastfault.specs.declared.reply.Certified.{Certified}
use Rattle.leastfault.specs.declared.reply.Reply.{Reply}
use Rattle.leastfault.specs.declared.reply.Searched.{Searched}
use Rattle.leastfault.specs.declared.answering.Wanted.{Wanted}
use Rattle.leastfault.specs.declared.answering.Wanted.TheVariants as wanted
use Rattle.leastfault.specs.Answers.{AreLeastSets, IsAnswer, reaches_in}
use Rattle.leastfault.specs.Checks.{IsGiven}
use Rattle.leastfault.specs.Commands.{IsCauseAt, IsCertified, IsCertifiedBy, IsUncertified}
use Rattle.leastfault.specs.Known.{IsRefusedOf, IsTextOf}
use Rattle.leastfault.specs.Protocols.{IsProtocolReply}
use Rattle.leastfault.specs.Searches.{IsEndFor, IsEndIn, IsFoundFor, fault_of}
use Rattle.leastfault.specs.Reports.{all_report, check_status, full_line, judgement, no_set_line, refusal, report, run_status, search_status}
use Rattle.leastfault.specs.Replies.{IsAnswerReply, IsCheckReply, IsPoolCause, IsReplyWith, IsRunReply}
use Rattle.leastfault.specs.Replies.{IsSharedWith, MayWork, RepliesCheck, RepliesRefusal, told_trace}
use Rattle.leastfault.specs.Replies.{HandsOut, IsSearchedWith, IsTreeFor, RepliesAll, RepliesAnswer, RepliesFull, RepliesReport, RepliesVerdict, reports_of}
use Rattle.leastfault.proofs.KnownLaws.{front_is_no_text, refused_by_front}
use Rattle.leastfault.proofs.LeastSets.{first_of_least}

-- the reply of a search, from what it came to for the scenario
replied : (known : Option Declared) (Reports : Scenario → List ℕ → ℕ → Type 0) (text reply : List ℕ) (found : Searched) (s : Scenario) → IsTextOf known s text
    → (RepliesFull s reply found.status × (found.tree ≡ None))
    ⊎ (Reports s reply found.status × ((t : Tree) × (found.tree ≡ Some t) × IsTreeFor s t × (found.status ≡ search_status t.answer)))
    → IsSearchedWith known Reports text reply found
replied known Reports text reply found s reads (inl full) =
    (inr (s, reads, inl full.0), subst (λ t. HandsOut known text t found.status) (sym full.1) full.0.4)
replied known Reports text reply found s reads (inr report) = (
  inr (s, reads, inr report.0),
  subst (λ t. HandsOut known text t found.status) (sym report.1.1) (s, reads, report.1.2, report.1.3),
)

-- and of a text that is refused
pub search_refused : (known : Option Declared) (wanted : Wanted) (text : List ℕ) (e : ScenarioError) (found : Reply Searched) → IsRefusedOf known text e
    → string_bytes found.text ≡ refusal e → found.value.status ≡ 2 → found.value.tree ≡ None
    → IsSearchedWith known (reports_of wanted) text (string_bytes found.text) found.value
search_refused known wanted text e found why is ends none =
    (inl (e, why, is, ends), subst (λ t. HandsOut known text t found.value.status) (sym none) ends)

pub search_found : (known : Option Declared) (wanted : Wanted) (text : List ℕ) (s : Scenario) (found : Reply Searched) → IsTextOf known s text
    → IsFoundFor wanted s found
    → IsSearchedWith known (reports_of wanted) text (string_bytes found.text) found.value
search_found known wanted text s found reads is = replied known (reports_of wanted) text (string_bytes found.text) found.value s reads is

-- an error of so many workers is a want of memory, or a cause of theirs
pub error_ends : (wanted : Wanted) (workers : ℕ) (s : Scenario) (e : PoolError) → IsRefused s workers e → IsEndFor wanted workers s (Err (fault_of e))
error_ends wanted workers s errors.Workers why = inl (refl, why)
error_ends wanted workers s errors.Memory why = tt
error_ends wanted workers s (errors.OtherScenario book) why = absurd why
error_ends wanted workers s (errors.Spent book) why = inr (refl, why.0, (book, why.1))

-- also where so many workers search
pub shared_found : (known : Option Declared) (wanted : Wanted) (workers : ℕ) (text : List ℕ) (s : Scenario) (result : Result (Reply Searched) BytesFault)
    → IsTextOf known s text → IsEndFor wanted workers s result → IsEndIn known wanted workers text result
shared_found known wanted workers text s (Ok found) reads is = (search_found known wanted text s found reads is.0, inl is.1)
shared_found known wanted workers text s (Err faults.Read) reads is = absurd is
shared_found known wanted workers text s (Err faults.Write) reads is = absurd is
shared_found known wanted workers text s (Err faults.Memory) reads is = tt
shared_found known wanted workers text s (Err (faults.Pool number)) reads is = (s, reads, is)

-- the answer is one
same_answer : (s : Scenario) (x y : Option (List Parts)) → IsAnswer s x → IsAnswer s y → x ≡ y
same_answer s x y = first_is_one s.setting.spec (λ faults. not (reaches_in s faults)) x y

-- and the first of all least sets
first_answer : (s : Scenario) (answer : Option (List Parts)) (sets : List (List Parts)) → IsAnswer s answer → AreLeastSets s sets
    → answer ≡ slice_get sets 0
first_answer s = first_of_least (world_of s.setting) s.setting.spec s.formula

-- what is reported of a search that has ended
pub report_of : (s : Scenario) (answer : Option (List Parts)) (budget : ℕ) (text : List ℕ) (status : ℕ) → IsNeverFull s → IsAnswer s answer
    → budget ≡ s.setting.spec.budget → text ≡ report budget answer → status ≡ search_status answer → RepliesReport s text status
report_of s answer budget text status never is within told ends = (answer, never, is, told ∙ ap (λ b. report b answer) within, ends)

pub all_report_of : (s : Scenario) (answer : Option (List Parts)) (sets : List (List Parts)) (budget : ℕ) (text : List ℕ) (status : ℕ)
    → IsNeverFull s → IsAnswer s answer → AreLeastSets s sets → budget ≡ s.setting.spec.budget → text ≡ all_report budget sets
    → status ≡ search_status answer → RepliesAll s text status
all_report_of s answer sets budget text status never is all within told ends =
    (sets, never, all, told ∙ ap (λ b. all_report b sets) within, ends ∙ ap search_status (first_answer s answer sets is all))

-- and of the answer alone
pub answer_report_of : (s : Scenario) (answer : Option (List Parts)) (budget : ℕ) (text : List ℕ) (status : ℕ) → IsAnswer s answer
    → budget ≡ s.setting.spec.budget → text ≡ report budget answer → status ≡ search_status answer → RepliesAnswer s text status
answer_report_of s answer budget text status is within told ends = (answer, is, told ∙ ap (λ b. report b answer) within, ends)

-- the status is that of the answer
status_is : (wanted : Wanted) (s : Scenario) (text : List ℕ) (status : ℕ) (answer : Option (List Parts)) → reports_of wanted s text status
    → IsAnswer s answer → status ≡ search_status answer
status_is wanted.Answer s text status answer told is = told.4 ∙ ap search_status (same_answer s told.0 answer told.2 is)
status_is wanted.AllLeast s text status answer told is = told.4 ∙ sym (ap search_status (first_answer s answer told.0 is told.2))

-- what a search comes to that has ended, with its tree
pub found_for : (wanted : Wanted) (s t : Scenario) (tree : Tree) (found : Reply Searched) → t ≡ s → IsTreeFor t tree → found.value.tree ≡ Some tree
    → reports_of wanted t (string_bytes found.text) found.value.status → IsFoundFor wanted s found
found_for wanted s t tree found same is hands told =
    let for_s = subst (λ x. IsTreeFor x tree) same is in
    let told_of_s = subst (λ x. reports_of wanted x (string_bytes found.text) found.value.status) same told in
    inr (
      told_of_s,
      (tree, hands, for_s, status_is wanted s (string_bytes found.text) found.value.status tree.answer told_of_s for_s.search.answer),
    )

-- or that is full
pub full_for : (wanted : Wanted) (s : Scenario) (level count : ℕ) (found : Reply Searched) → IsFull s level count
    → string_bytes found.text ≡ full_line level count → found.value.status ≡ 2 → found.value.tree ≡ None → IsFoundFor wanted s found
full_for wanted s level count found full is ends none = inl ((level, count, full, is, ends), none)

-- the allowed set that the words name, from the set that they name
abbrev pub IsChoice : List ℕ → Bounds → Option (List Parts) → Type 0
IsChoice words b answer =
    (set : List Parts) → (answer ≡ Some set → Names words set × IsAllowed b set) × (Names words set × IsAllowed b set → answer ≡ Some set)

module _ (words : List ℕ) (b : Bounds) (read : Option (List Parts))
    (reads : (set : List Parts) → (read ≡ Some set → Names words set) × (Names words set → read ≡ Some set)) where
  same_set : (one set : List Parts) → read ≡ Some one → Names words set → one ≡ set
  same_set one set is names = let both : Some one ≡ Some set = sym is ∙ (reads set).1 names in cc

  pub unnamed : (answer : Option (List Parts)) → read ≡ None → answer ≡ None → IsChoice words b answer
  unnamed answer none is set = (
    (λ some. let never : None ≡ Some set = sym is ∙ some in cc),
    (λ both. let never : None ≡ Some set = sym none ∙ (reads set).1 both.0 in cc),
  )

  pub allowed : (one : List Parts) → read ≡ Some one → IsAllowed b one → IsChoice words b (Some one)
  allowed one is fits set = (
    (λ some. let same : one ≡ set = cc in subst (λ s. Names words s × IsAllowed b s) same ((reads one).0 is, fits)),
    (λ both. ap Some (same_set one set is both.0)),
  )

  pub not_allowed : (one : List Parts) → read ≡ Some one → ¬ (IsAllowed b one) → IsChoice words b None
  not_allowed one is unfit set = (
    (λ some. cc),
    (λ both. absurd (unfit (subst (IsAllowed b) (sym (same_set one set is both.0)) both.1))),
  )

-- the reply of a run, by the allowed set that the words name
pub run_without_set : (known : Option Declared) (rules : Bool) (words text reply : List ℕ) (status : ℕ) (s : Scenario) (chosen : Option (List Parts))
    → IsTextOf known s text
    → IsChoice words s.setting.spec chosen → chosen ≡ None → reply ≡ no_set_line → status ≡ 2 → IsRunReply known rules words text reply status
run_without_set known rules words text reply status s chosen reads choice none is ends =
    inr (
      s,
      reads,
      inl (
        (λ set names allowed. let never : None ≡ Some set = sym none ∙ (choice set).1 (names, allowed) in cc),
        is,
        ends,
      ),
    )

pub run_of_set : (known : Option Declared) (rules : Bool) (words text reply : List ℕ) (status : ℕ) (s : Scenario) (set : List Parts) → IsTextOf known s text
    → Names words set × IsAllowed s.setting.spec set → reply ≡ told_trace rules s set
    → status ≡ run_status (reaches_in s set) → IsRunReply known rules words text reply status
run_of_set known rules words text reply status s set reads chosen is ends = inr (s, reads, inr (set, chosen.0, chosen.1, is, ends))

-- the reply of a check, by the verdict
pub reply_of_verdict : (s : Scenario) (t : Tree) (v : Verdict) (reply : List ℕ) (status : ℕ) → IsVerdict (world_of s.setting) s.setting.spec s.formula t v
    → reply ≡ judgement v → status ≡ check_status v → RepliesVerdict (world_of s.setting) s.setting.spec s.formula t reply status
reply_of_verdict s t verdicts.Yes reply status accepted is ends = inl (accepted, is, ends)
reply_of_verdict s t (verdicts.No why path) reply status fault is ends = inr (why, path.items, fault, is, ends)

-- past the longest text, the bytes at the front say all
module _ (held : List ℕ) where
  front : longest < length held → length (take (longest + 1) held) ≤ longest → ⊥
  front more short = omega (arith, more, short, length-take (longest + 1) held)

  file_refused : (e : ProtocolError) → longest < length held → files.IsRefused (take (longest + 1) held) e → files.IsRefused held e
  file_refused e more (inl why) = inl (more, why.1)
  file_refused e more (inr (inl why)) = absurd (front more why.0)
  file_refused e more (inr (inr why)) = absurd (front more why.0)

  protocol_long : (reply : List ℕ) (status : ℕ) → longest < length held → IsProtocolReply (take (longest + 1) held) reply status
      → IsProtocolReply held reply status
  protocol_long reply status more (inl is) = absurd (front more is.1.short)
  protocol_long reply status more (inr refusal) = inr (refusal.0, file_refused refusal.0 more refusal.1, refusal.2, refusal.3)

  module _ (known : Option Declared) where
    hands_long : (tree : Option Tree) (status : ℕ) → longest < length held → HandsOut known (take (longest + 1) held) tree status
        → HandsOut known held tree status
    hands_long None status more is = is
    hands_long (Some t) status more is = absurd (front_is_no_text known held is.0 more is.1)

    work_long : (workers : ℕ) → longest < length held → MayWork known workers (take (longest + 1) held) → MayWork known workers held
    work_long workers more (inl may) = inl may
    work_long workers more (inr why) = inr (why.0, refused_by_front known held why.0 more why.1)

    module _ (reply : List ℕ) (status : ℕ) where
      refused_reply : longest < length held → RepliesRefusal known (take (longest + 1) held) reply status → RepliesRefusal known held reply status
      refused_reply more refusal = (refusal.0, refused_by_front known held refusal.0 more refusal.1, refusal.2, refusal.3)

      search_long : (Reports : Scenario → List ℕ → ℕ → Type 0) → longest < length held
          → IsReplyWith known Reports (take (longest + 1) held) reply status → IsReplyWith known Reports held reply status
      search_long Reports more (inl refusal) = inl (refused_reply more refusal)
      search_long Reports more (inr found) = absurd (front_is_no_text known held found.0 more found.1)

      run_long : (rules : Bool) (words : List ℕ) → longest < length held → IsRunReply known rules words (take (longest + 1) held) reply status
          → IsRunReply known rules words held reply status
      run_long rules words more (inl refusal) = inl (refused_reply more refusal)
      run_long rules words more (inr found) = absurd (front_is_no_text known held found.0 more found.1)

      answer_long : longest < length held → IsAnswerReply known (take (longest + 1) held) reply status → IsAnswerReply known held reply status
      answer_long more (inl refusal) = inl (refused_reply more refusal)
      answer_long more (inr found) = absurd (front_is_no_text known held found.0 more found.1)

      check_long : (certificate : List ℕ) → longest < length held → IsCheckReply known (take (longest + 1) held) certificate reply status
          → IsCheckReply known held certificate reply status
      check_long certificate more (inl refusal) = inl (refused_reply more refusal)
      check_long certificate more (inr found) = absurd (front_is_no_text known held found.0 more found.1)

  -- and so of a tree's text
  tree_front : most_bytes < length held → length (take (most_bytes + 1) held) ≤ most_bytes → ⊥
  tree_front more short = omega (arith, more, short, length-take (most_bytes + 1) held)

  tree_refused : (e : TreeFault) → most_bytes < length held → IsFirstFault (take (most_bytes + 1) held) e → IsFirstFault held e
  tree_refused tree.TooLong more why = more
  tree_refused tree.NoJson more why = absurd (tree_front more why.0)
  tree_refused tree.Form more why = absurd (tree_front more why.0)
  tree_refused tree.OutOfRange more why = absurd (tree_front more why.0)
  tree_refused tree.TooDeep more why = absurd (tree_front more why.0)
  tree_refused tree.Memory more why = absurd why

  module _ (known : Option Declared) (reply : List ℕ) (status : ℕ) where
    judged_long : (s : Scenario) → most_bytes < length held → RepliesCheck s (take (most_bytes + 1) held) reply status
        → RepliesCheck s held reply status
    judged_long s more (inl refusal) = inl (refusal.0, tree_refused refusal.0 more refusal.1, refusal.2, refusal.3)
    judged_long s more (inr given) =
        absurd (tree_front more (subst (λ (bytes : List ℕ). length bytes ≤ most_bytes) given.1.spelled given.1.range.short))

    tree_long : (text : List ℕ) → most_bytes < length held → IsCheckReply known text (take (most_bytes + 1) held) reply status
        → IsCheckReply known text held reply status
    tree_long text more (inl refusal) = inl refusal
    tree_long text more (inr found) = inr (found.0, found.1, judged_long found.0 more found.2)

-- what is said of a text that is too long is said by its front
abbrev pub GoesByFront : ℕ → (List ℕ → Type 0) → Type 0
GoesByFront most Says = (held : List ℕ) → most < length held → Says (take (most + 1) held) → Says held

pub protocol_by_front : (reply : List ℕ) (status : ℕ) → GoesByFront longest (λ text. IsProtocolReply text reply status)
protocol_by_front reply status held more is = protocol_long held reply status more is

pub file_refused_by_front : (e : ProtocolError) → GoesByFront longest (λ text. files.IsRefused text e)
file_refused_by_front e held more is = file_refused held e more is

pub file_by_front : (file : Declared) → GoesByFront longest (λ text. files.IsText file text)
file_by_front file held more is = absurd (front held more is.short)

module _ (known : Option Declared) where
  pub searched_by_front : (Reports : Scenario → List ℕ → ℕ → Type 0) (reply : List ℕ) (found : Searched)
      → GoesByFront longest (λ text. IsSearchedWith known Reports text reply found)
  searched_by_front Reports reply found held more is =
      (search_long held known reply found.status Reports more is.0, hands_long held known found.tree found.status more is.1)

  pub shared_by_front : (Reports : Scenario → List ℕ → ℕ → Type 0) (workers : ℕ) (reply : List ℕ) (found : Searched)
      → GoesByFront longest (λ text. IsSharedWith known Reports workers text reply found)
  shared_by_front Reports workers reply found held more is =
      (searched_by_front Reports reply found held more is.0, work_long held known workers more is.1)

  pub cause_by_front : (workers number : ℕ) → GoesByFront longest (λ text. IsPoolCause known workers text number)
  cause_by_front workers number held more is = absurd (front_is_no_text known held is.0 more is.1)

  pub run_by_front : (rules : Bool) (words reply : List ℕ) (status : ℕ) → GoesByFront longest (λ text. IsRunReply known rules words text reply status)
  run_by_front rules words reply status held more is = run_long held known reply status rules words more is

  pub answer_by_front : (reply : List ℕ) (status : ℕ) → GoesByFront longest (λ text. IsAnswerReply known text reply status)
  answer_by_front reply status held more is = answer_long held known reply status more is

  pub check_by_front : (certificate reply : List ℕ) (status : ℕ) → GoesByFront longest (λ text. IsCheckReply known text certificate reply status)
  check_by_front certificate reply status held more is = check_long held known reply status certificate more is

  pub tree_by_front : (text reply : List ℕ) (status : ℕ) → GoesByFront most_bytes (λ certificate. IsCheckReply known text certificate reply status)
  tree_by_front text reply status held more is = tree_long held known reply status text more is

  pub given_by_front : (certificate : List ℕ) (g : Given) → GoesByFront longest (λ text. IsGiven known text certificate g)
  given_by_front certificate (given.Refused r) held more is = check_by_front certificate (string_bytes r.text) r.value held more is
  given_by_front certificate (given.Both s tree) held more is = absurd (front_is_no_text known held s more is.0)

  pub given_by_tree_front : (text : List ℕ) (g : Given) → GoesByFront most_bytes (λ certificate. IsGiven known text certificate g)
  given_by_tree_front text (given.Refused r) held more is = tree_by_front text (string_bytes r.text) r.value held more is
  given_by_tree_front text (given.Both s tree) held more is =
      absurd (tree_front held more (subst (λ (bytes : List ℕ). length bytes ≤ most_bytes) is.1.spelled is.1.range.short))

  -- a search with a certificate
  pub certified_by_front : (wanted : Wanted) (workers : ℕ) (reply : List ℕ) (ended : Certified)
      → GoesByFront longest (λ text. IsCertifiedBy known wanted workers text reply ended)
  certified_by_front wanted workers reply ended held more is =
      (ended_long held more is.0, work_long held known workers more is.1)
    where
      ended_long : (held : List ℕ) → longest < length held → IsCertified known (reports_of wanted) (take (longest + 1) held) reply ended
          → IsCertified known (reports_of wanted) held reply ended
      ended_long held more (inl none) = inl (search_long held known reply ended.status (reports_of wanted) more none.0, none.1, none.2)
      ended_long held more (inr (inl some)) = absurd (front_is_no_text known held some.3.0 more some.3.1)
      ended_long held more (inr (inr long)) = absurd (front_is_no_text known held long.4.0 more long.4.1)

  pub uncertified_by_front : (wanted : Wanted) (workers : ℕ) (reply : List ℕ) (ended : Certified)
      → GoesByFront longest (λ text. IsUncertified known (reports_of wanted) text reply ended × MayWork known workers text)
  uncertified_by_front wanted workers reply ended held more is =
      ((search_long held known reply ended.status (reports_of wanted) more is.0.0, is.0.1), work_long held known workers more is.1)

  pub certified_cause_by_front : (workers number : ℕ) → GoesByFront longest (λ text. IsCauseAt known workers text number)
  certified_cause_by_front workers number held more is = (is.0, cause_by_front workers number held more is.1)
