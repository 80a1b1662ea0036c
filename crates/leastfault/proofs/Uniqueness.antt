-- A text, and words, have one reply at most.
use Rattle.std.proofs.Common.{◌≡◌, ℕ, List, ◌++◌, not, refl, sym, ap, ◌∙◌, subst, inl, inr, arith}
use Rattle.std.specs.Prelude.{◌⊎◌, Bool, Ok, Option, None, Some, slice_get}
use Rattle.std.specs.Cmp.{IsTotalOrder}
use Rattle.lf_protocol_file.specs.declared.error.ProtocolError.{ProtocolError}
use Rattle.lf_faults.specs.declared.fault.Parts.{Parts}
use Rattle.lf_faults.specs.Allowed.{IsAllowed, IsFirst}
use Rattle.lf_faults.specs.Faults.{set_cmp}
use Rattle.lf_faults.specs.declared.spec.Bounds.{Bounds}
use Rattle.lf_faults.proofs.Laws.{first_is_one}
use Rattle.lf_sim.specs.Runs.{World}
use Rattle.lf_sim.specs.Settings.{world_of}
use Rattle.lf_outcome.specs.declared.formula.Formula.{Formula}
use Rattle.lf_outcome.specs.Truth.{reaches}
use Rattle.lf_book.specs.Ends.{IsFull, IsNeverFull}
use Rattle.lf_book.proofs.Laws.{full_is_one}
use Rattle.lf_certificate.specs.Grown.{IsTreeOf}
use Rattle.lf_certificate.proofs.Laws.{accepted_has_none, first_fault_one, tree_one}
use Rattle.lf_protocol_file.specs.declared.declared.Declared.{Declared}
use Rattle.lf_protocol_file.specs.Files as files
use Rattle.lf_outcome.specs.declared.scenario.Scenario.{Scenario}
use Rattle.lf_outcome.specs.Sameness.{AreSame}
use Rattle.lf_outcome.proofs.Laws.{worlds_are_one}
use Rattle.lf_certificate.specs.Levels.{AreAllLeast, IsFullAt}
use Rattle.lf_trace.specs.Namings.{Names}
use Rattle.lf_trace.specs.Words.{words_of}
use Rattle.lf_why.specs.Answers.{IsWhy}
use Rattle.lf_why.proofs.Laws.{why_one}
use Rattle.lf_tree.specs.declared.tree.Tree.{Tree}
use Rattle.lf_tree.specs.FirstFaults.{IsJson}
use Rattle.lf_tree.specs.Reading.{tree_in}
use Rattle.lf_tree.specs.Texts.{IsInRange, tree_text}
use Rattle.lf_tree.specs.Trees.{IsTree}
use Rattle.lf_tree.specs.Values.{tree_value}
use Rattle.leastfault.specs.Answers.{AreLeastSets, IsAnswer, reaches_in}
use Rattle.leastfault.specs.Known.{IsTextOf}
use Rattle.leastfault.specs.Protocols.{IsProtocolReply, protocol_refusal}
use Rattle.leastfault.specs.Reports.{all_report, full_line, no_line, refusal, report, run_status, search_status, tree_refusal}
use Rattle.leastfault.specs.Replies.{HandsOut, HasOneReply, IsAllReply, IsAnswerReply, IsCheckReply, IsReplyWith, IsRunReply, IsSearchReply, IsTreeFor}
use Rattle.leastfault.specs.Replies.{RepliesAll, RepliesAnswer, RepliesCheck, RepliesNoSet, RepliesReport}
use Rattle.leastfault.specs.Replies.{RepliesRefusal, RepliesSearch, RepliesTrace, RepliesTreeRefusal, RepliesVerdict, trace_of}
use Rattle.leastfault.specs.Why.{IsWhyReply, RepliesWhy}
use Rattle.leastfault.proofs.KnownLaws.{refusals_are_one, refused_is_no_text, scenarios_are_one}
use Rattle.leastfault.proofs.LeastSets.{first_of_least, least_one}
use Rattle.leastfault.proofs.TreeTexts.{tree_faults_one, tree_not_refused, trees_one}

-- scenarios that are the same have one answer
answers_one : (s t : Scenario) (x y : Option (List Parts)) → AreSame s t → IsAnswer s x → IsAnswer t y → x ≡ y
answers_one s t x y same first other =
    first_is_one t.setting.spec (λ faults. not (reaches_in t faults)) x y
    (subst (λ f. IsFirst t.setting.spec (λ faults. not (reaches (world_of t.setting) faults f)) x) same.formula
    (subst (λ w. IsFirst t.setting.spec (λ faults. not (reaches w faults s.formula)) x) (worlds_are_one s t same)
    (subst (λ b. IsFirst b (λ faults. not (reaches (world_of s.setting) faults s.formula)) x) same.bounds first)))
    other

pub refusals_one : (known : Option Declared) (text : List ℕ) → HasOneReply (RepliesRefusal known text)
refusals_one known text one other m n a b =
    let same = refusals_are_one known text a.0 b.0 a.1 b.1 in
    (a.2 ∙ ap refusal same ∙ sym b.2, a.3 ∙ sym b.3)

-- scenarios that are the same have one first level that is too full
full_of_same : (s t : Scenario) → AreSame s t → (k count : ℕ) → IsFull s k count → IsFull t k count
full_of_same s t same k count full =
    subst (λ most. IsFullAt (world_of t.setting) t.setting.spec t.formula most k count) same.max_sets
    (subst (λ f. IsFullAt (world_of t.setting) t.setting.spec f s.max_sets k count) same.formula
    (subst (λ w. IsFullAt w t.setting.spec s.formula s.max_sets k count) (worlds_are_one s t same)
    (subst (λ b. IsFullAt (world_of s.setting) b s.formula s.max_sets k count) same.bounds full)))

back : (s t : Scenario) → AreSame s t → AreSame t s
back s t same = record {
  protocol = sym same.protocol;
  network = sym same.network;
  bounds = sym same.bounds;
  formula = sym same.formula;
  max_sets = sym same.max_sets;
}

-- they have one report, which comes where no level is too full
record HaveOneReport (Reports : Scenario → List ℕ → ℕ → Type 0) : Type 0 where
  pub never_full : (s : Scenario) (reply : List ℕ) (status : ℕ) → Reports s reply status → IsNeverFull s
  pub one : (s t : Scenario) → AreSame s t → (one other : List ℕ) (m n : ℕ) → Reports s one m → Reports t other n → (one ≡ other) × (m ≡ n)

report_one : HaveOneReport RepliesReport
report_one = record {
  never_full = λ s reply status told. told.1;
  one = λ s t same one other m n a b.
      let answers = answers_one s t a.0 b.0 same a.2 b.2 in (
        a.3 ∙ ap (λ bounds. report bounds.budget a.0) same.bounds ∙ ap (report t.setting.spec.budget) answers ∙ sym b.3,
        a.4 ∙ ap search_status answers ∙ sym b.4,
      );
}

-- and one list of all least sets
least_of_same : (s t : Scenario) (sets : List (List Parts)) → AreSame s t → AreLeastSets s sets → AreLeastSets t sets
least_of_same s t sets same all =
    subst (λ f. AreAllLeast (world_of t.setting) t.setting.spec f sets) same.formula
    (subst (λ w. AreAllLeast w t.setting.spec s.formula sets) (worlds_are_one s t same)
    (subst (λ b. AreAllLeast (world_of s.setting) b s.formula sets) same.bounds all))

all_report_one : IsTotalOrder set_cmp → HaveOneReport RepliesAll
all_report_one total = record {
  never_full = λ s reply status told. told.1;
  one = λ s t same one other m n a b.
      let lists = least_one (world_of t.setting) t.setting.spec t.formula total a.0 b.0 (least_of_same s t a.0 same a.2) b.2 in (
        a.3 ∙ ap (λ bounds. all_report bounds.budget a.0) same.bounds ∙ ap (all_report t.setting.spec.budget) lists ∙ sym b.3,
        a.4 ∙ ap (λ sets. search_status (slice_get sets 0)) lists ∙ sym b.4,
      );
}

-- and one reply of a search
module _ (Reports : Scenario → List ℕ → ℕ → Type 0) (reports : HaveOneReport Reports) where
  searches_one : (s t : Scenario) → AreSame s t → (one other : List ℕ) (m n : ℕ) → RepliesSearch Reports s one m → RepliesSearch Reports t other n
      → (one ≡ other) × (m ≡ n)
  searches_one s t same one other m n (inl a) (inl b) =
      let levels = full_is_one t a.0 b.0 a.1 b.1 (full_of_same s t same a.0 a.1 a.2) b.2 in
      (a.3 ∙ ap (λ k. full_line k a.1) levels.0 ∙ ap (full_line b.0) levels.1 ∙ sym b.3, a.4 ∙ sym b.4)
  searches_one s t same one other m n (inl a) (inr b) = absurd (reports.never_full t other n b a.0 a.1 (full_of_same s t same a.0 a.1 a.2))
  searches_one s t same one other m n (inr a) (inl b) =
      absurd (reports.never_full s one m a b.0 b.1 (full_of_same t s (back s t same) b.0 b.1 b.2))
  searches_one s t same one other m n (inr a) (inr b) = reports.one s t same one other m n a b

  with_one : (known : Option Declared) (text : List ℕ) → HasOneReply (IsReplyWith known Reports text)
  with_one known text one other m n (inl a) (inl b) = refusals_one known text one other m n a b
  with_one known text one other m n (inl a) (inr b) = absurd (refused_is_no_text known text a.0 b.0 a.1 b.1)
  with_one known text one other m n (inr a) (inl b) = absurd (refused_is_no_text known text b.0 a.0 b.1 a.1)
  with_one known text one other m n (inr a) (inr b) =
      searches_one a.0 b.0 (scenarios_are_one known text a.0 b.0 a.1 b.1) one other m n a.2 b.2

pub search_replies_one : (known : Option Declared) (text : List ℕ) → HasOneReply (IsSearchReply known text)
search_replies_one known text = with_one RepliesReport report_one known text

pub all_replies_one : IsTotalOrder set_cmp → (known : Option Declared) (text : List ℕ) → HasOneReply (IsAllReply known text)
all_replies_one total known text = with_one RepliesAll (all_report_one total) known text

-- a text has one reply that tells the answer alone, which is that of the search unless a level of it is too full
answers_told_one : (s t : Scenario) → AreSame s t → (one other : List ℕ) (m n : ℕ) → RepliesAnswer s one m → RepliesAnswer t other n
    → (one ≡ other) × (m ≡ n)
answers_told_one s t same one other m n a b =
    let answers = answers_one s t a.0 b.0 same a.1 b.1 in (
      a.2 ∙ ap (λ bounds. report bounds.budget a.0) same.bounds ∙ ap (report t.setting.spec.budget) answers ∙ sym b.2,
      a.3 ∙ ap search_status answers ∙ sym b.3,
    )

pub answer_replies_one : (known : Option Declared) (text : List ℕ) → HasOneReply (IsAnswerReply known text)
answer_replies_one known text one other m n (inl a) (inl b) = refusals_one known text one other m n a b
answer_replies_one known text one other m n (inl a) (inr b) = absurd (refused_is_no_text known text a.0 b.0 a.1 b.1)
answer_replies_one known text one other m n (inr a) (inl b) = absurd (refused_is_no_text known text b.0 a.0 b.1 a.1)
answer_replies_one known text one other m n (inr a) (inr b) =
    answers_told_one a.0 b.0 (scenarios_are_one known text a.0 b.0 a.1 b.1) one other m n a.2 b.2

abbrev AgreeOrFull : Option Declared → List ℕ → List ℕ → List ℕ → ℕ → ℕ → Type 0
AgreeOrFull known text one other m n =
    ((one ≡ other) × (m ≡ n)) ⊎ ((s : Scenario) × (level : ℕ) × (count : ℕ) × IsTextOf known s text × IsFull s level count)

agree_told : (known : Option Declared) (text : List ℕ) (s t : Scenario) → IsTextOf known s text → AreSame s t → (one other : List ℕ) (m n : ℕ)
    → RepliesSearch RepliesReport s one m
    → RepliesAnswer t other n → AgreeOrFull known text one other m n
agree_told known text s t reads same one other m n (inl full) b = inr (s, full.0, full.1, reads, full.2)
agree_told known text s t reads same one other m n (inr a) b = inl (answers_told_one s t same one other m n (a.0, a.2, a.3, a.4) b)

pub answer_replies_agree : (known : Option Declared) (text one other : List ℕ) (m n : ℕ) → IsSearchReply known text one m → IsAnswerReply known text other n
    → AgreeOrFull known text one other m n
answer_replies_agree known text one other m n (inl a) (inl b) = inl (refusals_one known text one other m n a b)
answer_replies_agree known text one other m n (inl a) (inr b) = absurd (refused_is_no_text known text a.0 b.0 a.1 b.1)
answer_replies_agree known text one other m n (inr a) (inl b) = absurd (refused_is_no_text known text b.0 a.0 b.1 a.1)
answer_replies_agree known text one other m n (inr a) (inr b) =
    agree_told known text a.0 b.0 a.1 (scenarios_are_one known text a.0 b.0 a.1 b.1) one other m n a.2 b.2

-- which reports what plays no part in the status
statuses_one : (s t : Scenario) → AreSame s t → (one other : List ℕ) (m n : ℕ) → RepliesSearch RepliesReport s one m → RepliesSearch RepliesAll t other n
    → m ≡ n
statuses_one s t same one other m n (inl a) (inl b) = a.4 ∙ sym b.4
statuses_one s t same one other m n (inl a) (inr b) = absurd (b.1 a.0 a.1 (full_of_same s t same a.0 a.1 a.2))
statuses_one s t same one other m n (inr a) (inl b) = absurd (a.1 b.0 b.1 (full_of_same t s (back s t same) b.0 b.1 b.2))
statuses_one s t same one other m n (inr a) (inr b) =
    let first = first_of_least (world_of s.setting) s.setting.spec s.formula a.0 b.0 a.2 (least_of_same t s b.0 (back s t same) b.2) in
    a.4 ∙ ap search_status first ∙ sym b.4

pub statuses_agree : (known : Option Declared) (text one other : List ℕ) (m n : ℕ) → IsSearchReply known text one m → IsAllReply known text other n → m ≡ n
statuses_agree known text one other m n (inl a) (inl b) = a.3 ∙ sym b.3
statuses_agree known text one other m n (inl a) (inr b) = absurd (refused_is_no_text known text a.0 b.0 a.1 b.1)
statuses_agree known text one other m n (inr a) (inl b) = absurd (refused_is_no_text known text b.0 a.0 b.1 a.1)
statuses_agree known text one other m n (inr a) (inr b) =
    statuses_one a.0 b.0 (scenarios_are_one known text a.0 b.0 a.1 b.1) one other m n a.2 b.2

-- one tree is handed out
tree_of_same : (s t : Scenario) (tree : Tree) → AreSame s t → IsTreeFor s tree → IsTreeOf (world_of t.setting) t.setting.spec t.formula tree
tree_of_same s t tree same is =
    subst (λ f. IsTreeOf (world_of t.setting) t.setting.spec f tree) same.formula
    (subst (λ w. IsTreeOf w t.setting.spec s.formula tree) (worlds_are_one s t same)
    (subst (λ b. IsTreeOf (world_of s.setting) b s.formula tree) same.bounds is.search))

-- and one text tells why its answer is one
why_of_same : (s t : Scenario) (tree : Tree) (lines : List ℕ) → AreSame s t
    → IsWhy (words_of s.setting.machine) (world_of s.setting) s.setting.spec s.formula tree lines
    → IsWhy (words_of t.setting.machine) (world_of t.setting) t.setting.spec t.formula tree lines
why_of_same s t tree lines same is =
    subst (λ f. IsWhy (words_of t.setting.machine) (world_of t.setting) t.setting.spec f tree lines) same.formula
    (subst (λ b. IsWhy (words_of t.setting.machine) (world_of t.setting) b s.formula tree lines) same.bounds
    (subst (λ w. IsWhy (words_of t.setting.machine) w s.setting.spec s.formula tree lines) (worlds_are_one s t same)
    (subst (λ k. IsWhy (words_of k) (world_of s.setting) s.setting.spec s.formula tree lines) same.protocol is)))

reasons_one : HaveOneReport RepliesWhy
reasons_one = record {
  never_full = λ s reply status told. told.1;
  one = λ s t same one other m n a b.
      let trees = tree_one (world_of t.setting) t.setting.spec t.formula a.0 b.0 (tree_of_same s t a.0 same a.2) b.2.search in
      let lines = why_one (words_of t.setting.machine) (world_of t.setting) t.setting.spec t.formula b.0 a.3.0 b.3.0
      (subst (λ tree. IsWhy (words_of t.setting.machine) (world_of t.setting) t.setting.spec t.formula tree a.3.0) trees
      (why_of_same s t a.0 a.3.0 same a.3.1))
      b.3.1 in (
        a.3.2 ∙ ap (λ bounds. report bounds.budget a.0.answer ++ a.3.0) same.bounds
            ∙ ap (λ tree. report t.setting.spec.budget tree.answer ++ a.3.0) trees
            ∙ ap (λ more. report t.setting.spec.budget b.0.answer ++ more) lines ∙ sym b.3.2,
        a.4 ∙ ap (λ tree. search_status tree.answer) trees ∙ sym b.4,
      );
}

pub why_replies_one : (known : Option Declared) (text : List ℕ) → HasOneReply (IsWhyReply known text)
why_replies_one known text = with_one RepliesWhy reasons_one known text

pub no_answer_is_two : (answer : Option (List Parts)) → 2 ≡ search_status answer → ⊥
no_answer_is_two None is = omega (arith, is)
no_answer_is_two (Some faults) is = omega (arith, is)

pub handed_one : (known : Option Declared) (text : List ℕ) (status : ℕ) (one other : Option Tree) → HandsOut known text one status
    → HandsOut known text other status → one ≡ other
handed_one known text status None None a b = refl
handed_one known text status None (Some u) a b = absurd (no_answer_is_two u.answer (sym a ∙ b.3))
handed_one known text status (Some t) None a b = absurd (no_answer_is_two t.answer (sym b ∙ a.3))
handed_one known text status (Some t) (Some u) a b =
    let same = scenarios_are_one known text a.0 b.0 a.1 b.1 in
    ap Some (tree_one (world_of b.0.setting) b.0.setting.spec b.0.formula t u (tree_of_same a.0 b.0 t same a.2) b.2.search)

-- words that name one set at most
module _ (words : List ℕ) (named_one : (one other : List Parts) → Names words one → Names words other → one ≡ other) where
  -- scenarios that are the same have one reply to the words
  pub told_one : (rules : Bool) (s t : Scenario) → AreSame s t → (one other : List ℕ) (m n : ℕ) → RepliesNoSet words s one m ⊎ RepliesTrace rules words s one m
      → RepliesNoSet words t other n ⊎ RepliesTrace rules words t other n → (one ≡ other) × (m ≡ n)
  told_one rules s t same one other m n (inl a) (inl b) = (a.1 ∙ sym b.1, a.2 ∙ sym b.2)
  told_one rules s t same one other m n (inl a) (inr b) = absurd (a.0 b.0 b.1 (subst (λ bounds. IsAllowed bounds b.0) (sym same.bounds) b.2))
  told_one rules s t same one other m n (inr a) (inl b) = absurd (b.0 a.0 a.1 (subst (λ bounds. IsAllowed bounds a.0) same.bounds a.2))
  told_one rules s t same one other m n (inr a) (inr b) =
      let sets = named_one a.0 b.0 a.1 b.1 in
      let worlds = worlds_are_one s t same in
      let reached : reaches_in s a.0 ≡ reaches_in t b.0 =
      ap (λ w. reaches w a.0 s.formula) worlds ∙ ap (reaches (world_of t.setting) a.0) same.formula ∙ ap (reaches_in t) sets in (
        a.3 ∙ ap (λ k. trace_of rules k (world_of s.setting) a.0 s.formula) same.protocol ∙ ap (λ w. trace_of rules t.setting.machine w a.0 s.formula) worlds
            ∙ ap (trace_of rules t.setting.machine (world_of t.setting) a.0) same.formula
            ∙ ap (λ set. trace_of rules t.setting.machine (world_of t.setting) set t.formula) sets ∙ sym b.3,
        a.4 ∙ ap run_status reached ∙ sym b.4,
      )

  pub run_replies_one : (known : Option Declared) (rules : Bool) (text : List ℕ) → HasOneReply (IsRunReply known rules words text)
  run_replies_one known rules text one other m n (inl a) (inl b) = refusals_one known text one other m n a b
  run_replies_one known rules text one other m n (inl a) (inr b) = absurd (refused_is_no_text known text a.0 b.0 a.1 b.1)
  run_replies_one known rules text one other m n (inr a) (inl b) = absurd (refused_is_no_text known text b.0 a.0 b.1 a.1)
  run_replies_one known rules text one other m n (inr a) (inr b) = told_one rules a.0 b.0 (scenarios_are_one known text a.0 b.0 a.1 b.1) one other m n a.2 b.2

module _ {State Note Fact : Type 0} (w : World State Note Fact) (b : Bounds) (formula : Formula Fact) (tree : Tree) where
  verdicts_one : HasOneReply (RepliesVerdict w b formula tree)
  verdicts_one one other m n (inl x) (inl y) = (x.1 ∙ sym y.1, x.2 ∙ sym y.2)
  verdicts_one one other m n (inl x) (inr y) = absurd (accepted_has_none w b formula tree x.0 y.0 y.1 y.2)
  verdicts_one one other m n (inr x) (inl y) = absurd (accepted_has_none w b formula tree y.0 x.0 x.1 x.2)
  verdicts_one one other m n (inr x) (inr y) =
      let same = first_fault_one w b formula tree x.0 y.0 x.1 y.1 x.2 y.2 in
      (x.3 ∙ ap (λ why. no_line why x.1) same.0 ∙ ap (no_line y.0) same.1 ∙ sym y.3, x.4 ∙ sym y.4)

-- what is replied for a scenario is replied for one that is the same
verdict_of_same : (s t : Scenario) (tree : Tree) (reply : List ℕ) (status : ℕ) → AreSame s t
    → RepliesVerdict (world_of s.setting) s.setting.spec s.formula tree reply status
    → RepliesVerdict (world_of t.setting) t.setting.spec t.formula tree reply status
verdict_of_same s t tree reply status same told =
    subst (λ f. RepliesVerdict (world_of t.setting) t.setting.spec f tree reply status) same.formula
    (subst (λ w. RepliesVerdict w t.setting.spec s.formula tree reply status) (worlds_are_one s t same)
    (subst (λ b. RepliesVerdict (world_of s.setting) b s.formula tree reply status) same.bounds told))

tree_refusals_one : (certificate : List ℕ) → HasOneReply (RepliesTreeRefusal certificate)
tree_refusals_one certificate one other m n a b =
    let same = tree_faults_one certificate a.0 b.0 a.1 b.1 in
    (a.2 ∙ ap tree_refusal same ∙ sym b.2, a.3 ∙ sym b.3)

module _ (json : (t : Tree) → IsTree t → IsInRange t → IsJson (tree_text t) (tree_value t))
    (read_back : (t : Tree) → IsTree t → IsInRange t → tree_in (tree_value t) ≡ Ok t) where
  judged_one : (s t : Scenario) → AreSame s t → (certificate one other : List ℕ) (m n : ℕ) → RepliesCheck s certificate one m
      → RepliesCheck t certificate other n → (one ≡ other) × (m ≡ n)
  judged_one s t same certificate one other m n (inl a) (inl b) = tree_refusals_one certificate one other m n a b
  judged_one s t same certificate one other m n (inl a) (inr b) = absurd (tree_not_refused json read_back certificate b.0 a.0 b.1 a.1)
  judged_one s t same certificate one other m n (inr a) (inl b) = absurd (tree_not_refused json read_back certificate a.0 b.0 a.1 b.1)
  judged_one s t same certificate one other m n (inr a) (inr b) =
      let trees : a.0 ≡ b.0 = trees_one json read_back certificate a.0 b.0 a.1 b.1 in
      verdicts_one (world_of t.setting) t.setting.spec t.formula b.0 one other m n
      (subst (λ tree. RepliesVerdict (world_of t.setting) t.setting.spec t.formula tree one m) trees (verdict_of_same s t a.0 one m same a.2)) b.2

  pub check_replies_one : (known : Option Declared) (text certificate : List ℕ) → HasOneReply (IsCheckReply known text certificate)
  check_replies_one known text certificate one other m n (inl a) (inl b) = refusals_one known text one other m n a b
  check_replies_one known text certificate one other m n (inl a) (inr b) = absurd (refused_is_no_text known text a.0 b.0 a.1 b.1)
  check_replies_one known text certificate one other m n (inr a) (inl b) = absurd (refused_is_no_text known text b.0 a.0 b.1 a.1)
  check_replies_one known text certificate one other m n (inr a) (inr b) =
      judged_one a.0 b.0 (scenarios_are_one known text a.0 b.0 a.1 b.1) certificate one other m n a.2 b.2

-- of protocol files, by the laws of their refusals
module _ (one_refusal : (text : List ℕ) (e f : ProtocolError) → files.IsRefused text e → files.IsRefused text f → e ≡ f)
    (no_text : (text : List ℕ) (e : ProtocolError) (file : Declared) → files.IsRefused text e → ¬ (files.IsText file text)) where
  pub protocol_replies_one : (text : List ℕ) → HasOneReply (IsProtocolReply text)
  protocol_replies_one text one other m n (inl a) (inl b) = (a.2 ∙ sym b.2, a.3 ∙ sym b.3)
  protocol_replies_one text one other m n (inl a) (inr b) = absurd (no_text text b.0 a.0 b.1 a.1)
  protocol_replies_one text one other m n (inr a) (inl b) = absurd (no_text text a.0 b.0 a.1 b.1)
  protocol_replies_one text one other m n (inr a) (inr b) =
      let same = one_refusal text a.0 b.0 a.1 b.1 in
      (a.2 ∙ ap protocol_refusal same ∙ sym b.2, a.3 ∙ sym b.3)
