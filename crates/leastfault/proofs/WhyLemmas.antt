-- Replies that tell why an answer is one.
use Rattle.std.proofs.Common.{◌≡◌, ℕ, List, [], not, ◌++◌, inl, inr, refl, sym, ap, ◌∙◌, subst, string_bytes}
use Rattle.std.specs.Prelude.{◌⊎◌, Option, None, Some}
use Rattle.std.proofs.lemmas.List.{append-nil}
use Rattle.lf_faults.proofs.Laws.{first_is_one}
use Rattle.lf_scenario.specs.Limits.{longest}
use Rattle.lf_outcome.specs.declared.scenario.Scenario.{Scenario}
use Rattle.lf_tree.specs.declared.tree.Tree.{Tree}
use Rattle.lf_protocol_file.specs.declared.declared.Declared.{Declared}
use Rattle.leastfault.specs.declared.answering.Wanted.TheVariants as wanted
use Rattle.leastfault.specs.declared.reply.Reply.{Reply}
use Rattle.leastfault.specs.declared.reply.Searched.{Searched}
use Rattle.leastfault.specs.Answers.{reaches_in}
use Rattle.leastfault.specs.Replies.{IsSearchReply, IsTreeFor, RepliesFull, RepliesReport, RepliesSearch}
use Rattle.leastfault.specs.Reports.{report, search_status}
use Rattle.leastfault.specs.Searches.{IsFoundFor}
use Rattle.leastfault.specs.Why.{HasReasons, IsWhyReply, RepliesWhy}
use Rattle.leastfault.proofs.KnownLaws.{front_is_no_text, refused_by_front}
use Rattle.leastfault.proofs.ReplyLemmas.{GoesByFront}

-- what a search found that handed out this tree
record Reported (s : Scenario) (tree : Tree) (text : List ℕ) (status : ℕ) : Type 0 where
  told : RepliesReport s text status
  grown : IsTreeFor s tree
  ends : status ≡ search_status tree.answer

found_some : (s : Scenario) (text : List ℕ) (status : ℕ) (given : Option Tree) (tree : Tree) → given ≡ Some tree
    → (RepliesFull s text status × (given ≡ None))
    ⊎ (RepliesReport s text status × ((t : Tree) × (given ≡ Some t) × IsTreeFor s t × (status ≡ search_status t.answer)))
    → Reported s tree text status
found_some s text status given tree is (inl full) = let never : None ≡ Some tree = sym full.1 ∙ is in cc
found_some s text status given tree is (inr report) =
    let both : Some report.1.0 ≡ Some tree = sym report.1.1 ∙ is in
    let same : report.1.0 ≡ tree = cc in
    record {
      told = report.0;
      grown = subst (IsTreeFor s) same report.1.2;
      ends = report.1.3 ∙ ap (λ t. search_status t.answer) same;
    }

found_none : (s : Scenario) (text : List ℕ) (status : ℕ) (given : Option Tree) → given ≡ None
    → (RepliesFull s text status × (given ≡ None))
    ⊎ (RepliesReport s text status × ((t : Tree) × (given ≡ Some t) × IsTreeFor s t × (status ≡ search_status t.answer)))
    → RepliesFull s text status
found_none s text status given none (inl full) = full.0
found_none s text status given none (inr report) = let never : None ≡ Some report.1.0 = sym none ∙ report.1.1 in cc

module _ (s : Scenario) (found : Reply Searched) (is : IsFoundFor wanted.Answer s found) where
  pub full_is_told : found.value.tree ≡ None → RepliesSearch RepliesWhy s (string_bytes found.text) found.value.status
  full_is_told none = inl (found_none s (string_bytes found.text) found.value.status found.value.tree none is)

  module _ (tree : Tree) (given : found.value.tree ≡ Some tree) where
    reported : Reported s tree (string_bytes found.text) found.value.status
    reported = found_some s (string_bytes found.text) found.value.status found.value.tree tree given is

    pub tree_is_given : IsTreeFor s tree
    tree_is_given = reported.grown

    pub reasons_are_told : (reply : List ℕ) (status : ℕ) → HasReasons s tree (string_bytes found.text) reply → status ≡ found.value.status
        → RepliesSearch RepliesWhy s reply status
    reasons_are_told reply status reasons ends =
        let told = reported.told in
        let same = first_is_one s.setting.spec (λ faults. not (reaches_in s faults)) told.0 tree.answer told.2 reported.grown.search.answer in
        let text : string_bytes found.text ≡ report s.setting.spec.budget tree.answer = told.3 ∙ ap (report s.setting.spec.budget) same in
        inr (tree, told.1, reported.grown, subst (λ t. HasReasons s tree t reply) text reasons, ends ∙ reported.ends)

-- past the longest text, the bytes at the front say all
pub why_by_front : (known : Option Declared) (reply : List ℕ) (status : ℕ) → GoesByFront longest (λ text. IsWhyReply known text reply status)
why_by_front known reply status held more (inl refusal) =
    inl (refusal.0, refused_by_front known held refusal.0 more refusal.1, refusal.2, refusal.3)
why_by_front known reply status held more (inr is) = absurd (front_is_no_text known held is.0 more is.1)

-- a reply that tells why begins with that of the search
begins_for : (s : Scenario) (reply : List ℕ) (status : ℕ) → RepliesSearch RepliesWhy s reply status
    → (told : List ℕ) × (lines : List ℕ) × RepliesSearch RepliesReport s told status × (reply ≡ told ++ lines)
begins_for s reply status (inl full) = (reply, [], inl full, sym (append-nil reply))
begins_for s reply status (inr is) =
    let told = report s.setting.spec.budget is.0.answer in
    (told, is.3.0, inr (is.0.answer, is.1, is.2.search.answer, refl, is.4), is.3.2)

pub begins_as_search : (known : Option Declared) (text reply : List ℕ) (status : ℕ) → IsWhyReply known text reply status
    → (told : List ℕ) × (lines : List ℕ) × IsSearchReply known text told status × (reply ≡ told ++ lines)
begins_as_search known text reply status (inl refusal) = (reply, [], inl refusal, sym (append-nil reply))
begins_as_search known text reply status (inr is) =
    let begun = begins_for is.0 reply status is.2 in
    (begun.0, begun.1, inr (is.0, is.1, begun.2), begun.3)
