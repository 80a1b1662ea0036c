-- A text has one reply of a search with a certificate.
use Rattle.std.proofs.Common.{◌≡◌, ℕ, ◌<◌, ◌≤◌, List, length, sym, ap, ◌∙◌, subst, inl, inr, arith}
use Rattle.std.specs.Prelude.{Option, Some}
use Rattle.lf_protocol_file.specs.declared.declared.Declared.{Declared}
use Rattle.lf_outcome.specs.declared.scenario.Scenario.{Scenario}
use Rattle.lf_tree.specs.declared.tree.Tree.{Tree}
use Rattle.lf_tree.specs.Texts.{most_bytes, tree_text}
use Rattle.leastfault.specs.Commands.{HasOneEnd, IsCertificate, IsCertified}
use Rattle.leastfault.specs.Replies.{HandsOut, HasOneReply, IsReplyWith}
use Rattle.leastfault.proofs.Uniqueness.{handed_one, no_answer_is_two}

-- a text is short enough or too long
not_both : (tree : Tree) (bytes : List ℕ) → IsCertificate tree bytes → most_bytes < length (tree_text tree) → ⊥
not_both tree bytes is long =
    let longer : most_bytes < length bytes = subst (λ (t : List ℕ). most_bytes < length t) is.spelled long in
    let short : length bytes ≤ most_bytes = is.short in
    omega (arith, longer, short)

module _ (known : Option Declared) (Reports : Scenario → List ℕ → ℕ → Type 0) (text : List ℕ)
    (replies_one : HasOneReply (IsReplyWith known Reports text)) where
  -- a search with a tree has an answer
  never_two : (tree : Tree) (one other : List ℕ) (m n : ℕ) → IsReplyWith known Reports text one m → m ≡ 2 → IsReplyWith known Reports text other n
      → HandsOut known text (Some tree) n → ⊥
  never_two tree one other m n a two b hands = no_answer_is_two tree.answer (sym two ∙ (replies_one one other m n a b).1 ∙ hands.3)

  -- and one tree
  one_tree : (t u : Tree) (one other : List ℕ) (m n : ℕ) → IsReplyWith known Reports text one m → HandsOut known text (Some t) m
      → IsReplyWith known Reports text other n
      → HandsOut known text (Some u) n → t ≡ u
  one_tree t u one other m n a hands b hands_too =
      let same : m ≡ n = (replies_one one other m n a b).1 in
      let both : Some t ≡ Some u = handed_one known text n (Some t) (Some u) (subst (HandsOut known text (Some t)) same hands) hands_too in
      cc

  pub certified_one : HasOneEnd (IsCertified known Reports text)
  certified_one one other x y (inl a) (inl b) =
      let same = replies_one one other x.status y.status a.0 b.0 in
      (same.0, same.1, a.2 ∙ sym b.2)
  certified_one one other x y (inl a) (inr (inl b)) = absurd (never_two b.0 one other x.status y.status a.0 a.1 b.2 b.3)
  certified_one one other x y (inl a) (inr (inr b)) = absurd (never_two b.0 one b.1 x.status b.2 a.0 a.1 b.3 b.4)
  certified_one one other x y (inr (inl a)) (inl b) = absurd (never_two a.0 other one y.status x.status b.0 b.1 a.2 a.3)
  certified_one one other x y (inr (inl a)) (inr (inl b)) =
      let same = replies_one one other x.status y.status a.2 b.2 in
      let trees = one_tree a.0 b.0 one other x.status y.status a.2 a.3 b.2 b.3 in
      let bytes : a.1 ≡ b.1 = sym a.4.spelled ∙ ap tree_text trees ∙ b.4.spelled in
      (same.0, same.1, a.5 ∙ ap Some bytes ∙ sym b.5)
  certified_one one other x y (inr (inl a)) (inr (inr b)) =
      let trees = one_tree b.0 a.0 b.1 one b.2 x.status b.3 b.4 a.2 a.3 in
      absurd (not_both a.0 a.1 a.4 (subst (λ (t : Tree). most_bytes < length (tree_text t)) trees b.5))
  certified_one one other x y (inr (inr a)) (inl b) = absurd (never_two a.0 other a.1 y.status a.2 b.0 b.1 a.3 a.4)
  certified_one one other x y (inr (inr a)) (inr (inl b)) =
      let trees = one_tree a.0 b.0 a.1 other a.2 y.status a.3 a.4 b.2 b.3 in
      absurd (not_both b.0 b.1 b.4 (subst (λ (t : Tree). most_bytes < length (tree_text t)) trees a.5))
  certified_one one other x y (inr (inr a)) (inr (inr b)) = (a.6 ∙ sym b.6, a.7 ∙ sym b.7, a.8 ∙ sym b.8)
