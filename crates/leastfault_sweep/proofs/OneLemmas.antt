-- A sweep is one.
use Rattle.std.proofs.Common.{◌≡◌, ℕ, ◌+◌, ◌<◌, ◌≤◌, List, [], ◌∷◌, ◌++◌, length, Option, Some, None}
use Rattle.std.proofs.Common.{Result, Ok, Err, inl, inr, refl, sym, ap, subst, ◌∙◌, arith, true}
use Rattle.std.proofs.lemmas.Bool.{cases_order}
use Rattle.std.proofs.lemmas.Option.{same_Some}
use Rattle.toml.specs.Data.{Members}
use Rattle.lf_protocol_file.specs.Files as files
use Rattle.lf_sweep.specs.declared.part.Part.{Part}
use Rattle.lf_sweep.specs.declared.varied.Varied.{Varied}
use Rattle.lf_sweep.specs.Combinations.{combinations, words_at}
use Rattle.lf_sweep.specs.Exact.{members_have_no_floats}
use Rattle.lf_sweep.specs.Parts.{IsLengthOf, number_at}
use Rattle.lf_sweep.specs.Texts.{IsScenario, IsTextWith, with_words}
use Rattle.lf_sweep.specs.declared.counts.Counts.{Counts}
use Rattle.lf_sweep.specs.Counts.{Told, counts_of}
use Rattle.lf_sweep.specs.Rows.{told_lines}
use Rattle.lf_sweep.specs.Studies.{AreReplies, IsReplyTo, told_line}
use Rattle.lf_protocol_file.specs.declared.declared.Declared.{Declared}
use Rattle.leastfault.specs.Replies.{HasOneReply, IsAnswerReply, IsSearchReply}
use Rattle.lf_sweep_words.specs.declared.types.By.{By}
use Rattle.lf_sweep_words.specs.declared.types.By.TheVariants as by
use Rattle.leastfault_sweep.specs.Replies.{IsKnownIn, IsReplyBy, IsSweep, RepliesBy}

abbrev good : {A E : Type 0} → Result A E → A → A
good (Ok x) d = x
good (Err e) d = d

file_once : (text : List ℕ) (one other : Declared) → files.IsText one text → files.IsText other text → one ≡ other
file_once text one other a b =
    let same : a.members ≡ b.members = same_Some a.members b.members (sym a.document.members ∙ b.document.members) in
    ap (λ r. good r one) (sym a.said ∙ ap files.file_in same ∙ b.said)

known_once : (protocol : Option (List ℕ)) (one other : Option Declared) → IsKnownIn protocol one → IsKnownIn protocol other → one ≡ other
known_once None None None a b = refl
known_once None None (Some g) a b = absurd b
known_once None (Some f) other a b = absurd a
known_once (Some text) None other a b = absurd a
known_once (Some text) (Some f) None a b = absurd b
known_once (Some text) (Some f) (Some g) a b = ap Some (file_once text f g a b)

same_told : (t u : Told) → (t.0 ≡ u.0) × (t.1 ≡ u.1) → t ≡ u
same_told t u same = ap (λ a. (a, t.1)) same.0 ∙ ap (λ n. (u.0, n)) same.1

-- a part has one number of combinations
length_once : (part : Part) (n some more : ℕ) → IsLengthOf part n some → IsLengthOf part n more → some ≡ more
length_once part n some more a b = elim (cases_order some more) [
  | inl same ↦ same
  | inr apart ↦ elim apart [
    | inl less ↦ absurd (omega (arith, b.inside some less, a.whole))
    | inr greater ↦ absurd (omega (arith, a.inside more greater, b.whole))
  ]
]

module _ (answer : (known : Option Declared) (text : List ℕ) → HasOneReply (IsAnswerReply known text))
    (search : (known : Option Declared) (text : List ℕ) → HasOneReply (IsSearchReply known text)) where
  by_once : (by : By) (known : Option Declared) (text one other : List ℕ) (m n : ℕ) → IsReplyBy by known text one m → IsReplyBy by known text other n
      → (one ≡ other) × (m ≡ n)
  by_once by.Answer known text one other m n a b = answer known text one other m n a b
  by_once by.Search known text one other m n a b = search known text one other m n a b

  reply_once : (protocol : Option (List ℕ)) (by : By) (text one other : List ℕ) (m n : ℕ) → RepliesBy protocol by text one m
      → RepliesBy protocol by text other n → (one ≡ other) × (m ≡ n)
  reply_once protocol by text one other m n a b =
      let same = known_once protocol b.known a.known b.is_known a.is_known in
      by_once by a.known text one other m n a.is (subst (λ known. IsReplyBy by known text other n) same b.is)

  module _ (protocol : Option (List ℕ)) (by : By) (scenario : List ℕ) (vs : List Varied) (part : Part)
      (texts : (number : ℕ) (one other : List ℕ) → IsTextWith scenario vs (words_at vs number) one → IsTextWith scenario vs (words_at vs number) other
      → one ≡ other) where
    told_once : (number : ℕ) (t u : Told) → IsReplyTo (RepliesBy protocol by) scenario vs number t → IsReplyTo (RepliesBy protocol by) scenario vs number u
        → t ≡ u
    told_once number t u a b =
        let same = texts number b.text a.text b.asked a.asked in
        same_told t u
        (reply_once protocol by a.text t.0 u.0 t.1 u.1 a.replied (subst (λ text. RepliesBy protocol by text u.0 u.1) same b.replied))

    all_once : (place : ℕ) (ts us : List Told) → length ts ≡ length us → AreReplies (RepliesBy protocol by) scenario vs part place ts
        → AreReplies (RepliesBy protocol by) scenario vs part place us → ts ≡ us
    all_once place [] [] many a b = refl
    all_once place [] (u ∷ us) many a b = absurd (omega (arith, many))
    all_once place (t ∷ ts) [] many a b = absurd (omega (arith, many))
    all_once place (t ∷ ts) (u ∷ us) many a b =
        ap (λ x. x ∷ ts) (told_once (number_at part place) t u a.0.replied b.0.replied)
        ∙ ap (λ l. u ∷ l) (all_once (place + 1) ts us (omega (arith, many)) a.1 b.1)

    pub sweep_once : (one other : List ℕ) (counts more : Counts) → IsSweep protocol by scenario vs part one counts
        → IsSweep protocol by scenario vs part other more → (one ≡ other) × (counts ≡ more)
    sweep_once one other counts more a b =
        let x = a.2 in
        let y = b.2 in
        let many = x.2 ∙ length_once part (combinations vs) a.0 b.0 a.1 b.1 ∙ sym y.2 in
        let same = all_once 0 x.0 y.0 many x.1.rows y.1.rows in
        (x.1.together ∙ ap (told_lines (told_line vs) part 0) same ∙ sym y.1.together, x.3 ∙ ap counts_of same ∙ sym y.3)
