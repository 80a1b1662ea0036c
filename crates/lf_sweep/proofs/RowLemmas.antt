-- The line of a combination.
use Rattle.std.proofs.Common.{◌≡◌, ℕ, List, ap, subst, ◌∙◌}
use Rattle.lf_sweep.specs.declared.varied.Varied.{Varied}
use Rattle.lf_sweep.specs.Combinations.{words_at}
use Rattle.lf_sweep.specs.Lines.{line_of}
use Rattle.lf_sweep.specs.Texts.{IsTextWith}
use Rattle.lf_sweep.specs.declared.counts.Kind.{Kind}
use Rattle.lf_sweep.specs.Counts.{Told, kind_by, kind_of}
use Rattle.lf_sweep.specs.Studies.{IsReplyTo, told_line}

-- by what it is made of
pub row_told : (Replies : List ℕ → List ℕ → ℕ → Type 0) (scenario : List ℕ) (vs : List Varied) (number : ℕ) (ws : List Varied)
    (given given_too : List (List ℕ)) (text seen reply shown shown_too line : List ℕ) (status : ℕ) (k : Kind)
    → ws ≡ vs → given ≡ words_at vs number → given_too ≡ words_at vs number → IsTextWith scenario ws given text → seen ≡ text
    → Replies seen reply status → shown ≡ reply → shown_too ≡ reply → k ≡ kind_by shown status → line ≡ line_of given_too shown_too
    → (told : Told) × IsReplyTo Replies scenario vs number told × (line ≡ told_line vs number told) × (k ≡ kind_of told)
row_told Replies scenario vs number ws given given_too text seen reply shown shown_too line status k same words words_too asked is replied told told_too
    kind made_is = (
      (reply, status),
      record {
        text = text;
        asked = subst (λ l. IsTextWith scenario l (words_at vs number) text) same (subst (λ l. IsTextWith scenario ws l text) words asked);
        replied = subst (λ t. Replies t reply status) is replied;
      },
      made_is ∙ ap (λ l. line_of l shown_too) words_too ∙ ap (line_of (words_at vs number)) told_too,
      kind ∙ ap (λ r. kind_by r status) told,
    )
