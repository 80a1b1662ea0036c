-- Words ask for one sweep at most.
use Rattle.std.proofs.Common.{◌≡◌, ◌∙◌, ◌<◌, ℕ, List, Option, None, Some, refl, sym, ap, codes, slice_index_or, string_bytes, arith}
use Rattle.std.proofs.lemmas.Option.{same_Some}
use Rattle.clap.specs.Words.{Row, Text, all_of, first_of, matches_of}
use Rattle.lf_sweep.specs.declared.plan.Plan.{Plan}
use Rattle.lf_sweep_words.specs.Command.{sweep}
use Rattle.lf_sweep_words.specs.Same.{AreSame, IsSameAsked}
use Rattle.lf_sweep_words.specs.Words.{Asks, IsBy, IsMatched, IsPlanned}
use Rattle.lf_sweep_words.specs.declared.types.By.{By}
use Rattle.lf_sweep_words.specs.declared.types.By.TheVariants as by
use Rattle.lf_sweep_words.specs.declared.types.SweepAsked.{SweepAsked}
use Rattle.lf_sweep_words.proofs.Laws.{part_once, workers_once}
use Rattle.lf_sweep_words.proofs.Sameness.{all_once}

apart : (m n : ℕ) → m < n → m ≡ n → ⊥
apart m n less is = absurd (omega arith)

-- `answer` begins with 97, and `search` with 115
either_word : (text : Text) → text ≡ codes "answer" → text ≡ codes "search" → ⊥
either_word text one other = apart 97 115 (omega arith) (ap (λ (t : Text). slice_index_or t 0 0) (sym one ∙ other))

by_once : (o : Option Text) (a b : By) → IsBy o a → IsBy o b → a ≡ b
by_once None by.Answer by.Answer is is_too = refl
by_once None by.Answer by.Search is is_too = absurd is_too
by_once None by.Search b is is_too = absurd is
by_once (Some text) by.Answer by.Answer is is_too = refl
by_once (Some text) by.Answer by.Search is is_too = absurd (either_word text is is_too)
by_once (Some text) by.Search by.Answer is is_too = absurd (either_word text is_too is)
by_once (Some text) by.Search by.Search is is_too = refl

plan_once : (o : Option (List Text)) (a b : Plan) → IsPlanned o a → IsPlanned o b → AreSame a.varied.items b.varied.items
plan_once None a b is is_too = absurd is
plan_once (Some texts) a b is is_too = all_once texts a.varied.items b.varied.items is is_too

matched_once : (rows : List Row) (a b : SweepAsked) → IsMatched rows a → IsMatched rows b → IsSameAsked a b
matched_once rows a b m n =
    let part = part_once (first_of (codes "part") rows) a.part b.part m.part n.part in
    record {
      file = same_Some (string_bytes a.file) (string_bytes b.file) (sym m.file ∙ n.file);
      varied = plan_once (all_of (codes "vary") rows) a.plan b.plan m.plan n.plan;
      by = by_once (first_of (codes "by") rows) a.by b.by m.by n.by;
      workers = workers_once (first_of (codes "workers") rows) a.workers b.workers m.workers n.workers;
      which = part.0;
      parts = part.1;
      json = m.json ∙ sym n.json;
      quiet = m.quiet ∙ sym n.quiet;
      protocol = sym m.protocol ∙ n.protocol;
    }

pub asked_once : (words : List Text) (a b : SweepAsked) → Asks words a → Asks words b → IsSameAsked a b
asked_once words a b one other = matched_once (matches_of sweep words) a b one.1 other.1
