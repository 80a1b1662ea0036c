-- Words ask for one thing at most.
use Rattle.std.proofs.Common.{◌≡◌, ◌∙◌, ℕ, List, Option, None, Some, refl, sym, ap, codes, string_bytes}
use Rattle.std.proofs.lemmas.Option.{same_Some}
use Rattle.clap.specs.Words.{Row, Text, first_of, matches_of}
use Rattle.lf_sweep_words.proofs.Laws.{part_once, workers_once}
use Rattle.lf_doubt_words.specs.Command.{doubt}
use Rattle.lf_doubt_words.specs.Same.{IsSameAsked}
use Rattle.lf_doubt_words.specs.Words.{AreSeconds, Asks, IsMatched}
use Rattle.lf_doubt_words.specs.declared.types.DoubtAsked.{DoubtAsked}

seconds_once : (o : Option Text) (m n : Option ℕ) → AreSeconds o m → AreSeconds o n → m ≡ n
seconds_once None None None is is_too = refl
seconds_once None None (Some n) is is_too = absurd is_too
seconds_once None (Some m) n is is_too = absurd is
seconds_once (Some text) None n is is_too = absurd is
seconds_once (Some text) (Some m) None is is_too = absurd is_too
seconds_once (Some text) (Some m) (Some n) is is_too = ap Some (sym is.0.1 ∙ is_too.0.1)

matched_once : (rows : List Row) (a b : DoubtAsked) → IsMatched rows a → IsMatched rows b → IsSameAsked a b
matched_once rows a b m n =
    let part = part_once (first_of (codes "part") rows) a.part b.part m.part n.part in
    record {
      file = same_Some (string_bytes a.file) (string_bytes b.file) (sym m.file ∙ n.file);
      protocol = sym m.protocol ∙ n.protocol;
      deep = m.deep ∙ sym n.deep;
      seconds = seconds_once (first_of (codes "seconds") rows) a.seconds b.seconds m.seconds n.seconds;
      workers = workers_once (first_of (codes "workers") rows) a.workers b.workers m.workers n.workers;
      which = part.0;
      parts = part.1;
      json = m.json ∙ sym n.json;
      quiet = m.quiet ∙ sym n.quiet;
    }

pub asked_once : (words : List Text) (a b : DoubtAsked) → Asks words a → Asks words b → IsSameAsked a b
asked_once words a b one other = matched_once (matches_of doubt words) a b one.1 other.1
