-- What a command comes to, by the bytes at the front of the texts that it is about.
use Rattle.std.proofs.Common.{ℕ, List, inl, inr, option_map, string_bytes}
use Rattle.std.specs.Prelude.{Option, None, Some}
use Rattle.lf_scenario.specs.Limits.{longest}
use Rattle.lf_tree.specs.Texts.{most_bytes}
use Rattle.lf_words.specs.declared.types.Asked.{Asked}
use Rattle.lf_words.specs.declared.types.Asked.TheVariants as asked
use Rattle.lf_protocol_file.specs.declared.declared.Declared.{Declared}
use Rattle.leastfault.specs.declared.reply.Certified.{Certified}
use Rattle.leastfault.specs.Commands.{IsCause, IsCauseFor, IsDone, IsDoneFor, wanted_of}
use Rattle.leastfault.proofs.DelayedLemmas.{asked_by_front}
use Rattle.leastfault.proofs.ShownLemmas.{drawn_by_front, shown_by_front}
use Rattle.leastfault.proofs.WhyLemmas.{why_by_front}
use Rattle.leastfault.proofs.ReplyLemmas.{GoesByFront, certified_by_front, certified_cause_by_front, check_by_front, file_by_front}
use Rattle.leastfault.proofs.ReplyLemmas.{file_refused_by_front, protocol_by_front, tree_by_front, uncertified_by_front}

module _ (known : Option Declared) where
  pub done_for_by_front : (a : Asked) (certificate : Option (List ℕ)) (reply : List ℕ) (ended : Certified)
      → GoesByFront longest (λ text. IsDoneFor known a text certificate reply ended)
  done_for_by_front (asked.Search file None all workers quiet protocol) certificate reply ended held more is =
      uncertified_by_front known (wanted_of all) workers reply ended held more is
  done_for_by_front (asked.Search file (Some tree) all workers quiet protocol) certificate reply ended held more is =
      certified_by_front known (wanted_of all) workers reply ended held more is
  done_for_by_front (asked.Run file faults shown delays protocol) certificate reply ended held more is =
      (shown_by_front known shown (option_map string_bytes delays) (string_bytes faults) reply ended.status held more is.0, is.1)
  done_for_by_front (asked.Draw file faults delays protocol) certificate reply ended held more is =
      (drawn_by_front known (option_map string_bytes delays) (string_bytes faults) reply ended.status held more is.0, is.1)
  done_for_by_front (asked.Check file tree quiet protocol) None reply ended held more is = absurd is.0
  done_for_by_front (asked.Check file tree quiet protocol) (Some certificate) reply ended held more is =
      (check_by_front known certificate reply ended.status held more is.0, is.1)
  done_for_by_front (asked.Answer file quiet every_delay protocol) certificate reply ended held more is =
      (asked_by_front known every_delay reply ended.status held more is.0, is.1)
  done_for_by_front (asked.Why file quiet protocol) certificate reply ended held more is =
      (why_by_front known reply ended.status held more is.0, is.1)
  done_for_by_front (asked.Protocol file) certificate reply ended held more is = (protocol_by_front reply ended.status held more is.0, is.1)

  pub done_for_by_tree : (a : Asked) (text reply : List ℕ) (ended : Certified)
      → GoesByFront most_bytes (λ certificate. IsDoneFor known a text (Some certificate) reply ended)
  done_for_by_tree (asked.Search file tree all workers quiet protocol) text reply ended held more is = is
  done_for_by_tree (asked.Run file faults shown delays protocol) text reply ended held more is = is
  done_for_by_tree (asked.Draw file faults delays protocol) text reply ended held more is = is
  done_for_by_tree (asked.Check file tree quiet protocol) text reply ended held more is =
      (tree_by_front known text reply ended.status held more is.0, is.1)
  done_for_by_tree (asked.Answer file quiet every_delay protocol) text reply ended held more is = is
  done_for_by_tree (asked.Why file quiet protocol) text reply ended held more is = is
  done_for_by_tree (asked.Protocol file) text reply ended held more is = is

  pub cause_for_by_front : (a : Asked) (number : ℕ) → GoesByFront longest (λ text. IsCauseFor known a text number)
  cause_for_by_front (asked.Search file tree all workers quiet protocol) number held more is =
      certified_cause_by_front known workers number held more is
  cause_for_by_front (asked.Run file faults shown delays protocol) number held more is = is
  cause_for_by_front (asked.Draw file faults delays protocol) number held more is = is
  cause_for_by_front (asked.Check file tree quiet protocol) number held more is = is
  cause_for_by_front (asked.Answer file quiet every_delay protocol) number held more is = is
  cause_for_by_front (asked.Why file quiet protocol) number held more is = is
  cause_for_by_front (asked.Protocol file) number held more is = is

pub done_by_front : (a : Asked) (protocol certificate : Option (List ℕ)) (reply : List ℕ) (ended : Certified)
    → GoesByFront longest (λ text. IsDone a protocol text certificate reply ended)
done_by_front a None certificate reply ended held more is = done_for_by_front None a certificate reply ended held more is
done_by_front a (Some protocol) certificate reply ended held more (inl none) = inl none
done_by_front a (Some protocol) certificate reply ended held more (inr some) =
    inr (some.0, some.1, done_for_by_front (Some some.0) a certificate reply ended held more some.2)

pub done_by_protocol : (a : Asked) (text : List ℕ) (certificate : Option (List ℕ)) (reply : List ℕ) (ended : Certified)
    → GoesByFront longest (λ protocol. IsDone a (Some protocol) text certificate reply ended)
done_by_protocol a text certificate reply ended held more (inl none) =
    inl ((none.0.0, file_refused_by_front none.0.0 held more none.0.1, none.0.2, none.0.3), none.1)
done_by_protocol a text certificate reply ended held more (inr some) = inr (some.0, file_by_front some.0 held more some.1, some.2)

pub done_by_tree : (a : Asked) (protocol : Option (List ℕ)) (text reply : List ℕ) (ended : Certified)
    → GoesByFront most_bytes (λ certificate. IsDone a protocol text (Some certificate) reply ended)
done_by_tree a None text reply ended held more is = done_for_by_tree None a text reply ended held more is
done_by_tree a (Some protocol) text reply ended held more (inl none) = inl none
done_by_tree a (Some protocol) text reply ended held more (inr some) =
    inr (some.0, some.1, done_for_by_tree (Some some.0) a text reply ended held more some.2)

pub cause_by_text : (a : Asked) (protocol : Option (List ℕ)) (number : ℕ) → GoesByFront longest (λ text. IsCause a protocol text number)
cause_by_text a None number held more is = cause_for_by_front None a number held more is
cause_by_text a (Some protocol) number held more is = (is.0, is.1, cause_for_by_front (Some is.0) a number held more is.2)

pub cause_by_protocol : (a : Asked) (text : List ℕ) (number : ℕ) → GoesByFront longest (λ protocol. IsCause a (Some protocol) text number)
cause_by_protocol a text number held more is = (is.0, file_by_front is.0 held more is.1, is.2)
