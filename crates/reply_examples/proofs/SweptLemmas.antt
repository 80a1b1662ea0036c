-- The lines of a sweep whose scenario is on standard input.
use Rattle.std.proofs.Common.{◌≡◌, ℕ, ◌+◌, ◌≤◌, Bool, List, length, take, codes, refl, ap, subst, ◌∙◌, inl, inr, arith}
use Rattle.std.specs.Prelude.{IfSome, Option, None, Some, Ok, string_bytes}
use Rattle.std.specs.Option.{option_map}
use Rattle.std.specs.Io.KnownBytes.{Appends}
use Rattle.std.proofs.lemmas.Bool.{cases_lt}
use Rattle.std.proofs.lemmas.List.{length-take, take_all}
use Rattle.lf_scenario.specs.Limits.{longest}
use Rattle.lf_streams.specs.Files.{Desk}
use Rattle.lf_sweep.specs.declared.counts.Counts.{Counts}
use Rattle.lf_sweep_words.specs.declared.types.SweepAsked.{SweepAsked}
use Rattle.leastfault.specs.Engines.{IsFront}
use Rattle.leastfault.specs.Places.{IsFrontAt, place_of}
use Rattle.leastfault_sweep.specs.declared.executing.Ended.TheVariants as ended
use Rattle.leastfault_sweep.specs.declared.executing.SweepExecuted.{SweepExecuted}
use Rattle.leastfault_sweep.specs.Executed.{IsEnd, IsExecuted, given_of}
use Rattle.leastfault_sweep.specs.Replies.{IsSweep}

none_given : (holds : Option (List ℕ) → Option (List ℕ)) (given : Option (List ℕ)) → IsFrontAt holds None longest given → given ≡ None
none_given holds None is = refl
none_given holds (Some bytes) is = absurd is

-- the front of a text that is short enough is the text
whole : (text bytes : List ℕ) → bytes ≡ take (longest + 1) text → length bytes ≤ longest → bytes ≡ text
whole text bytes front short = elim (cases_lt longest (length text)) [
  | inl more ↦ absurd (omega (arith, more, short, ap length front, length-take (longest + 1) text))
  | inr fits ↦ front ∙ take_all (longest + 1) text (omega (arith, fits))
]

module _ {W : Type 0} (written : W → Option (List ℕ)) (has_failed : W → Bool) (asked : SweepAsked) (old new : Desk) (before after : W) (text : List ℕ) where
  pub swept_lines : (x : SweepExecuted) (counts : Counts) → string_bytes asked.file ≡ codes "-" → asked.protocol ≡ None → old.holds None ≡ Some text
      → x.ended ≡ ended.Swept counts → IsExecuted written has_failed asked old new before after (Ok x)
      → (bytes : List ℕ) × IsSweep None asked.by text asked.plan.varied.items asked.part bytes counts × Appends (written before) (written after) bytes
  swept_lines x counts file protocol held end is =
      let done = is.done in
      let items = x.texts.scenario.items in
      let none : given_of x.texts ≡ None =
      none_given old.holds (given_of x.texts)
      (subst (λ p. IsFrontAt old.holds p longest (given_of x.texts)) (ap (option_map (λ name. Some (string_bytes name))) protocol) done.0.0) in
      let front : IsFront longest (Some text) items =
      subst (λ known. IsFront longest known items) held (subst (λ p. IsFront longest (old.holds p) items) (ap place_of file) done.0.1) in
      let so : IsEnd written has_failed asked (given_of x.texts) items before after (ended.Swept counts) =
      subst (IsEnd written has_failed asked (given_of x.texts) items before after) end done.2 in
      let same : items ≡ text = whole text items front so.1 in
      let lines = so.2 in (
        lines.0,
        subst (λ given. IsSweep given asked.by text asked.plan.varied.items asked.part lines.0 counts) none
            (subst (λ t. IsSweep (given_of x.texts) asked.by t asked.plan.varied.items asked.part lines.0 counts) same lines.1),
        lines.2,
      )

-- what is so of both is so of the pair
pub both_so : {X : Type 0} (first second : Option X) (r : Option (X × X)) (P Q : X → Type 0) (R : X × X → Type 0)
    → ((n m : X) → P n → Q m → R (n, m)) → IfSome first P → IfSome second Q → IfSome r (λ b. (first ≡ Some b.0) × (second ≡ Some b.1)) → IfSome r R
both_so first second None P Q R law a b is = tt
both_so first second (Some x) P Q R law a b is = law x.0 x.1 (subst (λ o. IfSome o P) is.0 a) (subst (λ o. IfSome o Q) is.1 b)
