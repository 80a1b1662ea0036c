-- A fact whose numbers are there is one of its definition's, and of the protocol's.
use Rattle.std.proofs.Common.{◌≡◌, ℕ, Bool, true, false, List, [], ◌∷◌, ◌++◌, length, min, refl, sym, ap, subst, inl, inr, map, arith}
use Rattle.std.specs.Prelude.{Option, Some, None, if◌then◌else◌, slice_get}
use Rattle.std.specs.List.{flat_map}
use Rattle.std.specs.Str.{bytes_eq}
use Rattle.std.proofs.lemmas.Bool.{and_parts, ltb-true}
use Rattle.std.proofs.lemmas.List.Concat.{flat_map-cons}
use Rattle.std.proofs.lemmas.Slice.Eq.{bytes_eq-Decides}
use Rattle.lf_rules.specs.declared.kind.Kind.{Kind}
use Rattle.lf_rules.specs.declared.kind.Kind.TheVariants as ranges
use Rattle.lf_rules.specs.declared.definition.Variable.{Variable}
use Rattle.lf_rules.specs.declared.definition.Definition.{Definition}
use Rattle.lf_rules.specs.Tables.{is_one}
use Rattle.lf_rule_machine.specs.declared.fact.Told.{Told}
use Rattle.lf_rule_machine.specs.declared.fact.Told.TheVariants as tolds
use Rattle.lf_rule_machine.specs.declared.fact.Fact.{Fact as Shown}
use Rattle.lf_rule_machine.specs.Instances.{Instance}
use Rattle.lf_naming.specs.Facts.{both, numbers, own_words, if_flag, own_flag, guard_facts, word_facts, flag_facts, facts_of}
use Rattle.lf_protocols.specs.declared.fact.Fact.{Fact}
use Rattle.lf_protocols.specs.declared.fact.Fact.TheVariants as facts
use Rattle.lf_protocols.specs.declared.protocol.Kind.TheVariants as kinds
use Rattle.lf_protocols.specs.Words.{fact_name}
use Rattle.lf_promises.specs.Facts.{is_number, has_word, is_flag_kind, is_flag, has_told}
use Rattle.lf_own_scenario.specs.Elements.{Member}
use Rattle.lf_own_scenario.proofs.Laws.{any-from, range-from}
use Rattle.lf_outcome.specs.Formulas.{is_fact_of}

in-left : {X : Type 0} (xs ys : List X) (x : X) → Member xs x → Member (xs ++ ys) x
in-left [] ys x m = absurd m
in-left (z ∷ xs) ys x (inl same) = inl same
in-left (z ∷ xs) ys x (inr later) = inr (in-left xs ys x later)

in-right : {X : Type 0} (xs ys : List X) (x : X) → Member ys x → Member (xs ++ ys) x
in-right [] ys x m = m
in-right (z ∷ xs) ys x m = inr (in-right xs ys x m)

in-map : {X Y : Type 0} (f : X → Y) (xs : List X) (x : X) → Member xs x → Member (map f xs) (f x)
in-map f [] x m = absurd m
in-map f (z ∷ xs) x (inl same) = inl (ap f same)
in-map f (z ∷ xs) x (inr later) = inr (in-map f xs x later)

module _ {X Y : Type 0} (f : X → List Y) (y : Y) where
  in-cons : (z : X) (xs : List X) → Member (f z ++ flat_map f xs) y → Member (flat_map f (z ∷ xs)) y
  in-cons z xs m = let P : List Y → Type 0 = λ ys. Member ys y in subst P (sym (flat_map-cons f z xs)) m

  in-flat : (xs : List X) (x : X) → Member xs x → Member (f x) y → Member (flat_map f xs) y
  in-flat [] x m k = absurd m
  in-flat (z ∷ xs) x (inl same) k =
      let P : X → Type 0 = λ v. Member (f v) y in
      in-cons z xs (in-left (f z) (flat_map f xs) y (subst P (sym same) k))
  in-flat (z ∷ xs) x (inr later) k = in-cons z xs (in-right (f z) (flat_map f xs) y (in-flat xs x later k))

in-numbers : (k count : ℕ) → is_number k count ≡ true → Member (numbers count) k
in-numbers k count is = range-from (min count 256) 0 k (omega arith) (omega (arith, ltb-true k (min count 256) is))

of_told : Told → Bool → Shown
of_told told denied = record { told = told; denied = denied }

in-both : (told : Told) (denied : Bool) → Member (both told) (of_told told denied)
unfolding of_told
in-both told false = inl refl
in-both told true = inr (inl refl)

-- what is there where something is so
in-where : {X : Type 0} (so : Bool) (xs : List X) (x : X) → so ≡ true → Member xs x → Member (if so then xs else []) x
in-where true xs x is m = m
in-where false xs x is m = absurd cc

in-words : (v word : ℕ) (denied : Bool) (o : Option Variable) → has_word o word ≡ true → Member (own_words v o) (of_told (tolds.Word v word) denied)
in-words v word denied None h = absurd cc
in-words v word denied (Some x) h =
    let of_word : ℕ → List Shown = λ k. both (tolds.Word v k) in
    let fact = of_told (tolds.Word v word) denied in
    let own = and_parts (is_one x.cells) (is_number word (length x.words)) h in
    in-where (is_one x.cells) (flat_map of_word (numbers (length x.words))) fact own.0
    (in-flat of_word fact (numbers (length x.words)) word (in-numbers word (length x.words) own.1) (in-both (tolds.Word v word) denied))

in-flag : (v : ℕ) (denied : Bool) (k : Kind) → is_flag_kind k ≡ true → Member (if_flag v k) (of_told (tolds.Flag v) denied)
in-flag v denied ranges.Flag h = in-both (tolds.Flag v) denied
in-flag v denied ranges.Nodes h = absurd cc
in-flag v denied (ranges.UpTo most) h = absurd cc
in-flag v denied (ranges.Word of words) h = absurd cc

in-flags : (v : ℕ) (denied : Bool) (o : Option Variable) → is_flag o ≡ true → Member (own_flag v o) (of_told (tolds.Flag v) denied)
in-flags v denied None h = absurd cc
in-flags v denied (Some x) h =
    let own = and_parts (is_one x.cells) (is_flag_kind x.kind) h in
    in-where (is_one x.cells) (if_flag v x.kind) (of_told (tolds.Flag v) denied) own.0 (in-flag v denied x.kind own.1)

module _ (d : Definition) where
  -- the facts behind those of guards, of words and of flags
  abbrev fixed_facts : List Shown
  fixed_facts = both tolds.Clamped ++ both tolds.Replaced

  in-last : (x : Shown) → Member fixed_facts x → Member (facts_of d) x
  in-last x m =
      in-right (guard_facts d) (word_facts d ++ (flag_facts d ++ fixed_facts)) x
      (in-right (word_facts d) (flag_facts d ++ fixed_facts) x (in-right (flag_facts d) fixed_facts x m))

  in-facts : (told : Told) (denied : Bool) → has_told d told ≡ true → Member (facts_of d) (of_told told denied)
  in-facts (tolds.Named guard) denied h =
      let x = of_told (tolds.Named guard) denied in
      in-left (guard_facts d) (word_facts d ++ (flag_facts d ++ fixed_facts)) x
      (in-flat (λ k. both (tolds.Named k)) x (numbers (length d.facts)) guard (in-numbers guard (length d.facts) h) (in-both (tolds.Named guard) denied))
  in-facts (tolds.Word variable word) denied h =
      let x = of_told (tolds.Word variable word) denied in
      let there = and_parts (is_number variable (length d.variables)) (has_word (slice_get d.variables variable) word) h in
      in-right (guard_facts d) (word_facts d ++ (flag_facts d ++ fixed_facts)) x
      (in-left (word_facts d) (flag_facts d ++ fixed_facts) x
      (in-flat (λ v. own_words v (slice_get d.variables v)) x (numbers (length d.variables)) variable
      (in-numbers variable (length d.variables) there.0) (in-words variable word denied (slice_get d.variables variable) there.1)))
  in-facts (tolds.Flag variable) denied h =
      let x = of_told (tolds.Flag variable) denied in
      let there = and_parts (is_number variable (length d.variables)) (is_flag (slice_get d.variables variable)) h in
      in-right (guard_facts d) (word_facts d ++ (flag_facts d ++ fixed_facts)) x
      (in-right (word_facts d) (flag_facts d ++ fixed_facts) x
      (in-left (flag_facts d) fixed_facts x
      (in-flat (λ v. own_flag v (slice_get d.variables v)) x (numbers (length d.variables)) variable
      (in-numbers variable (length d.variables) there.0) (in-flags variable denied (slice_get d.variables variable) there.1))))
  in-facts tolds.Clamped denied h =
      let x = of_told tolds.Clamped denied in
      in-last x (in-left (both tolds.Clamped) (both tolds.Replaced) x (in-both tolds.Clamped denied))
  in-facts tolds.Replaced denied h =
      let x = of_told tolds.Replaced denied in
      in-last x (in-right (both tolds.Clamped) (both tolds.Replaced) x (in-both tolds.Replaced denied))

-- a fact that is there is one of the protocol's
pub own-fact : (m : Instance) (fact : Shown) → has_told m.definition fact.told ≡ true → is_fact_of (kinds.Ruled m) (facts.Ruled fact) ≡ true
unfolding of_told
own-fact m fact h =
    let name = fact_name (kinds.Ruled m) (facts.Ruled fact) in
    let same : Fact → Bool = λ f. bytes_eq name (fact_name (kinds.Ruled m) f) in
    any-from same (map facts.Ruled (facts_of m.definition)) (facts.Ruled fact)
    (in-map facts.Ruled (facts_of m.definition) fact (in-facts m.definition fact.told fact.denied h))
    ((bytes_eq-Decides name name).1 refl)
