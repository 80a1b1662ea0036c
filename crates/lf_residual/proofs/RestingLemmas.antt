-- On which points a formula rests, by the truths of its parts.
use Rattle.std.proofs.Common.{◌≡◌, ℕ, ◌+◌, ◌-◌, ◌<◌, ◌≤◌, min, Bool, true, false, List, [], ◌∷◌, ◌++◌, length, take, drop, get_or, map}
use Rattle.std.proofs.Common.{refl, sym, ap, ◌∙◌, subst, arith}
use Rattle.std.specs.Prelude.{if◌then◌else◌, Option, None, Some}
use Rattle.std.specs.List.{flat_map, list_all}
use Rattle.std.specs.Option.{is_some, option_map, option_and_then, unwrap_or}
use Rattle.std.proofs.lemmas.Bool.{and_parts}
use Rattle.std.proofs.lemmas.List.{drop_all, drop_more, drop-drop, drop-take, flat_map_more, get_or-drop, get_or-take, length-drop, length-take, take_more}
use Rattle.std.proofs.lemmas.List.Sums.{AllPass-from_list_all}
use Rattle.lf_faults.specs.declared.fault.Parts.{Parts}
use Rattle.lf_sim.specs.Runs.{World}
use Rattle.lf_outcome.specs.declared.formula.Formula.{Formula, fold-roll-Formula}
use Rattle.lf_outcome.specs.declared.formula.Formula.TheVariants.{rolls-All, rolls-Any, rolls-Down, rolls-One, rolls-Over, rolls-Shows}
use Rattle.lf_outcome.specs.declared.formula.Formula.TheVariants as kind
use Rattle.lf_outcome.specs.declared.formula.Formula.TheOpen.{Formula-F}
use Rattle.lf_outcome.specs.declared.point.Point.{Point}
use Rattle.lf_outcome.specs.Evidence.{all_of, first_of, points_up, rests_step}
use Rattle.lf_outcome.specs.Truth.{is_down, is_shown, is_single}
use Rattle.lf_outcome.proofs.Laws.{rests-truth}
use Rattle.lf_protocols.specs.declared.fact.Fact.{Fact}
use Rattle.lf_residual.specs.declared.part.Part.{Part}
use Rattle.lf_residual.specs.Judging.{points_for, said, truths_of}
use Rattle.lf_residual.specs.Parts.{parts_of, size_of}
use Rattle.lf_residual.proofs.Formulas.{truth-Down, truth-One, truth-Shows}
use Rattle.lf_residual.proofs.JudgedLemmas.{said-All, truths-head, truths-count}
use Rattle.lf_residual.proofs.Likeness.{size_pos, sizes}
use Rattle.lf_residual.proofs.Places.{parts-count, split-first, split-rest}

-- a list that is there
there : {A : Type 0} (o : Option (List A)) → is_some o ≡ true → o ≡ Some (unwrap_or o [])
there None h = absurd cc
there (Some xs) h = refl

missing : {A : Type 0} (o : Option A) → is_some o ≡ false → o ≡ None
missing None h = refl
missing (Some x) h = absurd cc

if-true : {A : Type 0} (b : Bool) (x : A) → b ≡ true → (if b then Some x else None) ≡ Some x
if-true true x h = refl
if-true false x h = absurd cc

module _ {State Note : Type 0} (w : World State Note Fact) (faults : List Parts) where
  abbrev step : Formula-F Fact (Option (List Point)) → Option (List Point)
  step = rests_step (is_down w faults) (is_shown w faults) (is_single w faults)

  abbrev rests : Formula Fact → Option (List Point)
  rests = points_for w faults

  -- on what a formula rests, as a list
  abbrev pub ground_of : Formula Fact → List Point
  ground_of f = unwrap_or (rests f) []

  -- there are some where it is true
  points-truth : (f : Formula Fact) → is_some (rests f) ≡ said w faults f
  points-truth = rests-truth (is_down w faults) (is_shown w faults) (is_single w faults)

  rests-All : (parts : List (Formula Fact)) → rests (kind.All parts) ≡ all_of (map rests parts)
  rests-All parts = ap rests (sym (rolls-All parts)) ∙ fold-roll-Formula Fact (Option (List Point)) step (Formula-F.All parts)

  rests-Any : (parts : List (Formula Fact)) → rests (kind.Any parts) ≡ first_of (map rests parts)
  rests-Any parts = ap rests (sym (rolls-Any parts)) ∙ fold-roll-Formula Fact (Option (List Point)) step (Formula-F.Any parts)

  rests-Down : (n t : ℕ) → rests (kind.Down n t) ≡ (if is_down w faults n t then Some [] else None)
  rests-Down n t = ap rests (sym (rolls-Down n t)) ∙ fold-roll-Formula Fact (Option (List Point)) step (Formula-F.Down n t)

  rests-Shows : (n t : ℕ) (fact : Fact)
      → rests (kind.Shows n t fact) ≡ (if is_shown w faults n t fact then Some (record { node = n; step = t } ∷ []) else None)
  rests-Shows n t fact = ap rests (sym (rolls-Shows n t fact)) ∙ fold-roll-Formula Fact (Option (List Point)) step (Formula-F.Shows n t fact)

  rests-One : (nodes last topic : ℕ)
      → rests (kind.One nodes last topic) ≡ (if is_single w faults nodes last topic then Some (points_up (is_down w faults) nodes last) else None)
  rests-One nodes last topic =
      ap rests (sym (rolls-One nodes last topic)) ∙ fold-roll-Formula Fact (Option (List Point)) step (Formula-F.One nodes last topic)

  rests-Over : (every : Bool) (first last : ℕ) (parts : List (Formula Fact)) → rests (kind.Over every first last parts) ≡ None
  rests-Over every first last parts =
      ap rests (sym (rolls-Over every first last parts))
      ∙ fold-roll-Formula Fact (Option (List Point)) step (Formula-F.Over every first last parts)

  -- by the kind of the formula, as read
  pub ground-all : (f : Formula Fact) (parts xs : List (Formula Fact)) → f ≡ kind.All parts → xs ≡ parts
      → unwrap_or (all_of (map rests xs)) [] ≡ ground_of f
  ground-all f parts xs is read =
      ap (λ ys. unwrap_or (all_of (map rests ys)) []) read ∙ ap (λ o. unwrap_or o []) (sym (rests-All parts)) ∙ ap ground_of (sym is)

  pub ground-any : (f : Formula Fact) (parts xs : List (Formula Fact)) → f ≡ kind.Any parts → xs ≡ parts
      → unwrap_or (first_of (map rests xs)) [] ≡ ground_of f
  ground-any f parts xs is read =
      ap (λ ys. unwrap_or (first_of (map rests ys)) []) read ∙ ap (λ o. unwrap_or o []) (sym (rests-Any parts)) ∙ ap ground_of (sym is)

  pub ground-down : (f : Formula Fact) (n t : ℕ) → f ≡ kind.Down n t → said w faults f ≡ true → ground_of f ≡ []
  ground-down f n t is h =
      let down : is_down w faults n t ≡ true =
      sym (truth-Down (is_down w faults) (is_shown w faults) (is_single w faults) n t) ∙ ap (said w faults) (sym is) ∙ h in
      ap ground_of is ∙ ap (λ o. unwrap_or o []) (rests-Down n t ∙ if-true (is_down w faults n t) [] down)

  pub ground-shows : (f : Formula Fact) (n t : ℕ) (fact : Fact) → f ≡ kind.Shows n t fact → said w faults f ≡ true
      → ground_of f ≡ record { node = n; step = t } ∷ []
  ground-shows f n t fact is h =
      let shown : is_shown w faults n t fact ≡ true =
      sym (truth-Shows (is_down w faults) (is_shown w faults) (is_single w faults) n t fact) ∙ ap (said w faults) (sym is) ∙ h in
      ap ground_of is
      ∙ ap (λ o. unwrap_or o []) (rests-Shows n t fact ∙ if-true (is_shown w faults n t fact) (record { node = n; step = t } ∷ []) shown)

  pub ground-one : (f : Formula Fact) (nodes last topic : ℕ) → f ≡ kind.One nodes last topic → said w faults f ≡ true
      → ground_of f ≡ points_up (is_down w faults) nodes last
  ground-one f nodes last topic is h =
      let single : is_single w faults nodes last topic ≡ true =
      sym (truth-One (is_down w faults) (is_shown w faults) (is_single w faults) nodes last topic) ∙ ap (said w faults) (sym is) ∙ h in
      ap ground_of is
      ∙ ap (λ o. unwrap_or o []) (rests-One nodes last topic ∙ if-true (is_single w faults nodes last topic) (points_up (is_down w faults) nodes last) single)

  pub ground-over : (f : Formula Fact) (every : Bool) (first last : ℕ) (parts : List (Formula Fact)) → f ≡ kind.Over every first last parts
      → ground_of f ≡ []
  ground-over f every first last parts is =
      ap ground_of is ∙ ap (λ o. unwrap_or o []) (rests-Over every first last parts)

  -- formulas that are all true
  pub all-true : (f : Formula Fact) (parts xs : List (Formula Fact)) → f ≡ kind.All parts → xs ≡ parts → said w faults f ≡ true
      → list_all (said w faults) xs ≡ true
  all-true f parts xs is read h =
      ap (list_all (said w faults)) read ∙ sym (said-All w faults parts) ∙ ap (said w faults) (sym is) ∙ h

  pub one-true : (parts : List (Formula Fact)) (i : ℕ) (part : Formula Fact) → list_all (said w faults) parts ≡ true → i < length parts
      → part ≡ get_or parts i part → said w faults part ≡ true
  one-true parts i part h inside is =
      ap (said w faults) is ∙ AllPass-from_list_all (said w faults) parts h i part inside

  pub all-grounds : (parts : List (Formula Fact)) → list_all (said w faults) parts ≡ true
      → unwrap_or (all_of (map rests parts)) [] ≡ flat_map ground_of parts
  all-grounds parts h = ap (λ o. unwrap_or o []) (each parts h)
    where
      each : (xs : List (Formula Fact)) → list_all (said w faults) xs ≡ true → all_of (map rests xs) ≡ Some (flat_map ground_of xs)
      each [] h = refl
      each (x ∷ xs) h =
          let both = and_parts (said w faults x) (list_all (said w faults) xs) h in
          let first : rests x ≡ Some (ground_of x) = there (rests x) (points-truth x ∙ both.0) in
          ap (λ o. option_and_then (λ ps. option_map (λ qs. ps ++ qs) (all_of (map rests xs))) o) first
          ∙ ap (λ o. option_map (λ qs. ground_of x ++ qs) o) (each xs both.1)

  pub grounds-more : (parts : List (Formula Fact)) (i : ℕ) (part : Formula Fact) (before now new : List Point) → i < length parts
      → part ≡ get_or parts i part → now ≡ before ++ flat_map ground_of (take i parts) → new ≡ now ++ ground_of part
      → new ≡ before ++ flat_map ground_of (take (i + 1) parts)
  grounds-more parts i part before now new inside is so_far put =
      put ∙ ap (λ ps. ps ++ ground_of part) so_far ∙ flat_map_more ground_of before (take i parts) part
      ∙ ap (λ xs. before ++ flat_map ground_of xs) (sym (take_more parts i part inside ∙ ap (λ x. take i parts ++ x ∷ []) (sym is)))

  -- the first that is true
  module _ (parts : List (Formula Fact)) (i : ℕ) (part : Formula Fact) (inside : i < length parts) (is : part ≡ get_or parts i part)
      (so_far : first_of (map rests parts) ≡ first_of (map rests (drop i parts))) where
    here : first_of (map rests parts) ≡ first_of (rests part ∷ map rests (drop (i + 1) parts))
    here = so_far ∙ ap (λ xs. first_of (map rests xs)) (drop_more parts i part inside ∙ ap (λ x. x ∷ drop (i + 1) parts) (sym is))

    pub first-now : said w faults part ≡ true → unwrap_or (first_of (map rests parts)) [] ≡ ground_of part
    first-now h =
        let first : rests part ≡ Some (ground_of part) = there (rests part) (points-truth part ∙ h) in
        ap (λ o. unwrap_or o []) (here ∙ ap (λ o. first_of (o ∷ map rests (drop (i + 1) parts))) first)

    pub first-later : said w faults part ≡ false → first_of (map rests parts) ≡ first_of (map rests (drop (i + 1) parts))
    first-later h =
        here ∙ ap (λ o. first_of (o ∷ map rests (drop (i + 1) parts))) (missing (rests part) (points-truth part ∙ h))

  pub first-none : (parts : List (Formula Fact)) (i : ℕ) → length parts ≤ i → first_of (map rests parts) ≡ first_of (map rests (drop i parts))
      → unwrap_or (first_of (map rests parts)) [] ≡ []
  first-none parts i far so_far = ap (λ o. unwrap_or o []) (so_far ∙ ap (λ xs. first_of (map rests xs)) (drop_all i parts far))

  -- Formulas that are gone through one by one: those from the next one on stand from a place on
  pub record Walk (ps : List Part) (truths : List Bool) (parts : List (Formula Fact)) (i at : ℕ) : Type 0 where
    pub table : take (sizes (drop i parts)) (drop at ps) ≡ flat_map parts_of (drop i parts)
    pub judged : take (sizes (drop i parts)) (drop at truths) ≡ flat_map (truths_of w faults) (drop i parts)

  module _ (ps : List Part) (truths : List Bool) (parts : List (Formula Fact)) (i at : ℕ) (part : Formula Fact) (inside : i < length parts)
      (is : part ≡ get_or parts i part) (walk : Walk ps truths parts i at) where
    abbrev later : List (Formula Fact)
    later = drop (i + 1) parts

    split : drop i parts ≡ part ∷ later
    split = drop_more parts i part inside ∙ ap (λ x. x ∷ later) (sym is)

    table_now : take (size_of part + sizes later) (drop at ps) ≡ parts_of part ++ flat_map parts_of later
    table_now = subst (λ xs. take (sizes xs) (drop at ps) ≡ flat_map parts_of xs) split walk.table

    truths_now : take (size_of part + sizes later) (drop at truths) ≡ truths_of w faults part ++ flat_map (truths_of w faults) later
    truths_now = subst (λ xs. take (sizes xs) (drop at truths) ≡ flat_map (truths_of w faults) xs) split walk.judged

    pub next-parts : take (size_of part) (drop at ps) ≡ parts_of part
    next-parts = split-first (size_of part) (sizes later) at ps (parts_of part) (flat_map parts_of later) (parts-count part) table_now

    pub next-truths : take (size_of part) (drop at truths) ≡ truths_of w faults part
    next-truths =
        split-first (size_of part) (sizes later) at truths (truths_of w faults part) (flat_map (truths_of w faults) later) (truths-count w faults part)
        truths_now

    pub next-walk : Walk ps truths parts (i + 1) (at + size_of part)
    next-walk = record {
      table = split-rest (size_of part) (sizes later) at ps (parts_of part) (flat_map parts_of later) (parts-count part) table_now;
      judged = split-rest (size_of part) (sizes later) at truths (truths_of w faults part) (flat_map (truths_of w faults) later)
          (truths-count w faults part) truths_now;
    }

  -- the truth that stands at a formula's place is its own
  pub truth-here : (f : Formula Fact) (at : ℕ) (truths : List Bool) (d : Bool) → take (size_of f) (drop at truths) ≡ truths_of w faults f
      → get_or truths at d ≡ said w faults f
  truth-here f at truths d is =
      let here : at + 0 ≡ at = omega arith in
      ap (λ n. get_or truths n d) (sym here) ∙ sym (get_or-drop at truths 0 d) ∙ sym (get_or-take (size_of f) (drop at truths) 0 d (size_pos f))
      ∙ ap (λ xs. get_or xs 0 d) (is ∙ (truths-head w faults f).1)

  -- and it stands among them
  pub truth-inside : (f : Formula Fact) (at : ℕ) (truths : List Bool) → take (size_of f) (drop at truths) ≡ truths_of w faults f → at < length truths
  truth-inside f at truths is =
      let counted : min (size_of f) (length truths - at) ≡ size_of f =
      sym (length-take (size_of f) (drop at truths) ∙ ap (min (size_of f)) (length-drop at truths)) ∙ ap length is ∙ truths-count w faults f in
      let some = size_pos f in
      omega (arith, counted, some)

  -- those of its own parts follow it
  pub inner-truths : (f : Formula Fact) (xs : List (Formula Fact)) (at : ℕ) (truths : List Bool)
      → truths_of w faults f ≡ said w faults f ∷ flat_map (truths_of w faults) xs → sizes xs + 1 ≡ size_of f
      → take (size_of f) (drop at truths) ≡ truths_of w faults f → take (sizes xs) (drop (at + 1) truths) ≡ flat_map (truths_of w faults) xs
  inner-truths f xs at truths has size is =
      let one : 1 + sizes xs ≡ size_of f = omega (arith, size) in
      ap (take (sizes xs)) (sym (drop-drop 1 at truths)) ∙ sym (drop-take 1 (sizes xs) (drop at truths))
      ∙ ap (drop 1) (ap (λ n. take n (drop at truths)) one ∙ is ∙ has)

  -- what a formula rests on is there where it is true, and nowhere else
  pub rests-some : (f : Formula Fact) → said w faults f ≡ true → rests f ≡ Some (ground_of f)
  rests-some f h = there (rests f) (points-truth f ∙ h)

  pub rests-none : (f : Formula Fact) → said w faults f ≡ false → rests f ≡ None
  rests-none f h = missing (rests f) (points-truth f ∙ h)
