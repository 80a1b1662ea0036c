-- Each allowed set of a size that misses grows, where all smaller ones reach.
use Rattle.std.proofs.Common.{◌≡◌, ℕ, zero, suc, ◌+◌, ◌<◌, ◌≤◌, true, false, List, [], ◌∷◌, ◌++◌, length, take}
use Rattle.std.proofs.Common.{refl, sym, ◌∙◌, subst, arith, inl, inr}
use Rattle.std.specs.Prelude.{◌⊎◌, slice_get, Option, None, Some}
use Rattle.std.specs.Option.{is_some}
use Rattle.std.specs.List.{Contains}
use Rattle.std.proofs.lemmas.Bool.{false≢true}
use Rattle.std.proofs.lemmas.List.Elements.{Contains-append_cases}
use Rattle.lf_list.proofs.Laws.{none-in, cases_in}
use Rattle.lf_faults.specs.declared.fault.Parts.{Parts}
use Rattle.lf_faults.specs.declared.spec.Bounds.{Bounds}
use Rattle.lf_faults.specs.Faults.{inserted}
use Rattle.lf_faults.specs.Allowed.{IsAllowed, IsSubset, CanAdd}
use Rattle.lf_faults.proofs.Laws.{empty_allowed, in_or_not, large_subset, cases_inserted, length-inserted, inserted-ascending, subset_allowed}
use Rattle.lf_sim.specs.Runs.{World}
use Rattle.lf_outcome.specs.declared.formula.Formula.{Formula}
use Rattle.lf_outcome.specs.Evidence.{evidence_of}
use Rattle.lf_outcome.specs.Truth.{reaches}
use Rattle.lf_outcome.proofs.Laws.{evidence-truth, evidence-points, evidence-suffices}
use Rattle.lf_cone.specs.Cones.{IsOutside, AreRequired}
use Rattle.lf_cone.proofs.Laws.{still_reaches, sharp_exists, required_exist}
use Rattle.lf_certificate.specs.Grown.{IsReachFor}
use Rattle.lf_certificate.specs.Levels.{Grows}
use Rattle.lf_certificate.specs.Tasks.{Task, root_task}
use Rattle.lf_certificate.proofs.WayLemmas.{kid_made, edge_allowed}

-- the first of a list that the other has, or none of them
record FirstShared (edges wider : List Parts) : Type 0 where
  at : ℕ
  edge : Parts
  is : slice_get edges at ≡ Some edge
  shared : Contains wider edge
  before : (f : Parts) → Contains (take at edges) f → Contains wider f → ⊥

first_later : (e : Parts) (es wider : List Parts) → (Contains wider e → ⊥) → FirstShared es wider → FirstShared (e ∷ es) wider
first_later e es wider none found = record {
  at = suc found.at;
  edge = found.edge;
  is = found.is;
  shared = found.shared;
  before = λ f c there. elim (cases_in e (take found.at es) f c) [
    | inl same ↦ none (subst (Contains wider) (sym same) there)
    | inr later ↦ found.before f later there
  ];
}

first_shared : (edges wider : List Parts) → FirstShared edges wider ⊎ ((f : Parts) → Contains edges f → Contains wider f → ⊥)
first_shared [] wider = inr (λ f c there. none-in f c)
first_shared (e ∷ es) wider = elim (in_or_not wider e) [
  | inl here ↦ inl (record { at = 0; edge = e; is = refl; shared = here; before = λ f c there. none-in f c })
  | inr none ↦ elim (first_shared es wider) [
    | inl found ↦ inl (first_later e es wider none found)
    | inr never ↦ inr (λ f c there. elim (cases_in e es f c) [
      | inl same ↦ none (subst (Contains wider) (sym same) there)
      | inr later ↦ never f later there
    ])
  ]
]

-- what is there
pub some_of : {X : Type 0} (o : Option X) → is_some o ≡ true → (x : X) × (o ≡ Some x)
some_of None is = absurd (false≢true is)
some_of (Some x) is = (x, refl)

module _ {Local Note Fact : Type 0} (w : World Local Note Fact) (b : Bounds) (formula : Formula Fact) where
  -- a set that reaches has a sharp reach and its required edges
  pub record Growth (t : Task) : Type 0 where
    pub reach : List ℕ
    pub edges : List Parts
    pub sharp : IsReachFor w b formula t.faults reach
    pub required : AreRequired w t.faults b reach t.excluded edges

  growth : (t : Task) → reaches w t.faults formula ≡ true → Growth t
  growth t truth =
      let rests = some_of (evidence_of w t.faults formula) (evidence-truth w t.faults formula ∙ truth) in
      let points = evidence-points w t.faults formula rests.0 rests.1 in
      let sharp = sharp_exists w t.faults rests.0 (λ p c. ((points p c).0, (points p c).2)) in
      let required = required_exist w t.faults b sharp.0 t.excluded in
      record { reach = sharp.0; edges = required.0; sharp = (rests.0, rests.1, sharp.1); required = required.1 }

  -- the set, which misses, is to stand beneath the task
  pub record IsSought (t : Task) (wider : List Parts) : Type 0 where
    pub allowed : IsAllowed b wider
    pub holds : IsSubset t.faults wider
    pub avoids : (f : Parts) → Contains t.excluded f → Contains wider f → ⊥
    pub misses : reaches w wider formula ≡ false

  -- a set that grows beneath a task, so far down
  pub record GrowsTo (t : Task) (n : ℕ) (faults : List Parts) : Type 0 where
    pub path : List ℕ
    pub task : Task
    pub far : length path ≡ n
    pub same : task.faults ≡ faults
    pub grows : Grows w b formula t path task

  module _ (lasts : 1 ≤ w.pause_length) (k : ℕ)
      (reaching : (faults : List Parts) → IsAllowed b faults → length faults < k → reaches w faults formula ≡ true) where
    abbrev pub Claim : ℕ → Type 0
    Claim n =
        (t : Task) (wider : List Parts) → length t.faults + n ≡ k → length wider ≡ k → IsAllowed b t.faults → IsSought t wider → GrowsTo t n wider

    module _ (t : Task) (wider : List Parts) (allowed : IsAllowed b t.faults) (s : IsSought t wider) (g : Growth t) where
      -- where no edge is in the set, the light cone decides it
      outside : ((f : Parts) → Contains g.edges f → Contains wider f → ⊥) → IsOutside w t.faults g.reach wider
      outside none = record {
        keeps = s.holds;
        adds = λ f c supports. elim (in_or_not t.faults f) [
          | inl here ↦ here
          | inr isnt ↦
              let more : IsSubset (inserted f t.faults) wider = λ x c2. elim (cases_inserted f t.faults x c2) [
                | inl same ↦ subst (Contains wider) same c
                | inr old ↦ s.holds x old
              ] in
              let can : CanAdd b t.faults f =
              (isnt, subset_allowed b wider (inserted f t.faults) s.allowed (inserted-ascending f t.faults isnt allowed.ascending) more) in
              absurd (none f ((g.required.each f).1 (record { supports = supports; allowed = can; included = λ out. s.avoids f out c })) c)
        ];
      }

      reached : ((f : Parts) → Contains g.edges f → Contains wider f → ⊥) → ⊥
      reached none =
          let within = evidence-suffices w t.faults formula g.sharp.0 g.sharp.1 g.reach g.sharp.2.covers in
          let is : reaches w wider formula ≡ true =
          still_reaches w b t.faults wider g.reach lasts g.sharp.2.closed s.allowed (outside none) formula within in
          false≢true (sym s.misses ∙ is)

      -- else the kid behind the first such edge does
      module _ (n : ℕ) (ih : Claim n) (size : length t.faults + suc n ≡ k) (large : length wider ≡ k) (shared : FirstShared g.edges wider) where
        abbrev kid : Task
        kid = record { faults = inserted shared.edge t.faults; excluded = t.excluded ++ take shared.at g.edges }

        sought : IsSought kid wider
        sought = record {
          allowed = s.allowed;
          holds = λ x c. elim (cases_inserted shared.edge t.faults x c) [
            | inl same ↦ subst (Contains wider) same shared.shared
            | inr old ↦ s.holds x old
          ];
          avoids = λ f c there. elim (Contains-append_cases t.excluded (take shared.at g.edges) f c) [
            | inl out ↦ s.avoids f out there
            | inr before ↦ shared.before f before there
          ];
          misses = s.misses;
        }

        beneath_kid : GrowsTo t (suc n) wider
        beneath_kid =
            let f = ih kid wider (omega (arith, size, length-inserted shared.edge t.faults)) large
            (edge_allowed w b formula t g.reach g.edges shared.at shared.edge g.required shared.is) sought in
            record {
              path = shared.at ∷ f.path;
              task = f.task;
              far = omega (arith, f.far);
              same = f.same;
              grows = (g.reach, g.edges, kid, g.sharp, g.required, kid_made t g.edges shared.at shared.edge shared.is, f.grows);
            }

      later : (n : ℕ) → Claim n → length t.faults + suc n ≡ k → length wider ≡ k → GrowsTo t (suc n) wider
      later n ih size large = elim (first_shared g.edges wider) [
        | inl shared ↦ beneath_kid n ih size large shared
        | inr none ↦ absurd (reached none)
      ]

    pub grows_to : (n : ℕ) → Claim n
    grows_to zero t wider size large allowed s = record {
      path = [];
      task = t;
      far = refl;
      same = large_subset t.faults wider allowed.ascending s.allowed.ascending s.holds (omega (arith, size, large));
      grows = refl;
    }
    grows_to (suc n) t wider size large allowed s =
        later t wider allowed s (growth t (reaching t.faults allowed (omega (arith, size)))) n (grows_to n) size large

    -- from the empty set on
    pub each_grows : (faults : List Parts) → IsAllowed b faults → length faults ≡ k → reaches w faults formula ≡ false
        → GrowsTo root_task k faults
    each_grows faults allowed large misses =
        grows_to k root_task faults (omega arith) large (empty_allowed b) (record {
          allowed = allowed;
          holds = λ f c. absurd (none-in f c);
          avoids = λ f c there. none-in f c;
          misses = misses;
        })
