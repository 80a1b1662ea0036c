-- The first difference of two runs, by points.
use Rattle.std.proofs.Common.{◌≡◌, ◌≢◌, ℕ, zero, suc, ◌+◌, ◌<◌, ◌==◌, Bool, true, false, List, [], ◌++◌, length}
use Rattle.std.proofs.Common.{length-append, codes, refl, sym, ap, ◌∙◌, subst, arith, add-one, cond}
use Rattle.std.proofs.lemmas.Bool.Decides.{nat_tests}
use Rattle.std.proofs.lemmas.Slice.Eq.{bytes_eq-Decides}
use Rattle.std.specs.Fmt.{decimal}
use Rattle.std.specs.Str.{bytes_eq}
use Rattle.lf_faults.specs.declared.fault.Parts.{Parts}
use Rattle.lf_sim.specs.Runs.{World}
use Rattle.lf_trace.specs.Traces.{node_line, standing}
use Rattle.lf_trace.specs.Words.{Words}
use Rattle.lf_trace.specs.Beside.{marked, node_pair, pair}
use Rattle.lf_trace.specs.Changes.{titled}
use Rattle.lf_trace.specs.First.{first_difference, first_lines, first_pair, first_told}
use Rattle.lf_trace.proofs.Firsts.{first_more, first_stays}

-- the first text that isn't empty, or none
none_told : (f : ℕ → List ℕ) (n : ℕ) → ((k : ℕ) → k < n → f k ≡ []) → first_told f n ≡ []
none_told f zero none = refl
none_told f (suc n) none =
    let before : first_told f n ≡ [] = none_told f n (λ k low. none k (omega (arith, low))) in
    let last : f n ≡ [] = none n (omega arith) in
    rw before last

told_first : (f : ℕ → List ℕ) (k : ℕ) → ((j : ℕ) → j < k → f j ≡ []) → 0 < length (f k) → (n : ℕ) → k < n → first_told f n ≡ f k
told_first f k none some n within =
    let here : first_told f (k + 1) ≡ f k = first_more f k (none_told f k none) in
    first_stays f (k + 1) (subst (λ (xs : List ℕ). 0 < length xs) (sym here) some) n (omega (arith, within)) ∙ here

-- two lines
same_pair : (x y : List ℕ) → x ≡ y → pair x y ≡ []
same_pair x y same = ap (λ b. cond b [] (marked (codes "- ") x ++ marked (codes "+ ") y)) ((bytes_eq-Decides x y).1 same)

unequal : (b : Bool) → (b ≡ true → ⊥) → b ≡ false
unequal true not = absurd (not refl)
unequal false not = refl

some_marked : (x : List ℕ) → 0 < length x → marked (codes "- ") x ≡ codes "- " ++ x
some_marked x some =
    let no : (length x == 0) ≡ false = grind (arith, nat_tests) in
    rw no refl

some_pair : (x y : List ℕ) → x ≢ y → 0 < length x → 0 < length (pair x y)
some_pair x y apart some =
    let differ : bytes_eq x y ≡ false = unequal (bytes_eq x y) (λ same. apart ((bytes_eq-Decides x y).0 same)) in
    let is : pair x y ≡ (codes "- " ++ x) ++ marked (codes "+ ") y =
    ap (λ b. cond b [] (marked (codes "- ") x ++ marked (codes "+ ") y)) differ ∙ ap (λ front. front ++ marked (codes "+ ") y) (some_marked x some) in
    subst (λ (xs : List ℕ). 0 < length xs) (sym is) (omega (arith, length-append (codes "- " ++ x) (marked (codes "+ ") y)))

titled_none : (t : ℕ) (lines : List ℕ) → lines ≡ [] → titled t lines ≡ []
titled_none t lines none = rw none refl

titled_some : (t : ℕ) (lines : List ℕ) → 0 < length lines → 0 < length (titled t lines)
titled_some t lines some =
    let no : (length lines == 0) ≡ false = grind (arith, nat_tests) in
    rw no (omega arith)

module _ {State Note Fact : Type 0} (words : Words State Note) (w : World State Note Fact) (other faults : List Parts) where
  -- a node's line isn't empty
  some_line : (t n : ℕ) → 0 < length (node_line words w other t n)
  some_line t n = omega (arith, length-append (decimal n) (codes " " ++ (standing words w other t n ++ codes "\n")))

  none_at : (u : ℕ) → ((m : ℕ) → m < w.rules.nodes → node_line words w other (u + 1) m ≡ node_line words w faults (u + 1) m)
      → first_lines words w other faults (suc u) ≡ []
  none_at u same =
      let step : u + 1 ≡ suc u = add-one u in
      subst (λ t. first_lines words w other faults t ≡ []) step
      (titled_none (u + 1) (first_pair words w other faults (u + 1))
      (none_told (node_pair words w other faults (u + 1)) w.rules.nodes
      (λ m low. same_pair (node_line words w other (u + 1) m) (node_line words w faults (u + 1) m) (same m low))))

  pub differ_first : (past n : ℕ) → past < w.horizon → n < w.rules.nodes
      → node_line words w other (past + 1) n ≢ node_line words w faults (past + 1) n
      → ((m : ℕ) → m < n → node_line words w other (past + 1) m ≡ node_line words w faults (past + 1) m)
      → ((u m : ℕ) → u < past → m < w.rules.nodes → node_line words w other (u + 1) m ≡ node_line words w faults (u + 1) m)
      → first_difference words w other faults ≡ titled (past + 1) (node_pair words w other faults (past + 1) n)
  differ_first past n within node apart lower earlier =
      let t = past + 1 in
      let some = some_pair (node_line words w other t n) (node_line words w faults t n) apart (some_line t n) in
      let here : first_pair words w other faults t ≡ node_pair words w other faults t n =
      told_first (node_pair words w other faults t) n (λ m low. same_pair (node_line words w other t m) (node_line words w faults t m) (lower m low)) some
      w.rules.nodes node in
      let lines : first_lines words w other faults (suc past) ≡ titled t (node_pair words w other faults t n) =
      ap (first_lines words w other faults) (sym (add-one past)) ∙ ap (titled t) here in
      told_first (λ u. first_lines words w other faults (suc u)) past (λ u low. none_at u (λ m. earlier u m low))
      (subst (λ (xs : List ℕ). 0 < length xs) (sym lines) (titled_some t (node_pair words w other faults t n) some)) w.horizon within ∙ lines

  pub differ_never : ((u m : ℕ) → u < w.horizon → m < w.rules.nodes → node_line words w other (u + 1) m ≡ node_line words w faults (u + 1) m)
      → first_difference words w other faults ≡ []
  differ_never same = none_told (λ u. first_lines words w other faults (suc u)) w.horizon (λ u low. none_at u (λ m. same u m low))
