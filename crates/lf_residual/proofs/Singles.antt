-- Entries of a run, of which each two agree or two don't.
use Rattle.std.proofs.Common.{◌≡◌, ℕ, ◌<◌, ◌≤◌, true, List, ap, subst, arith}
use Rattle.std.specs.Prelude.{Option, Some}
use Rattle.std.specs.List.{Contains, list_all, range_with_len}
use Rattle.std.specs.Option.{option_to_list}
use Rattle.lf_sim.specs.declared.entry.Entry.{Entry}
use Rattle.lf_outcome.specs.declared.point.Point.{Point}
use Rattle.lf_outcome.specs.Truth.{agree, all_agree, entries_at, points_at, points_to}
use Rattle.lf_residual.specs.Knowing.{is_single}
use Rattle.lf_residual.proofs.Members.{passes, all_pass, in_flat, from_flat, flat-same, in_map, from_map, in_numbers, from_numbers, in_option, from_option}

-- the points of so many nodes at the steps up to a last one
abbrev pub Within : ℕ → ℕ → ℕ → ℕ → Type 0
Within nodes last n t = (n < nodes) × (1 ≤ t) × (t ≤ last)

point-in : (nodes last n t : ℕ) → Within nodes last n t → Contains (points_to nodes last) (record { node = n; step = t })
point-in nodes last n t within =
    in_flat (points_at nodes) (range_with_len 1 last) t (record { node = n; step = t })
    (in_numbers 1 last t within.1 (let late = within.2 in omega (arith, late)))
    (in_map (λ m. record { node = m; step = t }) (range_with_len 0 nodes) n (in_numbers 0 nodes n (omega arith) (let early = within.0 in omega (arith, early))))

pub point-from : (nodes last : ℕ) (p : Point) → Contains (points_to nodes last) p → Within nodes last p.node p.step
point-from nodes last p there =
    let step = from_flat (points_at nodes) (range_with_len 1 last) p there in
    let span = from_numbers 1 last step.0 step.1 in
    let node = from_map (λ m. record { node = m; step = step.0 }) (range_with_len 0 nodes) p step.2 in
    let room = from_numbers 0 nodes node.0 node.1 in
    subst (λ (q : Point). Within nodes last q.node q.step) node.2
    (let few = room.1 in let late = span.1 in (omega (arith, few), span.0, omega (arith, late)))

module _ (entered : ℕ → ℕ → Option Entry) (nodes last : ℕ) where
  entry-in : (n t : ℕ) (e : Entry) → Within nodes last n t → entered n t ≡ Some e → Contains (entries_at entered (points_to nodes last)) e
  entry-in n t e within is =
      in_flat (λ (p : Point). option_to_list (entered p.node p.step)) (points_to nodes last) (record { node = n; step = t }) e
      (point-in nodes last n t within) (in_option (entered n t) e is)

  entry-from : (e : Entry) → Contains (entries_at entered (points_to nodes last)) e
      → (n : ℕ) × (t : ℕ) × Within nodes last n t × (entered n t ≡ Some e)
  entry-from e there =
      let at = from_flat (λ (p : Point). option_to_list (entered p.node p.step)) (points_to nodes last) e there in
      let p : Point = at.0 in (p.node, p.step, point-from nodes last p at.1, from_option (entered p.node p.step) e at.2)

-- What is entered twice agrees, where each two entries do
module _ (entered : ℕ → ℕ → ℕ → Option Entry) (nodes last topic : ℕ) where
  abbrev all : List Entry
  all = entries_at (entered topic) (points_to nodes last)

  pub single-at : is_single entered nodes last topic ≡ true → (n t m u : ℕ) (e f : Entry) → Within nodes last n t → Within nodes last m u
      → entered topic n t ≡ Some e → entered topic m u ≡ Some f → agree e f ≡ true
  single-at is n t m u e f one other e_is f_is =
      passes (agree e) all f
      (passes (λ x. list_all (agree x) all) all e is (entry-in (entered topic) nodes last n t e one e_is))
      (entry-in (entered topic) nodes last m u f other f_is)

  pub single-from : ((n t m u : ℕ) (e f : Entry) → Within nodes last n t → Within nodes last m u
      → entered topic n t ≡ Some e → entered topic m u ≡ Some f → agree e f ≡ true) → is_single entered nodes last topic ≡ true
  single-from h =
      all_pass (λ x. list_all (agree x) all) all (λ e e_in. all_pass (agree e) all (λ f f_in.
      let one = entry-from (entered topic) nodes last e e_in in
      let other = entry-from (entered topic) nodes last f f_in in
      h one.0 one.1 other.0 other.1 e f one.2 other.2 one.3 other.3))

-- What is entered at the steps up to a last one
pub single-same : (entered other : ℕ → ℕ → ℕ → Option Entry) (nodes last topic : ℕ)
    → ((n t : ℕ) → 1 ≤ t → t ≤ last → entered topic n t ≡ other topic n t) → is_single entered nodes last topic ≡ is_single other nodes last topic
single-same entered other nodes last topic same =
    ap all_agree
    (flat-same (λ (p : Point). option_to_list (entered topic p.node p.step)) (λ (p : Point). option_to_list (other topic p.node p.step))
    (points_to nodes last)
    (λ p there. let at = point-from nodes last p there in ap option_to_list (same p.node p.step at.1 at.2)))
