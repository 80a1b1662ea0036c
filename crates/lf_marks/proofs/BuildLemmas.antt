-- The tree of nodes, made from the last place to the first.
use Rattle.std.proofs.Common.{◌≡◌, ℕ, ◌+◌, ◌-◌, ◌<◌, ◌≤◌, refl, sym, ap, ◌∙◌, subst, arith, cond, Bool, true, false, nat_lt, Option, Some, None, List, [], ◌∷◌}
use Rattle.std.proofs.Common.{length, inl, inr}
use Rattle.std.specs.List.{slice_get}
use Rattle.std.specs.Option.{option_map, option_and_then}
use Rattle.std.proofs.lemmas.Bool.{cases_eq, cases_lt}
use Rattle.std.proofs.lemmas.Option.{slice_get_past}
use Rattle.lf_faults.specs.declared.fault.Parts.{Parts}
use Rattle.lf_tree.specs.declared.tree.Node.{Node, out-Node, out-roll-Node}
use Rattle.lf_tree.specs.declared.tree.Node.TheVariants.{rolls-Misses, rolls-Reaches, rolls-Branch}
use Rattle.lf_tree.specs.declared.tree.Node.TheVariants as node
use Rattle.lf_tree.specs.declared.tree.Node.TheOpen.{Node-F}
use Rattle.lf_marks.specs.Arena.{look, spot_of, mark_in, taken_in, marks_of}
use Rattle.lf_marks.specs.Building.{AreBare, IsHung, kid_at, kids_in, kids_of, node_in, node_for}
use Rattle.lf_marks.specs.Nodes.{IsTreeOf, kid_in, node_along, said, said_in, shown}
use Rattle.lf_marks.specs.Steps.{Mark, IsUnmarked}
use Rattle.lf_marks.specs.Steps as mark
use Rattle.lf_marks.specs.Walks.{Spot, marked_from, untaken, width, is_answer, IsArena, IsBeneath}
use Rattle.lf_marks.specs.declared.set.Set.{Set}
use Rattle.lf_marks.specs.declared.set.State.{State}
use Rattle.lf_marks.specs.declared.set.State.TheVariants as state
use Rattle.lf_marks.proofs.WalkLemmas.{lt-is, lt-not, marked-taken, marked-past, kid-deeper}
use Rattle.lf_marks.proofs.DownLemmas.{all-taken, raised-arena}

-- what is in a node
opens-Misses : out-Node node.Misses ≡ Node-F.Misses
opens-Misses = ap out-Node (sym rolls-Misses) ∙ out-roll-Node Node-F.Misses

opens-Reaches : out-Node node.Reaches ≡ Node-F.Reaches
opens-Reaches = ap out-Node (sym rolls-Reaches) ∙ out-roll-Node Node-F.Reaches

opens-Branch : (reach : List ℕ) (edges : List Parts) (kids : List Node) → out-Node (node.Branch reach edges kids) ≡ Node-F.Branch reach edges kids
opens-Branch reach edges kids = ap out-Node (sym (rolls-Branch reach edges kids)) ∙ out-roll-Node (Node-F.Branch reach edges kids)

-- what a tree, where one is, says of the set at a path
abbrev pub tells : Option Node → List ℕ → Option Mark
tells o p = option_map said (option_and_then (λ n. node_along n p) o)

-- a tree is that of the marks from a place on
abbrev pub IsTreeAt : ℕ → ℕ → (ℕ → Spot) → ℕ → Option Node → Type 0
IsTreeAt level start look x o = (p : List ℕ) → tells o p ≡ shown (nat_lt ((look x).depth + length p) level) (marked_from look start x p)

-- what waits is not in the tree
unseen : (b above stands : Bool) (path : List ℕ) → (above ≡ true → stands ≡ false) → shown b (untaken above stands path) ≡ None
unseen b above stands (i ∷ path) h = refl
unseen b true true [] h = let no : true ≡ false = h refl in absurd cc
unseen b true false [] h = refl
unseen b false true [] h = refl
unseen b false false [] h = refl

module _ (level start n : ℕ) (look : ℕ → Spot) (arena : IsArena level start n look)
    (answered : (x : ℕ) → x < n → is_answer (look x).mark ≡ true) (all : (x : ℕ) → x < start → width (look x) ≤ (look x).taken) where
  -- past the kids that were taken there is nothing
  past : (b : Bool) (x i : ℕ) (path : List ℕ) → (look x).taken ≤ i → shown b (marked_from look start x (i ∷ path)) ≡ None
  past b x i path far =
      ap (shown b) (marked-past look start x i path far)
      ∙ unseen b (nat_lt x start) (nat_lt i (width (look x))) path (λ above. elim (cases_lt x start) [
        | inl high ↦ lt-not _ _ (omega (arith, far, all x high))
        | inr low ↦ let no : true ≡ false = sym above ∙ lt-not x start low in absurd cc
      ])

  -- a leaf
  leaf : (x : ℕ) (t : Node) (y : Node-F Node) → out-Node t ≡ y → ((i : ℕ) → kid_in y i ≡ None) → (look x).taken ≡ 0
      → Some (said_in y) ≡ shown (nat_lt (look x).depth level) (look x).mark → IsTreeAt level start look x (Some t)
  leaf x t y opened none bare said_is [] =
      ap (λ z. Some (said_in z)) opened ∙ said_is ∙ ap (λ d. shown (nat_lt d level) (look x).mark) (omega arith)
  leaf x t y opened none bare said_is (i ∷ p) =
      ap (λ z. tells (kid_in z i) p) opened ∙ ap (λ o. tells o p) (none i) ∙ sym (past _ x i p (omega (arith, bare)))

  -- a branch above the level
  branch : (x : ℕ) (reach : List ℕ) (edges : List Parts) (kids : List Node) → x < start → (look x).mark ≡ Some (mark.Branch reach edges)
      → (look x).taken ≡ length kids → ((i : ℕ) → i < (look x).taken → IsTreeAt level start look ((look x).first + i) (slice_get kids i))
      → IsTreeAt level start look x (Some (node.Branch reach edges kids))
  branch x reach edges kids high is long trees [] =
      ap (λ z. Some (said_in z)) (opens-Branch reach edges kids)
      ∙ ap (λ b. Some (cond b (mark.Branch reach edges) mark.Reaches)) (sym (lt-is ((look x).depth + 0) level (omega (arith, arena.over x high))))
      ∙ ap (shown (nat_lt ((look x).depth + 0) level)) (sym is)
  branch x reach edges kids high is long trees (i ∷ p) =
      ap (λ z. tells (kid_in z i) p) (opens-Branch reach edges kids) ∙ elim (cases_lt i (look x).taken) [
        | inr far ↦ ap (λ o. tells o p) (slice_get_past kids i (omega (arith, far, long))) ∙ sym (past _ x i p far)
        | inl few ↦ trees i few p
            ∙ ap (λ d. shown (nat_lt d level) (marked_from look start ((look x).first + i) p))
            (omega (arith, kid-deeper level start n look arena x i few))
            ∙ ap (shown (nat_lt ((look x).depth + length (i ∷ p)) level)) (sym (marked-taken look start x i p few))
      ]

  -- the node of a set, by its state
  tree-in : (x : ℕ) (st : State) → x < n → (look x).mark ≡ Some (mark_in st) → (look x).taken ≡ taken_in st
      → ((i : ℕ) → i < (look x).taken → IsTreeAt level start look ((look x).first + i) (slice_get (kids_in st) i))
      → IsTreeAt level start look x (Some (node_in (nat_lt x start) st))
  tree-in x state.Open few is long trees = let no : true ≡ false = sym (answered x few) ∙ ap is_answer is in absurd cc
  tree-in x (state.Claimed t) few is long trees = let no : true ≡ false = sym (answered x few) ∙ ap is_answer is in absurd cc
  tree-in x state.Misses few is long trees =
      leaf x node.Misses Node-F.Misses opens-Misses (λ i. refl) long (ap (shown (nat_lt (look x).depth level)) (sym is))
  tree-in x state.Reaches few is long trees =
      leaf x node.Reaches Node-F.Reaches opens-Reaches (λ i. refl) long (ap (shown (nat_lt (look x).depth level)) (sym is))
  tree-in x (state.Branch b) few is long trees = elim (cases_lt x start) [
    | inl high ↦ subst (λ c. IsTreeAt level start look x (Some (node_in c (state.Branch b)))) (sym (lt-is x start high))
        (branch x b.value.reach b.value.edges b.value.kids.items high is long trees)
    | inr low ↦ subst (λ c. IsTreeAt level start look x (Some (node_in c (state.Branch b)))) (sym (lt-not x start low))
        (leaf x node.Reaches Node-F.Reaches opens-Reaches (λ i. refl) (arena.fresh x low)
        (ap (λ c. Some (cond c (mark.Branch b.value.reach b.value.edges) mark.Reaches)) (sym (lt-not _ _ (omega (arith, arena.on x low few))))
        ∙ ap (shown (nat_lt (look x).depth level)) (sym is)))
  ]

  tree-of : (x : ℕ) (o : Option Set) → x < n → look x ≡ spot_of o
      → ((i : ℕ) → i < (look x).taken → IsTreeAt level start look ((look x).first + i) (slice_get (kids_of o) i))
      → IsTreeAt level start look x (Some (node_for (nat_lt x start) o))
  tree-of x None few is trees =
      let no : true ≡ false = sym (answered x few) ∙ ap (λ (s : Spot). is_answer s.mark) is in absurd cc
  tree-of x (Some s) few is trees =
      tree-in x s.state few (ap (λ (z : Spot). z.mark) is) (ap (λ (z : Spot). z.taken) is) trees

-- the sets before some place are as they were, but for the nodes of their kids, which are made for those that stood at that place or past it, and no
-- others
pub record IsBuilt (level start : ℕ) (old now : List Set) : Type 0 where
  pub some : 0 < length now
  pub few : length now ≤ length old
  pub same : (y : ℕ) → y < length now → look now y ≡ look old y
  pub kids : (y i : ℕ) → y < length now → i < (look old y).taken → length now ≤ (look old y).first + i
      → IsTreeAt level start (look old) ((look old y).first + i) (kid_at now y i)
  pub bare : (y i : ℕ) → y < length now → i < (look old y).taken → (look old y).first + i < length now → kid_at now y i ≡ Some node.Reaches

module _ (level start : ℕ) (old : List Set) (arena : IsArena level start (length old) (look old)) where
  pub built-none : AreBare old → IsBuilt level start old old
  built-none bare = record {
    some = arena.some;
    few = omega arith;
    same = λ y few. refl;
    kids = λ y i few taken far. let never : ⊥ = omega (arith, far, (arena.down y i taken).within) in absurd never;
    bare = λ y i few taken before. bare y i taken;
  }

  -- the last place is beneath another
  pub built-beneath : (now : List Set) → IsBuilt level start old now → 1 < length now → IsBeneath (look now) (length now - 1)
  built-beneath now b some =
      let x = length now - 1 in
      let few : x < length now = omega arith in
      let up = arena.up x (omega (arith, some)) (omega (arith, some, b.few)) in
      let e = b.same x few in
      let p = b.same (look old x).parent (omega (arith, up.before)) in
      let q : look now (look now x).parent ≡ look old (look old x).parent = ap (λ (s : Spot). look now s.parent) e ∙ p in record {
        before = omega (arith, up.before, ap (λ (s : Spot). s.parent) e);
        kid = omega (arith, up.kid, ap (λ (s : Spot). s.kid) e, ap (λ (s : Spot). s.taken) q);
        place = omega (arith, up.place, ap (λ (s : Spot). s.kid) e, ap (λ (s : Spot). s.first) q);
        depth = omega (arith, up.depth, ap (λ (s : Spot). s.depth) e, ap (λ (s : Spot). s.depth) q);
      }

  -- and its node isn't made
  pub built-bare : (now : List Set) → IsBuilt level start old now → 1 < length now
      → kid_at now (look now (length now - 1)).parent (look now (length now - 1)).kid ≡ Some node.Reaches
  built-bare now b some =
      let x = length now - 1 in
      let e = b.same x (omega arith) in
      let up = arena.up x (omega (arith, some)) (omega (arith, some, b.few)) in
      ap (λ (s : Spot). kid_at now s.parent s.kid) e
      ∙ b.bare (look old x).parent (look old x).kid (omega (arith, up.before)) up.kid (omega (arith, up.place, some))

  module _ (done : IsUnmarked (marks_of old start) mark.Open) (free : (t : ℕ) → IsUnmarked (marks_of old start) (mark.Claimed t)) where
    answered_all : (x : ℕ) → x < length old → is_answer (look old x).mark ≡ true
    answered_all x few = (raised-arena level start (length old) (look old) arena done free).above x few

    -- the node of the last place
    last-tree : (now : List Set) (x : ℕ) → x + 1 ≡ length now → IsBuilt level start old now
        → IsTreeAt level start (look old) x (Some (node_for (nat_lt x start) (slice_get now x)))
    last-tree now x last b =
        tree-of level start (length old) (look old) arena answered_all (all-taken level start (length old) (look old) arena done)
        x (slice_get now x) (omega (arith, last, b.few)) (sym (b.same x (omega (arith, last))))
        (λ i few.
        let k = arena.down x i few in
        let up = arena.up ((look old x).first + i) (omega (arith, k.later)) k.within in
        b.kids x i (omega (arith, last)) few (omega (arith, last, up.before, k.parent)))

    pub built-hung : (now new : List Set) → 1 < length now → IsBuilt level start old now → IsHung start now new → IsBuilt level start old new
    built-hung now new some b h =
        let x = length new in
        let within : x < length old = omega (arith, h.count, b.few) in
        let up = arena.up x (omega (arith, h.count, some)) within in
        let e : look now x ≡ look old x = b.same x (omega (arith, h.count)) in record {
          some = omega (arith, h.count, some);
          few = omega (arith, within);
          same = λ y few. h.same y few ∙ b.same y (omega (arith, few, h.count));
          kids = λ y i few taken far. elim (cases_eq ((look old y).first + i) x) [
            | inl here ↦
                let k = arena.down y i taken in
                let parent : (look now x).parent ≡ y = ap (λ (s : Spot). s.parent) e ∙ ap (λ z. (look old z).parent) (sym here) ∙ k.parent in
                let kid : (look now x).kid ≡ i = ap (λ (s : Spot). s.kid) e ∙ ap (λ z. (look old z).kid) (sym here) ∙ k.kid in
                let put : kid_at new y i ≡ Some (node_for (nat_lt x start) (slice_get now x)) =
                ap (λ z. kid_at new z i) (sym parent) ∙ ap (kid_at new (look now x).parent) (sym kid) ∙ h.put in
                subst (λ z. IsTreeAt level start (look old) z (kid_at new y i)) (sym here)
                (subst (IsTreeAt level start (look old) x) (sym put) (last-tree now x h.count b))
            | inr apart ↦
                subst (IsTreeAt level start (look old) ((look old y).first + i))
                (sym (h.others y i few (λ is kid. apart
                (ap (λ z. (look old z).first + i) (is ∙ ap (λ (s : Spot). s.parent) e)
                ∙ ap (λ j. (look old (look old x).parent).first + j) (kid ∙ ap (λ (s : Spot). s.kid) e) ∙ up.place))))
                (b.kids y i (omega (arith, few, h.count)) taken (omega (arith, far, apart, h.count)))
          ];
          bare = λ y i few taken before.
              h.others y i few (λ is kid. let never : ⊥ = omega (
                arith,
                before,
                ap (λ z. (look old z).first + i) (is ∙ ap (λ (s : Spot). s.parent) e)
                    ∙ ap (λ j. (look old (look old x).parent).first + j) (kid ∙ ap (λ (s : Spot). s.kid) e) ∙ up.place,
              ) in never)
              ∙ b.bare y i (omega (arith, few, h.count)) taken (omega (arith, before, h.count));
        }

    -- at the end the root's node is the tree of the marks
    pub built-root : (now : List Set) (x : ℕ) → x ≡ 0 → x + 1 ≡ length now → IsBuilt level start old now
        → IsTreeOf level (marks_of old start) (node_for (nat_lt x start) (slice_get now x))
    built-root now x root last b p =
        last-tree now x last b p
        ∙ ap (λ d. shown (nat_lt d level) (marked_from (look old) start x p)) (deep x root p)
        ∙ ap (λ z. shown (nat_lt (length p) level) (marked_from (look old) start z p)) root
      where
        deep : (x : ℕ) → x ≡ 0 → (p : List ℕ) → (look old x).depth + length p ≡ length p
        deep x root p = omega (arith, ap (λ z. (look old z).depth) root, arena.root)
