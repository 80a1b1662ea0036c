-- How the rows of a tree hang together.
use Rattle.std.proofs.Common.{◌≡◌, ℕ, zero, suc, ◌+◌, ◌<◌, List, [], ◌∷◌, ◌++◌}
use Rattle.std.proofs.Common.{length, length-append, refl, sym, ap, subst, ◌∙◌, map, append_assoc, inl, inr, arith}
use Rattle.std.specs.Prelude.{◌⊎◌, None, Some}
use Rattle.std.specs.List.{AllByRecursion, slice_get}
use Rattle.std.proofs.Math.Seq.{get_or-append_seam}
use Rattle.std.proofs.lemmas.List.{append-nil, length-map, map-append}
use Rattle.std.proofs.lemmas.Option.{slice_get_read}
use Rattle.lf_faults.specs.declared.fault.Parts.{Parts}
use Rattle.lf_tree.specs.declared.tree.Tree.{Tree}
use Rattle.lf_tree.specs.declared.tree.Node.{Node, para-Node, para-roll-Node}
use Rattle.lf_tree.specs.declared.tree.Node.TheVariants.{rolls-Misses, rolls-Reaches, rolls-Branch, outs-Misses, outs-Reaches, outs-Branch}
use Rattle.lf_tree.specs.declared.tree.Node.TheVariants as kind
use Rattle.lf_tree.specs.declared.tree.Node.TheOpen.{Node-F}
use Rattle.lf_tree.specs.Heirs.{AreLinked, HasBranch, heirs, heirs_of, heirs_step, inherited, inherited_by, kids_in, kids_of}
use Rattle.lf_tree.specs.Rows.{Seen, beneath}
use Rattle.lf_tree.proofs.Inductions.{by_induction}
use Rattle.lf_tree.proofs.PlacedLists.{AllFrom, all_from-append, all_from-at}
use Rattle.lf_tree.proofs.RowLemmas.{beneath-Branch, beneath-Misses, beneath-Reaches, kid_row, kids_rows}

pub kids_of-Misses : kids_of kind.Misses ≡ []
kids_of-Misses = ap kids_in outs-Misses

pub kids_of-Reaches : kids_of kind.Reaches ≡ []
kids_of-Reaches = ap kids_in outs-Reaches

pub kids_of-Branch : (reach : List ℕ) (edges : List Parts) (kids : List Node) → kids_of (kind.Branch reach edges kids) ≡ kids
kids_of-Branch reach edges kids = ap kids_in (outs-Branch reach edges kids)

get-seam : {X : Type 0} (xs : List X) (y : X) (ys : List X) → slice_get (xs ++ (y ∷ ys)) (length xs) ≡ Some y
get-seam xs y ys =
    slice_get_read (xs ++ (y ∷ ys)) (length (xs ++ (y ∷ ys))) (length xs) y refl
    (let more : length (y ∷ ys) ≡ suc (length ys) = refl in omega (arith, more, length-append xs (y ∷ ys)))
    (sym (get_or-append_seam xs y ys y))

module _ {A : Type 0} (handed : A → Node → ℕ → A) where
  -- the rows beneath a node with the values of their nodes: by the node, its value, its place and depth, and how many rows stand before
  abbrev Telling : Type 0
  Telling = Node → A → ℕ → ℕ → ℕ → List (Seen × A)

  abbrev tell_kids : Node → A → ℕ → ℕ → ℕ → ℕ → List (Node × Telling) → List (Seen × A)
  tell_kids branch value place depth next kid [] = []
  tell_kids branch value place depth next kid (one ∷ more) =
      let given : A = handed value branch kid in
      let all : List (Seen × A) = (kid_row place depth kid one.0, given) ∷ one.1 one.0 given next (depth + 1) (next + 1) in
      all ++ tell_kids branch value place depth (next + length all) (kid + 1) more

  abbrev tell_step : Node-F (Node × Telling) → Telling
  tell_step Node-F.Misses branch value place depth next = []
  tell_step Node-F.Reaches branch value place depth next = []
  tell_step (Node-F.Branch reach edges kids) branch value place depth next = tell_kids branch value place depth next 0 kids

  abbrev tell : Telling
  tell n = para-Node Telling tell_step n n

  abbrev kids_told : Node → A → ℕ → ℕ → ℕ → ℕ → List Node → List (Seen × A)
  kids_told branch value place depth next kid kids =
      tell_kids branch value place depth next kid (map (λ n. (n, para-Node Telling tell_step n)) kids)

  tell-Misses : (value : A) (place depth next : ℕ) → tell kind.Misses value place depth next ≡ []
  tell-Misses value place depth next =
      ap (λ n. para-Node Telling tell_step n kind.Misses value place depth next) (sym rolls-Misses)
      ∙ ap (λ b. b kind.Misses value place depth next) (para-roll-Node Telling tell_step Node-F.Misses)

  tell-Reaches : (value : A) (place depth next : ℕ) → tell kind.Reaches value place depth next ≡ []
  tell-Reaches value place depth next =
      ap (λ n. para-Node Telling tell_step n kind.Reaches value place depth next) (sym rolls-Reaches)
      ∙ ap (λ b. b kind.Reaches value place depth next) (para-roll-Node Telling tell_step Node-F.Reaches)

  tell-Branch : (reach : List ℕ) (edges : List Parts) (kids : List Node) (value : A) (place depth next : ℕ)
      → tell (kind.Branch reach edges kids) value place depth next ≡ kids_told (kind.Branch reach edges kids) value place depth next 0 kids
  tell-Branch reach edges kids value place depth next =
      let n : Node = kind.Branch reach edges kids in
      ap (λ m. para-Node Telling tell_step m n value place depth next) (sym (rolls-Branch reach edges kids))
      ∙ ap (λ b. b n value place depth next) (para-roll-Node Telling tell_step (Node-F.Branch reach edges kids))

  abbrev Heirs : Type 0
  Heirs = Node → A → List (A × Node)

  heirs-Misses : (value : A) → heirs handed kind.Misses value ≡ []
  heirs-Misses value =
      ap (λ n. para-Node Heirs (heirs_step handed) n kind.Misses value) (sym rolls-Misses)
      ∙ ap (λ b. b kind.Misses value) (para-roll-Node Heirs (heirs_step handed) Node-F.Misses)

  heirs-Reaches : (value : A) → heirs handed kind.Reaches value ≡ []
  heirs-Reaches value =
      ap (λ n. para-Node Heirs (heirs_step handed) n kind.Reaches value) (sym rolls-Reaches)
      ∙ ap (λ b. b kind.Reaches value) (para-roll-Node Heirs (heirs_step handed) Node-F.Reaches)

  abbrev kids_heirs : Node → A → ℕ → List Node → List (A × Node)
  kids_heirs branch value kid kids = heirs_of handed branch value kid (map (λ n. (n, para-Node Heirs (heirs_step handed) n)) kids)

  heirs-Branch : (reach : List ℕ) (edges : List Parts) (kids : List Node) (value : A)
      → heirs handed (kind.Branch reach edges kids) value ≡ kids_heirs (kind.Branch reach edges kids) value 0 kids
  heirs-Branch reach edges kids value =
      let n : Node = kind.Branch reach edges kids in
      ap (λ m. para-Node Heirs (heirs_step handed) m n value) (sym (rolls-Branch reach edges kids))
      ∙ ap (λ b. b n value) (para-roll-Node Heirs (heirs_step handed) (Node-F.Branch reach edges kids))

  by_kids : (branch : Node) (value : A) (kid : ℕ) (kids : List Node) → kids_heirs branch value kid kids ≡ inherited_by handed branch value kid kids
  by_kids branch value kid [] = refl
  by_kids branch value kid (k ∷ ks) = ap (λ vs. inherited handed k (handed value branch kid) ++ vs) (by_kids branch value (kid + 1) ks)

  -- what is inherited, by the kind of the node
  pub inherited-leaf : (n : Node) (value : A) → (n ≡ kind.Misses) ⊎ (n ≡ kind.Reaches) → inherited handed n value ≡ (value, n) ∷ []
  inherited-leaf n value (inl is) = ap (λ m. (value, n) ∷ heirs handed m value) is ∙ ap (λ vs. (value, n) ∷ vs) (heirs-Misses value)
  inherited-leaf n value (inr is) = ap (λ m. (value, n) ∷ heirs handed m value) is ∙ ap (λ vs. (value, n) ∷ vs) (heirs-Reaches value)

  pub inherited-Branch : (reach : List ℕ) (edges : List Parts) (kids : List Node) (value : A) → inherited handed (kind.Branch reach edges kids) value
      ≡ (value, kind.Branch reach edges kids) ∷ inherited_by handed (kind.Branch reach edges kids) value 0 kids
  inherited-Branch reach edges kids value =
      let n : Node = kind.Branch reach edges kids in
      ap (λ vs. (value, n) ∷ vs) (heirs-Branch reach edges kids value ∙ by_kids n value 0 kids)

  abbrev row_of : Seen × A → Seen
  row_of e = e.0

  abbrev value_of : Seen × A → A × Node
  value_of e = (e.1, e.0.node)

  -- each of these rows, from a place of the whole list on, hangs in its branch
  abbrev Hang : List (Seen × A) → ℕ → List (Seen × A) → Type 0
  Hang whole = AllFrom (HasBranch handed whole)

  -- what holds of the rows beneath a node
  record Told (n : Node) : Type 0 where
    rows : (value : A) (place depth next : ℕ) → map row_of (tell n value place depth next) ≡ beneath n place depth next
    values : (value : A) (place depth next : ℕ) → map value_of (tell n value place depth next) ≡ heirs handed n value
    hang : (value : A) (place depth next : ℕ) (branch : Seen) (whole before after : List (Seen × A))
        → whole ≡ before ++ (tell n value place depth next ++ after) → next ≡ length before → place < next
        → slice_get whole place ≡ Some (branch, value) → branch.node ≡ n → branch.depth ≡ depth
        → Hang whole next (tell n value place depth next)

  rows-kids : (branch : Node) (value : A) (place depth next kid : ℕ) (kids : List Node) → AllByRecursion Told kids
      → map row_of (kids_told branch value place depth next kid kids) ≡ kids_rows place depth next kid kids
  rows-kids branch value place depth next kid [] told = refl
  rows-kids branch value place depth next kid (k ∷ ks) told =
      let given : A = handed value branch kid in
      let all : List (Seen × A) = (kid_row place depth kid k, given) ∷ tell k given next (depth + 1) (next + 1) in
      let rows : List Seen = kid_row place depth kid k ∷ beneath k next (depth + 1) (next + 1) in
      let all_is : map row_of all ≡ rows =
      ap (λ rs. kid_row place depth kid k ∷ rs) (told.0.rows given next (depth + 1) (next + 1)) in
      let size : length all ≡ length rows = sym (length-map all row_of) ∙ ap length all_is in
      map-append row_of all (kids_told branch value place depth (next + length all) (kid + 1) ks)
      ∙ ap (λ rs. rs ++ map row_of (kids_told branch value place depth (next + length all) (kid + 1) ks)) all_is
      ∙ ap (λ rs. rows ++ rs) (rows-kids branch value place depth (next + length all) (kid + 1) ks told.1)
      ∙ ap (λ j. rows ++ kids_rows place depth (next + j) (kid + 1) ks) size

  values-kids : (branch : Node) (value : A) (place depth next kid : ℕ) (kids : List Node) → AllByRecursion Told kids
      → map value_of (kids_told branch value place depth next kid kids) ≡ kids_heirs branch value kid kids
  values-kids branch value place depth next kid [] told = refl
  values-kids branch value place depth next kid (k ∷ ks) told =
      let given : A = handed value branch kid in
      let all : List (Seen × A) = (kid_row place depth kid k, given) ∷ tell k given next (depth + 1) (next + 1) in
      let values : List (A × Node) = (given, k) ∷ heirs handed k given in
      let all_is : map value_of all ≡ values = ap (λ vs. (given, k) ∷ vs) (told.0.values given next (depth + 1) (next + 1)) in
      map-append value_of all (kids_told branch value place depth (next + length all) (kid + 1) ks)
      ∙ ap (λ vs. vs ++ map value_of (kids_told branch value place depth (next + length all) (kid + 1) ks)) all_is
      ∙ ap (λ vs. values ++ vs) (values-kids branch value place depth (next + length all) (kid + 1) ks told.1)

  hang-kids : (n : Node) (value : A) (place depth next kid : ℕ) (branch : Seen) (done kids : List Node) (whole before after : List (Seen × A))
      → AllByRecursion Told kids → kids_of n ≡ done ++ kids → kid ≡ length done
      → whole ≡ before ++ (kids_told n value place depth next kid kids ++ after) → next ≡ length before → place < next
      → slice_get whole place ≡ Some (branch, value) → branch.node ≡ n → branch.depth ≡ depth
      → Hang whole next (kids_told n value place depth next kid kids)
  hang-kids n value place depth next kid branch done [] whole before after told all_kids kid_is is counted earlier there node_is depth_is = tt
  hang-kids n value place depth next kid branch done (k ∷ ks) whole before after told all_kids kid_is is counted earlier there node_is depth_is =
      let given : A = handed value n kid in
      let row : Seen = kid_row place depth kid k in
      let first : Seen × A = (row, given) in
      let below : List (Seen × A) = tell k given next (depth + 1) (next + 1) in
      let all : List (Seen × A) = first ∷ below in
      let rest : List (Seen × A) = kids_told n value place depth (next + length all) (kid + 1) ks in
      let whole_is : whole ≡ before ++ (all ++ (rest ++ after)) = is ∙ ap (λ es. before ++ es) (append_assoc all rest after) in
      let place_of_kid : slice_get (kids_of branch.node) kid ≡ Some k =
      ap (λ m. slice_get (kids_of m) kid) node_is ∙ ap (λ ms. slice_get ms kid) all_kids
      ∙ ap (λ j. slice_get (done ++ (k ∷ ks)) j) kid_is ∙ get-seam done k ks in
      let own : HasBranch handed whole next first = record {
        place = place;
        branch = (branch, value);
        named = refl;
        before = earlier;
        there = there;
        is_kid = record {
          deeper = ap (λ d. d + 1) (sym depth_is);
          node = place_of_kid;
          value = ap (λ m. handed value m kid) (sym node_is);
        };
      } in
      let whole_below : whole ≡ (before ++ (first ∷ [])) ++ (below ++ (rest ++ after)) =
      whole_is ∙ sym (append_assoc before (first ∷ []) (below ++ (rest ++ after))) in
      let one : length (first ∷ []) ≡ 1 = refl in
      let below_counted : next + 1 ≡ length (before ++ (first ∷ [])) =
      omega (arith, counted, one, length-append before (first ∷ [])) in
      let seen_there : slice_get whole next ≡ Some first =
      ap (λ es. slice_get es next) whole_is ∙ ap (λ j. slice_get (before ++ (all ++ (rest ++ after))) j) counted
      ∙ get-seam before first (below ++ (rest ++ after)) in
      let beneath_it : Hang whole (next + 1) below =
      told.0.hang given next (depth + 1) (next + 1) row whole (before ++ (first ∷ [])) (rest ++ after) whole_below below_counted
      (omega arith) seen_there refl refl in
      let whole_rest : whole ≡ (before ++ all) ++ (rest ++ after) = whole_is ∙ sym (append_assoc before all (rest ++ after)) in
      let rest_counted : next + length all ≡ length (before ++ all) = omega (arith, counted, length-append before all) in
      let later : Hang whole (next + length all) rest =
      hang-kids n value place depth (next + length all) (kid + 1) branch (done ++ (k ∷ [])) ks whole (before ++ all) after told.1
      (all_kids ∙ sym (append_assoc done (k ∷ []) ks))
      (let last : length (k ∷ []) ≡ 1 = refl in omega (arith, kid_is, last, length-append done (k ∷ [])))
      whole_rest rest_counted (omega (arith, earlier)) there node_is depth_is in
      all_from-append (HasBranch handed whole) next (next + length all) all rest refl (own, beneath_it) later

  told_all : (n : Node) → Told n
  told_all = by_induction Told (record {
    misses = record {
      rows = λ value place depth next. ap (map row_of) (tell-Misses value place depth next) ∙ sym (ap (λ b. b place depth next) beneath-Misses);
      values = λ value place depth next. ap (map value_of) (tell-Misses value place depth next) ∙ sym (heirs-Misses value);
      hang = λ value place depth next branch whole before after is counted earlier there node_is depth_is.
          subst (Hang whole next) (sym (tell-Misses value place depth next)) tt;
    };
    reaches = record {
      rows = λ value place depth next. ap (map row_of) (tell-Reaches value place depth next) ∙ sym (ap (λ b. b place depth next) beneath-Reaches);
      values = λ value place depth next. ap (map value_of) (tell-Reaches value place depth next) ∙ sym (heirs-Reaches value);
      hang = λ value place depth next branch whole before after is counted earlier there node_is depth_is.
          subst (Hang whole next) (sym (tell-Reaches value place depth next)) tt;
    };
    branch = λ reach edges kids told. record {
      rows = λ value place depth next.
          ap (map row_of) (tell-Branch reach edges kids value place depth next)
          ∙ rows-kids (kind.Branch reach edges kids) value place depth next 0 kids told
          ∙ sym (beneath-Branch reach edges kids place depth next);
      values = λ value place depth next.
          ap (map value_of) (tell-Branch reach edges kids value place depth next)
          ∙ values-kids (kind.Branch reach edges kids) value place depth next 0 kids told
          ∙ sym (heirs-Branch reach edges kids value);
      hang = λ value place depth next branch whole before after is counted earlier there node_is depth_is.
          subst (Hang whole next) (sym (tell-Branch reach edges kids value place depth next))
          (hang-kids (kind.Branch reach edges kids) value place depth next 0 branch [] kids whole before after told
          (kids_of-Branch reach edges kids) refl
          (is ∙ ap (λ es. before ++ (es ++ after)) (tell-Branch reach edges kids value place depth next))
          counted earlier there node_is depth_is);
    };
  })

  hang_later : (whole : List (Seen × A)) (root : Seen) (value : A) (below : List (Seen × A)) → Hang whole 1 below → (k : ℕ) (e : Seen × A) → 0 < k
      → slice_get ((root, value) ∷ below) k ≡ Some e → HasBranch handed whole k e
  hang_later whole root value below hangs zero e later is = absurd (omega (arith, later))
  hang_later whole root value below hangs (suc k) e later is =
      subst (λ j. HasBranch handed whole j e) (let same : 1 + k ≡ suc k = omega arith in same) (all_from-at (HasBranch handed whole) 1 below hangs k e is)

  -- the rows of a tree, each with the value of its node
  abbrev pub linked_rows : Tree → A → List (Seen × A)
  linked_rows tree value = (record { parent = None; kid = 0; depth = 0; node = tree.root }, value) ∷ tell tree.root value 0 0 1

  pub linked : (tree : Tree) (value : A) → AreLinked handed tree value (linked_rows tree value)
  linked tree value =
      let root : Seen = record { parent = None; kid = 0; depth = 0; node = tree.root } in
      let below : List (Seen × A) = tell tree.root value 0 0 1 in
      let whole : List (Seen × A) = (root, value) ∷ below in
      let told : Told tree.root = told_all tree.root in
      let hangs : Hang whole 1 below =
      told.hang value 0 0 1 root whole ((root, value) ∷ []) [] (ap (λ es. (root, value) ∷ es) (sym (append-nil below))) refl (omega arith) refl
      refl refl in
      record {
        rows_are = ap (λ rs. root ∷ rs) (told.rows value 0 0 1);
        values_are = ap (λ vs. (value, tree.root) ∷ vs) (told.values value 0 0 1);
        hang = λ k e later is. hang_later whole root value below hangs k e later is;
      }
