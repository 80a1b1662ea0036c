-- Where paths lead, and what the sets are marked with there.
use Rattle.std.proofs.Common.{◌≡◌, ℕ, zero, suc, ◌+◌, ◌<◌, ◌≤◌, refl, sym, ap, ◌∙◌, subst, arith, cond, Some, None, List, [], ◌∷◌, ◌++◌, length, true, false}
use Rattle.std.proofs.Common.{nat_lt, inl, inr}
use Rattle.std.proofs.lemmas.Bool.{cases_lt}
use Rattle.lf_marks.specs.Steps.{kid_of}
use Rattle.lf_marks.specs.Walks.{Spot, led_from, marked_from, untaken, width, IsArena}

pub lt-is : (m n : ℕ) → m < n → nat_lt m n ≡ true
lt-is m n h = grind arith

pub lt-not : (m n : ℕ) → n ≤ m → nat_lt m n ≡ false
lt-not m n h = grind arith

-- the walk's step to a taken kid, and past the taken kids
pub led-taken : (look : ℕ → Spot) (x i : ℕ) (path : List ℕ) → i < (look x).taken
    → led_from look x (i ∷ path) ≡ led_from look ((look x).first + i) path
led-taken look x i path h = ap (λ b. cond b (led_from look ((look x).first + i) path) None) (lt-is i _ h)

pub led-past : (look : ℕ → Spot) (x i : ℕ) (path : List ℕ) → (look x).taken ≤ i → led_from look x (i ∷ path) ≡ None
led-past look x i path h = ap (λ b. cond b (led_from look ((look x).first + i) path) None) (lt-not i _ h)

pub marked-taken : (look : ℕ → Spot) (start x i : ℕ) (path : List ℕ) → i < (look x).taken
    → marked_from look start x (i ∷ path) ≡ marked_from look start ((look x).first + i) path
marked-taken look start x i path h =
    ap (λ b. cond b (marked_from look start ((look x).first + i) path) (untaken (nat_lt x start) (nat_lt i (width (look x))) path)) (lt-is i _ h)

pub marked-past : (look : ℕ → Spot) (start x i : ℕ) (path : List ℕ) → (look x).taken ≤ i
    → marked_from look start x (i ∷ path) ≡ untaken (nat_lt x start) (nat_lt i (width (look x))) path
marked-past look start x i path h =
    ap (λ b. cond b (marked_from look start ((look x).first + i) path) (untaken (nat_lt x start) (nat_lt i (width (look x))) path)) (lt-not i _ h)

-- where a path leads, the mark is that of the place
pub marked-led : (look : ℕ → Spot) (start x : ℕ) (path : List ℕ) (y : ℕ) → led_from look x path ≡ Some y → marked_from look start x path ≡ (look y).mark
marked-led look start x [] y h = let same : x ≡ y = cc in ap (λ z. (look z).mark) same
marked-led look start x (i ∷ path) y h = elim (cases_lt i (look x).taken) [
  | inl few ↦ marked-taken look start x i path few ∙ marked-led look start ((look x).first + i) path y (sym (led-taken look x i path few) ∙ h)
  | inr far ↦ let no : None ≡ Some y = sym (led-past look x i path far) ∙ h in absurd cc
]

-- one path after another
pub led-append : (look : ℕ → Spot) (x : ℕ) (p q : List ℕ) (y : ℕ) → led_from look x p ≡ Some y → led_from look x (p ++ q) ≡ led_from look y q
led-append look x [] q y h = let same : x ≡ y = cc in ap (λ z. led_from look z q) same
led-append look x (i ∷ path) q y h = elim (cases_lt i (look x).taken) [
  | inl few ↦ led-taken look x i (path ++ q) few ∙ led-append look ((look x).first + i) path q y (sym (led-taken look x i path few) ∙ h)
  | inr far ↦ let no : None ≡ Some y = sym (led-past look x i path far) ∙ h in absurd cc
]

-- and the mark there
pub marked-append : (look : ℕ → Spot) (start x : ℕ) (p q : List ℕ) (y : ℕ) → led_from look x p ≡ Some y
    → marked_from look start x (p ++ q) ≡ marked_from look start y q
marked-append look start x [] q y h = let same : x ≡ y = cc in ap (λ z. marked_from look start z q) same
marked-append look start x (i ∷ path) q y h = elim (cases_lt i (look x).taken) [
  | inl few ↦ marked-taken look start x i (path ++ q) few
      ∙ marked-append look start ((look x).first + i) path q y (sym (led-taken look x i path few) ∙ h)
  | inr far ↦ let no : None ≡ Some y = sym (led-past look x i path far) ∙ h in absurd cc
]

-- the last step of a path that leads somewhere
pub record IsLast (look : ℕ → Spot) (x : ℕ) (path : List ℕ) (y : ℕ) : Type 0 where
  pub front : List ℕ
  pub by : ℕ
  pub kid : ℕ
  pub whole : path ≡ kid_of front kid
  pub led : led_from look x front ≡ Some by
  pub few : kid < (look by).taken
  pub at : (look by).first + kid ≡ y

pub last-of : (look : ℕ → Spot) (x i : ℕ) (path : List ℕ) (y : ℕ) → led_from look x (i ∷ path) ≡ Some y → IsLast look x (i ∷ path) y
last-of look x i [] y h = elim (cases_lt i (look x).taken) [
  | inl few ↦ let there : Some ((look x).first + i) ≡ Some y = sym (led-taken look x i [] few) ∙ h in
      record { front = []; by = x; kid = i; whole = refl; led = refl; few = few; at = cc }
  | inr far ↦ let no : None ≡ Some y = sym (led-past look x i [] far) ∙ h in absurd cc
]
last-of look x i (j ∷ path) y h = elim (cases_lt i (look x).taken) [
  | inl few ↦ let l = last-of look ((look x).first + i) j path y (sym (led-taken look x i (j ∷ path) few) ∙ h) in
      record {
        front = i ∷ l.front;
        by = l.by;
        kid = l.kid;
        whole = ap (λ (r : List ℕ). i ∷ r) l.whole;
        led = led-taken look x i l.front few ∙ l.led;
        few = l.few;
        at = l.at;
      }
  | inr far ↦ let no : None ≡ Some y = sym (led-past look x i (j ∷ path) far) ∙ h in absurd cc
]

module _ (level start n : ℕ) (look : ℕ → Spot) (arena : IsArena level start n look) where
  -- a path from a place within leads to one within, that stands as much deeper
  pub led-within : (x : ℕ) (path : List ℕ) (y : ℕ) → x < n → led_from look x path ≡ Some y → y < n
  led-within x [] y few h = let same : x ≡ y = cc in subst (λ z. z < n) same few
  led-within x (i ∷ path) y few h = elim (cases_lt i (look x).taken) [
    | inl taken ↦ led-within ((look x).first + i) path y (arena.down x i taken).within (sym (led-taken look x i path taken) ∙ h)
    | inr far ↦ let no : None ≡ Some y = sym (led-past look x i path far) ∙ h in absurd cc
  ]

  pub kid-deeper : (x i : ℕ) → i < (look x).taken → (look ((look x).first + i)).depth ≡ (look x).depth + 1
  kid-deeper x i h =
      let k = arena.down x i h in
      let u = arena.up ((look x).first + i) (omega (arith, k.later)) k.within in
      sym u.depth ∙ ap (λ z. (look z).depth + 1) k.parent

  pub led-depth : (x : ℕ) (path : List ℕ) (y : ℕ) → led_from look x path ≡ Some y → (look y).depth ≡ (look x).depth + length path
  led-depth x [] y h = let same : x ≡ y = cc in ap (λ z. (look z).depth) (sym same) ∙ omega arith
  led-depth x (i ∷ path) y h = elim (cases_lt i (look x).taken) [
    | inl taken ↦ omega (arith, led-depth ((look x).first + i) path y (sym (led-taken look x i path taken) ∙ h), kid-deeper x i taken)
    | inr far ↦ let no : None ≡ Some y = sym (led-past look x i path far) ∙ h in absurd cc
  ]

  -- two paths that lead from the root to one place are one
  pub led-one : (k x : ℕ) (p q : List ℕ) → x < k → led_from look 0 p ≡ Some x → led_from look 0 q ≡ Some x → p ≡ q
  led-one zero x p q few hp hq = absurd (omega (arith, few))
  led-one (suc k) x [] [] few hp hq = refl
  led-one (suc k) x [] (j ∷ q) few hp hq =
      let l = last-of look 0 j q x hq in let root : 0 ≡ x = cc in
      let never : ⊥ = omega (arith, l.at, root, (arena.down l.by l.kid l.few).later) in absurd never
  led-one (suc k) x (i ∷ p) [] few hp hq =
      let l = last-of look 0 i p x hp in let root : 0 ≡ x = cc in
      let never : ⊥ = omega (arith, l.at, root, (arena.down l.by l.kid l.few).later) in absurd never
  led-one (suc k) x (i ∷ p) (j ∷ q) few hp hq =
      let l = last-of look 0 i p x hp in
      let m = last-of look 0 j q x hq in
      let a = arena.down l.by l.kid l.few in
      let b = arena.down m.by m.kid m.few in
      let by_one : (look x).parent ≡ l.by = ap (λ z. (look z).parent) (sym l.at) ∙ a.parent in
      let by_two : (look x).parent ≡ m.by = ap (λ z. (look z).parent) (sym m.at) ∙ b.parent in
      let kid_one : (look x).kid ≡ l.kid = ap (λ z. (look z).kid) (sym l.at) ∙ a.kid in
      let kid_two : (look x).kid ≡ m.kid = ap (λ z. (look z).kid) (sym m.at) ∙ b.kid in
      let up = arena.up x (omega (arith, l.at, a.later)) (subst (λ z. z < n) l.at a.within) in
      let earlier : l.by < k = omega (arith, few, up.before, by_one) in
      let same : m.by ≡ l.by = sym by_two ∙ by_one in
      let front : l.front ≡ m.front = led-one k l.by l.front m.front earlier l.led (m.led ∙ ap (λ (z : ℕ). Some z) same) in
      l.whole ∙ ap (λ (r : List ℕ). kid_of r l.kid) front ∙ ap (kid_of m.front) (sym kid_one ∙ kid_two) ∙ sym m.whole

  -- and to each place a path leads
  pub led-some : (k x : ℕ) → x < k → x < n → (p : List ℕ) × (led_from look 0 p ≡ Some x)
  led-some zero x few h = absurd (omega (arith, few))
  led-some (suc k) zero few h = ([], refl)
  led-some (suc k) (suc x) few h =
      let up = arena.up (suc x) (omega arith) h in
      let r = led-some k (look (suc x)).parent (omega (arith, few, up.before)) (omega (arith, h, up.before)) in (
        kid_of r.0 (look (suc x)).kid,
        led-append look 0 r.0 ((look (suc x)).kid ∷ []) (look (suc x)).parent r.1
            ∙ led-taken look (look (suc x)).parent (look (suc x)).kid [] up.kid ∙ ap (λ (z : ℕ). Some z) up.place,
      )
