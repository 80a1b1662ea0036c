-- Two faults never share a text, and what a reader of texts gives.
use Rattle.std.proofs.Common.{◌≡◌, ◌≢◌, ℕ, ◌<◌, ◌≤◌, true, false, List, ◌∷◌, ◌++◌, codes, Option, None}
use Rattle.std.proofs.Common.{Some, IsSome, IfSome, refl, sym, ap, subst, ◌∙◌, arith, get_or}
use Rattle.std.proofs.lemmas.Fmt.{decimal_injective}
use Rattle.std.specs.Fmt.{decimal}
use Rattle.lf_faults.specs.declared.fault.Parts.{Parts}
use Rattle.lf_faults.specs.declared.fault.Parts.TheVariants.{Omit, Crash, Pause}
use Rattle.lf_faults.specs.Faults.{IsFault}
use Rattle.lf_faults.specs.Texts.{node_at_step, slot_at, spelling, Reads}
use Rattle.lf_faults.proofs.TextsDigits.{digit_parts}

-- nodes of one digit, and a step of at most two
abbrev pub IsShort : Parts → Type 0
IsShort (Omit from to step) = (from < 10) × (to < 10) × (step < 100)
IsShort (Crash node step) = (node < 10) × (step < 100)
IsShort (Pause node step) = (node < 10) × (step < 100)

pub short_from_fault : (f : Parts) → IsFault f → IsShort f
short_from_fault (Omit from to step) h = (omega arith, omega arith, omega arith)
short_from_fault (Crash node step) h = (omega arith, omega arith)
short_from_fault (Pause node step) h = (omega arith, omega arith)

-- a text of one word is not one of another
heads : (x y : ℕ) (xs ys : List ℕ) → x ∷ xs ≡ y ∷ ys → x ≡ y
heads x y xs ys e = cc

after_two : (x y : ℕ) (xs ys : List ℕ) → x ∷ y ∷ xs ≡ x ∷ y ∷ ys → xs ≡ ys
after_two x y xs ys e = cc

after_one : (x : ℕ) (xs ys : List ℕ) → x ∷ xs ≡ x ∷ ys → xs ≡ ys
after_one x xs ys e = cc

after_word : (w₁ w₂ w₃ w₄ w₅ : ℕ) (xs ys : List ℕ) → w₁ ∷ w₂ ∷ w₃ ∷ w₄ ∷ w₅ ∷ xs ≡ w₁ ∷ w₂ ∷ w₃ ∷ w₄ ∷ w₅ ∷ ys → xs ≡ ys
after_word w₁ w₂ w₃ w₄ w₅ xs ys e = cc

-- a node and a step can be told from their text
pub node_and_step : (m n s t : ℕ) → m < 10 → n < 10 → s < 100 → t < 100 → node_at_step m s ≡ node_at_step n t → (m ≡ n) × (s ≡ t)
node_and_step m n s t m_low n_low s_low t_low same =
    let parts = digit_parts m n (32 ∷ 64 ∷ decimal s) (32 ∷ 64 ∷ decimal t) m_low n_low same in
    (parts.0, decimal_injective s t (omega arith) (omega arith) (after_two 32 64 (decimal s) (decimal t) parts.1))

same_omission : (a b m n s t : ℕ) → a < 10 → b < 10 → m < 10 → n < 10 → s < 100 → t < 100 → spelling (Omit a m s) ≡ spelling (Omit b n t)
    → Omit a m s ≡ Omit b n t
same_omission a b m n s t a_low b_low m_low n_low s_low t_low same =
    let rest = after_word 111 109 105 116 32 (decimal a ++ (62 ∷ node_at_step m s)) (decimal b ++ (62 ∷ node_at_step n t)) same in
    let first = digit_parts a b (62 ∷ node_at_step m s) (62 ∷ node_at_step n t) a_low b_low rest in
    let second = node_and_step m n s t m_low n_low s_low t_low (after_one 62 (node_at_step m s) (node_at_step n t) first.1) in
    let from : a ≡ b = first.0 in
    let to : m ≡ n = second.0 in
    let step : s ≡ t = second.1 in
    cc

same_crash : (m n s t : ℕ) → m < 10 → n < 10 → s < 100 → t < 100 → spelling (Crash m s) ≡ spelling (Crash n t) → Crash m s ≡ Crash n t
same_crash m n s t m_low n_low s_low t_low same =
    let rest = after_one 32 (node_at_step m s) (node_at_step n t) (after_word 99 114 97 115 104 (32 ∷ node_at_step m s) (32 ∷ node_at_step n t) same) in
    let both = node_and_step m n s t m_low n_low s_low t_low rest in
    let node : m ≡ n = both.0 in
    let step : s ≡ t = both.1 in
    cc

same_pause : (m n s t : ℕ) → m < 10 → n < 10 → s < 100 → t < 100 → spelling (Pause m s) ≡ spelling (Pause n t) → Pause m s ≡ Pause n t
same_pause m n s t m_low n_low s_low t_low same =
    let rest = after_one 32 (node_at_step m s) (node_at_step n t) (after_word 112 97 117 115 101 (32 ∷ node_at_step m s) (32 ∷ node_at_step n t) same) in
    let both = node_and_step m n s t m_low n_low s_low t_low rest in
    let node : m ≡ n = both.0 in
    let step : s ≡ t = both.1 in
    cc

pub same_short : (f g : Parts) → IsShort f → IsShort g → spelling f ≡ spelling g → f ≡ g
same_short (Omit a m s) (Omit b n t) f_short g_short same = same_omission a b m n s t f_short.0 g_short.0 f_short.1 g_short.1 f_short.2 g_short.2 same
same_short (Omit a m s) (Crash n t) f_short g_short same = absurd (omega (arith, ap (λ ds. get_or ds 0 0) same))
same_short (Omit a m s) (Pause n t) f_short g_short same = absurd (omega (arith, ap (λ ds. get_or ds 0 0) same))
same_short (Crash m s) (Omit b n t) f_short g_short same = absurd (omega (arith, ap (λ ds. get_or ds 0 0) same))
same_short (Crash m s) (Crash n t) f_short g_short same = same_crash m n s t f_short.0 g_short.0 f_short.1 g_short.1 same
same_short (Crash m s) (Pause n t) f_short g_short same = absurd (omega (arith, ap (λ ds. get_or ds 0 0) same))
same_short (Pause m s) (Omit b n t) f_short g_short same = absurd (omega (arith, ap (λ ds. get_or ds 0 0) same))
same_short (Pause m s) (Crash n t) f_short g_short same = absurd (omega (arith, ap (λ ds. get_or ds 0 0) same))
same_short (Pause m s) (Pause n t) f_short g_short same = same_pause m n s t f_short.0 g_short.0 f_short.1 g_short.1 same

-- two faults of one text are one
pub spelling_injective : (f g : Parts) → IsFault f → IsFault g → spelling f ≡ spelling g → f ≡ g
spelling_injective f g f_fault g_fault same = same_short f g (short_from_fault f f_fault) (short_from_fault g g_fault) same

-- what a constructor of faults makes of the parts of a text
pub reads_made : (text : List ℕ) (f : Parts) (made : Option Parts) → IsShort f → text ≡ spelling f → ((IsSome made → IsFault f) × (IsFault f → IsSome made))
    → IfSome made (λ g. g ≡ f) → Reads text made
reads_made text f None short is some value = λ g fault same.
    let one : f ≡ g = same_short f g short (short_from_fault g fault) (sym is ∙ same) in
    let none : false ≡ true = some.1 (subst IsFault (sym one) fault) in
    cc
reads_made text f (Some g) short is some value = (subst IsFault (sym value) (some.0 refl), is ∙ ap spelling (sym value))

-- the one fault of the text
pub reads_fault : (text : List ℕ) (read : Option Parts) → Reads text read → (f : Parts) → IsFault f
    → (read ≡ Some f → text ≡ spelling f) × (text ≡ spelling f → read ≡ Some f)
reads_fault text None h f fault = (λ same. cc, λ same. absurd (h f fault same))
reads_fault text (Some g) h f fault = (
  (λ same. let one : g ≡ f = cc in h.1 ∙ ap spelling one),
  (λ same. ap Some (spelling_injective g f h.0 fault (sym h.1 ∙ same))),
)

pub reads_some : (text : List ℕ) (read : Option Parts) → Reads text read
    → (IsSome read → (f : Parts) × IsFault f × (text ≡ spelling f)) × (((f : Parts) × IsFault f × (text ≡ spelling f)) → IsSome read)
reads_some text None h = (λ some. let never : false ≡ true = some in absurd (cc), λ w. absurd (h w.0 w.1 w.2))
reads_some text (Some g) h = (λ some. (g, h.0, h.1), λ w. refl)

pub reads_in_range : (text : List ℕ) (read : Option Parts) → Reads text read → IfSome read IsFault
reads_in_range text None h = tt
reads_in_range text (Some g) h = h.0

-- the same text reads the same
pub reads_same : (text bytes : List ℕ) (read : Option Parts) → bytes ≡ text → Reads bytes read → Reads text read
reads_same text bytes read same h = let P : List ℕ → Type 0 = λ bs. Reads bs read in subst P same h

pub reads_crash : (text bytes rest : List ℕ) (node step : ℕ) (made : Option Parts) → bytes ≡ text → bytes ≡ codes "crash " ++ rest
    → (node < 10) × (1 ≤ step) × (step < 100) × (rest ≡ node_at_step node step)
    → ((IsSome made → IsFault (Crash node step)) × (IsFault (Crash node step) → IsSome made)) → IfSome made (λ g. g ≡ Crash node step) → Reads text made
reads_crash text bytes rest node step made same is h some value =
    reads_made text (Crash node step) made (h.0, h.2) (sym same ∙ is ∙ ap (λ ds. codes "crash " ++ ds) h.3) some value

pub reads_pause : (text bytes rest : List ℕ) (node step : ℕ) (made : Option Parts) → bytes ≡ text → bytes ≡ codes "pause " ++ rest
    → (node < 10) × (1 ≤ step) × (step < 100) × (rest ≡ node_at_step node step)
    → ((IsSome made → IsFault (Pause node step)) × (IsFault (Pause node step) → IsSome made)) → IfSome made (λ g. g ≡ Pause node step) → Reads text made
reads_pause text bytes rest node step made same is h some value =
    reads_made text (Pause node step) made (h.0, h.2) (sym same ∙ is ∙ ap (λ ds. codes "pause " ++ ds) h.3) some value

-- what a text of another form reads as: no slot, and no fault
pub no_sender : (bs rest : List ℕ) (d : ℕ) → d < 10 → bs ≡ decimal d ++ rest → ((more : List ℕ) → rest ≢ 62 ∷ more) → (from to step : ℕ) → from < 10
    → to < 10 → 1 ≤ step → step < 100 → bs ≢ slot_at from to step
no_sender bs rest d d_low is none from to step from_low to_low one high same =
    none (node_at_step to step) (digit_parts d from rest (62 ∷ node_at_step to step) d_low from_low (sym is ∙ same)).1

pub no_receiver : (bs rest more : List ℕ) (d : ℕ) → d < 10 → bs ≡ decimal d ++ rest → rest ≡ 62 ∷ more
    → ((node step : ℕ) → node < 10 → 1 ≤ step → step < 100 → more ≢ node_at_step node step) → (from to step : ℕ) → from < 10 → to < 10 → 1 ≤ step
    → step < 100 → bs ≢ slot_at from to step
no_receiver bs rest more d d_low is rest_is none from to step from_low to_low one high same =
    let parts = digit_parts d from rest (62 ∷ node_at_step to step) d_low from_low (sym is ∙ same) in
    none to step to_low one high (after_one 62 more (node_at_step to step) (sym rest_is ∙ parts.1))

pub no_slot : (bs : List ℕ) → ((from to step : ℕ) → from < 10 → to < 10 → 1 ≤ step → step < 100 → bs ≢ slot_at from to step) → (f : Parts) → IsFault f
    → codes "omit " ++ bs ≢ spelling f
no_slot bs none (Omit from to step) fault same =
    none from to step (omega arith) (omega arith) (omega arith) (omega arith) (after_word 111 109 105 116 32 bs (slot_at from to step) same)
no_slot bs none (Crash node step) fault same = omega (arith, ap (λ ds. get_or ds 0 0) same)
no_slot bs none (Pause node step) fault same = omega (arith, ap (λ ds. get_or ds 0 0) same)

-- a node that is followed by something else than a space, `@` and a step
pub no_at : (bs rest : List ℕ) (d : ℕ) → d < 10 → bs ≡ decimal d ++ rest → ((more : List ℕ) → rest ≢ 32 ∷ 64 ∷ more) → (node step : ℕ) → node < 10
    → 1 ≤ step → step < 100 → bs ≢ node_at_step node step
no_at bs rest d d_low is none node step low one high same =
    none (decimal step) (digit_parts d node rest (32 ∷ 64 ∷ decimal step) d_low low (sym is ∙ same)).1

pub no_step : (bs rest more : List ℕ) (d : ℕ) → d < 10 → bs ≡ decimal d ++ rest → rest ≡ 32 ∷ 64 ∷ more
    → ((step : ℕ) → 1 ≤ step → step < 100 → more ≢ decimal step) → (node step : ℕ) → node < 10 → 1 ≤ step → step < 100 → bs ≢ node_at_step node step
no_step bs rest more d d_low is rest_is none node step low one high same =
    none step one high (after_two 32 64 more (decimal step) (sym rest_is ∙ (digit_parts d node rest (32 ∷ 64 ∷ decimal step) d_low low (sym is ∙ same)).1))
