-- Lists of events, one more at a time.
use Rattle.std.proofs.Common.{◌≡◌, ℕ, ◌+◌, ◌<◌, ◌≤◌, refl, sym, subst, List, [], ◌∷◌, ◌++◌, length, take, slice_index_or, take_all, Result, Ok, Err, OnErr}
use Rattle.std.proofs.lemmas.List.{take_more}
use Rattle.lf_outcome.specs.declared.scenario.Scenario.{Scenario}
use Rattle.lf_certificate.specs.States.{State, IsSameState}
use Rattle.lf_book.specs.Drives.{Held, Does, Drives, DrivesSome}
use Rattle.lf_book.specs.declared.driving.Event.{Event}
use Rattle.lf_book.specs.declared.driving.Reply.{Reply}

-- events one after another, with the jobs that are held at the end
abbrev pub DrivesTo : Scenario → List Held → List Event → List Reply → List Held → State → State → Type 0
DrivesTo s jobs [] [] left old new = (jobs ≡ left) × (old ≡ new)
DrivesTo s jobs [] (r ∷ rs) left old new = ⊥
DrivesTo s jobs (e ∷ es) [] left old new = ⊥
DrivesTo s jobs (e ∷ es) (r ∷ rs) left old new =
    (held : List Held) × (mid : State) × Does s jobs e r held old mid × DrivesTo s held es rs left mid new

-- one more event
pub one_more : (s : Scenario) (jobs : List Held) (es : List Event) (rs : List Reply) (held left : List Held) (old mid new : State) (e : Event) (r : Reply)
    → DrivesTo s jobs es rs held old mid → Does s held e r left mid new → DrivesTo s jobs (es ++ e ∷ []) (rs ++ r ∷ []) left old new
one_more s jobs [] [] held left old mid new e r d h =
    (left, new, subst (λ at. Does s jobs e r left at new) (sym d.1) (subst (λ js. Does s js e r left mid new) (sym d.0) h), (refl, refl))
one_more s jobs [] (q ∷ qs) held left old mid new e r d h = absurd d
one_more s jobs (f ∷ es) [] held left old mid new e r d h = absurd d
one_more s jobs (f ∷ es) (q ∷ qs) held left old mid new e r d h =
    (d.0, d.1, d.2, one_more s d.0 es qs held left d.1 mid new e r d.3 h)

same_state : (s : State) → IsSameState s s
same_state s = record { level = refl; next = refl; finished = refl; marks = λ q. refl }

-- and no more
pub no_more : (s : Scenario) (jobs : List Held) (es : List Event) (rs : List Reply) (left : List Held) (old mid new : State)
    → DrivesTo s jobs es rs left old mid → IsSameState mid new → Drives s jobs es rs old new
no_more s jobs [] [] left old mid new d same = subst (λ at. IsSameState at new) (sym d.1) same
no_more s jobs [] (q ∷ qs) left old mid new d same = absurd d
no_more s jobs (f ∷ es) [] left old mid new d same = absurd d
no_more s jobs (f ∷ es) (q ∷ qs) left old mid new d same = (d.0, d.1, d.2, no_more s d.0 es qs left d.1 mid new d.3 same)

-- the events of the list so far, with the next
pub next_event : (s at : Scenario) (es : List Event) (i : ℕ) (rs all : List Reply) (held left : List Held) (old mid new : State) (e : Event) (r : Reply)
    → at ≡ s → i < length es → all ≡ rs ++ r ∷ [] → DrivesTo s [] (take i es) rs held old mid
    → Does at held (slice_index_or es i e) r left mid new → DrivesTo s [] (take (i + 1) es) all left old new
next_event s at es i rs all held left old mid new e r same few more d h =
    let here : Does s held (slice_index_or es i e) r left mid new =
    subst (λ (x : Scenario). Does x held (slice_index_or es i e) r left mid new) same h in
    subst (λ (l : List Reply). DrivesTo s [] (take (i + 1) es) l left old new) (sym more)
    (subst (λ (l : List Event). DrivesTo s [] l (rs ++ r ∷ []) left old new) (sym (take_more es i e few))
    (one_more s [] (take i es) rs held left old mid new (slice_index_or es i e) r d here))

-- all events,
pub all_events : (s : Scenario) (es : List Event) (i : ℕ) (rs : List Reply) (held : List Held) (old new : State) → length es ≤ i
    → DrivesTo s [] (take i es) rs held old new → Drives s [] es rs old new
all_events s es i rs held old new all d =
    subst (λ (l : List Event). Drives s [] l rs old new) (take_all i es all) (no_more s [] (take i es) rs held old new new d (same_state new))

-- and those before one that changed nothing
pub some_events : {A E : Type 0} (result : Result A E) (s : Scenario) (es : List Event) (i : ℕ) (rs : List Reply) (held : List Held)
    (old mid new : State) → i < length es → DrivesTo s [] (take i es) rs held old mid → IsSameState mid new
    → OnErr result (DrivesSome s es old new)
some_events (Ok x) s es i rs held old mid new few d same = tt
some_events (Err x) s es i rs held old mid new few d same = (i, few, rs, no_more s [] (take i es) rs held old mid new d same)
