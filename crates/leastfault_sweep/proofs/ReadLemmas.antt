-- From the texts that were read to what a sweep read.
use Rattle.std.proofs.Common.{◌≡◌, ℕ, List, [], ◌∷◌, ◌++◌, refl, sym, ap, ◌∙◌, subst, append_assoc}
use Rattle.std.specs.Prelude.{Option, None, Some, IfSome, Result, Ok, Err, Vec}
use Rattle.std.specs.Global.{Global}
use Rattle.std.specs.Option.{option_map}
use Rattle.lf_scenario.specs.Limits.{longest}
use Rattle.lf_streams.specs.Files.{Adds, Desk}
use Rattle.lf_sweep_words.specs.declared.types.SweepAsked.{SweepAsked}
use Rattle.leastfault.specs.declared.fault.BytesFault.{BytesFault}
use Rattle.leastfault.specs.declared.fault.BytesFault.TheVariants as faults
use Rattle.leastfault.specs.Engines.{IsFront, tells_read}
use Rattle.leastfault.specs.Places.{AddsFront, IsFrontAt, WereRead, read_of}
use Rattle.leastfault_sweep.specs.declared.reading.SweepTexts.{SweepTexts}
use Rattle.leastfault_sweep.specs.Executed.{AreFronts, protocol_place, reads_of, scenario_place}

-- known items that grow twice
module _ {X : Type 0} where
  pub adds_both : (one other : List X) (old mid new : Option (List X)) → Adds one old mid → Adds other mid new → Adds (one ++ other) old new
  adds_both one other None mid new first next = tt
  adds_both one other (Some xs) mid new first next =
      subst (λ m. IfSome m (λ items. new ≡ Some (items ++ other))) first next ∙ ap Some (append_assoc xs one other)

  -- of items the first grow
  pub front_more : (one other : List X) (old new : Option (List X)) → AddsFront one old new → AddsFront (one ++ other) old new
  front_more one other old new front =
      (front.0, front.1 ++ other, sym (append_assoc front.0 front.1 other) ∙ ap (λ xs. xs ++ other) front.2, front.3)

  pub front_then : (one other : List X) (old mid new : Option (List X)) → Adds one old mid → AddsFront other mid new
      → AddsFront (one ++ other) old new
  front_then one other old mid new first front = (
    one ++ front.0,
    front.1,
    append_assoc one front.0 front.1 ∙ ap (λ xs. one ++ xs) front.2,
    adds_both one front.0 old mid new first front.3,
  )

-- whichever value there would be, a fault tells of a read or of none
pub read_told : (X Y : Type 0) (e : BytesFault) → tells_read {X = X} (Err e) ≡ tells_read {X = Y} (Err e)
read_told X Y faults.Read = refl
read_told X Y faults.Write = refl
read_told X Y faults.Memory = refl
read_told X Y (faults.Pool number) = refl

-- reads go on, or stop at one that failed
module _ {X Y Z : Type 0} (IsOne : X → Type 0) (IsOther : Y → Type 0) (IsBoth : Z → Type 0) (one other : List (Option (List ℕ) × ℕ)) (old mid new : Desk) where
  pub stops : (e : BytesFault) → WereRead IsOne one old new (Err e) → WereRead IsBoth (one ++ other) old new (Err e)
  stops e is = record {
    one = tt;
    whole = tt;
    front = front_more one other old.reads new.reads is.front;
    source = is.source ∙ read_told X Z e;
    fault = is.fault;
    held = is.held;
    unwritten = is.unwritten;
    well = is.well;
  }

  pub goes_on : (x : X) (y : Y) (z : Z) → WereRead IsOne one old mid (Ok x) → WereRead IsOther other mid new (Ok y) → IsBoth z
      → WereRead IsBoth (one ++ other) old new (Ok z)
  goes_on x y z first next both = record {
    one = both;
    whole = adds_both one other old.reads mid.reads new.reads first.whole next.whole;
    front = front_then one other old.reads mid.reads new.reads first.whole next.front;
    source = next.source;
    fault = tt;
    held = next.held ∙ first.held;
    unwritten = next.unwritten ∙ first.unwritten;
    well = next.well ∙ first.well;
  }

  pub stops_then : (x : X) (e : BytesFault) → WereRead IsOne one old mid (Ok x) → WereRead IsOther other mid new (Err e)
      → WereRead IsBoth (one ++ other) old new (Err e)
  stops_then x e first next = record {
    one = tt;
    whole = tt;
    front = front_then one other old.reads mid.reads new.reads first.whole next.front;
    source = next.source ∙ read_told Y Z e;
    fault = next.fault;
    held = next.held ∙ first.held;
    unwritten = next.unwritten ∙ first.unwritten;
    well = next.well ∙ first.well;
  }

-- a place that may not be there, and one that is
abbrev pub ReadWhere : Option (Option (List ℕ)) → ℕ → Desk → Desk → Result (Option (Vec ℕ Global)) BytesFault → Type 0
ReadWhere place limit old new =
    WereRead (λ (text : Option (Vec ℕ Global)). IsFrontAt old.holds place limit (option_map (λ bytes. bytes.items) text)) (read_of place limit) old new

abbrev pub ReadPlace : Option (List ℕ) → ℕ → Desk → Desk → Result (Vec ℕ Global) BytesFault → Type 0
ReadPlace name limit old new = WereRead (λ (text : Vec ℕ Global). IsFront limit (old.holds name) text.items) ((name, limit) ∷ []) old new

-- the texts of a sweep: where the first or the second isn't read, and where both are
module _ (a : SweepAsked) (old first new : Desk) where
  abbrev Sweep : Desk → Result SweepTexts BytesFault → Type 0
  Sweep = WereRead (AreFronts a old.holds) (reads_of a) old

  pub no_protocol : (e : BytesFault) → ReadWhere (protocol_place a) longest old first (Err e) → Sweep first (Err e)
  no_protocol e is =
      stops (λ (text : Option (Vec ℕ Global)). IsFrontAt old.holds (protocol_place a) longest (option_map (λ bytes. bytes.items) text))
      (λ (none : ℕ). ⊥) (AreFronts a old.holds) (read_of (protocol_place a) longest) ((scenario_place a, longest) ∷ []) old first first e is

  pub no_scenario : (p : Option (Vec ℕ Global)) (e : BytesFault) → ReadWhere (protocol_place a) longest old first (Ok p)
      → ReadPlace (scenario_place a) longest first new (Err e) → Sweep new (Err e)
  no_scenario p e is next =
      stops_then (λ (text : Option (Vec ℕ Global)). IsFrontAt old.holds (protocol_place a) longest (option_map (λ bytes. bytes.items) text))
      (λ (text : Vec ℕ Global). IsFront longest (first.holds (scenario_place a)) text.items) (AreFronts a old.holds) (read_of (protocol_place a) longest)
      ((scenario_place a, longest) ∷ []) old first new p e is next

  pub both_read : (p : Option (Vec ℕ Global)) (s : Vec ℕ Global) (texts : SweepTexts) → ReadWhere (protocol_place a) longest old first (Ok p)
      → ReadPlace (scenario_place a) longest first new (Ok s) → texts ≡ record { protocol = p; scenario = s } → Sweep new (Ok texts)
  both_read p s texts is next made =
      goes_on (λ (text : Option (Vec ℕ Global)). IsFrontAt old.holds (protocol_place a) longest (option_map (λ bytes. bytes.items) text))
      (λ (text : Vec ℕ Global). IsFront longest (first.holds (scenario_place a)) text.items) (AreFronts a old.holds) (read_of (protocol_place a) longest)
      ((scenario_place a, longest) ∷ []) old first new p s texts is next
      (subst (AreFronts a old.holds) (sym made) (
        is.one,
        subst (λ (holds : Option (List ℕ) → Option (List ℕ)). IsFront longest (holds (scenario_place a)) s.items) is.held next.one,
      ))
