-- From the texts that were read, and the writes that were made, to what a command promises.
use Rattle.std.proofs.Common.{◌≡◌, ℕ, ◌+◌, ◌<◌, false, List, [], ◌∷◌, ◌++◌, length, take, refl, sym, ap, ◌∙◌, subst, inl, inr, append_assoc, append-nil}
use Rattle.std.specs.Prelude.{◌⊎◌, ⊤, Option, None, Some, is_some, IfSome, Result, Ok, Err, Vec}
use Rattle.std.specs.Global.{Global}
use Rattle.std.specs.Option.{option_map}
use Rattle.lf_scenario.specs.Limits.{longest}
use Rattle.lf_streams.specs.declared.error.Failed.{Failed}
use Rattle.lf_streams.specs.Files.{Adds, Desk, Writes, WritesPart}
use Rattle.lf_tree.specs.Texts.{most_bytes}
use Rattle.lf_words.specs.declared.types.Asked.{Asked}
use Rattle.leastfault.specs.declared.fault.BytesFault.{BytesFault}
use Rattle.leastfault.specs.declared.fault.BytesFault.TheVariants as faults
use Rattle.leastfault.specs.declared.named.CommandTexts.{CommandTexts}
use Rattle.leastfault.specs.Engines.{IsFront, IsMadeHere, OfHeld, tells_read, tells_write}
use Rattle.leastfault.specs.Places.{AddsFront, AddsPart, AreFronts, IsExecuted, IsFrontAt, OfPlace, OfTexts, WasDelivered, WereRead}
use Rattle.leastfault.specs.Places.{protocol_place, read_of, reads_of, scenario_place, tree_place}
use Rattle.leastfault.proofs.EngineLemmas.{held_wider, to_held}
use Rattle.leastfault.proofs.ReplyLemmas.{GoesByFront}

-- known items that grow twice, and that stay
module _ {X : Type 0} where
  pub adds_both : (one other : List X) (old mid new : Option (List X)) → Adds one old mid → Adds other mid new → Adds (one ++ other) old new
  adds_both one other None mid new first next = tt
  adds_both one other (Some xs) mid new first next =
      subst (λ m. IfSome m (λ items. new ≡ Some (items ++ other))) first next ∙ ap Some (append_assoc xs one other)

  pub adds_none : (old new : Option (List X)) → new ≡ old → Adds [] old new
  adds_none None new same = tt
  adds_none (Some xs) new same = same ∙ ap Some (sym (append-nil xs))

  pub adds_kept : (items : List X) (old mid new : Option (List X)) → Adds items old mid → new ≡ mid → Adds items old new
  adds_kept items None mid new grown same = tt
  adds_kept items (Some xs) mid new grown same = same ∙ grown

  -- where the first items are all that there are
  pub front_all : (items : List X) (old new : Option (List X)) → Adds items old new → AddsFront items old new
  front_all items old new grown = (items, [], append-nil items, grown)

  pub front_none : (items : List X) (old new : Option (List X)) → new ≡ old → AddsFront items old new
  front_none items old new same = ([], items, refl, adds_none old new same)

  pub front_more : (one other : List X) (old new : Option (List X)) → AddsFront one old new → AddsFront (one ++ other) old new
  front_more one other old new front =
      (front.0, front.1 ++ other, sym (append_assoc front.0 front.1 other) ∙ ap (λ xs. xs ++ other) front.2, front.3)

  pub front_then : (one other : List X) (old mid new : Option (List X)) → Adds one old mid → AddsFront other mid new
      → AddsFront (one ++ other) old new
  front_then one other old mid new first front = (
    one ++ front.0,
    front.1,
    append_assoc one front.0 front.1 ∙ ap (λ xs. one ++ xs) front.2,
    adds_both one front.0 old mid new first front.3,
  )

-- whichever value there would be, a fault tells of a read or of none
read_told : (X Y : Type 0) (e : BytesFault) → tells_read {X = X} (Err e) ≡ tells_read {X = Y} (Err e)
read_told X Y faults.Read = refl
read_told X Y faults.Write = refl
read_told X Y faults.Memory = refl
read_told X Y (faults.Pool number) = refl

-- reads go on, or stop at one that failed
module _ {X Y Z : Type 0} (IsOne : X → Type 0) (IsOther : Y → Type 0) (IsBoth : Z → Type 0) (one other : List (Option (List ℕ) × ℕ)) (old mid new : Desk) where
  pub stops : (e : BytesFault) → WereRead IsOne one old new (Err e) → WereRead IsBoth (one ++ other) old new (Err e)
  stops e is = record {
    one = tt;
    whole = tt;
    front = front_more one other old.reads new.reads is.front;
    source = is.source ∙ read_told X Z e;
    fault = is.fault;
    held = is.held;
    unwritten = is.unwritten;
    well = is.well;
  }

  pub goes_on : (x : X) (y : Y) (z : Z) → WereRead IsOne one old mid (Ok x) → WereRead IsOther other mid new (Ok y) → IsBoth z
      → WereRead IsBoth (one ++ other) old new (Ok z)
  goes_on x y z first next both = record {
    one = both;
    whole = adds_both one other old.reads mid.reads new.reads first.whole next.whole;
    front = front_then one other old.reads mid.reads new.reads first.whole next.front;
    source = next.source;
    fault = tt;
    held = next.held ∙ first.held;
    unwritten = next.unwritten ∙ first.unwritten;
    well = next.well ∙ first.well;
  }

  pub stops_then : (x : X) (e : BytesFault) → WereRead IsOne one old mid (Ok x) → WereRead IsOther other mid new (Err e)
      → WereRead IsBoth (one ++ other) old new (Err e)
  stops_then x e first next = record {
    one = tt;
    whole = tt;
    front = front_then one other old.reads mid.reads new.reads first.whole next.front;
    source = next.source ∙ read_told Y Z e;
    fault = next.fault;
    held = next.held ∙ first.held;
    unwritten = next.unwritten ∙ first.unwritten;
    well = next.well ∙ first.well;
  }

-- a place that may not be there, and one that is
abbrev pub ReadWhere : Option (Option (List ℕ)) → ℕ → Desk → Desk → Result (Option (Vec ℕ Global)) BytesFault → Type 0
ReadWhere place limit old new =
    WereRead (λ (text : Option (Vec ℕ Global)). IsFrontAt old.holds place limit (option_map (λ bytes. bytes.items) text)) (read_of place limit) old new

abbrev pub ReadPlace : Option (List ℕ) → ℕ → Desk → Desk → Result (Vec ℕ Global) BytesFault → Type 0
ReadPlace name limit old new = WereRead (λ (text : Vec ℕ Global). IsFront limit (old.holds name) text.items) ((name, limit) ∷ []) old new

-- the texts of a command: where the first, the second or the third isn't read, and where all are
module _ (a : Asked) (old first second new : Desk) where
  abbrev Command : Desk → Result CommandTexts BytesFault → Type 0
  Command = WereRead (AreFronts a old.holds) (reads_of a) old

  pub no_protocol : (e : BytesFault) → ReadWhere (protocol_place a) longest old first (Err e) → Command first (Err e)
  no_protocol e is =
      stops (λ (text : Option (Vec ℕ Global)). IsFrontAt old.holds (protocol_place a) longest (option_map (λ bytes. bytes.items) text))
      (λ (none : ℕ). ⊥) (AreFronts a old.holds) (read_of (protocol_place a) longest)
      ((scenario_place a, longest) ∷ read_of (tree_place a) most_bytes) old first first e is

  pub no_scenario : (p : Option (Vec ℕ Global)) (e : BytesFault) → ReadWhere (protocol_place a) longest old first (Ok p)
      → ReadPlace (scenario_place a) longest first second (Err e) → Command second (Err e)
  no_scenario p e is next =
      stops_then (λ (text : Option (Vec ℕ Global)). IsFrontAt old.holds (protocol_place a) longest (option_map (λ bytes. bytes.items) text))
      (λ (text : Vec ℕ Global). ⊥) (AreFronts a old.holds) (read_of (protocol_place a) longest)
      ((scenario_place a, longest) ∷ read_of (tree_place a) most_bytes) old first second p e is
      (stops (λ (text : Vec ℕ Global). IsFront longest (first.holds (scenario_place a)) text.items) (λ (none : ℕ). ⊥) (λ (text : Vec ℕ Global). ⊥)
      ((scenario_place a, longest) ∷ []) (read_of (tree_place a) most_bytes) first second second e next)

  pub no_tree : (p : Option (Vec ℕ Global)) (s : Vec ℕ Global) (e : BytesFault) → ReadWhere (protocol_place a) longest old first (Ok p)
      → ReadPlace (scenario_place a) longest first second (Ok s) → ReadWhere (tree_place a) most_bytes second new (Err e) → Command new (Err e)
  no_tree p s e is next last =
      stops_then (λ (text : Option (Vec ℕ Global)). IsFrontAt old.holds (protocol_place a) longest (option_map (λ bytes. bytes.items) text))
      (λ (text : Vec ℕ Global). ⊥) (AreFronts a old.holds) (read_of (protocol_place a) longest)
      ((scenario_place a, longest) ∷ read_of (tree_place a) most_bytes) old first new p e is
      (stops_then (λ (text : Vec ℕ Global). IsFront longest (first.holds (scenario_place a)) text.items)
      (λ (text : Option (Vec ℕ Global)). IsFrontAt second.holds (tree_place a) most_bytes (option_map (λ bytes. bytes.items) text))
      (λ (text : Vec ℕ Global). ⊥) ((scenario_place a, longest) ∷ []) (read_of (tree_place a) most_bytes) first second new s e next last)

  pub all_read : (p : Option (Vec ℕ Global)) (s : Vec ℕ Global) (t : Option (Vec ℕ Global)) (texts : CommandTexts)
      → ReadWhere (protocol_place a) longest old first (Ok p) → ReadPlace (scenario_place a) longest first second (Ok s)
      → ReadWhere (tree_place a) most_bytes second new (Ok t)
      → texts ≡ record { protocol = p; scenario = s; tree = t } → Command new (Ok texts)
  all_read p s t texts is next last made =
      goes_on (λ (text : Option (Vec ℕ Global)). IsFrontAt old.holds (protocol_place a) longest (option_map (λ bytes. bytes.items) text))
      (λ (text : Vec ℕ Global). ⊤) (AreFronts a old.holds) (read_of (protocol_place a) longest)
      ((scenario_place a, longest) ∷ read_of (tree_place a) most_bytes) old first new p s texts is
      (goes_on (λ (text : Vec ℕ Global). IsFront longest (first.holds (scenario_place a)) text.items)
      (λ (text : Option (Vec ℕ Global)). IsFrontAt second.holds (tree_place a) most_bytes (option_map (λ bytes. bytes.items) text))
      (λ (text : Vec ℕ Global). ⊤) ((scenario_place a, longest) ∷ []) (read_of (tree_place a) most_bytes) first second new s t s next last tt)
      (subst (AreFronts a old.holds) (sym made) (
        is.one,
        subst (λ (holds : Option (List ℕ) → Option (List ℕ)). IsFront longest (holds (scenario_place a)) s.items) is.held next.one,
        subst (λ (holds : Option (List ℕ) → Option (List ℕ)). IsFrontAt holds (tree_place a) most_bytes (option_map (λ bytes. bytes.items) t))
            (next.held ∙ is.held) last.one,
      ))

-- the bytes of a text are there where there is a place to read
pub front_is_there : (holds : Option (List ℕ) → Option (List ℕ)) (place : Option (Option (List ℕ))) (most : ℕ) (bytes : Option (List ℕ))
    → IsFrontAt holds place most bytes → is_some bytes ≡ is_some place
front_is_there holds None most None tells = refl
front_is_there holds None most (Some bytes) tells = absurd tells
front_is_there holds (Some name) most None tells = absurd tells
front_is_there holds (Some name) most (Some bytes) tells = refl

pub mapped_is_there : {X Y : Type 0} (f : X → Y) (x : Option X) → is_some (option_map f x) ≡ is_some x
mapped_is_there f None = refl
mapped_is_there f (Some x) = refl

-- what is said of the bytes that were read is said of what the place holds
to_place : (holds : Option (List ℕ) → Option (List ℕ)) (place : Option (Option (List ℕ))) (most : ℕ) (Says : Option (List ℕ) → Type 0)
    → GoesByFront most (λ text. Says (Some text)) → (bytes : Option (List ℕ)) → IsFrontAt holds place most bytes → Says bytes → OfPlace holds place Says
to_place holds None most Says by_front None tells is = is
to_place holds None most Says by_front (Some bytes) tells is = absurd tells
to_place holds (Some name) most Says by_front None tells is = absurd tells
to_place holds (Some name) most Says by_front (Some bytes) tells is =
    to_held most (λ text. Says (Some text)) by_front (holds name) bytes bytes tells refl is

place_wider : (holds : Option (List ℕ) → Option (List ℕ)) (place : Option (Option (List ℕ))) (Says Means : Option (List ℕ) → Type 0)
    → ((text : Option (List ℕ)) → Says text → Means text) → OfPlace holds place Says → OfPlace holds place Means
place_wider holds None Says Means wider is = wider None is
place_wider holds (Some name) Says Means wider is =
    held_wider (λ text. Says (Some text)) (λ text. Means (Some text)) (holds name) (λ text. wider (Some text)) is

-- what a command comes to, by the texts that were read
module _ (a : Asked) {X : Type 0} (IsOne : Option (List ℕ) → List ℕ → Option (List ℕ) → X → Type 0)
    (IsCause : Option (List ℕ) → List ℕ → ℕ → Type 0) (written_of : X → List (Option (List ℕ) × List ℕ))
    (by_first : (text : List ℕ) (certificate : Option (List ℕ)) (x : X) → GoesByFront longest (λ protocol. IsOne (Some protocol) text certificate x))
    (by_text : (protocol certificate : Option (List ℕ)) (x : X) → GoesByFront longest (λ text. IsOne protocol text certificate x))
    (by_last : (protocol : Option (List ℕ)) (text : List ℕ) (x : X) → GoesByFront most_bytes (λ certificate. IsOne protocol text (Some certificate) x))
    (causes_by_first : (text : List ℕ) (number : ℕ) → GoesByFront longest (λ protocol. IsCause (Some protocol) text number))
    (causes_by_text : (protocol : Option (List ℕ)) (number : ℕ) → GoesByFront longest (λ text. IsCause protocol text number))
    (old : Desk) (well : old.write_failed ≡ false) where
  abbrev OfLast : X → Option (List ℕ) → List ℕ → Type 0
  OfLast x protocol text = OfPlace old.holds (tree_place a) (λ certificate. IsOne protocol text certificate x)

  abbrev OfTwo : X → Option (List ℕ) → Type 0
  OfTwo x protocol = OfHeld (OfLast x protocol) (old.holds (scenario_place a))

  last_by_text : (x : X) (protocol : Option (List ℕ)) → GoesByFront longest (OfLast x protocol)
  last_by_text x protocol held more is =
      place_wider old.holds (tree_place a) (λ certificate. IsOne protocol (take (longest + 1) held) certificate x)
      (λ certificate. IsOne protocol held certificate x) (λ certificate. by_text protocol certificate x held more) is

  two_by_first : (x : X) → GoesByFront longest (λ protocol. OfTwo x (Some protocol))
  two_by_first x held more is =
      held_wider (OfLast x (Some (take (longest + 1) held))) (OfLast x (Some held)) (old.holds (scenario_place a))
      (λ text. place_wider old.holds (tree_place a) (λ certificate. IsOne (Some (take (longest + 1) held)) text certificate x)
      (λ certificate. IsOne (Some held) text certificate x) (λ certificate. by_first text certificate x held more)) is

  module _ (texts : CommandTexts) (fronts : AreFronts a old.holds texts) where
    abbrev protocol_in : Option (List ℕ)
    protocol_in = option_map (λ bytes. bytes.items) texts.protocol

    abbrev tree_in : Option (List ℕ)
    tree_in = option_map (λ bytes. bytes.items) texts.tree

    told : (x : X) → IsOne protocol_in texts.scenario.items tree_in x → OfTexts a old.holds (λ protocol text certificate. IsOne protocol text certificate x)
    told x is =
        to_place old.holds (protocol_place a) longest (OfTwo x) (two_by_first x) protocol_in fronts.0
        (to_held longest (OfLast x protocol_in) (last_by_text x protocol_in) (old.holds (scenario_place a)) texts.scenario.items texts.scenario.items fronts.1
        refl
        (to_place old.holds (tree_place a) most_bytes (λ certificate. IsOne protocol_in texts.scenario.items certificate x)
        (by_last protocol_in texts.scenario.items x) tree_in fronts.2 is))

    abbrev OfCause : ℕ → Option (List ℕ) → Type 0
    OfCause number protocol = OfHeld (λ text. IsCause protocol text number) (old.holds (scenario_place a))

    cause_by_first : (number : ℕ) → GoesByFront longest (λ protocol. OfCause number (Some protocol))
    cause_by_first number held more is =
        held_wider (λ text. IsCause (Some (take (longest + 1) held)) text number) (λ text. IsCause (Some held) text number) (old.holds (scenario_place a))
        (λ text. causes_by_first text number held more) is

    cause_told : (number : ℕ) → IsCause protocol_in texts.scenario.items number → OfPlace old.holds (protocol_place a) (OfCause number)
    cause_told number is =
        to_place old.holds (protocol_place a) longest (OfCause number) (cause_by_first number) protocol_in fronts.0
        (to_held longest (λ text. IsCause protocol_in text number) (causes_by_text protocol_in number) (old.holds (scenario_place a)) texts.scenario.items
        texts.scenario.items fronts.1 refl is)

  abbrev Executed : Desk → Result X BytesFault → Type 0
  Executed = IsExecuted a IsOne IsCause written_of old

  module _ (texts : CommandTexts) (mid : Desk) (read : WereRead (AreFronts a old.holds) (reads_of a) old mid (Ok texts)) where
    -- no reply was made
    pub not_made : (e : BytesFault)
        → IsMadeHere (IsOne (protocol_in texts read.one) texts.scenario.items (tree_in texts read.one))
        (IsCause (protocol_in texts read.one) texts.scenario.items) (Err e) → Executed mid (Err e)
    not_made faults.Read is = absurd is
    not_made faults.Write is = absurd is
    not_made faults.Memory is = record {
      one = tt;
      part = λ same. let never : faults.Memory ≡ faults.Write = cc in cc;
      unwritten = λ other. read.unwritten;
      front = read.front;
      source = read.source;
      sink = read.well ∙ well;
      pool = λ number same. let never : faults.Memory ≡ faults.Pool number = cc in cc;
    }
    not_made (faults.Pool n) is = record {
      one = tt;
      part = λ same. let never : faults.Pool n ≡ faults.Write = cc in cc;
      unwritten = λ other. read.unwritten;
      front = read.front;
      source = read.source;
      sink = read.well ∙ well;
      pool = λ number same.
          let both : faults.Pool n ≡ faults.Pool number = cc in
          let one : n ≡ number = cc in
          cause_told texts read.one number (subst (IsCause (protocol_in texts read.one) texts.scenario.items) one is);
    }

    -- it was made, and not written whole
    pub not_delivered : (x : X) (new : Desk) (e : BytesFault)
        → IsOne (protocol_in texts read.one) texts.scenario.items (tree_in texts read.one) x → WasDelivered (written_of x) mid new (Err e)
        → Executed new (Err e)
    not_delivered x new e is sent =
        subst (λ d. Executed new (Err d)) (sym sent.part.0) (record {
          one = tt;
          part = λ same. (
            x,
            told texts read.one x is,
            adds_kept (reads_of a) old.reads mid.reads new.reads read.whole sent.unread,
            subst (λ w. AddsPart (written_of x) w new.writes) read.unwritten sent.part.1,
          );
          unwritten = λ other. absurd (other refl);
          front = subst (AddsFront (reads_of a) old.reads) (sym sent.unread) read.front;
          source = sent.well ∙ read.source;
          sink = sent.sink ∙ ap (λ d. tells_write {X = Unit {0}} (Err d)) sent.part.0;
          pool = λ number same. let never : faults.Write ≡ faults.Pool number = cc in cc;
        })

    pub delivered : (x : X) (new : Desk) (unit : Unit) → IsOne (protocol_in texts read.one) texts.scenario.items (tree_in texts read.one) x
        → WasDelivered (written_of x) mid new (Ok unit) → Executed new (Ok x)
    delivered x new unit is sent = record {
      one = (
        told texts read.one x is,
        adds_kept (reads_of a) old.reads mid.reads new.reads read.whole sent.unread,
        subst (λ w. Adds (written_of x) w new.writes) read.unwritten sent.whole,
      );
      part = λ same. let never : Ok x ≡ Err faults.Write = same in cc;
      unwritten = tt;
      front = subst (AddsFront (reads_of a) old.reads) (sym sent.unread) read.front;
      source = sent.well ∙ read.source;
      sink = sent.sink;
      pool = λ number same. let never : Ok x ≡ Err (faults.Pool number) = same in cc;
    }

-- one write that failed
pub unwritten : (name : Option (List ℕ)) (bytes : List ℕ) (old new : Desk) (e : Failed) → Writes name bytes old new (Err e)
    → WasDelivered ((name, bytes) ∷ []) old new (Err faults.Write)
unwritten name bytes old new e is =
    record { whole = tt; part = (refl, part_of is.told); sink = is.failed; unread = is.unread; well = is.well }
  where
    part_of : WritesPart name bytes old new → AddsPart ((name, bytes) ∷ []) old.writes new.writes
    part_of (inl kept) = ([], (name, bytes), [], refl, inl (adds_none old.writes new.writes kept))
    part_of (inr part) = ([], (name, bytes), [], refl, inr part)

-- a write after another
module _ (one other : List (Option (List ℕ) × List ℕ)) (old mid new : Desk) where
  pub both_written : (done : Unit) → WasDelivered one old mid (Ok done) → (result : Result Unit BytesFault) → WasDelivered other mid new result
      → WasDelivered (one ++ other) old new result
  both_written done first (Ok unit) next = record {
    whole = adds_both one other old.writes mid.writes new.writes first.whole next.whole;
    part = tt;
    sink = next.sink;
    unread = next.unread ∙ first.unread;
    well = next.well ∙ first.well;
  }
  both_written done first (Err e) next = record {
    whole = tt;
    part = (next.part.0, behind next.part.1);
    sink = next.sink;
    unread = next.unread ∙ first.unread;
    well = next.well ∙ first.well;
  }
    where
      behind : AddsPart other mid.writes new.writes → AddsPart (one ++ other) old.writes new.writes
      behind (front, item, rest, whole, some) = (
        one ++ front,
        item,
        rest,
        append_assoc one front (item ∷ rest) ∙ ap (λ xs. one ++ xs) whole,
        shifted front item some,
      )
        where
          shifted : (front : List (Option (List ℕ) × List ℕ)) (item : Option (List ℕ) × List ℕ)
              → Adds front mid.writes new.writes
              ⊎ ((n : ℕ) × (n < length item.1) × Adds (front ++ ((item.0, take n item.1) ∷ [])) mid.writes new.writes)
              → Adds (one ++ front) old.writes new.writes
              ⊎ ((n : ℕ) × (n < length item.1) × Adds ((one ++ front) ++ ((item.0, take n item.1) ∷ [])) old.writes new.writes)
          shifted front item (inl none) = inl (adds_both one front old.writes mid.writes new.writes first.whole none)
          shifted front item (inr part) = inr (
            part.0,
            part.1,
            subst (λ xs. Adds xs old.writes new.writes) (sym (append_assoc one front ((item.0, take part.0 item.1) ∷ [])))
                (adds_both one (front ++ ((item.0, take part.0 item.1) ∷ [])) old.writes mid.writes new.writes first.whole part.2),
          )
