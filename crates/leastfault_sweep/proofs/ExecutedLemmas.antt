-- What a sweep comes to.
use Rattle.std.proofs.Common.{◌≡◌, ◌≢◌, ◌⊎◌, ℕ, ◌+◌, ◌<◌, ◌≤◌, ◌||◌, Bool, true, false, List, [], ◌∷◌, length, take, is_ok, is_some, Option, Some}
use Rattle.std.proofs.Common.{None, Result, Ok, Err, String, Global, string_bytes, refl, sym, ap, subst, ◌∙◌, arith, inl, inr, zero, suc}
use Rattle.std.specs.Io.KnownBytes.{Appends}
use Rattle.std.proofs.KnownBytes.{Appends-nil}
use Rattle.std.proofs.lemmas.Bool.{false≢true}
use Rattle.std.proofs.lemmas.Option.{same_Some}
use Rattle.toml.specs.Data.{Members, members_have_valid_dates}
use Rattle.lf_protocol_file.specs.declared.error.ProtocolError.{ProtocolError}
use Rattle.lf_protocol_file.specs.Files as files
use Rattle.lf_scenario.specs.Limits.{longest}
use Rattle.lf_scenario.specs.declared.error.ScenarioError.TheVariants as scenarios
use Rattle.lf_sweep.specs.declared.error.TextError.{TextError}
use Rattle.lf_sweep.specs.declared.error.TextError.TheVariants as texts
use Rattle.lf_sweep.specs.declared.part.Part.{Part}
use Rattle.lf_sweep.specs.declared.varied.Varied.{Varied}
use Rattle.lf_sweep.specs.Combinations.{combinations, words_at}
use Rattle.lf_sweep.specs.Parts.{number_at}
use Rattle.lf_sweep.specs.Texts.{HasNoText, IsScenario, with_words}
use Rattle.lf_sweep.specs.declared.counts.Counts.{Counts}
use Rattle.lf_sweep.specs.declared.fault.SweepFault.{SweepFault}
use Rattle.lf_sweep.specs.declared.fault.SweepFault.TheVariants as faults
use Rattle.lf_sweep.specs.declared.marks.Marks.{Marks}
use Rattle.lf_sweep.specs.Counts.{Told}
use Rattle.lf_sweep.specs.Faults.{fault_of}
use Rattle.lf_sweep.specs.Studies.{AreLines, HasCause, HasNoRow, WasSwept}
use Rattle.lf_protocol_file.specs.declared.declared.Declared.{Declared}
use Rattle.leastfault.specs.declared.fault.BytesFault.{BytesFault}
use Rattle.leastfault.specs.declared.fault.BytesFault.TheVariants as bytes
use Rattle.leastfault.specs.Engines.{tells_read, tells_write}
use Rattle.leastfault.specs.Places.{WereRead}
use Rattle.lf_streams.specs.Files.{Desk}
use Rattle.leastfault.specs.Reports.{refusal}
use Rattle.lf_sweep_words.specs.declared.types.SweepAsked.{SweepAsked}
use Rattle.leastfault_sweep.specs.declared.executing.Ended.{Ended}
use Rattle.leastfault_sweep.specs.declared.executing.Ended.TheVariants as ended
use Rattle.leastfault_sweep.specs.declared.executing.SweepExecuted.{SweepExecuted}
use Rattle.leastfault_sweep.specs.declared.reading.SweepTexts.{SweepTexts}
use Rattle.leastfault_sweep.specs.Executed.{AreFronts, HasBegun, IsEnd, IsExecuted, IsReadable, IsSweptOrNot, given_of, reads_of}
use Rattle.leastfault_sweep.proofs.ReadLemmas.{read_told}
use Rattle.leastfault_sweep.specs.Replies.{IsKnownIn, IsRefusedIn, RefusesBy, RepliesBy}

abbrev mark : SweepFault → ℕ
mark faults.NoDocument = 0
mark faults.Date = 1
mark faults.Protocol = 2
mark faults.Memory = 3
mark faults.Write = 4

abbrev mark_of : BytesFault → ℕ
mark_of bytes.Read = 0
mark_of bytes.Write = 1
mark_of bytes.Memory = 2
mark_of (bytes.Pool number) = 3

abbrev mark_in : {X : Type 0} → Result X BytesFault → ℕ
mark_in (Ok x) = 4
mark_in (Err e) = mark_of e

ok_or_err : {A E : Type 0} (r : Result A E) (x : A) (e : E) → r ≡ Ok x → r ≡ Err e → ⊥
ok_or_err r x e ok err = false≢true (ap is_ok (sym err ∙ ok))

-- a file that is one isn't refused
file_or_none : (text : List ℕ) (file : Declared) (why : ProtocolError) → files.IsText file text → files.IsRefused text why → ⊥
file_or_none text file why is (inl long) = absurd (omega (arith, long.0, is.short))
file_or_none text file why is (inr (inl none)) = none.1 is.members is.document
file_or_none text file why is (inr (inr refused)) =
    let same : is.members ≡ refused.1 = same_Some is.members refused.1 (sym is.document.members ∙ refused.2.members) in
    ok_or_err (files.file_in refused.1) file why (ap files.file_in (sym same) ∙ is.said) refused.3

pub readable_or_none : (protocol : Option (List ℕ)) → IsReadable protocol → IsRefusedIn protocol → ⊥
readable_or_none None readable refused = refused
readable_or_none (Some text) readable refused = go readable.0 readable.1
  where
    go : (known : Option Declared) → IsKnownIn (Some text) known → ⊥
    go None known = known
    go (Some file) known = file_or_none text file refused.0 known refused.2

module _ (protocol : Option (List ℕ)) (scenario : List ℕ) (vs : List Varied) (part : Part) where
  no_document_row : (number : ℕ) → HasNoRow (RefusesBy protocol) scenario vs number faults.NoDocument → (ms : Members) → ¬ (IsScenario scenario ms)
  no_document_row number (inl memory) = absurd (omega (arith, ap mark memory))
  no_document_row number (inr (inl refused)) = absurd (omega (arith, ap mark refused.0))
  no_document_row number (inr (inr none)) = go none.0 none.1 none.2
    where
      go : (t : TextError) → HasNoText scenario vs (words_at vs number) t → faults.NoDocument ≡ fault_of t → (ms : Members) → ¬ (IsScenario scenario ms)
      go texts.NoDocument none is = none
      go texts.Date none is = absurd (omega (arith, ap mark is))
      go texts.Memory none is = absurd (omega (arith, ap mark is))

  no_document_by : HasCause (RefusesBy protocol) scenario vs part faults.NoDocument → (ms : Members) → ¬ (IsScenario scenario ms)
  no_document_by (inl memory) = absurd (omega (arith, ap mark memory))
  no_document_by (inr row) = no_document_row (number_at part row.0) row.2

  abbrev HasDate : Type 0
  HasDate =
      (number : ℕ) × (ms : Members) × (number < combinations vs) × IsScenario scenario ms
      × (members_have_valid_dates (with_words vs (words_at vs number) ms) ≡ false)

  date_row : (number : ℕ) → number < combinations vs → HasNoRow (RefusesBy protocol) scenario vs number faults.Date → HasDate
  date_row number below (inl memory) = absurd (omega (arith, ap mark memory))
  date_row number below (inr (inl refused)) = absurd (omega (arith, ap mark refused.0))
  date_row number below (inr (inr none)) = go none.0 none.1 none.2
    where
      go : (t : TextError) → HasNoText scenario vs (words_at vs number) t → faults.Date ≡ fault_of t → HasDate
      go texts.NoDocument none is = absurd (omega (arith, ap mark is))
      go texts.Date none is = (number, none.0, below, none.1, none.2)
      go texts.Memory none is = absurd (omega (arith, ap mark is))

  date_by : HasCause (RefusesBy protocol) scenario vs part faults.Date → HasDate
  date_by (inl memory) = absurd (omega (arith, ap mark memory))
  date_by (inr row) = date_row (number_at part row.0) row.1 row.2

  protocol_row : (number : ℕ) → HasNoRow (RefusesBy protocol) scenario vs number faults.Protocol → IsRefusedIn protocol
  protocol_row number (inl memory) = absurd (omega (arith, ap mark memory))
  protocol_row number (inr (inl refused)) = refused.1
  protocol_row number (inr (inr none)) = go none.0 none.2
    where
      go : (t : TextError) → faults.Protocol ≡ fault_of t → IsRefusedIn protocol
      go texts.NoDocument is = absurd (omega (arith, ap mark is))
      go texts.Date is = absurd (omega (arith, ap mark is))
      go texts.Memory is = absurd (omega (arith, ap mark is))

  protocol_by : HasCause (RefusesBy protocol) scenario vs part faults.Protocol → IsRefusedIn protocol
  protocol_by (inl memory) = absurd (omega (arith, ap mark memory))
  protocol_by (inr row) = protocol_row (number_at part row.0) row.2

abbrev the_nothing : List ℕ
the_nothing = []

-- the fault as what a sweep comes to
abbrev pub fault_as : BytesFault → Result Ended BytesFault
fault_as e = Err e

take_nothing : (n : ℕ) → take n [] ≡ the_nothing
take_nothing zero = refl
take_nothing (suc n) = refl

module _ {W : Type 0} (written : W → Option (List ℕ)) (has_failed : W → Bool) (asked : SweepAsked) (protocol : Option (List ℕ)) (text : List ℕ) where
  abbrev pub Swept : W → W → Result Counts SweepFault → Type 0
  Swept old new r =
      WasSwept written has_failed (RepliesBy protocol asked.by) (RefusesBy protocol) text asked.plan.varied.items asked.part old new r

  abbrev pub Comes : W → W → Result Ended BytesFault → Type 0
  Comes old new r = IsSweptOrNot written has_failed asked protocol text old new r

  pub none_begun : (w : W) → HasBegun written has_failed asked protocol text w w
  none_begun w = ([], [], 0, record { rows = tt; together = refl }, Appends-nil (written w))

  -- where nothing was written
  pub unwritten : (w : W) (e : Ended) → has_failed w ≡ false → IsEnd written has_failed asked protocol text w w e
      → Comes w w (Ok e)
  unwritten w e well is = record { done = is; front = tt; sink = well; source = refl; pool = λ n bad. absurd (omega (arith, ap mark_in bad)) }

  pub wanting : (old new : W) → has_failed new ≡ false → HasBegun written has_failed asked protocol text old new → Comes old new (Err bytes.Memory)
  wanting old new well front = record { done = tt; front = front; sink = well; source = refl; pool = λ n bad. absurd (omega (arith, ap mark_in bad)) }

  pub whole : (old new : W) (r : Result Counts SweepFault) (counts : Counts) → IsReadable protocol → length text ≤ longest → Swept old new r
      → r ≡ Ok counts → Comes old new (Ok (ended.Swept counts))
  whole old new r counts readable short swept is =
      let s = subst (λ x. Swept old new x) is swept in
      let told = s.whole.2 in
      record {
        done = (readable, short, (told.1, (s.whole.0, s.whole.1, (told.0, told.2, told.3, told.5)), told.4));
        front = tt;
        sink = s.sink;
        source = refl;
        pool = λ n bad. absurd (omega (arith, ap mark_in bad));
      }

  nothing_by : (replies : List Told) (shown : List ℕ) (n : ℕ) (old new : W) → ((ms : Members) → ¬ (IsScenario text ms))
      → AreLines (RepliesBy protocol asked.by) text asked.plan.varied.items asked.part 0 replies shown
      → Appends (written old) (written new) (take n shown) → Appends (written old) (written new) []
  nothing_by [] shown n old new none lines put =
      subst (Appends (written old) (written new)) (ap (take n) lines.together ∙ take_nothing n) put
  nothing_by (t ∷ ts) shown n old new none lines put = absurd (none lines.rows.0.replied.asked.members lines.rows.0.replied.asked.held)

  pub no_document : (old new : W) (r : Result Counts SweepFault) (line : String Global) → IsReadable protocol → length text ≤ longest
      → Swept old new r → r ≡ Err faults.NoDocument → string_bytes line ≡ refusal scenarios.NoDocument → Comes old new (Ok (ended.Refused line))
  no_document old new r line readable short swept is told =
      let s = subst (λ x. Swept old new x) is swept in
      let none = no_document_by protocol text asked.plan.varied.items asked.part (s.cause refl) in
      record {
        done = (inr (readable, inr (short, none, told)), nothing_by s.front.0 s.front.1 s.front.2 old new none s.front.3 s.front.4);
        front = tt;
        sink = s.sink;
        source = refl;
        pool = λ n bad. absurd (omega (arith, ap mark_in bad));
      }

  pub undated : (old new : W) (r : Result Counts SweepFault) → IsReadable protocol → length text ≤ longest → Swept old new r → r ≡ Err faults.Date
      → Comes old new (Ok ended.Undated)
  undated old new r readable short swept is =
      let s = subst (λ x. Swept old new x) is swept in
      record {
        done = ((readable, short, date_by protocol text asked.plan.varied.items asked.part (s.cause refl)), s.front);
        front = tt;
        sink = s.sink;
        source = refl;
        pool = λ n bad. absurd (omega (arith, ap mark_in bad));
      }

  pub never : (old new : W) (r : Result Counts SweepFault) → IsReadable protocol → Swept old new r → r ≡ Err faults.Protocol → ⊥
  never old new r readable swept is =
      let s = subst (λ x. Swept old new x) is swept in
      readable_or_none protocol readable (protocol_by protocol text asked.plan.varied.items asked.part (s.cause refl))

  pub wanted : (old new : W) (r : Result Counts SweepFault) (e : SweepFault) → (e ≡ faults.Memory) ⊎ (e ≡ faults.NoDocument) → Swept old new r → r ≡ Err e
      → Comes old new (Err bytes.Memory)
  wanted old new r e (inl memory) swept is =
      let s = subst (λ x. Swept old new x) (is ∙ ap Err memory) swept in
      wanting old new s.sink s.front
  wanted old new r e (inr other) swept is =
      let s = subst (λ x. Swept old new x) (is ∙ ap Err other) swept in
      wanting old new s.sink s.front

  pub unput : (old new : W) (r : Result Counts SweepFault) → Swept old new r → r ≡ Err faults.Write → Comes old new (Err bytes.Write)
  unput old new r swept is =
      let s = subst (λ x. Swept old new x) is swept in
      record { done = tt; front = s.front; sink = s.sink; source = refl; pool = λ n bad. absurd (omega (arith, ap mark_in bad)) }

-- whatever there would be, a fault tells of a write or of none, and of no pool or of one
write_told : (e : BytesFault) → tells_write (fault_as e) ≡ tells_write {X = SweepExecuted} (Err e)
write_told bytes.Read = refl
write_told bytes.Write = refl
write_told bytes.Memory = refl
write_told (bytes.Pool n) = refl

pool_told : (e : BytesFault) → ((number : ℕ) → ¬ (fault_as e ≡ Err (bytes.Pool number))) → (r : Result SweepExecuted BytesFault) → r ≡ Err e
    → (number : ℕ) → ¬ (r ≡ Err (bytes.Pool number))
pool_told bytes.Read none r is number bad = absurd (omega (arith, ap mark_in is, ap mark_in bad))
pool_told bytes.Write none r is number bad = absurd (omega (arith, ap mark_in is, ap mark_in bad))
pool_told bytes.Memory none r is number bad = absurd (omega (arith, ap mark_in is, ap mark_in bad))
pool_told (bytes.Pool n) none r is number bad = none n refl

module _ {W : Type 0} (written : W → Option (List ℕ)) (has_failed : W → Bool) (asked : SweepAsked) (old new : Desk) (before : W) where
  abbrev pub Executed : W → Result SweepExecuted BytesFault → Type 0
  Executed after r = IsExecuted written has_failed asked old new before after r

  abbrev pub Read : Result SweepTexts BytesFault → Type 0
  Read r = WereRead (AreFronts asked old.holds) (reads_of asked) old new r

  -- a text wasn't read
  pub unread : (e : BytesFault) → has_failed before ≡ false → Read (Err e) → Executed before (Err e)
  unread bytes.Read well read = record {
    done = tt;
    begun = inl (Appends-nil (written before));
    front = read.front;
    unwritten = read.unwritten;
    well = read.well;
    source = read.source;
    sink = well;
    pool = λ n bad. absurd (omega (arith, ap mark_in bad));
  }
  unread bytes.Memory well read = record {
    done = tt;
    begun = inl (Appends-nil (written before));
    front = read.front;
    unwritten = read.unwritten;
    well = read.well;
    source = read.source;
    sink = well;
    pool = λ n bad. absurd (omega (arith, ap mark_in bad));
  }
  unread bytes.Write well read = absurd (neither bytes.Write refl read.fault)
    where
      neither : (e : BytesFault) → mark_of e ≡ 1 → (e ≡ bytes.Read) ⊎ (e ≡ bytes.Memory) → ⊥
      neither e is (inl read_is) = absurd (omega (arith, is, ap mark_of read_is))
      neither e is (inr memory) = absurd (omega (arith, is, ap mark_of memory))
  unread (bytes.Pool number) well read = absurd (neither (bytes.Pool number) refl read.fault)
    where
      neither : (e : BytesFault) → mark_of e ≡ 3 → (e ≡ bytes.Read) ⊎ (e ≡ bytes.Memory) → ⊥
      neither e is (inl read_is) = absurd (omega (arith, is, ap mark_of read_is))
      neither e is (inr memory) = absurd (omega (arith, is, ap mark_of memory))

  -- both were, and come to this
  by_texts : (texts : SweepTexts) (shown : Option (List ℕ)) (shown_too : List ℕ) (after : W) (r : Result Ended BytesFault) → shown ≡ given_of texts
      → shown_too ≡ texts.scenario.items → IsSweptOrNot written has_failed asked shown shown_too before after r
      → IsSweptOrNot written has_failed asked (given_of texts) texts.scenario.items before after r
  by_texts texts shown shown_too after r is is_too s =
      subst (λ (text : List ℕ). IsSweptOrNot written has_failed asked (given_of texts) text before after r) is_too
      (subst (λ (protocol : Option (List ℕ)). IsSweptOrNot written has_failed asked protocol shown_too before after r) is s)

  ended_by : (texts : SweepTexts) (after : W) (e : Ended) (marks : Marks) → Read (Ok texts)
      → IsSweptOrNot written has_failed asked (given_of texts) texts.scenario.items before after (Ok e)
      → Executed after (Ok (record { ended = e; marks = marks; texts = texts }))
  ended_by texts after e marks read s = record {
    done = (read.one, read.whole, s.done);
    begun = tt;
    front = read.front;
    unwritten = read.unwritten;
    well = read.well;
    source = read.source;
    sink = s.sink;
    pool = λ n bad. absurd (omega (arith, ap mark_in bad));
  }

  stopped_by : (texts : SweepTexts) (after : W) (e : BytesFault) → Read (Ok texts)
      → IsSweptOrNot written has_failed asked (given_of texts) texts.scenario.items before after (Err e) → Executed after (Err e)
  stopped_by texts after e read s = record {
    done = tt;
    begun = inr (texts, read.one, read.whole, s.front);
    front = read.front;
    unwritten = read.unwritten;
    well = read.well;
    source = read.source ∙ sym s.source ∙ read_told Ended SweepExecuted e;
    sink = s.sink ∙ write_told e;
    pool = pool_told e s.pool (Err e) refl;
  }

  pub ended_so : (texts : SweepTexts) (shown : Option (List ℕ)) (shown_too : List ℕ) (after : W) (e : Ended) (marks : Marks) → Read (Ok texts)
      → shown ≡ given_of texts → shown_too ≡ texts.scenario.items → IsSweptOrNot written has_failed asked shown shown_too before after (Ok e)
      → Executed after (Ok (record { ended = e; marks = marks; texts = texts }))
  ended_so texts shown shown_too after e marks read is is_too s =
      ended_by texts after e marks read (by_texts texts shown shown_too after (Ok e) is is_too s)

  pub stopped_so : (texts : SweepTexts) (shown : Option (List ℕ)) (shown_too : List ℕ) (after : W) (e : BytesFault) → Read (Ok texts)
      → shown ≡ given_of texts → shown_too ≡ texts.scenario.items → IsSweptOrNot written has_failed asked shown shown_too before after (Err e)
      → Executed after (Err e)
  stopped_so texts shown shown_too after e read is is_too s =
      stopped_by texts after e read (by_texts texts shown shown_too after (Err e) is is_too s)
