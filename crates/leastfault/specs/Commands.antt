-- What a command comes to.
use Rattle.std.specs.Prelude.{◌≡◌, ◌≢◌, ◌⊎◌, ℕ, ◌<◌, ◌≤◌, Bool, true, false, List, length, string_bytes}
use Rattle.std.specs.Prelude.{Option, None, Some, MatchOption}
use Rattle.std.specs.Option.{option_map}
use Rattle.lf_protocol_file.specs.Files as files
use Rattle.lf_outcome.specs.declared.scenario.Scenario.{Scenario}
use Rattle.lf_tree.specs.declared.fault.TreeFault.TheVariants as trees
use Rattle.lf_tree.specs.declared.tree.Tree.{Tree}
use Rattle.lf_tree.specs.Texts.{most_bytes, tree_text}
use Rattle.lf_tree.specs.Trees.{IsTree}
use Rattle.lf_words.specs.declared.types.Asked.{Asked}
use Rattle.lf_words.specs.declared.types.Asked.TheVariants as asked
use Rattle.lf_words.specs.Words.{written_to}
use Rattle.lf_protocol_file.specs.declared.declared.Declared.{Declared}
use Rattle.leastfault.specs.declared.answering.Wanted.{Wanted}
use Rattle.leastfault.specs.declared.answering.Wanted.TheVariants as wanted
use Rattle.leastfault.specs.declared.reply.Certified.{Certified}
use Rattle.leastfault.specs.declared.reply.Reply.{Reply}
use Rattle.leastfault.specs.declared.reply.Searched.{Searched}
use Rattle.leastfault.specs.Protocols.{IsProtocolReply, RepliesProtocolRefusal}
use Rattle.leastfault.specs.Delayed.{IsAnswerAsked}
use Rattle.leastfault.specs.Replies.{HandsOut, IsCheckReply, IsPoolCause, IsReplyWith, MayWork, reports_of}
use Rattle.leastfault.specs.Reports.{tree_refusal}
use Rattle.leastfault.specs.Shown.{IsDrawnReply, IsShownReply}
use Rattle.leastfault.specs.Why.{IsWhyReply}

-- the bytes of the certificate, where there is one
abbrev pub certificate_of : Certified → Option (List ℕ)
certificate_of ended = option_map (λ bytes. bytes.items) ended.certificate

-- the bytes are the text of the tree, which isn't too long
pub record IsCertificate (tree : Tree) (bytes : List ℕ) : Type 0 where
  pub kept : IsTree tree
  pub spelled : tree_text tree ≡ bytes
  pub short : length bytes ≤ most_bytes

-- of a search, by the protocol that may be known besides the shipped ones, and by what it reports where it has ended
module _ (known : Option Declared) (Reports : Scenario → List ℕ → ℕ → Type 0) (text reply : List ℕ) (ended : Certified) where
  -- no certificate is to be made: its reply alone
  abbrev pub IsUncertified : Type 0
  IsUncertified = IsReplyWith known Reports text reply ended.status × (certificate_of ended ≡ None)

  -- there is no answer: its reply, whose status is 2, and no certificate
  abbrev pub HasNoAnswer : Type 0
  HasNoAnswer = IsReplyWith known Reports text reply ended.status × (ended.status ≡ 2) × (certificate_of ended ≡ None)

  -- its reply, and the text of the tree that is handed out with it
  abbrev pub HasCertificate : Type 0
  HasCertificate =
      (tree : Tree) × (bytes : List ℕ) × IsReplyWith known Reports text reply ended.status × HandsOut known text (Some tree) ended.status
      × IsCertificate tree bytes × (certificate_of ended ≡ Some bytes)

  -- that text is too long: its refusal in place of the reply, with status 2, and no certificate
  abbrev pub HasLongText : Type 0
  HasLongText =
      (tree : Tree) × (own : List ℕ) × (status : ℕ) × IsReplyWith known Reports text own status × HandsOut known text (Some tree) status
      × (most_bytes < length (tree_text tree))
      × (reply ≡ tree_refusal trees.TooLong) × (ended.status ≡ 2) × (certificate_of ended ≡ None)

  -- a certificate is to be made
  abbrev pub IsCertified : Type 0
  IsCertified = HasNoAnswer ⊎ (HasCertificate ⊎ HasLongText)

-- there is one at most: one reply, with one status and one certificate or none
abbrev pub HasOneEnd : (List ℕ → Certified → Type 0) → Type 0
HasOneEnd IsEnd =
    (one other : List ℕ) (x y : Certified) → IsEnd one x → IsEnd other y
    → (one ≡ other) × (x.status ≡ y.status) × (certificate_of x ≡ certificate_of y)

-- the same of a search by so many workers
abbrev pub IsCertifiedBy : Option Declared → Wanted → ℕ → List ℕ → List ℕ → Certified → Type 0
IsCertifiedBy known wanted workers text reply ended = IsCertified known (reports_of wanted) text reply ended × MayWork known workers text

-- one worker searches alone, and several may give no answer for a cause
abbrev pub IsCauseAt : Option Declared → ℕ → List ℕ → ℕ → Type 0
IsCauseAt known workers text number = (workers ≢ 1) × IsPoolCause known workers text number

-- a reply with this text and status, and the text of the tree as its certificate; or that the latter is too long
abbrev pub IsWritten : List ℕ → ℕ → Tree → Reply Certified → Type 0
IsWritten text status tree r =
    ((bytes : List ℕ) × IsCertificate tree bytes × (certificate_of r.value ≡ Some bytes) × (string_bytes r.text ≡ text) × (r.value.status ≡ status))
    ⊎ ((most_bytes < length (tree_text tree)) × (string_bytes r.text ≡ tree_refusal trees.TooLong) × (r.value.status ≡ 2)
    × (certificate_of r.value ≡ None))

-- of the reply of a search: with its tree, it has that certificate, or the text is too long; and without one it has none
abbrev pub GetsCertified : Reply Searched → Reply Certified → Type 0
GetsCertified found r =
    MatchOption found.value.tree
    ((string_bytes r.text ≡ string_bytes found.text) × (r.value.status ≡ found.value.status) × (certificate_of r.value ≡ None))
    (λ tree. IsWritten (string_bytes found.text) found.value.status tree r)

-- a reply with its status and no certificate as the value
abbrev pub IsAlone : {X : Type 0} → (X → ℕ) → Reply X → Reply Certified → Type 0
IsAlone status_of r told =
    (string_bytes told.text ≡ string_bytes r.text) × (told.value.status ≡ status_of r.value) × (certificate_of told.value ≡ None)

-- what a search is to report, by whether all least sets are to be told
abbrev pub wanted_of : Bool → Wanted
wanted_of false = wanted.Answer
wanted_of true = wanted.AllLeast

-- the file of the certificate that is to be judged
abbrev pub tree_file : Asked → Option (List ℕ)
tree_file (asked.Search file tree all workers quiet protocol) = None
tree_file (asked.Run file faults shown delays protocol) = None
tree_file (asked.Draw file faults delays protocol) = None
tree_file (asked.Check file tree quiet protocol) = Some (string_bytes tree)
tree_file (asked.Answer file quiet every_delay protocol) = None
tree_file (asked.Why file quiet protocol) = None
tree_file (asked.Protocol file) = None

module _ (known : Option Declared) where
  -- a search's reply, with a certificate where a file is named for it
  abbrev pub IsSearchFor : Option (List ℕ) → Wanted → List ℕ → List ℕ → Certified → Type 0
  IsSearchFor None wanted text reply ended = IsUncertified known (reports_of wanted) text reply ended
  IsSearchFor (Some file) wanted text reply ended = IsCertified known (reports_of wanted) text reply ended

  -- the reply of a check to the text of a certificate, which has to be there
  abbrev pub IsCheckOf : List ℕ → Option (List ℕ) → List ℕ → ℕ → Type 0
  IsCheckOf text None reply status = ⊥
  IsCheckOf text (Some certificate) reply status = IsCheckReply known text certificate reply status

  -- what is asked for comes to this, by the text of the scenario, or of the protocol where that is all that is asked about, and by that of
  -- the certificate that is to be judged
  abbrev pub IsDoneFor : Asked → List ℕ → Option (List ℕ) → List ℕ → Certified → Type 0
  IsDoneFor (asked.Search file tree all workers quiet protocol) text certificate reply ended =
      IsSearchFor (written_to (asked.Search file tree all workers quiet protocol)) (wanted_of all) text reply ended × MayWork known workers text
  IsDoneFor (asked.Run file faults shown delays protocol) text certificate reply ended =
      IsShownReply known shown (option_map string_bytes delays) (string_bytes faults) text reply ended.status × (certificate_of ended ≡ None)
  IsDoneFor (asked.Draw file faults delays protocol) text certificate reply ended =
      IsDrawnReply known (option_map string_bytes delays) (string_bytes faults) text reply ended.status × (certificate_of ended ≡ None)
  IsDoneFor (asked.Check file tree quiet protocol) text certificate reply ended =
      IsCheckOf text certificate reply ended.status × (certificate_of ended ≡ None)
  IsDoneFor (asked.Answer file quiet every_delay protocol) text certificate reply ended =
      IsAnswerAsked known every_delay text reply ended.status × (certificate_of ended ≡ None)
  IsDoneFor (asked.Why file quiet protocol) text certificate reply ended = IsWhyReply known text reply ended.status × (certificate_of ended ≡ None)
  IsDoneFor (asked.Protocol file) text certificate reply ended = IsProtocolReply text reply ended.status × (certificate_of ended ≡ None)

  -- for this cause workers give no answer
  abbrev pub IsCauseFor : Asked → List ℕ → ℕ → Type 0
  IsCauseFor (asked.Search file tree all workers quiet protocol) text number = IsCauseAt known workers text number
  IsCauseFor (asked.Run file faults shown delays protocol) text number = ⊥
  IsCauseFor (asked.Draw file faults delays protocol) text number = ⊥
  IsCauseFor (asked.Check file tree quiet protocol) text number = ⊥
  IsCauseFor (asked.Answer file quiet every_delay protocol) text number = ⊥
  IsCauseFor (asked.Why file quiet protocol) text number = ⊥
  IsCauseFor (asked.Protocol file) text number = ⊥

-- the file of the protocol is refused: that is the reply, whatever else is asked for
abbrev pub IsNoProtocol : List ℕ → List ℕ → Certified → Type 0
IsNoProtocol protocol reply ended = RepliesProtocolRefusal protocol reply ended.status × (certificate_of ended ≡ None)

-- the same, by the text of the protocol file too, where one is named
abbrev pub IsDone : Asked → Option (List ℕ) → List ℕ → Option (List ℕ) → List ℕ → Certified → Type 0
IsDone a None text certificate reply ended = IsDoneFor None a text certificate reply ended
IsDone a (Some protocol) text certificate reply ended =
    IsNoProtocol protocol reply ended ⊎ ((file : Declared) × files.IsText file protocol × IsDoneFor (Some file) a text certificate reply ended)

abbrev pub IsCause : Asked → Option (List ℕ) → List ℕ → ℕ → Type 0
IsCause a None text number = IsCauseFor None a text number
IsCause a (Some protocol) text number = (file : Declared) × files.IsText file protocol × IsCauseFor (Some file) a text number
