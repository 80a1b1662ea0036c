-- What is found with the protocol of a file is found with that file's text.
use Rattle.std.proofs.Common.{◌≡◌, ◌≢◌, ℕ, Bool, List, sym, subst, inr, Ok, Err}
use Rattle.std.specs.Prelude.{Option, Some, Result, IfOk}
use Rattle.std.specs.Borrow.{Bor}
use Rattle.lf_protocol_file.specs.declared.declared.Declared.{Declared}
use Rattle.lf_protocol_file.specs.declared.error.ProtocolError.{ProtocolError}
use Rattle.lf_protocol_file.specs.declared.error.ProtocolError.TheVariants as refusals
use Rattle.lf_protocol_file.specs.Files as files
use Rattle.leastfault.specs.Protocols.{protocol_refusal}
use Rattle.leastfault_sweep.specs.Replies.{IsKnownIn, text_of}
use Rattle.leastfault_doubt.specs.declared.doubting.Begun.{Begun}
use Rattle.leastfault_doubt.specs.declared.doubting.Begun.TheVariants as begun
use Rattle.leastfault_doubt.specs.Doubts.{IsBegun, IsBegunWith, IsRefusedProtocol}

module _ (named : Option (Bor (List ℕ))) (protocol : Bor (List ℕ)) (is : named ≡ Some protocol) where
  module _ (text : List ℕ) (deep : Bool) (file : Declared) (reads : files.IsText file protocol.now) where
    known : IsKnownIn (text_of named) (Some file)
    known = subst (λ n. IsKnownIn (text_of n) (Some file)) (sym is) reads

    begun-by : (b : Begun) → IsBegunWith (Some file) text deep b → IsBegun (text_of named) text deep b
    begun-by (begun.Refused line) found = inr (record { known = Some file; is_known = known; refused = found })
    begun-by (begun.Ready given questions) found = record { known = Some file; is_known = known; ready = found }

    pub all-begun : {E : Type 0} (r : Result Begun E) → IfOk r (IsBegunWith (Some file) text deep) → IfOk r (IsBegun (text_of named) text deep)
    all-begun (Ok b) found = begun-by b found
    all-begun (Err e) found = found

  -- a file that is refused is told to be
  pub refused-by : (why : ProtocolError) (line : List ℕ) → why ≢ refusals.Memory → files.IsRefused protocol.now why → line ≡ protocol_refusal why
      → IsRefusedProtocol (text_of named) line
  refused-by why line other refused told = subst (λ n. IsRefusedProtocol (text_of n) line) (sym is) (why, other, refused, told)
