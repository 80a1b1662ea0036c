-- How a fault is kept: its step, its kind, its sender or node, and its receiver, which is 0 where it has none.
use Rattle.std.specs.Prelude.{◌≡◌, ℕ, refl}
use Rattle.lf_faults.specs.declared.fault.Parts.{Parts}
use Rattle.lf_faults.specs.declared.fault.Parts.TheVariants as parts
use Rattle.lf_faults.specs.declared.fault.Kind.{Kind}
use Rattle.lf_faults.specs.declared.fault.Kind.TheVariants as kinds
use Rattle.lf_faults.specs.declared.fault.Fault.TheInside.{Inside}
use Rattle.lf_faults.specs.Faults.{step_of, node_of, receiver_of}

abbrev pub parts_of : ℕ → Kind → ℕ → ℕ → Parts
parts_of step kinds.Omit node receiver = parts.Omit node receiver step
parts_of step kinds.Crash node receiver = parts.Crash node step
parts_of step kinds.Pause node receiver = parts.Pause node step

abbrev pub kind_of : Parts → Kind
kind_of (parts.Omit from to step) = kinds.Omit
kind_of (parts.Crash node step) = kinds.Crash
kind_of (parts.Pause node step) = kinds.Pause

abbrev pub fields_of : Parts → Inside
fields_of p = record { step = step_of p; kind = kind_of p; node = node_of p; receiver = receiver_of p }

-- a fault's parts give its fields back
again : (step : ℕ) (kind : Kind) (node receiver : ℕ) → receiver ≡ receiver_of (parts_of step kind node receiver)
    → fields_of (parts_of step kind node receiver) ≡ record { step = step; kind = kind; node = node; receiver = receiver }
again step kinds.Omit node receiver h = refl
again step kinds.Crash node receiver h = rw h refl
again step kinds.Pause node receiver h = rw h refl

pub fields_again : (f : Inside) → f.receiver ≡ receiver_of (parts_of f.step f.kind f.node f.receiver)
    → fields_of (parts_of f.step f.kind f.node f.receiver) ≡ f
fields_again f h = again f.step f.kind f.node f.receiver h

-- what stands in the places of a set that it doesn't use
abbrev pub filler : Parts
filler = parts.Crash 0 1
