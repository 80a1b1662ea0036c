-- How many replies of each kind there are.
use Rattle.std.specs.Prelude.{ℕ, ◌+◌, ◌==◌, ◌||◌, nat_lt, if◌then◌else◌, Bool, false, List, [], ◌∷◌}
use Rattle.lf_sweep.specs.declared.counts.Counts.{Counts}
use Rattle.lf_sweep.specs.declared.counts.Kind.{Kind}
use Rattle.lf_sweep.specs.declared.counts.Kind.TheVariants as kinds

-- a reply and its status
abbrev pub Told : Type 0
Told = List ℕ × ℕ

-- the reply begins with f (102), as the line of a level that is too full does
abbrev pub is_full_line : List ℕ → Bool
is_full_line [] = false
is_full_line (b ∷ bs) = b == 102

-- what a reply says, by its status
abbrev pub kind_by : List ℕ → ℕ → Kind
kind_by reply status =
    if status == 0 then kinds.Kept
    else if status == 1 then kinds.Missed
    else if is_full_line reply then kinds.Full
    else kinds.Refused

abbrev pub kind_of : Told → Kind
kind_of told = kind_by told.0 told.1

-- the counts of one reply
abbrev pub of_one : Kind → Counts
of_one kinds.Kept = record { none = 1; least = 0; full = 0; refused = 0 }
of_one kinds.Missed = record { none = 0; least = 1; full = 0; refused = 0 }
of_one kinds.Full = record { none = 0; least = 0; full = 1; refused = 0 }
of_one kinds.Refused = record { none = 0; least = 0; full = 0; refused = 1 }

-- of both
abbrev pub together : Counts → Counts → Counts
together a b = record { none = a.none + b.none; least = a.least + b.least; full = a.full + b.full; refused = a.refused + b.refused }

-- and of some
abbrev pub counts_of : List Told → Counts
counts_of [] = record { none = 0; least = 0; full = 0; refused = 0 }
counts_of (told ∷ more) = together (of_one (kind_of told)) (counts_of more)

-- how many there are of all kinds
abbrev pub all_of : Counts → ℕ
all_of c = c.none + c.least + c.full + c.refused

-- the status of a sweep: that of a reply that a set of faults defeats the outcome, else of one that is no answer, and else 0
abbrev pub status_of : Counts → ℕ
status_of c = if nat_lt 0 c.least then 1 else if nat_lt 0 c.full || nat_lt 0 c.refused then 2 else 0
