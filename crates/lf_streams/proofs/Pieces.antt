-- What is taken or written in pieces.
use Rattle.std.proofs.Common.{◌≡◌, ℕ, ◌+◌, ◌-◌, ◌≤◌, ◌<◌, List, ◌++◌, Option, None, Some, IfSome, Result, Ok, Err, OnErr, sym, ap, subst, ◌∙◌, arith}
use Rattle.std.specs.Prelude.{min}
use Rattle.std.proofs.Common.{length, take, drop, length-append, append_assoc, take-append-drop}
use Rattle.std.proofs.lemmas.List.{take_rest, take-append-le, length-take}
use Rattle.std.proofs.Math.Seq.{drop-append_seam, take-append_seam}
use Rattle.std.specs.Io.KnownBytes.{Appends, Consumes, Keeps}
use Rattle.std.proofs.KnownBytes.{Appends-kept, Consumes-trans}

-- taken bytes are the first of those that were held
pub taken_from : (old new : Option (List ℕ)) (bytes : List ℕ) (most : ℕ) → length bytes ≤ most → Consumes old new bytes
    → IfSome old (λ held. (n : ℕ) × (n ≤ most) × (new ≡ Some (drop n held)))
taken_from None new bytes most few taken = tt
taken_from (Some held) None bytes most few taken = absurd taken
taken_from (Some held) (Some rest) bytes most few taken =
    (length bytes, few, ap Some (sym (ap (drop (length bytes)) taken ∙ drop-append_seam bytes rest)))

-- what was taken before and the bytes of one more read were taken together
pub taken_more : (old mid new : Option (List ℕ)) (all held buf rest : List ℕ) (n : ℕ) → all ≡ held ++ take n (buf ++ rest) → n ≤ length buf
    → Consumes old mid held → Consumes mid new (take n buf) → Consumes old new all
taken_more old mid new all held buf rest n whole fits before piece =
    subst (Consumes old new) (sym (whole ∙ ap (λ l. held ++ l) (take-append-le n buf rest fits)))
    (Consumes-trans old mid new held (take n buf) before piece)

-- a read that asks for no more than one byte past the limit leaves no more than that
pub within_limit : (held buf chunk : List ℕ) (n least len has had limit : ℕ) → n ≤ length buf → length buf ≡ length (take (least + 1) chunk)
    → least ≡ min (limit - had) 4095 → len ≡ length held → had ≡ len → has ≡ len → has ≤ limit → length (held ++ take n buf) ≤ limit + 1
within_limit held buf chunk n least len has had limit fits asked is count same again more =
    omega (arith, length-append held (take n buf), length-take n buf, length-take (least + 1) chunk)

-- where a write of the rest failed, a part of the bytes was written
pub written_part : {T E : Type 0} (r : Result T E) (old mid new : Option (List ℕ)) (bytes done rest : List ℕ) → bytes ≡ done ++ rest → 0 < length rest
    → Appends old mid done → Keeps mid new → OnErr r ((n : ℕ) × (n < length bytes) × Appends old new (take n bytes))
written_part (Ok _) old mid new bytes done rest split more taken kept = tt
written_part (Err _) old mid new bytes done rest split more taken kept =
    let whole : length bytes ≡ length done + length rest = ap length split ∙ length-append done rest in
    let front = ap (take (length done)) split ∙ take-append_seam done rest in
    (length done, omega (arith, whole, more), subst (Appends old new) (sym front) (Appends-kept old mid new done taken kept))

-- the first bytes of the rest follow on those that are done
pub moved_on : (bytes done rest : List ℕ) (n : ℕ) → bytes ≡ done ++ rest → bytes ≡ (done ++ take n rest) ++ take (length rest - n) (drop n rest)
moved_on bytes done rest n split =
    split ∙ ap (λ l. done ++ l) (sym (take-append-drop n rest)) ∙ sym (append_assoc done (take n rest) (drop n rest))
    ∙ ap (λ l. (done ++ take n rest) ++ l) (sym (take_rest rest n))
