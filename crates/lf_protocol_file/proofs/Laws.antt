-- What the definition of a file promises, for every text.
use Rattle.std.proofs.Common.{◌≡◌, ℕ, List, sym, ◌∙◌, subst, inl, inr, arith, Ok, Err}
use Rattle.std.specs.Prelude.{Some}
use Rattle.toml.specs.Data.{Members}
use Rattle.lf_protocol_file.specs.declared.error.ProtocolError.{ProtocolError}
use Rattle.lf_protocol_file.specs.declared.declared.Declared.{Declared}
use Rattle.lf_protocol_file.specs.Files.{IsDocument, IsRefused, IsText, file_in}

-- a text has one list of members
members-one : (text : List ℕ) (ms ns : Members) → IsDocument text ms → IsDocument text ns → ms ≡ ns
members-one text ms ns a b = let same : Some ms ≡ Some ns = sym a.members ∙ b.members in cc

-- a text has one refusal at most
pub refusals_are_one : (text : List ℕ) (e f : ProtocolError) → IsRefused text e → IsRefused text f → e ≡ f
refusals_are_one text e f (inl a) (inl b) = a.1 ∙ sym b.1
refusals_are_one text e f (inl a) (inr (inl b)) = absurd (omega (arith, a.0, b.0))
refusals_are_one text e f (inl a) (inr (inr b)) = absurd (omega (arith, a.0, b.0))
refusals_are_one text e f (inr (inl a)) (inl b) = absurd (omega (arith, a.0, b.0))
refusals_are_one text e f (inr (inr a)) (inl b) = absurd (omega (arith, a.0, b.0))
refusals_are_one text e f (inr (inl a)) (inr (inl b)) = a.2 ∙ sym b.2
refusals_are_one text e f (inr (inl a)) (inr (inr b)) = absurd (a.1 b.1 b.2)
refusals_are_one text e f (inr (inr a)) (inr (inl b)) = absurd (b.1 a.1 a.2)
refusals_are_one text e f (inr (inr a)) (inr (inr b)) =
    let same : a.1 ≡ b.1 = members-one text a.1 b.1 a.2 b.2 in
    let read : file_in b.1 ≡ Err e = subst (λ ms. file_in ms ≡ Err e) same a.3 in
    let both : Err e ≡ file_in b.1 = sym read in
    cc

-- and none where it is the text of a file
pub refused_is_no_text : (text : List ℕ) (e : ProtocolError) (file : Declared) → IsRefused text e → IsText file text → ⊥
refused_is_no_text text e file (inl a) t = omega (arith, a.0, t.short)
refused_is_no_text text e file (inr (inl a)) t = a.1 t.members t.document
refused_is_no_text text e file (inr (inr a)) t =
    let same : a.1 ≡ t.members = members-one text a.1 t.members a.2 t.document in
    let read : file_in t.members ≡ Err e = subst (λ ms. file_in ms ≡ Err e) same a.3 in
    let said : file_in t.members ≡ Ok file = t.said in
    cc

-- a text is that of one file at most
pub files_are_one : (text : List ℕ) (one other : Declared) → IsText one text → IsText other text → one ≡ other
files_are_one text one other a b =
    let same : a.members ≡ b.members = members-one text a.members b.members a.document b.document in
    let read : file_in b.members ≡ Ok one = subst (λ ms. file_in ms ≡ Ok one) same a.said in
    let both : Ok one ≡ Ok other = sym read ∙ b.said in
    cc
