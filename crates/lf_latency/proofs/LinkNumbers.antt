-- The numbers of links are one to one, and onto.
use Rattle.std.proofs.Common.{◌≡◌, ◌≢◌, ℕ, ◌+◌, ◌-◌, ◌*◌, ◌/◌, ◌%◌, ◌<◌, ◌≤◌, nat_lt, if◌then◌else◌, sym, ◌∙◌, ap, arith}
use Rattle.std.proofs.lemmas.Bool.Decides.{nat_tests}
use Rattle.std.proofs.Math.Nat.{div-lt_iff_lt-mul}
use Rattle.std.proofs.lemmas.Nat.{div-mul-add, div-add-mod'}
use Rattle.lf_latency.specs.Links.{IsPair, link_of}

-- the place of a receiver among the receivers of a sender
abbrev rank : ℕ → ℕ → ℕ
rank n m = if nat_lt m n then m else m - 1

rank-below : (nodes n m : ℕ) → IsPair nodes n m → rank n m < nodes - 1
rank-below nodes n m pair =
    let sender : n < nodes = pair.sender in
    let receiver : m < nodes = pair.receiver in
    let apart : n ≢ m = pair.apart in
    grind (arith, nat_tests)

rank-one_to_one : (n m k : ℕ) → n ≢ m → n ≢ k → rank n m ≡ rank n k → m ≡ k
rank-one_to_one n m k apart other same = grind (arith, nat_tests)

-- the receiver at a place
abbrev receiver_at : ℕ → ℕ → ℕ
receiver_at n r = if nat_lt r n then r else r + 1

rank-receiver_at : (n r : ℕ) → rank n (receiver_at n r) ≡ r
rank-receiver_at n r = grind (arith, nat_tests)

receiver_at-below : (n r w : ℕ) → r < w → n ≤ w → receiver_at n r < w + 1
receiver_at-below n r w below few = grind (arith, nat_tests)

receiver_at-apart : (n r : ℕ) → n ≢ receiver_at n r
receiver_at-apart n r = grind (arith, nat_tests)

pub one_to_one : (nodes a b c d : ℕ) → IsPair nodes a b → IsPair nodes c d →
    link_of nodes a b ≡ link_of nodes c d → (a ≡ c) × (b ≡ d)
one_to_one nodes a b c d first second same =
    let low : rank a b < nodes - 1 = rank-below nodes a b first in
    let high : rank c d < nodes - 1 = rank-below nodes c d second in
    let sender : a ≡ c =
    sym (div-mul-add a (nodes - 1) (rank a b) low) ∙ ap (λ x. x / (nodes - 1)) same
    ∙ div-mul-add c (nodes - 1) (rank c d) high in
    let rows : a * (nodes - 1) ≡ c * (nodes - 1) = ap (λ x. x * (nodes - 1)) sender in
    let places : rank a b ≡ rank c d = omega arith in
    let there : rank c d ≡ rank a d = ap (λ x. rank x d) (sym sender) in
    let apart : a ≢ d = λ e. second.apart (sym sender ∙ e) in
    (sender, rank-one_to_one a b d first.apart apart (places ∙ there))

pub onto : (nodes k : ℕ) → 2 ≤ nodes → k < nodes * (nodes - 1) →
    (n : ℕ) × ((m : ℕ) × (IsPair nodes n m × (link_of nodes n m ≡ k)))
onto nodes k few below =
    let some : 0 < nodes - 1 = omega arith in
    let place : k % (nodes - 1) < nodes - 1 = omega arith in
    let sender : k / (nodes - 1) < nodes = (div-lt_iff_lt-mul {k = nodes - 1} {x = k} {y = nodes} some).1 below in
    let few_senders : k / (nodes - 1) ≤ nodes - 1 = omega arith in
    let receiver : receiver_at (k / (nodes - 1)) (k % (nodes - 1)) < nodes - 1 + 1 =
    receiver_at-below (k / (nodes - 1)) (k % (nodes - 1)) (nodes - 1) place few_senders in
    let number : link_of nodes (k / (nodes - 1)) (receiver_at (k / (nodes - 1)) (k % (nodes - 1))) ≡ k =
    ap (λ r. k / (nodes - 1) * (nodes - 1) + r) (rank-receiver_at (k / (nodes - 1)) (k % (nodes - 1)))
    ∙ div-add-mod' k (nodes - 1) in (
      k / (nodes - 1),
      (
        receiver_at (k / (nodes - 1)) (k % (nodes - 1)),
        (
          record {
            sender = sender;
            receiver = omega arith;
            apart = receiver_at-apart (k / (nodes - 1)) (k % (nodes - 1));
          },
          number,
        ),
      ),
    )
