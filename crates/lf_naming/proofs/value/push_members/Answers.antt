use Rattle.std.proofs.Common.{◌≡◌, ◌+◌, ◌++◌, true, false, ap, ◌∙◌, sym, length, map, string_bytes, arith}
use Rattle.std.specs.Fmt.{decimal}
use Rattle.std.specs.List.{filter, join_with_byte, range_with_len}
use Rattle.lf_rule_machine.specs.Sets.{has}
use Rattle.lf_naming.specs.Pieces.{before_piece}
use Rattle.lf_naming.proofs.PiecesLemmas.{failing_more, passing_count, passing_told, piece_told}
use Rattle.lf_naming.proofs.value.push_members.Goals as goal
use Rattle.lf_naming.proofs.value.push_members.Goals.{then-has+in_ok-push_separator+in_ok-write, else-has}

pub nodes-preserved : goal.nodes-preserved
nodes-preserved c =
    let p = has c.args.set in
    let n = c.nodes.node-counter in
    let place = c.nodes.place in
    let so_far = c.nodes.invariant in
    let is : c.has.result ≡ p n = c.has.ensures ∙ ap (λ set. has set n) c.from.ensures in
    elim c.if-has.branch [
      | then-has+in_ok-push_separator+in_ok-write w ↦
          let passes : p n ≡ true = sym is ∙ w.if-has.true in
          record {
            few = omega arith;
            counted = passing_count p n place passes so_far.counted ∙ sym w.place-is;
            told = ap string_bytes w.text-is ∙ piece_told (string_bytes c.args.text.now) (string_bytes c.nodes.text) (string_bytes w.push_separator.new.text)
                (string_bytes w.write.new.self) (join_with_byte 44 (map decimal (filter p (range_with_len 0 n)))) (before_piece 44 place) (decimal n)
                (join_with_byte 44 (map decimal (filter p (range_with_len 0 (n + 1))))) so_far.told w.in_ok-push_separator.ensures
                w.in_ok-write.ensures.bytes (passing_told p decimal n place passes so_far.counted);
          }
      | else-has w ↦
          let fails : p n ≡ false = sym is ∙ w.if-has.false in
          let same = failing_more p n fails in
          record {
            few = omega arith;
            counted = ap length same ∙ so_far.counted ∙ sym w.place-is;
            told = ap string_bytes w.text-is ∙ so_far.told
                ∙ ap (λ nodes. string_bytes c.args.text.now ++ join_with_byte 44 (map decimal nodes)) (sym same);
          }
    ]
