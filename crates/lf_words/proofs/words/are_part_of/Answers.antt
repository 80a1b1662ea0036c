use Rattle.std.proofs.Common.{◌≡◌, ◌≢◌, ◌+◌, rules, arith, slice_index_or, List, [], Bor, ℕ}
use Rattle.std.specs.String.{string_bytes}
use Rattle.lf_words.proofs.Parts.{met, other, over, chain, at_end}
use Rattle.lf_words.proofs.words.are_part_of.Goals as goal
use Rattle.lf_words.proofs.words.are_part_of.Goals.{then-met-texts+then-eq, else-met-texts, else-met-texts-via-then-met-texts+else-eq}
use Rattle.lf_words.proofs.words.are_part_of.Goals.{else-met-texts-via-else-met-texts}

abbrev none : Bor (List ℕ)
none = record { ref_ptr = (0, 0); now = [] }

pub loop-word-preserved : goal.loop-word-preserved
loop-word-preserved c = elim c.if-met-texts.branch [
  | then-met-texts+then-eq w ↦
      let same : (slice_index_or c.args.texts.now c.loop-word.met none).now ≡ string_bytes c.word-item.result = search rules in
      let on = met c.args.texts.now c.args.words.now c.loop-word.met c.loop-word.word-index none c.word-item.result
      w.if-met-texts.true c.loop-word-test.true c.word-item.is same in
      rw (w.met-is) (record { within = omega arith; same = chain on c.loop-word.invariant.same })
  | else-met-texts w ↦ elim w.else-met-texts.branch [
    | else-met-texts-via-then-met-texts+else-eq v ↦
        let differ : (slice_index_or c.args.texts.now c.loop-word.met none).now ≢ string_bytes c.word-item.result = search rules in
        let on = other c.args.texts.now c.args.words.now c.loop-word.met c.loop-word.word-index none c.word-item.result
        v.if-met-texts.true c.loop-word-test.true c.word-item.is differ in
        rw (w.met-is) (record { within = omega arith; same = chain on c.loop-word.invariant.same })
    | else-met-texts-via-else-met-texts v ↦
        let on = over c.args.texts.now c.args.words.now c.loop-word.met c.loop-word.word-index (c.loop-word.word-index + 1) v.if-met-texts.false in
        rw (w.met-is) (record { within = omega arith; same = chain on c.loop-word.invariant.same })
  ]
]

pub returns : goal.returns
returns c =
    at_end c.args.texts.now c.args.words.now c.loop-word.met c.loop-word.word-index c.loop-word.invariant.within c.loop-word-test.false
    c.loop-word.invariant.same
