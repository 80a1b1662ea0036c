use Rattle.std.proofs.Common.{◌++◌, ap, ◌∙◌, string_bytes}
use Rattle.std.proofs.Math.Utf8.{encode}
use Rattle.std.proofs.lemmas.Iterator.{YieldsList-from_chars}
use Rattle.std.proofs.lemmas.Iterator.Consumers.{YieldsList-end}
use Rattle.lf_naming.proofs.SmallLemmas.{small_more, small_told}
use Rattle.lf_naming.proofs.note.push_small.Goals as goal

pub loop-letter-preserved : goal.loop-letter-preserved
loop-letter-preserved c =
    small_more (string_bytes c.args.text.now) (string_bytes c.loop-letter.text) (string_bytes c.push.new.self) c.loop-letter.yielded c.in-Some.letter
    c.loop-letter.invariant (c.in_ok-push.ensures.bytes ∙ ap (λ l. string_bytes c.loop-letter.text ++ encode l) c.to_ascii_lowercase.ensures.value)

pub returns : goal.returns
returns c =
    let t = YieldsList-end (YieldsList-from_chars c.args.name.now c.utf8.name cc) c.loop-letter.yielded _ c.loop-letter.yielded_by
    _ _ c.in-None.is c.next.ensures.steps in
    small_told (string_bytes c.args.text.now) (string_bytes c.loop-letter.text) c.args.name.now c.loop-letter.yielded c.utf8.name c.loop-letter.invariant t.0
