use Rattle.std.proofs.Common.{◌≡◌, None, subst, sym}
use Rattle.std.specs.Io.KnownBytes.{Appends}
use Rattle.reply_examples.proofs.FloatLemmas.{none_stands}
use Rattle.reply_examples.proofs.SweptLemmas.{both_so}
use Rattle.reply_examples.proofs.sweep_laws.swept_twice.Goals as goal

pub returns-clause-counts : goal.returns-clause-counts
returns-clause-counts g c =
    let a = c.args.asked.now in
    let text = c.args.text.now in
    let vs = a.plan.varied.items in
    both_so c.in_ok-first.first c.in_ok-second.second c.both.result _ _ (λ b. b.0 ≡ b.1)
    (λ n m x y. (c.sweeps_are_one.ensures None a.by text vs a.part x.0 y.0 n m (none_stands text vs c.requires.text c.requires.exact) x.1 y.1).1)
    c.in_ok-first.ensures c.in_ok-second.ensures c.both.ensures

pub returns-clause-lines : goal.returns-clause-lines
returns-clause-lines g c =
    let a = c.args.asked.now in
    let text = c.args.text.now in
    let vs = a.plan.varied.items in
    both_so c.in_ok-first.first c.in_ok-second.second c.both.result _ _ _
    (λ n m x y. (
      x.0,
      x.2,
      subst (λ l. Appends (g.W.Sink.written c.args.other.now) (g.W.Sink.written c.swept-2.new.writer) l)
          (sym (c.sweeps_are_one.ensures None a.by text vs a.part x.0 y.0 n m (none_stands text vs c.requires.text c.requires.exact) x.1 y.1).0) y.2,
    ))
    c.in_ok-first.ensures c.in_ok-second.ensures c.both.ensures
