use Rattle.std.proofs.Common.{◌≡◌, ◌+◌, ◌-◌, ◌<◌, length, get_or, sym, ap, ◌∙◌, arith}
use Rattle.lf_sim.specs.Turns.{turns_of}
use Rattle.lf_sim.proofs.TurnsLemmas.{last-others, last-there, length-turns}
use Rattle.lf_sim.proofs.turns.Turns.put_last.Goals as goal

pub move_out-requires : goal.move_out-requires
move_out-requires g c =
    let turns = c.args.self.now in
    omega (arith, c.requires, turns.room, turns.kept.ok.0, turns.kept.ok.1, length-turns turns.outs.items 0 turns.kept.items)

pub swap_remove-stood-requires : goal.swap_remove-stood-requires
swap_remove-stood-requires g c =
    let turns = c.args.self.now in
    omega (arith, c.requires, turns.kept.ok.0, length-turns turns.outs.items 0 turns.kept.items)

pub returns-clause-len : goal.returns-clause-len
returns-clause-len g c =
    let turns = c.args.self.now in
    omega (
      arith,
      c.swap_remove-stood.ensures.len,
      turns.kept.ok.0,
      c.swap_remove-stood.new.self.ok.0,
      length-turns turns.outs.items 0 turns.kept.items,
      length-turns c.move_out.new.outs.items 0 c.swap_remove-stood.new.self.items,
    )

pub returns-clause-there : goal.returns-clause-there
returns-clause-there g c d =
    let turns = c.args.self.now in
    let swap = c.swap_remove-stood in
    let last = c.len-last.result - 1 in
    let x = c.index.result.now in
    let count = length-turns turns.outs.items 0 turns.kept.items in
    let all : length turns.kept.items ≡ last + 1 = omega (arith, c.len-last.ensures, turns.kept.ok.0, c.requires, count) in
    let fewer : length swap.new.self.items ≡ last = omega (arith, swap.ensures.len, swap.new.self.ok.0, c.len-last.ensures) in
    let early : c.args.place < last = omega (arith, c.len-last.ensures, turns.kept.ok.0, c.requires, count) in
    let moved : get_or swap.new.self.items c.args.place x ≡ get_or turns.kept.items last x =
    swap.ensures.by_index.0 x (omega (arith, early, c.len-last.ensures)) ∙ ap (λ k. get_or turns.kept.items (k - 1) x) (sym c.len-last.ensures) in
    let end : last ≡ length (turns_of turns) - 1 = omega (arith, all, count) in
    last-there turns.outs.items c.move_out.new.outs.items turns.kept.items swap.new.self.items c.args.place last x all fewer early moved c.index.ensures
    (λ on. c.move_out.ensures.there (c.sends_each-moves.ensures ∙ on)) d
    ∙ ap (λ k. get_or (turns_of turns) k d) end

pub returns-clause-others : goal.returns-clause-others
returns-clause-others g c k d other near =
    let turns = c.args.self.now in
    let swap = c.swap_remove-stood in
    let last = c.len-last.result - 1 in
    let x = c.index.result.now in
    let count = length-turns turns.outs.items 0 turns.kept.items in
    let all : length turns.kept.items ≡ last + 1 = omega (arith, c.len-last.ensures, turns.kept.ok.0, c.requires, count) in
    let fewer : length swap.new.self.items ≡ last = omega (arith, swap.ensures.len, swap.new.self.ok.0, c.len-last.ensures) in
    let early : c.args.place < last = omega (arith, c.len-last.ensures, turns.kept.ok.0, c.requires, count) in
    last-others turns.outs.items c.move_out.new.outs.items turns.kept.items swap.new.self.items c.args.place last x all fewer early k
    (swap.ensures.by_index.1 k x other (omega (arith, near, turns.kept.ok.0, count))) (c.move_out.ensures.others k other)
    (omega (arith, near, all, count)) d
