use Rattle.std.proofs.Common.{◌≡◌, ◌+◌, List, [], ap, ◌∙◌, rules, arith}
use Rattle.lf_sim.specs.declared.letter.Letter.{Letter}
use Rattle.lf_protocols.specs.declared.note.Note.{Note}
use Rattle.lf_sim.specs.Runs.{each_below, did, letters, letters_from}
use Rattle.lf_sim.specs.Settings.{set_of, world_of}
use Rattle.lf_taken.proofs.ListsLemmas.{more_parts}
use Rattle.lf_taken.proofs.letters.Point.inbox.Goals as goal

pub senders-preserved : goal.senders-preserved
senders-preserved c =
    let w = world_of c.args.self.now.setting.now in
    let faults = set_of c.args.self.now.run.now in
    let p = c.args.self.now in
    let none : List (Letter Note) = [] in
    more_parts none c.senders.found.items c.push_letters.new.found.items
    (λ n. letters_from w faults (did w faults) p.node (p.past + 1) n (p.past + 1)) c.senders.from c.senders.invariant c.in_ok-push_letters.ensures

pub returns : goal.returns
unfolding letters
returns c =
    let w = world_of c.args.self.now.setting.now in
    let faults = set_of c.args.self.now.run.now in
    let p = c.args.self.now in
    let all : c.senders.from ≡ w.rules.nodes = search (rules, arith) in
    c.senders.invariant ∙ ap (each_below (λ n. letters_from w faults (did w faults) p.node (p.past + 1) n (p.past + 1))) all
