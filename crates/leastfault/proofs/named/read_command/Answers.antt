use Rattle.std.proofs.Common.{◌∙◌, ap, subst, refl, Ok, Err, Option, List, ℕ}
use Rattle.std.proofs.lemmas.Result.{err_from_is_err_and}
use Rattle.lf_scenario.specs.Limits.{longest}
use Rattle.lf_tree.specs.Texts.{most_bytes}
use Rattle.leastfault.specs.Places.{place_of}
use Rattle.leastfault.proofs.PlaceLemmas.{ReadPlace, ReadWhere, all_read, no_protocol, no_scenario, no_tree}
use Rattle.leastfault.proofs.named.read_command.Goals as goal

pub returns-in_err-protocol : goal.returns-in_err-protocol
returns-in_err-protocol g c =
    let p = err_from_is_err_and c.from_residual.result c.from_residual.ensures.1 in
    let old = g.F.Files.desk c.args.files.now in
    let first = g.F.Files.desk c.read_where.new.files in
    let e = c.in_err-protocol.field-0.0 in
    rw (p.1, p.2) (no_protocol c.args.asked.now old first first first e
    (subst (λ (place : Option (Option (List ℕ))). ReadWhere place longest old first (Err e)) c.protocol_place.ensures c.in_err-protocol.ensures))

pub returns-in_err-scenario : goal.returns-in_err-scenario
returns-in_err-scenario g c =
    let p = err_from_is_err_and c.from_residual-in_err-scenario.result c.from_residual-in_err-scenario.ensures.1 in
    let old = g.F.Files.desk c.args.files.now in
    let first = g.F.Files.desk c.read_where.new.files in
    let second = g.F.Files.desk c.read_place.new.files in
    let e = c.in_err-scenario.field-0.0 in
    let text = c.in_ok-protocol.protocol in
    rw (p.1, p.2) (no_scenario c.args.asked.now old first second second text e
    (subst (λ (place : Option (Option (List ℕ))). ReadWhere place longest old first (Ok text)) c.protocol_place.ensures c.in_ok-protocol.ensures)
    (subst (λ (name : Option (List ℕ)). ReadPlace name longest first second (Err e)) (c.place_of.ensures ∙ ap place_of c.file.ensures)
    c.in_err-scenario.ensures))

pub returns-in_err-tree : goal.returns-in_err-tree
returns-in_err-tree g c =
    let p = err_from_is_err_and c.from_residual-in_err-tree.result c.from_residual-in_err-tree.ensures.1 in
    let old = g.F.Files.desk c.args.files.now in
    let first = g.F.Files.desk c.read_where.new.files in
    let second = g.F.Files.desk c.read_place.new.files in
    let new = g.F.Files.desk c.read_where-2.new.files in
    let e = c.in_err-tree.field-0.0 in
    let text = c.in_ok-protocol.protocol in
    let scenario = c.in_ok-scenario.scenario in
    rw (p.1, p.2) (no_tree c.args.asked.now old first second new text scenario e
    (subst (λ (place : Option (Option (List ℕ))). ReadWhere place longest old first (Ok text)) c.protocol_place.ensures c.in_ok-protocol.ensures)
    (subst (λ (name : Option (List ℕ)). ReadPlace name longest first second (Ok scenario)) (c.place_of.ensures ∙ ap place_of c.file.ensures)
    c.in_ok-scenario.ensures)
    (subst (λ (place : Option (Option (List ℕ))). ReadWhere place most_bytes second new (Err e)) c.tree_place.ensures c.in_err-tree.ensures))

pub returns : goal.returns
returns g c =
    let old = g.F.Files.desk c.args.files.now in
    let first = g.F.Files.desk c.read_where.new.files in
    let second = g.F.Files.desk c.read_place.new.files in
    let new = g.F.Files.desk c.read_where-2.new.files in
    let text = c.in_ok-protocol.protocol in
    let scenario = c.in_ok-scenario.scenario in
    let tree = c.in_ok-tree.tree in
    all_read c.args.asked.now old first second new text scenario tree (record { protocol = text; scenario = scenario; tree = tree })
    (subst (λ (place : Option (Option (List ℕ))). ReadWhere place longest old first (Ok text)) c.protocol_place.ensures c.in_ok-protocol.ensures)
    (subst (λ (name : Option (List ℕ)). ReadPlace name longest first second (Ok scenario)) (c.place_of.ensures ∙ ap place_of c.file.ensures)
    c.in_ok-scenario.ensures)
    (subst (λ (place : Option (Option (List ℕ))). ReadWhere place most_bytes second new (Ok tree)) c.tree_place.ensures c.in_ok-tree.ensures) refl
