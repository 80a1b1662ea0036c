use Rattle.std.proofs.Common.{◌∙◌, ap, subst, refl, Ok, Err, Option, List, ℕ}
use Rattle.std.proofs.lemmas.Result.{err_from_is_err_and}
use Rattle.lf_scenario.specs.Limits.{longest}
use Rattle.leastfault.specs.Places.{place_of}
use Rattle.leastfault_sweep.proofs.ReadLemmas.{ReadPlace, ReadWhere, both_read, no_protocol, no_scenario}
use Rattle.leastfault_sweep.proofs.reading.read_sweep.Goals as goal

pub returns-in_err-protocol : goal.returns-in_err-protocol
returns-in_err-protocol g c =
    let p = err_from_is_err_and c.from_residual.result c.from_residual.ensures.1 in
    let old = g.F.Files.desk c.args.files.now in
    let first = g.F.Files.desk c.read_where.new.files in
    let e = c.in_err-protocol.field-0.0 in
    rw (p.1, p.2) (no_protocol c.args.asked.now old first first e
    (subst (λ (place : Option (Option (List ℕ))). ReadWhere place longest old first (Err e)) c.protocol_place.ensures c.in_err-protocol.ensures))

pub returns-in_err-scenario : goal.returns-in_err-scenario
returns-in_err-scenario g c =
    let p = err_from_is_err_and c.from_residual-in_err-scenario.result c.from_residual-in_err-scenario.ensures.1 in
    let old = g.F.Files.desk c.args.files.now in
    let first = g.F.Files.desk c.read_where.new.files in
    let new = g.F.Files.desk c.read_place.new.files in
    let e = c.in_err-scenario.field-0.0 in
    let text = c.in_ok-protocol.protocol in
    rw (p.1, p.2) (no_scenario c.args.asked.now old first new text e
    (subst (λ (place : Option (Option (List ℕ))). ReadWhere place longest old first (Ok text)) c.protocol_place.ensures c.in_ok-protocol.ensures)
    (subst (λ (name : Option (List ℕ)). ReadPlace name longest first new (Err e)) (c.place_of.ensures ∙ ap place_of c.as_str.ensures.value)
    c.in_err-scenario.ensures))

pub returns : goal.returns
returns g c =
    let old = g.F.Files.desk c.args.files.now in
    let first = g.F.Files.desk c.read_where.new.files in
    let new = g.F.Files.desk c.read_place.new.files in
    let text = c.in_ok-protocol.protocol in
    let scenario = c.in_ok-scenario.scenario in
    both_read c.args.asked.now old first new text scenario (record { protocol = text; scenario = scenario })
    (subst (λ (place : Option (Option (List ℕ))). ReadWhere place longest old first (Ok text)) c.protocol_place.ensures c.in_ok-protocol.ensures)
    (subst (λ (name : Option (List ℕ)). ReadPlace name longest first new (Ok scenario)) (c.place_of.ensures ∙ ap place_of c.as_str.ensures.value)
    c.in_ok-scenario.ensures) refl
