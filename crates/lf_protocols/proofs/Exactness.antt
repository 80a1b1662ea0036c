-- The derived orders and equalities of states and notes tell apart what differs.
use Rattle.std.proofs.Common.{◌≡◌, true, refl}
use Rattle.std.specs.Option.{option_cmp}
use Rattle.std.specs.Ordering.{nat_cmp, bool_cmp}
use Rattle.std.specs.Cmp.Lexicographic.{slice_cmp}
use Rattle.std.proofs.lemmas.Map.Lookups.{CmpEqualImpliesEq, exact_bytes, exact_unsigned}
use Rattle.lf_rule_machine.specs.contracts.state.NoteOrd.TheImpl as message_ord
use Rattle.lf_rule_machine.specs.contracts.state.PacketOrd.TheImpl as packet_ord
use Rattle.lf_rule_machine.specs.contracts.state.StateOrd.TheImpl as values_ord
use Rattle.lf_protocols.specs.declared.note.Note.{Note}
use Rattle.lf_protocols.specs.declared.state.State.{State}
use Rattle.lf_protocols.specs.contracts.nodes.NodesOrd.TheImpl as nodes_ord
use Rattle.lf_protocols.specs.contracts.note.Note as note
use Rattle.lf_protocols.specs.contracts.note.NoteOrd.TheImpl as note_ord
use Rattle.lf_protocols.specs.contracts.note.NoteOrd.TheImpl.Laws as note_laws
use Rattle.lf_protocols.specs.contracts.note.NotePartialEq.TheImpl as note_eq
use Rattle.lf_protocols.specs.contracts.state.Holding as holding
use Rattle.lf_protocols.specs.contracts.state.HoldingOrd.TheImpl as holding_ord
use Rattle.lf_protocols.specs.contracts.state.Phase as phase
use Rattle.lf_protocols.specs.contracts.state.PhaseOrd.TheImpl as phase_ord
use Rattle.lf_protocols.specs.contracts.state.ProgressOrd.TheImpl as progress_ord
use Rattle.lf_protocols.specs.contracts.state.Relay as relay
use Rattle.lf_protocols.specs.contracts.state.RelayOrd.TheImpl as relay_ord
use Rattle.lf_protocols.specs.contracts.state.ReplicaOrd.TheImpl as replica_ord
use Rattle.lf_protocols.specs.contracts.state.State as state
use Rattle.lf_protocols.specs.contracts.state.StateOrd.TheImpl as state_ord
use Rattle.lf_protocols.specs.contracts.state.StateOrd.TheImpl.Laws as state_laws
use Rattle.lf_protocols.specs.contracts.state.StatePartialEq.TheImpl as state_eq
use Rattle.lf_protocols.proofs.Orders.{then_Equal, exact_flags, exact_lists, exact_options, exact_variants, exact_bare, bare, same_by_order}

exact_messages : CmpEqualImpliesEq (message_ord.cmp-value).it
exact_messages x y h =
    let both = then_Equal (nat_cmp x.form y.form) (slice_cmp nat_cmp x.fields y.fields) h in
    λ i. record { form = exact_unsigned x.form y.form both.0 i; fields = exact_bytes x.fields y.fields both.1 i }

exact_packets : CmpEqualImpliesEq (packet_ord.cmp-value).it
exact_packets x y h =
    λ i. record { notes = exact_lists (option_cmp (message_ord.cmp-value).it) (exact_options (message_ord.cmp-value).it exact_messages) x.notes y.notes h i }

exact_notes : CmpEqualImpliesEq (note_ord.cmp-value).it
exact_notes =
    exact_variants note.enum _
    (bare (bare (bare (bare (bare (bare (bare (bare (bare (bare (bare (bare (bare (λ x y h i. (exact_packets x.0 y.0 h i, tt), tt))))))))))))))

pub same_notes : (x y : Note) → (note_eq.eq-value).it x y ≡ true → x ≡ y
same_notes x y h = same_by_order (note_ord.cmp-value).it exact_notes x y ((note_eq.eq-value).it x y) (note_laws.matches_eq-law x y) h

exact_values : CmpEqualImpliesEq (values_ord.cmp-value).it
exact_values x y h =
    let a = then_Equal (slice_cmp nat_cmp x.values y.values) _ h in
    let b = then_Equal (bool_cmp x.clamped y.clamped) (bool_cmp x.replaced y.replaced) a.1 in
    λ i. record {
      values = exact_bytes x.values y.values a.0 i;
      clamped = exact_flags x.clamped y.clamped b.0 i;
      replaced = exact_flags x.replaced y.replaced b.1 i;
    }

exact_holdings : CmpEqualImpliesEq (holding_ord.cmp-value).it
exact_holdings = exact_bare holding.enum tt

exact_relays : CmpEqualImpliesEq (relay_ord.cmp-value).it
exact_relays = exact_variants relay.enum _ (λ x y h i. (exact_unsigned x.0 y.0 h i, tt), (λ x y h. refl, tt))

exact_nodes : CmpEqualImpliesEq (nodes_ord.cmp-value).it
exact_nodes x y h = λ i. record { members = exact_lists bool_cmp exact_flags x.members y.members h i }

exact_phases : CmpEqualImpliesEq (phase_ord.cmp-value).it
exact_phases = exact_variants phase.enum _ (
  λ x y h. refl,
  (
    λ x y h.
        let both = then_Equal ((nodes_ord.cmp-value).it x.0 y.0) (bool_cmp x.1.0 y.1.0) h in
        λ i. (exact_nodes x.0 y.0 both.0 i, (exact_flags x.1.0 y.1.0 both.1 i, tt)),
    (
      λ x y h. refl,
      (λ x y h i. (exact_nodes x.0 y.0 h i, tt), (λ x y h. refl, (λ x y h. refl, (λ x y h. refl, tt)))),
    ),
  ),
)

exact_progress : CmpEqualImpliesEq (progress_ord.cmp-value).it
exact_progress x y h =
    let both = then_Equal ((phase_ord.cmp-value).it x.phase y.phase) (nat_cmp x.since y.since) h in
    λ i. record { phase = exact_phases x.phase y.phase both.0 i; since = exact_unsigned x.since y.since both.1 i }

exact_replicas : CmpEqualImpliesEq (replica_ord.cmp-value).it
exact_replicas x y h =
    let a = then_Equal (bool_cmp x.holds y.holds) _ h in
    let b = then_Equal (bool_cmp x.done y.done) _ a.1 in
    let c = then_Equal (bool_cmp x.primary y.primary) _ b.1 in
    let d = then_Equal (bool_cmp x.claimed y.claimed) (nat_cmp x.since y.since) c.1 in
    λ i. record {
      holds = exact_flags x.holds y.holds a.0 i;
      done = exact_flags x.done y.done b.0 i;
      primary = exact_flags x.primary y.primary c.0 i;
      claimed = exact_flags x.claimed y.claimed d.0 i;
      since = exact_unsigned x.since y.since d.1 i;
    }

exact_states : CmpEqualImpliesEq (state_ord.cmp-value).it
exact_states = exact_variants state.enum _ (
  λ x y h i. (exact_holdings x.0 y.0 h i, tt),
  (
    λ x y h i. (exact_relays x.0 y.0 h i, tt),
    (
      λ x y h i. (exact_progress x.0 y.0 h i, tt),
      (λ x y h i. (exact_progress x.0 y.0 h i, tt), (λ x y h i. (exact_replicas x.0 y.0 h i, tt), (λ x y h i. (exact_values x.0 y.0 h i, tt), tt))),
    ),
  ),
)

pub same_states : (x y : State) → (state_eq.eq-value).it x y ≡ true → x ≡ y
same_states x y h = same_by_order (state_ord.cmp-value).it exact_states x y ((state_eq.eq-value).it x y) (state_laws.matches_eq-law x y) h
