-- What was entered so far under the topics that a formula asks about.
use Rattle.std.specs.Prelude.{◌≡◌, ℕ, Bool, true, not, ◌&&◌, ◌||◌, ◌==◌, if◌then◌else◌, List, ◌∷◌, ◌++◌, take, drop, fold, Option, None, Some}
use Rattle.std.specs.List.{AllPairs, list_all, list_any, prefix_len}
use Rattle.std.specs.declared.cmp.Ordering.{Ordering}
use Rattle.std.specs.Ordering.{nat_cmp, ordering_then, is_lt}
use Rattle.lf_sim.specs.declared.entry.Entry.{Entry}
use Rattle.lf_protocols.specs.declared.protocol.Kind.{Kind}
use Rattle.lf_protocols.specs.declared.state.State.{State}
use Rattle.lf_protocols.specs.Protocols.{entry_of}
use Rattle.lf_residual.specs.declared.entries.Entered.{Entered}
use Rattle.lf_residual.specs.declared.news.News.{News}
use Rattle.lf_residual.specs.declared.news.News.TheVariants as tells

-- two entries agree under a topic, unless both are of it, and have one key and different values
abbrev pub agree_on : ℕ → Entered → Entered → Bool
agree_on topic e f = not ((e.topic == topic) && ((f.topic == topic) && (e.key == f.key))) || (e.value == f.value)

-- each two of some do
abbrev pub agree_under : ℕ → List Entered → Bool
agree_under topic es = list_all (λ e. list_all (agree_on topic e) es) es

-- two are the same
abbrev pub is_same : Entered → Entered → Bool
is_same e f = (e.topic == f.topic) && ((e.key == f.key) && (e.value == f.value))

-- they are kept by topic, then by key, and then by value
abbrev pub order : Entered → Entered → Ordering
order e f = ordering_then (nat_cmp e.topic f.topic) (ordering_then (nat_cmp e.key f.key) (nat_cmp e.value f.value))

abbrev pub precedes : Entered → Entered → Bool
precedes e f = is_lt (order e f)

-- entries that stand in order: no two are the same
abbrev pub AreInOrder : List Entered → Type 0
AreInOrder = AllPairs (λ e f. precedes e f ≡ true)

abbrev pub put : Entered → List Entered → List Entered
put e es =
    let at = prefix_len (λ f. precedes f e) es in
    take at es ++ e ∷ drop at es

-- with an entry more: nothing changes where it is there already, or where two under its topic don't agree
abbrev pub with_entry : List Entered → Entered → List Entered
with_entry es e = if not (agree_under e.topic es) || list_any (λ f. is_same f e) es then es else put e es

abbrev pub entered_as : ℕ → Entry → Entered
entered_as topic e = record { topic = topic; key = e.key; value = e.value }

-- with what is entered under a topic, if something is
abbrev pub with_some : List Entered → ℕ → Option Entry → List Entered
with_some es topic None = es
with_some es topic (Some e) = with_entry es (entered_as topic e)

-- with what a node's state enters under some topics
abbrev pub with_state : Kind → List ℕ → ℕ → State → List Entered → List Entered
with_state k topics n state es = fold (λ kept topic. with_some kept topic (entry_of k n state topic)) es topics

-- with news: a node that is up enters something
abbrev pub with_entered : Kind → List ℕ → News → List Entered → List Entered
with_entered k topics (tells.Up node step state) es = with_state k topics node state es
with_entered k topics (tells.Down node from until) es = es
with_entered k topics (tells.Lasting node from state) es = es
with_entered k topics (tells.Bounds nodes horizon) es = es
