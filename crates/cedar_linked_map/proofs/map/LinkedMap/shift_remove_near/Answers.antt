use Rattle.std.proofs.Common.{◌≡◌, ◌∙◌, ◌<◌, ◌^◌, true, Some, sym, ap, subst}
use Rattle.std.specs.Map.{remove_entry}
use Rattle.std.specs.Option.{option_map}
use Rattle.indexmap.specs.IndexMap.{get}
use Rattle.cedar_linked_map.proofs.Seen.{looked_up, same_test, still_unique, taken_mid, node_there}
use Rattle.cedar_linked_map.proofs.map.LinkedMap.shift_remove_near.Goals as goal

pub returns-then-eq-clause-value : goal.returns-then-eq-clause-value
returns-then-eq-clause-value g c =
    let laws = g.met.K.Eq.laws in
    let k = c.args.key.now in
    let eq = g.K.PartialEq.eq in
    let chain = c.self.inside.chain in
    let there = node_there chain.nodes.entries c.args.place c.in-Some.near.now _ c.take_at-value.result
    (sym c.in-Some.ensures.entry) c.take_at-value.ensures.cell in
    sym (ap (λ m. get eq m k) (sym c.self.view_is)
    ∙ looked_up chain.nodes.entries chain.first chain.last (subst (λ n. n < 2 ^ 63) c.len-len.ensures.len
    c.len-len.ensures.small) c.self.invariant laws c.len-len.ensures.unique (eq k) (laws.congr k)
    ∙ ap (option_map (λ n. n.value))
    (same_test (eq k) (eq c.in-Some.near.now) (λ q. laws.congr k c.in-Some.near.now q (laws.symm k
    c.in-Some.near.now ∙ sym c.eq.ensures ∙ c.if-eq.true)) chain.nodes.entries
    ∙ c.in-Some.ensures.value)
    ∙ ap Some there.1)

pub returns-then-eq-clause-entries : goal.returns-then-eq-clause-entries
returns-then-eq-clause-entries g c =
    let laws = g.met.K.Eq.laws in
    let k = c.args.key.now in
    let eq = g.K.PartialEq.eq in
    let chain = c.self.inside.chain in
    let taken = c.take_at-value.ensures.taken in
    let there = node_there chain.nodes.entries c.args.place c.in-Some.near.now _ c.take_at-value.result
    (sym c.in-Some.ensures.entry) c.take_at-value.ensures.cell in
    taken_mid (eq k) laws (laws.congr k) _ c.take_at-value.result _ taken.0 taken.1
    (still_unique chain.nodes.entries chain.first chain.last (subst (λ n. n < 2 ^ 63) c.len-len.ensures.len
    c.len-len.ensures.small) c.self.invariant laws c.len-len.ensures.unique)
    taken.2 taken.3 (ap (eq k) (sym there.0) ∙ laws.symm k c.in-Some.near.now ∙ sym c.eq.ensures ∙ c.if-eq.true)
    ∙ ap (λ m. remove_entry (eq k) m.entries) c.self.view_is
