use Rattle.std.proofs.Common.{◌∙◌, sym, ap, subst, ◌<◌, ◌^◌}
use Rattle.std.specs.Map.{remove_entry}
use Rattle.std.specs.Option.{option_map}
use Rattle.indexmap.specs.IndexMap.{get_by}
use Rattle.cedar_linked_map.proofs.Seen.{looked_up, still_unique, none_from, removed_none, value_there, key_passes}
use Rattle.cedar_linked_map.proofs.Seen.{taken_mid}
use Rattle.cedar_linked_map.proofs.map.LinkedMap.shift_remove.Goals as goal

pub returns-in-None-clause-value : goal.returns-in-None-clause-value
returns-in-None-clause-value g c =
    let t = g.Q.Equivalent.equivalent c.args.key in
    let chain = c.self.inside.chain in
    sym (ap (get_by t) (sym c.self.view_is)
    ∙ looked_up chain.nodes.entries chain.first chain.last (subst (λ n. n < 2 ^ 63) c.len-len.ensures.len
    c.len-len.ensures.small) c.self.invariant
    g.met.K.Eq.laws c.len-len.ensures.unique t (g.met.Q.Equivalent.respects_eq c.args.key)
    ∙ ap (option_map (λ n. n.value)) (none_from _ (sym c.in-None.ensures.found)))

pub returns-in-None-clause-entries : goal.returns-in-None-clause-entries
returns-in-None-clause-entries g c =
    let t = g.Q.Equivalent.equivalent c.args.key in
    let chain = c.self.inside.chain in
    sym (removed_none t c.args.self.now.entries (ap (get_by t) (sym c.self.view_is)
    ∙ looked_up chain.nodes.entries chain.first chain.last (subst (λ n. n < 2 ^ 63) c.len-len.ensures.len
    c.len-len.ensures.small) c.self.invariant
    g.met.K.Eq.laws c.len-len.ensures.unique t (g.met.Q.Equivalent.respects_eq c.args.key)
    ∙ ap (option_map (λ n. n.value)) (none_from _ (sym c.in-None.ensures.found))))

pub returns-in-Some-clause-value : goal.returns-in-Some-clause-value
returns-in-Some-clause-value g c =
    let t = g.Q.Equivalent.equivalent c.args.key in
    let chain = c.self.inside.chain in
    sym (ap (get_by t) (sym c.self.view_is)
    ∙ looked_up chain.nodes.entries chain.first chain.last (subst (λ n. n < 2 ^ 63) c.len-len.ensures.len
    c.len-len.ensures.small) c.self.invariant
    g.met.K.Eq.laws c.len-len.ensures.unique t (g.met.Q.Equivalent.respects_eq c.args.key)
    ∙ ap (option_map (λ n. n.value)) (sym c.in-Some.ensures.value)
    ∙ value_there chain.nodes.entries c.in-Some.at c.take_at-value.result c.take_at-value.ensures.cell)

pub returns-in-Some-clause-entries : goal.returns-in-Some-clause-entries
returns-in-Some-clause-entries g c =
    let t = g.Q.Equivalent.equivalent c.args.key in
    let chain = c.self.inside.chain in
    let taken = c.take_at-value.ensures.taken in
    taken_mid t g.met.K.Eq.laws (g.met.Q.Equivalent.respects_eq c.args.key) _ c.take_at-value.result _ taken.0 taken.1
    (still_unique chain.nodes.entries chain.first chain.last (subst (λ n. n < 2 ^ 63) c.len-len.ensures.len
    c.len-len.ensures.small) c.self.invariant
    g.met.K.Eq.laws c.len-len.ensures.unique)
    taken.2 taken.3 (key_passes t chain.nodes.entries c.in-Some.at c.take_at-value.result (sym
    c.in-Some.ensures.index) c.take_at-value.ensures.cell)
    ∙ ap (λ m. remove_entry t m.entries) c.self.view_is
