use Rattle.std.proofs.Common.{◌≡◌, ◌∙◌, ◌++◌, ◌∷◌, [], None, sym, ap, subst, ◌<◌, ◌^◌}
use Rattle.std.specs.Option.{option_map}
use Rattle.indexmap.specs.IndexMap.{get, insert_entry}
use Rattle.indexmap.proofs.CallerLemmas.{insert_entry-new}
use Rattle.cedar_linked_map.specs.Linked.{in_order}
use Rattle.cedar_linked_map.proofs.Seen.{looked_up, still_unique, none_from, key_passes}
use Rattle.cedar_linked_map.proofs.Replaced.{put_mid, values_seen}
use Rattle.cedar_linked_map.proofs.map.LinkedMap.insert.Goals as goal

pub returns-in-Some-clause-old : goal.returns-in-Some-clause-old
returns-in-Some-clause-old g c =
    let k = c.args.key in
    let eq = g.K.PartialEq.eq in
    let chain = c.self.inside.chain in
    sym (ap (λ m. get eq m k) (sym c.self.view_is)
    ∙ looked_up chain.nodes.entries chain.first chain.last (subst (λ n. n < 2 ^ 63) c.len-len.ensures.len
    c.len-len.ensures.small) c.self.invariant
    g.met.K.Eq.laws c.len-len.ensures.unique (eq k) (g.met.K.Eq.laws.congr k)
    ∙ ap (option_map (λ n. n.value)) (sym c.in-Some.ensures.value)
    ∙ sym (values_seen chain.nodes.entries c.in-Some.at) ∙ c.replace_at.ensures.old)

pub returns-in-Some-clause-entries : goal.returns-in-Some-clause-entries
returns-in-Some-clause-entries g c =
    let k = c.args.key in
    let eq = g.K.PartialEq.eq in
    let chain = c.self.inside.chain in
    let r = c.replace_at.ensures.replaced in
    put_mid g.met.K.Eq.laws k c.args.value _ r.1 _ r.0 r.2
    (still_unique chain.nodes.entries chain.first chain.last (subst (λ n. n < 2 ^ 63) c.len-len.ensures.len
    c.len-len.ensures.small) c.self.invariant
    g.met.K.Eq.laws c.len-len.ensures.unique)
    r.3 r.4 (key_passes (eq k) chain.nodes.entries c.in-Some.at r.1 (sym c.in-Some.ensures.index) r.5)
    ∙ ap (λ m. insert_entry eq m.entries k c.args.value) c.self.view_is

pub returns-in-Err-clause-absent : goal.returns-in-Err-clause-absent
returns-in-Err-clause-absent g c =
    let k = c.args.key in
    let eq = g.K.PartialEq.eq in
    let chain = c.self.inside.chain in
    ap (λ m. get eq m k) (sym c.self.view_is)
    ∙ looked_up chain.nodes.entries chain.first chain.last (subst (λ n. n < 2 ^ 63) c.len-len.ensures.len
    c.len-len.ensures.small) c.self.invariant
    g.met.K.Eq.laws c.len-len.ensures.unique (eq k) (g.met.K.Eq.laws.congr k)
    ∙ ap (option_map (λ n. n.value)) (none_from _ (sym c.in-None.ensures.found))

pub returns-in-Ok-clause-old : goal.returns-in-Ok-clause-old
returns-in-Ok-clause-old g c =
    let k = c.args.key in
    let eq = g.K.PartialEq.eq in
    let chain = c.self.inside.chain in
    sym (ap (λ m. get eq m k) (sym c.self.view_is)
    ∙ looked_up chain.nodes.entries chain.first chain.last (subst (λ n. n < 2 ^ 63) c.len-len.ensures.len
    c.len-len.ensures.small) c.self.invariant
    g.met.K.Eq.laws c.len-len.ensures.unique (eq k) (g.met.K.Eq.laws.congr k)
    ∙ ap (option_map (λ n. n.value)) (none_from _ (sym c.in-None.ensures.found)))

pub returns-in-Ok-clause-entries : goal.returns-in-Ok-clause-entries
returns-in-Ok-clause-entries g c =
    let k = c.args.key in
    let v = c.args.value in
    let eq = g.K.PartialEq.eq in
    let chain = c.self.inside.chain in
    let none : get eq c.args.self.now k ≡ None =
    ap (λ m. get eq m k) (sym c.self.view_is)
    ∙ looked_up chain.nodes.entries chain.first chain.last (subst (λ n. n < 2 ^ 63) c.len-len.ensures.len
    c.len-len.ensures.small) c.self.invariant
    g.met.K.Eq.laws c.len-len.ensures.unique (eq k) (g.met.K.Eq.laws.congr k)
    ∙ ap (option_map (λ n. n.value)) (none_from _ (sym c.in-None.ensures.found)) in
    c.push.ensures.pushed
    ∙ ap (λ ns. in_order ns chain.first ++ (k, v) ∷ []) c.reserve.ensures.entries
    ∙ ap (λ m. m.entries ++ (k, v) ∷ []) c.self.view_is
    ∙ sym (insert_entry-new eq c.args.self.now k v none)
