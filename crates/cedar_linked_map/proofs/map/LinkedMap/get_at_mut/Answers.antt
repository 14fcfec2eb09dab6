use Rattle.std.proofs.Common.{◌∙◌, ◌<◌, ◌^◌, refl, sym, ap, subst, true≢false}
use Rattle.std.specs.Map.{lookup, set_value}
use Rattle.std.specs.Option.{option_map}
use Rattle.indexmap.specs.IndexMap.{hasher_of, spare, with_value_at, IsUnique}
use Rattle.indexmap.specs.Layout.{hash_map}
use Rattle.cedar_linked_map.specs.declared.chain.Node.{Node}
use Rattle.cedar_linked_map.specs.Linked.{in_order}
use Rattle.cedar_linked_map.proofs.Replaced.{order_kept, replaced}
use Rattle.cedar_linked_map.proofs.Lent.{written, written_mid}
use Rattle.cedar_linked_map.proofs.Seen.{still_unique, value_there}
use Rattle.cedar_linked_map.proofs.Ends.{found_mid}
use Rattle.cedar_linked_map.proofs.map.LinkedMap.get_at_mut.Goals as goal

pub invariant_of-self-lent : goal.invariant_of-self-lent
invariant_of-self-lent g c = λ w.
    let chain = c.self.inside.chain in
    let node = c.in-Some.node.now in
    let after : Node g.row.V.Denot = record { value = w; before = node.before; after = node.after } in (
      c.self.invariant.0,
      order_kept chain.nodes.entries chain.first chain.last c.args.place node after (sym c.in-Some.ensures.value)
          refl refl
          (subst (λ n. n < 2 ^ 63) c.len-len.ensures.len c.len-len.ensures.small) c.self.invariant,
    )

pub returns-in-None : goal.returns-in-None
returns-in-None g c =
    let chain = c.self.inside.chain in
    let small = subst (λ n. n < 2 ^ 63) c.len-len.ensures.len c.len-len.ensures.small in
    let unique = subst (IsUnique g.K.PartialEq.eq) c.self.view_is (still_unique chain.nodes.entries chain.first
    chain.last small c.self.invariant g.met.K.Eq.laws c.len-len.ensures.unique) in (
      (refl, (λ w h. absurd (true≢false (sym h))), c.self.view_is),
      record { writes_back = tt; unique = unique },
    )

pub returns-in-Some : goal.returns-in-Some
returns-in-Some g c =
    let laws = g.met.K.Eq.laws in
    let eq = g.K.PartialEq.eq in
    let chain = c.self.inside.chain in
    let ns = chain.nodes.entries in
    let node = c.in-Some.node.now in
    let small = subst (λ n. n < 2 ^ 63) c.len-len.ensures.len c.len-len.ensures.small in
    let inner = still_unique ns chain.first chain.last small c.self.invariant laws c.len-len.ensures.unique in
    let unique = subst (IsUnique eq) c.self.view_is inner in (
      (
        refl,
        (λ w h. (
            let after : Node g.row.V.Denot = record { value = w; before = node.before; after = node.after } in
            let new = with_value_at chain.nodes c.args.place after in
            let r = replaced ns chain.first chain.last c.args.place node after (sym c.in-Some.ensures.value) refl
            refl small c.self.invariant (c.in-Some.ensures.found.0 refl) in
            let k = r.1.0 in (
              k,
              ap (λ m. lookup (eq k) m.entries) (sym c.self.view_is) ∙ found_mid laws _ r.1 r.0 r.2 inner r.3
                  ∙ sym (value_there ns c.args.place r.1 r.5)
                  ∙ ap (option_map (λ n. n.value)) (sym c.in-Some.ensures.value),
              written (eq k) laws (laws.congr k) c.args.self.now (hash_map (in_order new.entries chain.first)
                  (hasher_of new) (spare new)) w unique
                  (written_mid (eq k) laws (laws.congr k) _ r.1 _ r.0 r.2 w inner r.3 r.4 (laws.refl k)
                  ∙ ap (λ m. set_value (eq k) m.entries w) c.self.view_is)
                  (ap hasher_of c.self.view_is) (ap spare c.self.view_is),
            )
            )),
        refl,
      ),
      record { writes_back = tt; unique = unique },
    )
