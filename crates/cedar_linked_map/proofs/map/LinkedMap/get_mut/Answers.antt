use Rattle.std.proofs.Common.{◌≡◌, ◌∙◌, None, sym, ap, subst, ◌<◌, ◌^◌, refl}
use Rattle.std.specs.Option.{option_map}
use Rattle.std.specs.Map.{set_value}
use Rattle.indexmap.specs.IndexMap.{get_by, hasher_of, spare, IsUnique}
use Rattle.indexmap.specs.Layout.{hash_map}
use Rattle.cedar_linked_map.specs.declared.chain.Node.{Node}
use Rattle.cedar_linked_map.specs.Linked.{AreLinked, in_order}
use Rattle.cedar_linked_map.proofs.Replaced.{order_kept, replaced}
use Rattle.cedar_linked_map.proofs.Lent.{place, written, written_mid, set_none}
use Rattle.cedar_linked_map.proofs.Seen.{looked_up, still_unique, key_there}
use Rattle.cedar_linked_map.proofs.map.LinkedMap.get_mut.Goals as goal

pub invariant_of-self-lent : goal.invariant_of-self-lent
invariant_of-self-lent g c = λ w.
    let t = g.Q.Equivalent.equivalent c.args.key in
    let chain = c.self.inside.chain in
    let node = c.in-Some.node.now in
    let p = place t chain.nodes.entries node (sym c.in-Some.ensures.value) in
    let after : Node g.row.V.Denot = record { value = w; before = node.before; after = node.after } in
    let linked : AreLinked _ chain.first chain.last = (
      c.self.invariant.0,
      order_kept chain.nodes.entries chain.first chain.last p.at node after p.value refl refl
          (subst (λ n. n < 2 ^ 63) c.len-len.ensures.len c.len-len.ensures.small) c.self.invariant,
    ) in
    subst (λ l. AreLinked l chain.first chain.last) (sym ((c.get_mut.follows.holds after).0 ∙ p.writes after)) linked

pub returns-in-None : goal.returns-in-None
returns-in-None g c =
    let t = g.Q.Equivalent.equivalent c.args.key in
    let chain = c.self.inside.chain in
    let small = subst (λ n. n < 2 ^ 63) c.len-len.ensures.len c.len-len.ensures.small in
    let unique = subst (IsUnique g.K.PartialEq.eq) c.self.view_is (still_unique chain.nodes.entries chain.first
    chain.last small c.self.invariant g.met.K.Eq.laws c.len-len.ensures.unique) in
    let none : get_by t c.args.self.now ≡ None = ap (get_by t) (sym c.self.view_is)
    ∙ looked_up chain.nodes.entries chain.first chain.last small c.self.invariant g.met.K.Eq.laws
    c.len-len.ensures.unique t (g.met.Q.Equivalent.respects_eq c.args.key)
    ∙ ap (option_map (λ n. n.value)) (sym c.in-None.ensures.value) in
    let gone = c.get_mut.follows.lender-at-none in
    let same : hash_map (in_order gone.entries chain.first) (hasher_of gone) (spare gone) ≡ c.args.self.now =
    ap (λ m. hash_map (in_order m.entries chain.first) (hasher_of m) (spare m)) c.get_mut.follows.holds-at-none
    ∙ c.self.view_is in (
      (
        refl,
        (λ w. written t g.met.K.Eq.laws (g.met.Q.Equivalent.respects_eq c.args.key) c.args.self.now
            (hash_map (in_order gone.entries chain.first) (hasher_of gone) (spare gone)) w unique
            (ap (λ m. m.entries) same ∙ sym (set_none t c.args.self.now.entries w none)) (ap hasher_of same) (ap
            spare same)),
        same,
      ),
      record { writes_back = tt; value = sym none; unique = unique },
    )

pub returns-in-Some : goal.returns-in-Some
returns-in-Some g c =
    let t = g.Q.Equivalent.equivalent c.args.key in
    let chain = c.self.inside.chain in
    let key = g.met.Q.Equivalent.respects_eq c.args.key in
    let node = c.in-Some.node.now in
    let small = subst (λ n. n < 2 ^ 63) c.len-len.ensures.len c.len-len.ensures.small in
    let inner = still_unique chain.nodes.entries chain.first chain.last small c.self.invariant g.met.K.Eq.laws
    c.len-len.ensures.unique in
    let unique = subst (IsUnique g.K.PartialEq.eq) c.self.view_is inner in
    let found = ap (get_by t) (sym c.self.view_is)
    ∙ looked_up chain.nodes.entries chain.first chain.last small c.self.invariant g.met.K.Eq.laws
    c.len-len.ensures.unique t key
    ∙ ap (option_map (λ n. n.value)) (sym c.in-Some.ensures.value) in
    let p = place t chain.nodes.entries node (sym c.in-Some.ensures.value) in (
      (
        refl,
        (λ w. (
            let after : Node g.row.V.Denot = record { value = w; before = node.before; after = node.after } in
            let new = c.get_mut.follows.lender after in
            let holds = c.get_mut.follows.holds after in
            let r = replaced chain.nodes.entries chain.first chain.last p.at node after p.value refl refl small
            c.self.invariant p.within in
            let passes = p.passes r.1.0 (key_there chain.nodes.entries p.at r.1 r.5) in
            written t g.met.K.Eq.laws key c.args.self.now (hash_map (in_order new.entries chain.first) (hasher_of
            new) (spare new)) w unique
            (ap (λ l. in_order l chain.first) (holds.0 ∙ p.writes after)
            ∙ written_mid t g.met.K.Eq.laws key _ r.1 _ r.0 r.2 w inner r.3 r.4 passes
            ∙ ap (λ m. set_value t m.entries w) c.self.view_is)
            (holds.5 ∙ ap hasher_of c.self.view_is) (holds.6 ∙ ap spare c.self.view_is)
            )),
        refl,
      ),
      record { writes_back = tt; value = sym found; unique = unique },
    )
