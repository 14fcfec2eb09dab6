use Rattle.std.proofs.Common.{◌∙◌, ◌<◌, ◌^◌, sym, ap, subst}
use Rattle.std.specs.Option.{option_map}
use Rattle.indexmap.specs.IndexMap.{get}
use Rattle.cedar_linked_map.proofs.Seen.{looked_up, same_test}
use Rattle.cedar_linked_map.proofs.map.LinkedMap.get_near.Goals as goal

pub returns-then-eq : goal.returns-then-eq
returns-then-eq g c =
    let laws = g.met.K.Eq.laws in
    let k = c.args.key.now in
    let eq = g.K.PartialEq.eq in
    let chain = c.self.inside.chain in
    record {
      value = sym (ap (λ m. get eq m k) (sym c.self.view_is)
          ∙ looked_up chain.nodes.entries chain.first chain.last (subst (λ n. n < 2 ^ 63) c.len-len.ensures.len
          c.len-len.ensures.small) c.self.invariant
          g.met.K.Eq.laws c.len-len.ensures.unique (eq k) (g.met.K.Eq.laws.congr k)
          ∙ ap (option_map (λ n. n.value))
          (same_test (eq k) (eq c.in-Some.stored.now) (λ q. laws.congr k c.in-Some.stored.now q (laws.symm k
          c.in-Some.stored.now ∙ sym c.eq.ensures ∙ c.if-eq.true)) chain.nodes.entries
          ∙ c.in-Some.ensures.value));
    }

pub returns-in-None : goal.returns-in-None
returns-in-None g c =
    let k = c.args.key.now in
    let eq = g.K.PartialEq.eq in
    let chain = c.self.inside.chain in
    record {
      value = sym (ap (λ m. get eq m k) (sym c.self.view_is)
          ∙ looked_up chain.nodes.entries chain.first chain.last (subst (λ n. n < 2 ^ 63) c.len-len.ensures.len
          c.len-len.ensures.small) c.self.invariant
          g.met.K.Eq.laws c.len-len.ensures.unique (eq k) (g.met.K.Eq.laws.congr k)
          ∙ ap (option_map (λ n. n.value)) (sym c.in-None.ensures.value));
    }

pub returns-in-Some-get_full : goal.returns-in-Some-get_full
returns-in-Some-get_full g c =
    let k = c.args.key.now in
    let eq = g.K.PartialEq.eq in
    let chain = c.self.inside.chain in
    record {
      value = sym (ap (λ m. get eq m k) (sym c.self.view_is)
          ∙ looked_up chain.nodes.entries chain.first chain.last (subst (λ n. n < 2 ^ 63) c.len-len.ensures.len
          c.len-len.ensures.small) c.self.invariant
          g.met.K.Eq.laws c.len-len.ensures.unique (eq k) (g.met.K.Eq.laws.congr k)
          ∙ ap (option_map (λ n. n.value)) (sym c.in-Some-get_full.ensures.value));
    }
