use Rattle.std.proofs.Common.{◌≡◌, ◌∙◌, ◌+◌, ◌<◌, ◌≤◌, ◌&&◌, [], ◌∷◌, ◌++◌, ap, arith, false, length, refl, subst, suc, sym}
use Rattle.std.proofs.lemmas.Bool.{eq-eqb, eqb-true, false≢true}
use Rattle.std.specs.HashMap.{get, hash_map_len}
use Rattle.std.specs.Set.{is_member}
use Rattle.cedar_ids.specs.UidOf.{same_uid}
use Rattle.cedar_queries.specs.laws.Searches.{Visits, search_graph}
use Rattle.cedar_queries.proofs.Layers.{Layered, Within, layers_begin, layers_more, none_within, not_within}
use Rattle.cedar_queries.proofs.Layers.{search_ended, search_found}
use Rattle.cedar_queries.proofs.UidVisits.{first_edges, layer_edges, no_member, positive}
use Rattle.cedar_queries.proofs.search.search.Goals as goal

pub loop-between-init : goal.loop-between-init
loop-between-init g c =
    let G = search_graph c.args.store.now.entities c.args.plain c.args.to.now in
    let begun : c.deref.result.now ≡ c.args.from ∷ [] =
    c.deref.ensures.value ∙ c.in_ok-push.ensures.items ∙ ap (λ l. l ++ c.args.from ∷ []) c.new-layer.ensures.items in
    let count : hash_map_len c.next_layer.new.reached
    ≡ hash_map_len c.args.reached.now + length c.in_ok-layer.layer.items = c.in_ok-layer.ensures.count in
    let none = c.requires.len in
    record {
      layered = layers_begin G c.args.from (get same_uid c.next_layer.new.reached)
          (is_member same_uid c.in_ok-layer.layer.items) (λ a b. is_member same_uid c.deref.result.now a && G a b)
          (get same_uid c.args.reached.now) (λ q. false) c.requires.empty (λ v. refl)
          (first_edges G c.args.from c.deref.result.now begun) c.in_ok-layer.ensures.visits;
      early = λ w. none_within G c.args.from c.args.to.now w;
      count = omega arith;
    }

pub returns-then-contains_key : goal.returns-then-contains_key
returns-then-contains_key g c =
    search_found (search_graph c.args.store.now.entities c.args.plain c.args.to.now) c.args.from
    (get same_uid c.loop-between.reached) (is_member same_uid c.loop-between.layer.items) c.loop-between.between
    c.args.to.now c.loop-between.invariant.layered c.loop-between.invariant.early
    (sym c.contains_key.ensures ∙ c.if-contains_key.true)

pub returns-then-is_empty : goal.returns-then-is_empty
returns-then-is_empty g c =
    search_ended (search_graph c.args.store.now.entities c.args.plain c.args.to.now) c.args.from
    (get same_uid c.loop-between.reached) (is_member same_uid c.loop-between.layer.items) c.loop-between.between
    c.args.to.now c.loop-between.invariant.layered
    (no_member c.loop-between.layer.items
    (sym c.loop-between.layer.ok.0 ∙ eqb-true _ 0 (sym c.is_empty.ensures ∙ c.if-is_empty.true)))
    c.loop-between.invariant.early

pub loop-between-preserved : goal.loop-between-preserved
loop-between-preserved g c =
    let G = search_graph c.args.store.now.entities c.args.plain c.args.to.now in
    let m = c.loop-between.between in
    let us = c.loop-between.layer.items in
    let f = get same_uid c.loop-between.reached in
    let h = get same_uid c.next_layer-in-loop-between.new.reached in
    let next = is_member same_uid c.in_ok-layer-2.layer.items in
    let one : suc m ≡ m + 1 = omega arith in
    let some : 0 < length us = positive (length us)
    (λ z. false≢true (sym (sym c.is_empty.ensures ∙ c.if-is_empty.false)
    ∙ eq-eqb _ 0 (c.loop-between.layer.ok.0 ∙ z))) in
    let before : m + length us ≤ hash_map_len c.loop-between.reached = c.loop-between.invariant.count in
    let more : hash_map_len c.next_layer-in-loop-between.new.reached
    ≡ hash_map_len c.loop-between.reached + length c.in_ok-layer-2.layer.items = c.in_ok-layer-2.ensures.count in
    record {
      layered = subst (Layered G c.args.from h next) one
          (layers_more G c.args.from f (is_member same_uid us) m (λ a b. is_member same_uid us a && G a b) h (λ q. false)
          next c.loop-between.invariant.layered (λ v. refl) (layer_edges G (is_member same_uid us))
          (subst (λ l. Visits (λ a b. is_member same_uid l a && G a b) f h (λ q. false) next)
          c.deref-in-loop-between.ensures.value c.in_ok-layer-2.ensures.visits));
      early = λ w. not_within G c.args.from f (is_member same_uid us) m c.args.to.now c.loop-between.invariant.layered
          (sym c.contains_key.ensures ∙ c.if-contains_key.false)
          (subst (λ k. Within G c.args.from k c.args.to.now) (sym one) w);
      count = omega arith;
    }

pub returns : goal.returns
returns g c =
    let before : c.loop-between.between + length c.loop-between.layer.items ≤ hash_map_len c.loop-between.reached =
    c.loop-between.invariant.count in
    let none : length c.loop-between.layer.items ≡ 0 = omega arith in
    search_ended (search_graph c.args.store.now.entities c.args.plain c.args.to.now) c.args.from
    (get same_uid c.loop-between.reached) (is_member same_uid c.loop-between.layer.items) c.loop-between.between
    c.args.to.now c.loop-between.invariant.layered (no_member c.loop-between.layer.items none)
    c.loop-between.invariant.early
