use Rattle.std.proofs.Common.{ap, refl, sym, not, is_some, ◌∙◌, ◌≡◌, ◌&&◌, ◌||◌}
use Rattle.std.proofs.lemmas.Result.{on_ok_weaker}
use Rattle.std.specs.FinMap as finmap
use Rattle.std.specs.HashSet.{contains}
use Rattle.std.specs.List.{filter}
use Rattle.std.specs.Option.{option_map}
use Rattle.std.specs.Set.{is_member}
use Rattle.cedar_ids.specs.UidOf.{same_uid}
use Rattle.cedar_ids.specs.declared.entity.EntityUID.{EntityUID}
use Rattle.cedar_entity.specs.View.{unchanged_parts}
use Rattle.cedar_entity_maps.specs.Edits.{uids_of}
use Rattle.cedar_entity_maps.specs.Modes.{computes, rules_of}
use Rattle.cedar_entities.specs.Present.{with_first}
use Rattle.cedar_entity_maps.specs.Affected.{inserted_in}
use Rattle.cedar_entity_maps.specs.laws.EntityMap.{entity_at, held_map}
use Rattle.cedar_entity_maps.specs.laws.Indexes.{is_parent_at, parentage}
use Rattle.cedar_entities.proofs.Adds.{push_new}
use Rattle.cedar_entity_maps.specs.laws.Seen.{stored}
use Rattle.cedar_entities.proofs.Changing.{adds_settled, adds_unmatched}
use Rattle.cedar_entities.proofs.Edited.{added_alike, known_touched}
use Rattle.cedar_entities.proofs.Ending.{ended_kept}
use Rattle.cedar_entities.proofs.Indexes.{children_back, children_in, if_some}
use Rattle.cedar_entities.proofs.Renewing.{add_ends, parents_forgot}
use Rattle.cedar_entities.proofs.entities.add_to.Goals as goal

pub returns-in_err-insert_each-clause-adds : goal.returns-in_err-insert_each-clause-adds
returns-in_err-insert_each-clause-adds g c =
    adds_unmatched c.args.entities.now c.args.tc_computation c.args.list.items c.from_residual-in_err-insert_each.result _
    c.in_err-insert_each.field-0.0 c.from_residual-in_err-insert_each.ensures.1 c.in_err-insert_each.ensures.err

pub returns-clause-adds : goal.returns-clause-adds
returns-clause-adds g c =
    let m = c.args.entities.now in
    let D = held_map m in
    let L = c.args.list.items in
    let n = c.insert_each.new.entities in
    let N = held_map c.finalize_affected.new.entities in
    let put = push_new m n D L refl c.in_ok-insert_each.ensures.ok in
    let fresh = c.in_ok-fresh.fresh.items in
    let all : fresh ≡ filter (λ u. not (is_some (entity_at m u))) (uids_of L) =
    c.in_ok-fresh.ensures ∙ ap (filter (λ u. not (is_some (entity_at m u))))
    (c.in_ok-uids.ensures ∙ ap uids_of c.deref.ensures.value) in
    let A = c.insert_uids.new.noted.keys in
    let same : (q : EntityUID) → is_member same_uid A q ≡ is_member same_uid (inserted_in D L) q = λ q.
    c.in_ok-insert_uids.ensures.ok q
    ∙ ap (λ ks. is_member same_uid ks q || is_member same_uid fresh q) c.with_hasher-inserted.ensures.empty
    ∙ ap (λ us. is_member same_uid us q)
    (all ∙ ap (λ h. filter (λ u. not (is_some (h u))) (uids_of L)) (stored m D refl)) in
    let affected = known_touched D A (inserted_in D L) (contains same_uid c.in_ok-affected.affected) same
    (c.in_ok-affected.ensures.ok D c.list_if_it_pays.ensures.index (added_alike n D L A put same)) in
    adds_settled m c.args.tc_computation L n N c.finalize_affected.result
    c.in_ok-insert_each.ensures.agree c.in_ok-insert_each.ensures.ok
    (add_ends c.renews_adding-recompute_all.result m n c.forget_each.new.entities L A (rules_of c.args.tc_computation) N
    c.finalize_affected.result (contains same_uid c.in_ok-affected.affected)
    (λ t. c.list_if_it_pays.ensures.index.plain (c.renews_adding-recompute_all.ensures t).0)
    (λ t. ap computes (sym c.rules_of.ensures) ∙ (c.renews_adding-recompute_all.ensures t).1) put same
    c.in_ok-forget_each.ensures.ok affected c.finalize_affected.ensures.ends)

pub returns-clause-children : goal.returns-clause-children
returns-clause-children g c =
    let m = c.args.entities.now in
    let D = held_map m in
    let L = c.args.list.items in
    let n = c.insert_each.new.entities in
    let N = held_map c.finalize_affected.new.entities in
    let put = push_new m n D L refl c.in_ok-insert_each.ensures.ok in
    let fresh = c.in_ok-fresh.fresh.items in
    let all : fresh ≡ filter (λ u. not (is_some (entity_at m u))) (uids_of L) =
    c.in_ok-fresh.ensures
    ∙ ap (filter (λ u. not (is_some (entity_at m u)))) (c.in_ok-uids.ensures ∙ ap uids_of c.deref.ensures.value) in
    let A = c.insert_uids.new.noted.keys in
    let same : (q : EntityUID) → is_member same_uid A q ≡ is_member same_uid (inserted_in D L) q =
    λ q. c.in_ok-insert_uids.ensures.ok q ∙ ap
    (λ ks. is_member same_uid ks q || is_member same_uid fresh q) c.with_hasher-inserted.ensures.empty
    ∙ ap (λ us. is_member same_uid us q) (all
    ∙ ap (λ h. filter (λ u. not (is_some (h u))) (uids_of L)) (stored m D refl)) in
    let J = c.deref-2.result.now in
    let joined : (q : EntityUID) → is_member same_uid J q ≡ is_member same_uid (inserted_in D L) q =
    λ q. ap (λ l. is_member same_uid l q) (c.deref-2.ensures.value ∙ c.in_ok-joining.ensures) ∙ same q in
    let affected = known_touched D A (inserted_in D L) (contains same_uid c.in_ok-affected.affected) same
    (c.in_ok-affected.ensures.ok D c.list_if_it_pays.ensures.index (added_alike n D L A put same)) in
    let o = c.forget_each.new.entities in
    on_ok_weaker c.finalize_affected.result
    (λ s. children_back c.finalize_affected.new.entities N c.join.new.index.children refl
    (if_some _ _ c.join.new.index.children
    (λ ch h p q. h p q ∙ children_in D N L J (entity_at o) joined
    (λ y x. ap (λ e. is_parent_at e y) (c.in_ok-forget_each.ensures.ok x)
    ∙ parents_forgot (c.renews_adding-recompute_all.result && (contains same_uid c.in_ok-affected.affected x
    && not (is_member same_uid A x))) (entity_at n x) y
    ∙ ap (λ f. is_parent_at (f x) y) (stored n (with_first D L) put))
    (λ x. ended_kept (rules_of c.args.tc_computation) _ (held_map n) N s x
    ∙ ap (λ M. option_map unchanged_parts (finmap.get M x)) put) p q)
    (c.join.ensures.children
    (parentage (finmap.get D)) c.list_if_it_pays.ensures.index.children)))
    (add_ends c.renews_adding-recompute_all.result m n o L A (rules_of c.args.tc_computation) N
    c.finalize_affected.result (contains same_uid c.in_ok-affected.affected)
    (λ t. c.list_if_it_pays.ensures.index.plain (c.renews_adding-recompute_all.ensures t).0)
    (λ t. ap computes (sym c.rules_of.ensures) ∙ (c.renews_adding-recompute_all.ensures t).1) put same
    c.in_ok-forget_each.ensures.ok affected c.finalize_affected.ensures.ends).ok
