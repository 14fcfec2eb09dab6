use Rattle.std.proofs.Common.{[], ap, subst, sym, ◌++◌, ◌∙◌, ◌∷◌, List}
use Rattle.std.proofs.lemmas.Iterator.Consumers.{YieldsList-end}
use Rattle.std.proofs.lemmas.Iterator.Adapters.{YieldsList-from_vec}
use Rattle.cedar_ids.specs.declared.entity.EntityUID.{EntityUID}
use Rattle.cedar_entity.specs.View.{EntityView}
use Rattle.cedar_entity_maps.specs.laws.Edits.{last_entity}
use Rattle.cedar_entity_maps.specs.laws.EntityMap.{held_map}
use Rattle.cedar_entity_maps.specs.laws.Lists.{map_same}
use Rattle.cedar_entities.specs.laws.SameParents.{BothAt}
use Rattle.cedar_entities.proofs.InPlace.{rows_push}
use Rattle.cedar_entities.proofs.same_parents.with_rows.Goals as goal

pub loop-incoming-preserved : goal.loop-incoming-preserved
loop-incoming-preserved g c q =
    subst (λ (l : List EntityView). BothAt (held_map c.args.entities.now) q (last_entity (c.loop-incoming.yielded ++ c.in-Some.incoming ∷ []) q)
    (last_entity l q)) (sym c.in_ok-push.ensures.items)
    (rows_push (held_map c.args.entities.now) c.loop-incoming.yielded c.loop-incoming.all.items c.in-Some.incoming
    c.in_ok-with_row.field-0 c.in_ok-with_row.ensures.ok c.loop-incoming.invariant q)

pub returns-clause-ok : goal.returns-clause-ok
returns-clause-ok g c q =
    let gives = c.into_iter-incoming-iterator.ensures.into_iter_gives in
    let whole = sym (map_same c.loop-incoming.yielded)
    ∙ (YieldsList-end
    (YieldsList-from_vec {s = c.into_iter-incoming-iterator.result} c.args.list.items gives.0 (gives.1
    ∙ c.args.list.ok.0)) c.loop-incoming.yielded c.loop-incoming.incoming-iterator c.loop-incoming.yielded_by
    c.next.result c.next.new.self c.in-None.is c.next.ensures.steps).0 in
    subst (λ (l : List EntityView). BothAt (held_map c.args.entities.now) q (last_entity l q)
    (last_entity c.loop-incoming.all.items q)) whole (c.loop-incoming.invariant q)
