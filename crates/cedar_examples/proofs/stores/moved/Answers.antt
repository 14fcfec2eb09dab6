use Rattle.std.proofs.Common.{◌∷◌, [], ap, subst, sym, ◌∙◌}
use Rattle.std.proofs.lemmas.Result.{err_from_is_err_and}
use Rattle.cedar_entity_maps.specs.Plain.{IsPlainStore, entities_in}
use Rattle.cedar_entity_maps.specs.EditErrors.{IsOverwriteError}
use Rattle.cedar_entity_maps.specs.InputStore.{input_entity, overwritten}
use Rattle.cedar_examples.proofs.Bare.{one_bare}
use Rattle.cedar_examples.proofs.Edited.{refused_for_memory, removed_all}
use Rattle.cedar_examples.proofs.stores.moved.Goals as goal

pub returns-in_err-entity-clause-err : goal.returns-in_err-entity-clause-err
returns-in_err-entity-clause-err c =
    let p = err_from_is_err_and c.from_residual-in_err-entity.result c.from_residual-in_err-entity.ensures.1 in
    rw (p.1, p.2) (λ W plain. tt)

pub returns-in_err-store-clause-err : goal.returns-in_err-store-clause-err
returns-in_err-store-clause-err c =
    let one =
    one_bare (entities_in c.in_ok-vec.field-0.items) c.in_ok-entity.entity.value c.args.user c.args.groups.items
    (ap entities_in c.in_ok-vec.ensures.items) (c.in_ok-entity.ensures.ok ∙ c.in_ok-with_shared_parents.ensures) in
    let p = err_from_is_err_and c.from_residual-in_err-store.result c.from_residual-in_err-store.ensures.1 in
    rw (p.1, p.2) (λ W plain. subst (λ l. IsOverwriteError W l c.in_err-store.field-0.0) one.1
    (c.in_err-store.ensures.plain W (subst (IsPlainStore W) (sym c.store.view_is) plain) one.0).err)

pub returns-clause-ok : goal.returns-clause-ok
returns-clause-ok c =
    let one =
    one_bare (entities_in c.in_ok-vec.field-0.items) c.in_ok-entity.entity.value c.args.user c.args.groups.items
    (ap entities_in c.in_ok-vec.ensures.items) (c.in_ok-entity.ensures.ok ∙ c.in_ok-with_shared_parents.ensures) in
    removed_all c.args.store c.in_ok-store.store (input_entity c.args.user c.args.groups.items ∷ [])
    (λ W plain. subst (λ l. IsPlainStore (overwritten W l) c.in_ok-store.store) one.1
    (c.in_ok-store.ensures.plain W (subst (IsPlainStore W) (sym c.store.view_is) plain) one.0).ok)
    c.remove_entities.result c.in_ok-vec-2.field-0.items c.args.closed c.in_ok-vec-2.ensures.items
    c.remove_entities.ensures.plain

pub returns-clause-err : goal.returns-clause-err
returns-clause-err c =
    let one =
    one_bare (entities_in c.in_ok-vec.field-0.items) c.in_ok-entity.entity.value c.args.user c.args.groups.items
    (ap entities_in c.in_ok-vec.ensures.items) (c.in_ok-entity.ensures.ok ∙ c.in_ok-with_shared_parents.ensures) in
    refused_for_memory c.args.store c.in_ok-store.store (input_entity c.args.user c.args.groups.items ∷ [])
    (λ W plain. subst (λ l. IsPlainStore (overwritten W l) c.in_ok-store.store) one.1
    (c.in_ok-store.ensures.plain W (subst (IsPlainStore W) (sym c.store.view_is) plain) one.0).ok)
    c.remove_entities.result c.in_ok-vec-2.field-0.items c.remove_entities.ensures.plain
