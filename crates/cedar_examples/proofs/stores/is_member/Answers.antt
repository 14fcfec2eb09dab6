use Rattle.std.proofs.Common.{ap, map, subst, sym, ◌∙◌}
use Rattle.std.proofs.lemmas.Result.{err_from_is_err_and}
use Rattle.std.proofs.lemmas.Iterator.Consumers.{YieldsList-end}
use Rattle.std.proofs.lemmas.Iterator.Adapters.{YieldsList-from_vec}
use Rattle.cedar_entity_maps.specs.Plain.{IsPlainStore, input_of}
use Rattle.cedar_entity_maps.specs.EditErrors.{IsAddError}
use Rattle.cedar_entity_maps.specs.InputStore.{added, empty_input, input_entity}
use Rattle.cedar_examples.proofs.Bare.{has_no_indirect, listed_more, map_same}
use Rattle.cedar_examples.proofs.stores.is_member.Goals as goal

pub loop-uid-preserved : goal.loop-uid-preserved
loop-uid-preserved c =
    let made = c.in_ok-with_shared_parents.ensures in
    let more =
    listed_more (λ m. input_entity m.0 m.1.items) c.loop-uid.entities.items c.push.new.self.items c.loop-uid.yielded
    c.in_ok-with_shared_parents.field-0 (
      c.in-Some.uid,
      c.in-Some.groups,
    ) c.loop-uid.invariant.inputs c.loop-uid.invariant.bare c.in_ok-push.ensures.items
    (ap input_of made) (has_no_indirect _ _ _ made) in
    record { inputs = more.0; bare = more.1 }

pub returns-in_err-store-clause-err : goal.returns-in_err-store-clause-err
returns-in_err-store-clause-err c =
    let gives = c.into_iter-uid-iterator.ensures.into_iter_gives in
    let whole = sym (map_same c.loop-uid.yielded)
    ∙ (YieldsList-end (YieldsList-from_vec {s = c.into_iter-uid-iterator.result} c.args.members.items gives.0
    (gives.1 ∙ c.args.members.ok.0)) c.loop-uid.yielded c.loop-uid.uid-iterator c.loop-uid.yielded_by c.next.result
    c.next.new.self c.in-None.is c.next.ensures.steps).0 in
    let all = c.loop-uid.invariant.inputs ∙ ap (map (λ m. input_entity m.0 m.1.items)) whole in
    let p = err_from_is_err_and c.from_residual-in_err-store.result c.from_residual-in_err-store.ensures.1 in
    rw (p.1, p.2) (subst (λ l. IsAddError empty_input l c.in_err-store.field-0.0) all
    (c.in_err-store.ensures.plain c.loop-uid.invariant.bare).err)

pub returns-clause-ok : goal.returns-clause-ok
returns-clause-ok c =
    let gives = c.into_iter-uid-iterator.ensures.into_iter_gives in
    let whole = sym (map_same c.loop-uid.yielded)
    ∙ (YieldsList-end
    (YieldsList-from_vec {s = c.into_iter-uid-iterator.result} c.args.members.items gives.0 (gives.1
    ∙ c.args.members.ok.0)) c.loop-uid.yielded c.loop-uid.uid-iterator c.loop-uid.yielded_by c.next.result
    c.next.new.self c.in-None.is c.next.ensures.steps).0 in
    let all = c.loop-uid.invariant.inputs ∙ ap (map (λ m. input_entity m.0 m.1.items)) whole in
    let plain = subst (λ l. IsPlainStore (added empty_input l) c.in_ok-store.store) all
    (c.in_ok-store.ensures.plain c.loop-uid.invariant.bare).ok in
    c.is_below.ensures (added empty_input (map (λ m. input_entity m.0 m.1.items) c.args.members.items)) plain
