use Rattle.std.proofs.Common.{ap, sym, subst, ◌≡◌, ◌∙◌, ◌++◌, map, filter_map, option_to_list}
use Rattle.std.specs.FinMap as finmap
use Rattle.std.specs.Option.{IfSome}
use Rattle.cedar_entity_maps.specs.laws.Lists.{all_push}
use Rattle.cedar_slice.proofs.Copies.{AreKeyed}
use Rattle.cedar_slice.proofs.Wanting.{found_push, map_append_one}
use Rattle.cedar_slice.proofs.slicing.copies_of.Goals as goal

pub loop-uid-preserved : goal.loop-uid-preserved
loop-uid-preserved g c =
    let entity_at = finmap.get c.args.store.now.entities in
    let done = map (λ x. x.now) c.loop-uid.yielded in
    let more = sym (map_append_one (λ x. x.now) c.loop-uid.yielded c.in-Some.uid) in (
      c.in_ok-copy_held.ensures.copies
          ∙ ap (λ l. l ++ option_to_list (entity_at c.in-Some.uid.now)) c.loop-uid.invariant.0
          ∙ sym (found_push entity_at done c.in-Some.uid.now)
          ∙ ap (filter_map entity_at) more,
      subst (AreKeyed c.args.store.now.entities) more
          (all_push (λ k. IfSome (entity_at k) (λ e. e.uid ≡ k)) done c.in-Some.uid.now c.loop-uid.invariant.1
          (c.in_ok-copy_held.ensures.keyed c.in-Some.uid.now)),
    )
