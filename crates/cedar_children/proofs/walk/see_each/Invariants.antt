use Rattle.std.proofs.Common.{◌≡◌, ◌+◌, ◌&&◌, ◌||◌, length, map, not}
use Rattle.std.specs.HashSet.{contains, hash_set_len}
use Rattle.std.specs.Set.{is_member}
use Rattle.cedar_ids.specs.UidOf.{same_uid}
use Rattle.cedar_ids.specs.declared.entity.EntityUID.{EntityUID}
use Rattle.cedar_children.proofs.walk.see_each.Given as goal

abbrev pub invariant-loop-uid : goal.invariant-loop-uid
invariant-loop-uid g l = record {
  seen : (q : EntityUID) → contains same_uid l.seen q
      ≡ (contains same_uid l.initial.seen q || is_member same_uid (map (λ x. x.now) l.yielded) q);
  todo : (q : EntityUID) → is_member same_uid l.todo.items q
      ≡ (is_member same_uid l.initial.todo.items q
      || (not (contains same_uid l.initial.seen q) && is_member same_uid (map (λ x. x.now) l.yielded) q));
  count : hash_set_len l.seen + length l.initial.todo.items ≡ hash_set_len l.initial.seen + length l.todo.items;
}
