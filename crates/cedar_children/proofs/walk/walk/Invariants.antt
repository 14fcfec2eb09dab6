use Rattle.std.proofs.Common.{◌≡◌, ◌+◌, length}
use Rattle.std.specs.HashMap.{get}
use Rattle.std.specs.HashSet.{contains, hash_set_len}
use Rattle.std.specs.Set.{is_member}
use Rattle.cedar_ids.specs.UidOf.{same_uid}
use Rattle.cedar_children.specs.Children.{is_in}
use Rattle.cedar_children.proofs.Walks.{Walks}
use Rattle.cedar_children.proofs.walk.walk.Given as goal

abbrev pub invariant-loop-round : goal.invariant-loop-round
invariant-loop-round g l = record {
  walks : Walks (λ p. is_in (get same_uid l.sets p)) l.uids.keys (contains same_uid l.seen)
      (is_member same_uid l.todo.items);
  count : hash_set_len l.seen ≡ l._round + length l.todo.items;
}
