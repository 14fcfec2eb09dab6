use Rattle.std.proofs.Common.{◌≡◌, ◌+◌, ◌∙◌, ◌&&◌, ◌||◌, ap, arith, refl, sym, not, map, length}
use Rattle.std.specs.HashSet.{contains, hash_set_len}
use Rattle.std.specs.Set.{is_member}
use Rattle.cedar_ids.specs.UidOf.{same_uid}
use Rattle.cedar_ids.specs.declared.entity.EntityUID.{EntityUID}
use Rattle.cedar_children.proofs.Sets.{and_off, member_next, or_off, or_step, todo_step}
use Rattle.cedar_children.proofs.walk.see_each.Goals as goal

pub loop-uid-init : goal.loop-uid-init
loop-uid-init g c = record {
  seen = λ q. sym (or_off (contains same_uid c.args.seen.now q));
  todo =
      λ q. sym (ap (λ b. is_member same_uid c.args.todo.now.items q || b)
      (and_off (not (contains same_uid c.args.seen.now q))) ∙ or_off (is_member same_uid c.args.todo.now.items q));
  count = refl;
}

pub loop-uid-preserved : goal.loop-uid-preserved
loop-uid-preserved g c =
    let uid = c.in-Some.uid.now in
    let more = λ (q : EntityUID). member_next c.loop-uid.yielded c.in-Some.uid q in
    let before = λ (q : EntityUID). is_member same_uid (map (λ x. x.now) c.loop-uid.yielded) q in
    let first = contains same_uid c.args.seen.now in
    let todo = is_member same_uid c.args.todo.now.items in
    let before-count : hash_set_len c.loop-uid.seen + length c.args.todo.now.items
    ≡ hash_set_len c.args.seen.now + length c.loop-uid.todo.items = c.loop-uid.invariant.count in
    let step = c.in_ok-see.ensures.count in
    record {
      seen = λ q. c.in_ok-see.ensures.seen q
          ∙ ap (λ b. b || same_uid uid q) (c.loop-uid.invariant.seen q)
          ∙ or_step (first q) (before q) (same_uid uid q)
          ∙ ap (λ b. first q || b) (sym (more q));
      todo = λ q. c.in_ok-see.ensures.todo q
          ∙ ap (λ b. b || (not (contains same_uid c.loop-uid.seen q) && same_uid uid q))
          (c.loop-uid.invariant.todo q)
          ∙ ap (λ b. (todo q || (not (first q) && before q)) || (not b && same_uid uid q))
          (c.loop-uid.invariant.seen q)
          ∙ todo_step (todo q) (first q) (before q) (same_uid uid q)
          ∙ ap (λ b. todo q || (not (first q) && b)) (sym (more q));
      count = omega arith;
    }
