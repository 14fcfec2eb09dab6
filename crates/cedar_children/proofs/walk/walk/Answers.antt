use Rattle.std.proofs.Common.{◌≡◌, ◌∙◌, ◌+◌, [], ap, arith, length, sym}
use Rattle.std.proofs.lemmas.List.{length-append, nil_from_length}
use Rattle.std.specs.HashMap.{get}
use Rattle.std.specs.HashSet.{contains, hash_set_len}
use Rattle.std.specs.Set.{is_member}
use Rattle.cedar_ids.specs.UidOf.{same_uid}
use Rattle.cedar_children.specs.Children.{is_in}
use Rattle.cedar_children.proofs.Sets.{member_push}
use Rattle.cedar_children.proofs.Walks.{all_below, looked_at}
use Rattle.cedar_children.proofs.walk.walk.Goals as goal

pub returns-in-None : goal.returns-in-None
returns-in-None g c =
    let none : c.loop-round.todo.items ≡ [] =
    nil_from_length c.loop-round.todo.items (sym c.loop-round.todo.ok.0 ∙ c.in-None.ensures.cases.0) in
    all_below (λ p. is_in (get same_uid c.args.sets.now p)) c.args.uids.now.keys (contains same_uid c.loop-round.seen)
    (is_member same_uid c.loop-round.todo.items) c.loop-round.invariant.walks
    (λ p. ap (λ l. is_member same_uid l p) none)

pub loop-round-preserved : goal.loop-round-preserved
loop-round-preserved g c =
    let popped : length c.loop-round.todo.items ≡ length c.pop.new.self.items + 1 = ap length c.in-Some.ensures.items
    ∙ length-append c.pop.new.self.items _ in
    let before : hash_set_len c.loop-round.seen ≡ c.loop-round._round + length c.loop-round.todo.items =
    c.loop-round.invariant.count in
    let step : hash_set_len c.see_children.new.seen + length c.pop.new.self.items
    ≡ hash_set_len c.loop-round.seen + length c.see_children.new.todo.items =
    c.in_ok-see_children-in-Some.ensures.count in
    record {
      walks =
          looked_at (λ p. is_in (get same_uid c.args.sets.now p)) c.args.uids.now.keys
          (contains same_uid c.loop-round.seen) (is_member same_uid c.loop-round.todo.items) _ _
          (is_member same_uid c.pop.new.self.items) c.in-Some.uid c.loop-round.invariant.walks
          (λ p. ap (λ l. is_member same_uid l p) c.in-Some.ensures.items
          ∙ member_push c.pop.new.self.items c.in-Some.uid p) c.in_ok-see_children-in-Some.ensures.seen
          c.in_ok-see_children-in-Some.ensures.todo;
      count = omega arith;
    }
