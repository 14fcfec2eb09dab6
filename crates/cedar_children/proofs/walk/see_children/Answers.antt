use Rattle.std.proofs.Common.{◌≡◌, ◌∙◌, ◌&&◌, ◌||◌, Some, ap, sym, not}
use Rattle.std.proofs.lemmas.Result.{on_ok_weaker}
use Rattle.std.specs.HashMap.{get}
use Rattle.std.specs.HashSet.{contains}
use Rattle.std.specs.Option.{option_copied}
use Rattle.std.specs.Set.{is_member}
use Rattle.cedar_ids.specs.UidOf.{same_uid}
use Rattle.cedar_ids.specs.declared.entity.EntityUID.{EntityUID}
use Rattle.cedar_children.specs.Children.{is_in}
use Rattle.cedar_children.proofs.walk.see_children.Goals as goal

pub returns-in-Some-clause-seen : goal.returns-in-Some-clause-seen
returns-in-Some-clause-seen g c =
    let found : get same_uid c.args.sets.now c.args.uid.now ≡ Some c.in-Some.set.now = sym c.get.ensures.value
    ∙ ap option_copied c.in-Some.is in
    let all = λ (q : EntityUID). sym (ap (λ o. is_in o q) found) in
    on_ok_weaker c.see_each.result (λ h q. h q
    ∙ ap (λ b. contains same_uid c.args.seen.now q || b) (all q)) c.see_each.ensures.seen

pub returns-in-Some-clause-todo : goal.returns-in-Some-clause-todo
returns-in-Some-clause-todo g c =
    let found : get same_uid c.args.sets.now c.args.uid.now ≡ Some c.in-Some.set.now = sym c.get.ensures.value
    ∙ ap option_copied c.in-Some.is in
    let all = λ (q : EntityUID). sym (ap (λ o. is_in o q) found) in
    on_ok_weaker c.see_each.result (λ h q. h q
    ∙ ap (λ b. is_member same_uid c.args.todo.now.items q || (not (contains same_uid c.args.seen.now q) && b))
    (all q)) c.see_each.ensures.todo
