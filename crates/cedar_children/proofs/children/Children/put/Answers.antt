use Rattle.std.proofs.Common.{◌≡◌, ◌∙◌, ◌||◌, Some, IsSome, ap, refl, subst}
use Rattle.std.specs.HashMap.{get}
use Rattle.std.specs.HashSet.{contains}
use Rattle.cedar_ids.specs.UidOf.{same_uid}
use Rattle.cedar_children.specs.Children.{is_in}
use Rattle.cedar_children.proofs.Sets.{added_at, inserted}
use Rattle.cedar_children.proofs.children.Children.put.Goals as goal

pub returns-in-Some : goal.returns-in-Some
returns-in-Some g c =
    let m = c.args.self.now.sets in
    let parent = c.args.parent.now in
    let child = c.args.child.now in
    let s = c.in-Some.set.now in
    let t = c.insert.new.self in
    let value : Some s ≡ get same_uid m parent = c.in-Some.ensures.value in
    let updates = ((c.get_mut.follows.holds t).3 (subst (λ o. IsSome o) value refl)).0 in
    added_at (get same_uid m) (get same_uid (c.get_mut.follows.lender t)) parent child t updates
    (λ q. inserted s t c.in_ok-clone.field-0 c.in_ok-insert.ensures.updates q
    ∙ ap (λ u. contains same_uid s q || same_uid u q) c.in_ok-clone.ensures.cases
    ∙ ap (λ o. is_in o q || same_uid child q) value)
