use Rattle.std.proofs.Common.{◌≡◌, ◌∙◌, ◌||◌, Some, ap, cond, false, sym}
use Rattle.std.specs.HashMap.{get}
use Rattle.std.specs.HashSet.{contains}
use Rattle.std.specs.Set.{is_member}
use Rattle.cedar_ids.specs.UidOf.{same_uid}
use Rattle.cedar_children.proofs.Sets.{added_at, inserted}
use Rattle.cedar_children.proofs.children.Children.insert_first_child.Goals as goal

pub returns : goal.returns
returns g c =
    let m = c.args.self.now.sets in
    let parent = c.args.parent.now in
    let child = c.args.child.now in
    let s = c.with_hasher-set.result in
    let t = c.insert.new.self in
    added_at (get same_uid m) (get same_uid c.insert-2.new.self) parent child t
    (λ p. c.in_ok-insert-2.ensures.updates.0 p
    ∙ ap (λ u. cond (same_uid u p) (Some t) (get same_uid m p)) c.in_ok-clone-3.ensures.cases)
    (λ q. inserted s t c.in_ok-clone-2.field-0 c.in_ok-insert.ensures.updates q
    ∙ ap (λ u. contains same_uid s q || same_uid u q) c.in_ok-clone-2.ensures.cases
    ∙ ap (λ b. b || same_uid child q) (ap (λ l. is_member same_uid l q) c.with_hasher-set.ensures.empty
    ∙ sym (c.requires q)))
