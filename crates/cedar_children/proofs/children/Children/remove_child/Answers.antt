use Rattle.std.proofs.Common.{◌≡◌, ◌∙◌, ◌&&◌, Some, IsSome, ap, not, refl, subst, cond}
use Rattle.std.proofs.lemmas.List.{nil_from_length}
use Rattle.std.specs.HashMap.{get}
use Rattle.std.specs.Set.{is_member}
use Rattle.cedar_ids.specs.UidOf.{same_uid}
use Rattle.cedar_ids.specs.laws.UidOfLaws.{same_uid_decides}
use Rattle.cedar_children.specs.Children.{is_in}
use Rattle.cedar_children.proofs.Sets.{removed, taken_at}
use Rattle.cedar_children.proofs.children.Children.remove_child.Goals as goal

pub returns-in-Some-clause-taken : goal.returns-in-Some-clause-taken
returns-in-Some-clause-taken g c =
    let m = c.args.self.now.sets in
    let parent = c.args.parent.now in
    let child = c.args.child.now in
    let s = c.in-Some.set.now in
    let t = c.remove.new.self in
    let value : Some s ≡ get same_uid m parent = c.in-Some.ensures.value in
    let updates = ((c.get_mut.follows.holds t).3 (subst (λ o. IsSome o) value refl)).0 in
    taken_at (get same_uid m) (get same_uid (c.get_mut.follows.lender t)) parent child t updates
    (λ q. removed s t child c.remove.ensures.updates q ∙ ap (λ o. is_in o q && not (same_uid child q)) value)

pub returns-in-Some-clause-none : goal.returns-in-Some-clause-none
returns-in-Some-clause-none g c e q =
    let m = c.args.self.now.sets in
    let parent = c.args.parent.now in
    let s = c.in-Some.set.now in
    let t = c.remove.new.self in
    let value : Some s ≡ get same_uid m parent = c.in-Some.ensures.value in
    let updates = ((c.get_mut.follows.holds t).3 (subst (λ o. IsSome o) value refl)).0 in
    ap (λ o. is_in o q) (updates parent ∙ ap
    (λ b. cond b (Some t) (get same_uid m parent)) ((same_uid_decides parent parent).1 refl))
    ∙ ap (λ l. is_member same_uid l q) (nil_from_length t.keys (c.is_empty.ensures.0 e))
