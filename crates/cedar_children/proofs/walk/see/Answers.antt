use Rattle.std.proofs.Common.{◌≡◌, ◌∙◌, ◌+◌, ◌||◌, if◌then◌else◌, ap, arith, false, length, not, sym}
use Rattle.std.proofs.lemmas.List.{length-append}
use Rattle.std.specs.HashSet.{contains, hash_set_len}
use Rattle.std.specs.Set.{is_member}
use Rattle.cedar_ids.specs.UidOf.{same_uid}
use Rattle.cedar_children.proofs.Sets.{absent_alone, member_push}
use Rattle.cedar_children.proofs.walk.see.Goals as goal

pub returns-clause-todo : goal.returns-clause-todo
returns-clause-todo g c q =
    ap (λ l. is_member same_uid l q) c.in_ok-push.ensures.items
    ∙ member_push c.args.todo.now.items c.in_ok-clone.field-0 q
    ∙ ap (λ u. is_member same_uid c.args.todo.now.items q || same_uid u q) c.in_ok-clone.ensures.cases
    ∙ ap (λ b. is_member same_uid c.args.todo.now.items q || b)
    (absent_alone (contains same_uid c.args.seen.now) c.args.uid.now q (sym c.contains.ensures
    ∙ c.if-contains.false))

pub returns-clause-count : goal.returns-clause-count
returns-clause-count g c =
    let new : contains same_uid c.args.seen.now c.in_ok-clone-2.field-0 ≡ false =
    ap (contains same_uid c.args.seen.now) c.in_ok-clone-2.ensures.cases ∙ sym c.contains.ensures
    ∙ c.if-contains.false in
    let one : hash_set_len c.insert.new.self ≡ hash_set_len c.args.seen.now + 1 =
    c.in_ok-insert.ensures.len
    ∙ ap (λ b. hash_set_len c.args.seen.now + (if b then 1 else 0)) (c.in_ok-insert.ensures.added ∙ ap not new) in
    let more : length c.push.new.self.items ≡ length c.args.todo.now.items + 1 = ap length c.in_ok-push.ensures.items
    ∙ length-append c.args.todo.now.items _ in
    omega arith
