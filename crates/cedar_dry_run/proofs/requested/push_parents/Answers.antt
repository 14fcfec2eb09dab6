use Rattle.std.proofs.Common.{ap, ◌∙◌, ◌||◌, ◌++◌}
use Rattle.std.proofs.lemmas.Iterator.Consumers.{YieldsList-from_first, YieldsList-end}
use Rattle.std.specs.Set.{is_member}
use Rattle.cedar_ids.specs.UidOf.{same_uid}
use Rattle.cedar_uid_sets.specs.laws.Sets.{is_member-append}
use Rattle.cedar_dry_run.proofs.requested.push_parents.Goals as goal

pub returns : goal.returns
returns c q =
    let us = c.parents-parent-items.result in
    let before = c.args.uids.now.items in
    let whole =
    (YieldsList-end (YieldsList-from_first (λ x. x.now)
    (λ l. l) {s = c.into_iter-parent-iterator.result} us c.into_iter-parent-iterator.ensures.into_iter_gives)
    c.loop-parent.yielded c.loop-parent.parent-iterator c.loop-parent.yielded_by c.next.result c.next.new.self c.in-None.is
    c.next.ensures.steps).0 in
    ap (λ l. is_member same_uid l q) (c.loop-parent.invariant ∙ ap (λ l. before ++ l) whole)
    ∙ is_member-append before us q
    ∙ ap (λ b. is_member same_uid before q || b) (c.parents-parent-items.ensures.lists.members q)
