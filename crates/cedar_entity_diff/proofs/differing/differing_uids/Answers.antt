use Rattle.std.proofs.Common.{◌∙◌, ap, sym}
use Rattle.std.specs.FinMap as finmap
use Rattle.std.specs.FinSet as set
use Rattle.cedar_uid_sets.specs.UidSets.{UidValues}
use Rattle.cedar_uid_sets.specs.laws.Sets.{contains_listed}
use Rattle.cedar_entity_diff.proofs.UidsFound.{equal_lookups}
use Rattle.cedar_entity_diff.proofs.differing.differing_uids.Goals as goal

pub returns-clause-others : goal.returns-clause-others
returns-clause-others g c q m =
    let uids = c.push_uids_of_new.new.uids.items in
    let sorted = c.into_pointers.result.items in
    let unlisted =
    sym (contains_listed uids q)
    ∙ ap (λ (s : UidValues). set.contains s q) (sym (c.into_pointers.ensures.all ∙ c.in_ok-set.ensures))
    ∙ contains_listed sorted q ∙ m in
    equal_lookups (finmap.get c.args.store.now.entities q) (finmap.get c.args.other.now.entities q)
    (c.in_ok-uids.ensures.finds q (c.in_ok-push_uids_of_new.ensures.stays q unlisted))
    (c.in_ok-push_uids_of_new.ensures.finds q unlisted)
