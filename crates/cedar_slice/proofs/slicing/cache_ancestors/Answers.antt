use Rattle.std.proofs.Common.{ap, ◌∙◌, ◌||◌}
use Rattle.std.proofs.lemmas.Result.{on_ok_weaker}
use Rattle.std.specs.HashSet.{contains}
use Rattle.cedar_ids.specs.UidOf.{same_uid}
use Rattle.cedar_entity.specs.laws.Views.{members_of_both}
use Rattle.cedar_entity_maps.specs.Modes.{is_ancestor_in}
use Rattle.cedar_slice.proofs.slicing.cache_ancestors.Goals as goal

pub returns-in-Some : goal.returns-in-Some
returns-in-Some g c = on_ok_weaker c.insert_uids.result
    (λ h q. h q ∙ ap (λ b. contains same_uid c.args.noted.now q || b) (members_of_both c.shared_ancestors.ensures q
    ∙ ap (λ o. is_ancestor_in o q) c.in-Some.ensures.value))
    c.insert_uids.ensures
