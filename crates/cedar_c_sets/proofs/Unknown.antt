-- The uids of a set that some unknowns name.
use Rattle.std.proofs.Common.{◌≡◌, List, ap, ◌∙◌}
use Rattle.std.specs.FinSet as set
use Rattle.std.specs.HashSet.{HashSet}
use Rattle.std.specs.Set.{is_member}
use Rattle.cedar_ids.specs.UidOf.{same_uid, uid_order}
use Rattle.cedar_ids.specs.declared.entity.EntityUID.{EntityUID}
use Rattle.cedar_terms.specs.UnknownParts.{UnknownParts}
use Rattle.cedar_uid_sets.specs.UidSets.{UidValues}
use Rattle.cedar_uid_sets.specs.laws.Sets.{contains_listed}
use Rattle.cedar_policy.specs.Unknowns.{AreUnknownEntities}
use Rattle.cedar_c_sets.specs.Unknowns.{AreNamedBy}

-- The set of the uids that some unknowns name.
pub named_by : {S : Type 0} (found : HashSet EntityUID S) (xs : List UnknownParts) (s : UidValues) (us : List EntityUID)
    → AreUnknownEntities found xs → s ≡ set.from_list {R = uid_order} found.keys
    → ((q : EntityUID) → is_member same_uid us q ≡ set.contains s q) → AreNamedBy xs us
named_by found xs s us named made members u ascii =
    members u ∙ ap (λ (t : UidValues). set.contains t u) made ∙ contains_listed found.keys u ∙ named u ascii
