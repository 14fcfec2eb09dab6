-- The unknown entities of a policy.
use Rattle.std.specs.Prelude.{◌≡◌, List, Bool, true, ◌&&◌, is_some}
use Rattle.std.specs.List.{list_all, list_any}
use Rattle.std.specs.HashSet.{HashSet, contains}
use Rattle.cedar_ids.specs.Escape.{is_ascii}
use Rattle.cedar_ids.specs.Name.{NameParts}
use Rattle.cedar_ids.specs.Printed.{printed_uid}
use Rattle.cedar_ids.specs.Reading.{is_id}
use Rattle.cedar_ids.specs.Texts.{same_text}
use Rattle.cedar_ids.specs.Uid.{UidParts}
use Rattle.cedar_ids.specs.UidOf.{uid_parts, same_uid}
use Rattle.cedar_ids.specs.declared.entity.EntityUID.{EntityUID}
use Rattle.cedar_terms.specs.UnknownParts.{UnknownParts}

-- Whether each component of a name is an identifier that is not reserved.
abbrev pub is_name : NameParts → Bool
is_name n = list_all is_id n.path && is_id n.basename

-- Whether an unknown has an entity type, and its name is the printed form of this uid.
abbrev pub names_uid : UidParts → UnknownParts → Bool
names_uid u x = is_some x.annotation && ((is_name u.name && is_ascii u.eid) && same_text x.name (printed_uid u))

-- Whether one of the unknowns represents this uid.
abbrev pub is_unknown_entity : UidParts → List UnknownParts → Bool
is_unknown_entity u xs = list_any (names_uid u) xs

-- Whether a set contains, among the uids with an ASCII eid, exactly those that the unknowns represent.
abbrev pub AreUnknownEntities : {S : Type 0} → HashSet EntityUID S → List UnknownParts → Type 0
AreUnknownEntities set xs =
    (u : EntityUID) → is_ascii (uid_parts u).eid ≡ true → contains same_uid set u ≡ is_unknown_entity (uid_parts u) xs
