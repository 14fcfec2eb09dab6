-- The unknown entities in the condition of a policy, and their texts.
use Rattle.std.specs.Prelude.{◌≡◌, ℕ, List, true}
use Rattle.std.specs.Set.{is_member}
use Rattle.cedar_ids.specs.Escape.{is_ascii}
use Rattle.cedar_ids.specs.UidOf.{same_uid, uid_parts}
use Rattle.cedar_ids.specs.declared.entity.EntityUID.{EntityUID}
use Rattle.cedar_terms.specs.UnknownParts.{UnknownParts}
use Rattle.cedar_terms.specs.Walk.{unknowns_of}
use Rattle.cedar_uid_sets.specs.UidSets.{Ascend}
use Rattle.cedar_body.specs.Bodies.{condition}
use Rattle.cedar_policy.specs.Policies.{PolicyParts}
use Rattle.cedar_policy.specs.Unknowns.{is_unknown_entity}
use Rattle.cedar_c_lists.specs.Texts.{AreTextsOf}

-- Holds if the list has exactly the uids that some unknowns name. Uids with a non-ASCII eid are not considered.
abbrev pub AreNamedBy : List UnknownParts → List EntityUID → Type 0
AreNamedBy xs us =
    (u : EntityUID) → is_ascii (uid_parts u).eid ≡ true → is_member same_uid us u ≡ is_unknown_entity (uid_parts u) xs

-- Holds if the texts are the texts of the uids of the unknowns in the condition of a policy: ascending, each once.
abbrev pub AreUnknownIn : PolicyParts → List (List ℕ) → Type 0
AreUnknownIn p texts =
    (us : List EntityUID) × Ascend us × AreNamedBy (unknowns_of (condition p.template)) us × AreTextsOf us texts
