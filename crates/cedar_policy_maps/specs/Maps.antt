-- The three maps of a policy set, and their invariant.
use Rattle.std.specs.Prelude.{◌≡◌, ℕ, List, [], ◌∷◌, map, Option, Some, None, false, not}
use Rattle.std.specs.List.{filter, find, list_any}
use Rattle.std.specs.Map.{keys_of, values_of}
use Rattle.std.specs.declared.rc.Rc.{Rc}
use Rattle.std.specs.declared.alloc.Global.{Global}
use Rattle.indexmap.specs.IndexSet.{IndexSet}
use Rattle.cedar_body.specs.Bodies.{BodyParts}
use Rattle.cedar_policy.specs.Policies.{PolicyParts, policy_id}
use Rattle.cedar_policy_maps.specs.PolicySets.{SetParts, IsPolicySet, is_body_at, is_policy_at}
use Rattle.cedar_policy_maps.specs.Lists.{ids_in}

-- The entries of the three maps, each in the order of its map: bodies, policies and lists of ids.
pub record Maps : Type 0 where
  pub bodies : List (List ℕ × BodyParts)
  pub policies : List (List ℕ × PolicyParts)
  pub listed : List (List ℕ × List (List ℕ))

-- The entries of a map of shared bodies, as callers see them.
abbrev pub shared_of : List (List ℕ × Rc BodyParts Global) → List (List ℕ × BodyParts)
shared_of es = map (λ e. (e.0, e.1.value)) es

-- The entries of a map of sets of ids, as callers see them.
abbrev pub lists_of : {S : Type 0} → List (List ℕ × IndexSet (List ℕ) S) → List (List ℕ × List (List ℕ))
lists_of es = map (λ e. (e.0, e.1.keys)) es

-- The entries of three maps, as callers see them.
abbrev pub maps_of : {S : Type 0} → List (List ℕ × Rc BodyParts Global) → List (List ℕ × PolicyParts)
    → List (List ℕ × IndexSet (List ℕ) S) → Maps
maps_of ts ps ls = record { bodies = shared_of ts; policies = ps; listed = lists_of ls }

-- The policy set that the maps contain: the values of the first two maps, in order.
abbrev pub set_in : Maps → SetParts
set_in m = record { bodies = values_of m.bodies; policies = values_of m.policies }

-- The ids of the policies that use each body, by the id of the body.
abbrev pub ids_by_body : List BodyParts → List PolicyParts → List (List ℕ × List (List ℕ))
ids_by_body ts ps = map (λ t. (t.id, ids_in t.id ps)) ts

-- The bodies that are templates: those whose id no policy has.
abbrev pub templates_in : List PolicyParts → List BodyParts → List BodyParts
templates_in ps ts = filter (λ t. not (list_any (is_policy_at t.id) ps)) ts

-- The invariant of the three maps. They contain a policy set. Bodies and policies have their own ids as keys. The third
-- map has the ids of all templates, in the order of the bodies. For each template it has the ids of the links, in the
-- order of the policies.
pub record DoAgree (m : Maps) : Type 0 where
  pub policy_set : IsPolicySet (set_in m)
  pub bodies_by_id : keys_of m.bodies ≡ map (λ t. t.id) (values_of m.bodies)
  pub policies_by_id : keys_of m.policies ≡ map policy_id (values_of m.policies)
  pub all_listed : m.listed ≡ ids_by_body (templates_in (values_of m.policies) (values_of m.bodies))
      (values_of m.policies)

-- ---- Maps from a caller

-- Whether a policy with this optional link id fits a set. Its template is among the bodies. If it is a link, no body
-- has its id, and its template is not the body of a static policy.
abbrev pub IsPlacedBy : Option (List ℕ) → SetParts → PolicyParts → Type 0
IsPlacedBy None b p = find (is_body_at p.template.id) b.bodies ≡ Some p.template
IsPlacedBy (Some l) b p =
    (list_any (is_body_at l) b.bodies ≡ false)
    × (find (is_body_at p.template.id) b.bodies ≡ Some p.template)
    × (list_any (is_policy_at p.template.id) b.policies ≡ false)

-- Whether `IsPlacedBy` holds of each of some policies.
abbrev pub ArePlaced : SetParts → List PolicyParts → Type 0
ArePlaced b [] = Unit {0}
ArePlaced b (p ∷ ps) = IsPlacedBy p.link b p × ArePlaced b ps

-- The conditions on maps from a caller. Each policy fits the set. Bodies and policies have their own ids as keys. The
-- third map has the ids of all bodies, in their order. For each body it has the ids of the policies that use it, in the
-- order of the policies.
pub record CanMakeSet (m : Maps) : Type 0 where
  pub placed : ArePlaced (set_in m) (values_of m.policies)
  pub bodies_by_id : keys_of m.bodies ≡ map (λ t. t.id) (values_of m.bodies)
  pub policies_by_id : keys_of m.policies ≡ map policy_id (values_of m.policies)
  pub all_listed : m.listed ≡ ids_by_body (values_of m.bodies) (values_of m.policies)
