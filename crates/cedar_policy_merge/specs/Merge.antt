-- The merge of another policy set into a policy set: the ids in conflict, their new ids, and the merged set. In the
-- definitions, `here` is the set that changes, which the comments call "this set". `other` is the set that is merged
-- into it.
use Rattle.std.specs.Prelude.{◌≡◌, ℕ, ◌<◌, List, [], ◌∷◌, ◌++◌, Bool, false, not, ◌&&◌, map}
use Rattle.std.specs.Prelude.{◌↔◌, ◌+◌, length, true, IfOk, Result, Ok, Err}
use Rattle.std.specs.List.{filter, list_any}
use Rattle.std.specs.Map.{lookup, keys_of, values_of}
use Rattle.std.specs.Option.{option_eq, option_map, unwrap_or}
use Rattle.indexmap.specs.IndexSet.{insert_all}
use Rattle.cedar_ids.specs.Texts.{same_text}
use Rattle.cedar_body.specs.Bodies.{BodyParts, with_id}
use Rattle.cedar_body.specs.BodyEquality.{same_body}
use Rattle.cedar_binding.specs.EnvEquality.{same_env}
use Rattle.cedar_policy.specs.Policies.{PolicyParts, policy_id}
use Rattle.cedar_policy_set_errors.specs.declared.err.PolicySetError.{PolicySetError}
use Rattle.cedar_policy_set_errors.specs.declared.err.PolicySetError.TheVariants.{Occupied, Memory}
use Rattle.cedar_policy_maps.specs.PolicySets.{SetParts, Binding, Static, Template, Link, is_body_at, is_policy_at}
use Rattle.cedar_policy_maps.specs.PolicySets.{is_bound, bound_at, AreOnce}
use Rattle.cedar_policy_merge.specs.Fresh.{numbered, is_bound_in_either, AreFree}

-- Whether a body of a policy set has this id. The body belongs to a static policy or is a template.
abbrev pub has_body : SetParts → List ℕ → Bool
has_body b i = list_any (is_body_at i) b.bodies

-- Whether a policy of a policy set has this id. The policy is static or a link.
abbrev pub has_policy : SetParts → List ℕ → Bool
has_policy b i = list_any (is_policy_at i) b.policies

-- The ids of the bodies of a policy set, in their order.
abbrev pub body_ids : SetParts → List (List ℕ)
body_ids b = map (λ (t : BodyParts). t.id) b.bodies

-- The ids of the policies of a policy set, in their order.
abbrev pub policy_ids : SetParts → List (List ℕ)
policy_ids b = map policy_id b.policies

-- Whether two bindings are equal. They are both static policies, both templates or both links, and have equal bodies.
-- Links also have equal ids and bindings of slots.
abbrev pub same_binding : Binding → Binding → Bool
same_binding (Static t) (Static u) = same_body t u
same_binding (Template t) (Template u) = same_body t u
same_binding (Link l t e) (Link m u f) = same_body t u && (same_text l m && same_env e f)
same_binding x y = false

-- Whether two sets bind an id equally, or neither uses it.
abbrev pub is_same_at : SetParts → SetParts → List ℕ → Bool
is_same_at here other i = option_eq same_binding (bound_at here i) (bound_at other i)

-- Whether two sets both use an id, but bind it differently.
abbrev pub DifferAt : SetParts → SetParts → List ℕ → Type 0
DifferAt here other i = (is_bound here i ≡ true) × (is_bound other i ≡ true) × (is_same_at here other i ≡ false)

-- The ids of a list that pass the test `stands` and are not bound equally in both sets.
abbrev pub conflicting : SetParts → SetParts → (List ℕ → Bool) → List (List ℕ) → List (List ℕ)
conflicting here other stands is = filter (λ i. stands i && not (is_same_at here other i)) is

-- The ids in conflict, each once. They come in four groups, and each group is in the order of the other set:
--
-- - bodies of the other set with the id of a body of this set
-- - policies of the other set with the id of a policy of this set
-- - bodies of the other set with the id of a policy of this set: templates that conflict with links
-- - policies of the other set with the id of a body of this set: links that conflict with templates
--
-- An id that is in several groups counts in the first one only.
abbrev pub conflicts : SetParts → SetParts → List (List ℕ)
conflicts here other =
    insert_all same_text []
    (conflicting here other (has_body here) (body_ids other)
    ++ (conflicting here other (has_policy here) (policy_ids other)
    ++ (conflicting here other (has_policy here) (body_ids other)
    ++ conflicting here other (has_body here) (policy_ids other))))

-- A body under its new id. A renaming `c` maps each id to its new id, or to itself.
abbrev pub renamed_body : (List ℕ → List ℕ) → BodyParts → BodyParts
renamed_body c t = with_id (c t.id) t

-- A policy under its new ids: its own id and the id of its template.
abbrev pub renamed_policy : (List ℕ → List ℕ) → PolicyParts → PolicyParts
renamed_policy c p = record { template = renamed_body c p.template; link = option_map c p.link; env = p.env }

-- The new bodies of a merge: the bodies of a list under their new ids, except those whose ids this set uses.
abbrev pub merged_bodies : SetParts → (List ℕ → List ℕ) → List BodyParts → List BodyParts
merged_bodies here c ts = filter (λ t. not (is_bound here t.id)) (map (renamed_body c) ts)

-- The new policies of a merge: the policies of a list under their new ids, except those whose ids this set uses.
abbrev pub merged_policies : SetParts → (List ℕ → List ℕ) → List PolicyParts → List PolicyParts
merged_policies here c ps = filter (λ p. not (is_bound here (policy_id p))) (map (renamed_policy c) ps)

-- The merged set: the bodies of this set and the new bodies of the other set, and the policies in the same way.
abbrev pub merged : SetParts → SetParts → (List ℕ → List ℕ) → SetParts
merged here other c = record {
  bodies = here.bodies ++ merged_bodies here c other.bodies;
  policies = here.policies ++ merged_policies here c other.policies;
}

-- The new id of an id, given a list of renamed ids with their new ids. An id that is not in the list stays as it is.
abbrev pub new_id : List (List ℕ × List ℕ) → List ℕ → List ℕ
new_id r i = unwrap_or (lookup (same_text i) r) i

-- Whether `r` is the renaming of a merge. It renames exactly the ids in conflict, in their order, to the first free ids
-- of both sets. Example: if `a` and `b` are in conflict and `policy0` is in use, `r` maps `a` to `policy1` and `b` to
-- `policy2`.
abbrev pub IsRenaming : SetParts → SetParts → List (List ℕ × List ℕ) → Type 0
IsRenaming here other r = (keys_of r ≡ conflicts here other) × AreFree (is_bound_in_either here other) 0 (values_of r)

-- The ids of all policies and bodies of a set. The id of a static policy is listed twice.
abbrev pub ids_of : SetParts → List (List ℕ)
ids_of b = policy_ids b ++ body_ids b

-- The ids that two sets use, each once.
abbrev pub bound_ids : SetParts → SetParts → List (List ℕ)
bound_ids here other = insert_all same_text [] (ids_of here ++ ids_of other)

-- Whether each id of a list is the id of a number below `m`.
abbrev pub AreBelow : ℕ → List (List ℕ) → Type 0
AreBelow m [] = Unit {0}
AreBelow m (i ∷ is) = ((n : ℕ) × (i ≡ numbered n) × (n < m)) × AreBelow m is

-- Whether a merge has a correct result and effect:
--
-- - A returned renaming is the renaming of the merge, and the new set is the merged set. If renaming is not allowed,
--   there is no conflict.
-- - `Occupied`: renaming is not allowed, and the error has the first id in conflict. The set is unchanged.
-- - `Memory`: the set is unchanged.
abbrev pub Merges : {A : Type 0} → (A → List (List ℕ × List ℕ)) → Result A PolicySetError → SetParts → SetParts
    → Bool → SetParts → Type 0
Merges entries (Ok r) old other rename new =
    IsRenaming old other (entries r) × (new ≡ merged old other (new_id (entries r)))
    × (rename ≡ false → conflicts old other ≡ [])
Merges entries (Err (Occupied i)) old other rename new = (new ≡ old) × (rename ≡ false) × (rest : List (List ℕ))
    × (conflicts old other ≡ i ∷ rest)
Merges entries (Err Memory) old other rename new = new ≡ old

-- The guarantees of a merge:
--
-- - `merges`: the result and the new set are correct, as `Merges` defines.
-- - `differ`: an id is in conflict exactly if both sets use it and bind it differently.
-- - `apart`: no two new ids are equal.
-- - `unbound`: neither set uses a new id.
-- - `below`: the numbers of the new ids are below the count of all used ids plus the count of new ids.
pub record MergesSets {A : Type 0} (entries : A → List (List ℕ × List ℕ)) (result : Result A PolicySetError)
    (old other : SetParts) (rename : Bool) (new : SetParts) : Type 0 where
  pub merges : Merges entries result old other rename new
  pub differ : (i : List ℕ) → (list_any (same_text i) (conflicts old other) ≡ true)
      ↔ DifferAt old other i
  pub apart : IfOk result (λ r. AreOnce (λ (i : List ℕ). i) (values_of (entries r)))
  pub unbound : IfOk result (λ r. list_any (is_bound_in_either old other) (values_of (entries r)) ≡ false)
  pub below : IfOk result (λ r. AreBelow (length (bound_ids old other) + length (entries r)) (values_of (entries r)))
