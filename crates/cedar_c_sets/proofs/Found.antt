-- Lookups of policies and bodies by id, and their encoding.
use Rattle.std.proofs.Common.{◌≡◌, ◌≤◌, ℕ, List, inl, inr, refl, subst}
use Rattle.std.specs.Prelude.{◌⊎◌, MatchResult, Option, Some, None, Result, Ok, Err}
use Rattle.std.specs.Option.{option_map}
use Rattle.std.specs.Str.{IsUtf8}
use Rattle.cedar_body.specs.Bodies.{BodyParts}
use Rattle.cedar_policy.specs.Policies.{PolicyParts, principal_of, action_of, resource_of}
use Rattle.cedar_policy_maps.specs.PolicySets.{SetParts, binding_from}
use Rattle.cedar_c_lists.specs.declared.reason.Reason.{Reason}
use Rattle.cedar_c_lists.specs.declared.reason.Reason.TheVariants as reasons
use Rattle.cedar_c_bodies.specs.Encoded.{EncodesConstraint, EncodesRule}
use Rattle.cedar_c_sets.specs.Reads.{IsUntoldAt, body_at, body_bound, bound_body, policy_at}
use Rattle.cedar_c_sets.specs.Scopes.{EncodesFound, EncodesScope, action_at, of_bound, of_found, principal_at, resource_at}
use Rattle.cedar_c_sets.specs.laws.Finding.{IsScopeless, IsUnfound}

-- If nothing is found, the id is not in use.
none_among : {X : Type 0} (p : PolicyParts → X) (t : BodyParts → X) (x : Option PolicyParts) (y : Option BodyParts)
    → of_found p t x y ≡ None → option_map body_bound (binding_from x y) ≡ None
none_among p t (Some x) y e = absurd (cc)
none_among p t None (Some y) e = absurd (cc)
none_among p t None None e = refl

none_bound : {X : Type 0} (p : PolicyParts → X) (t : BodyParts → X) (b : SetParts) (id : List ℕ)
    → of_bound p t b id ≡ None → bound_body b id ≡ None
none_bound p t b id e = none_among p t (policy_at b id) (body_at b id) e

unfound : {X : Type 0} (p : PolicyParts → X) (t : BodyParts → X) (which : ℕ) (b : SetParts) (id : List ℕ) (w : Reason)
    → IsUnfound (of_bound p t b id) w → IsScopeless which b id w
unfound p t which b id w (inl m) = inl m
unfound p t which b id w (inr h) = inr (inr (h.0, none_bound p t b id h.1))

-- The encoding of each of the three constraints is the encoding of the one with its number.
pub by_principal : (which : ℕ) (b : SetParts) (id : List ℕ) (r : Result (ℕ × List (List ℕ)) Reason) → which ≡ 0
    → MatchResult r (λ v. EncodesFound EncodesConstraint (principal_at b id) v.0 v.1) (IsUnfound (principal_at b id))
    → MatchResult r (λ v. EncodesScope which b id v.0 v.1) (IsScopeless which b id)
by_principal which b id (Ok v) e m = inl (e, m)
by_principal which b id (Err w) e m = unfound principal_of (λ t. t.principal) which b id w m

pub by_action : (which : ℕ) (b : SetParts) (id : List ℕ) (r : Result (ℕ × List (List ℕ)) Reason) → which ≡ 1
    → MatchResult r (λ v. EncodesFound EncodesRule (action_at b id) v.0 v.1) (IsUnfound (action_at b id))
    → MatchResult r (λ v. EncodesScope which b id v.0 v.1) (IsScopeless which b id)
by_action which b id (Ok v) e m = inr (inl (e, m))
by_action which b id (Err w) e m = unfound action_of (λ t. t.action) which b id w m

pub by_resource : (which : ℕ) (b : SetParts) (id : List ℕ) (r : Result (ℕ × List (List ℕ)) Reason) → which ≡ 2
    → MatchResult r (λ v. EncodesFound EncodesConstraint (resource_at b id) v.0 v.1) (IsUnfound (resource_at b id))
    → MatchResult r (λ v. EncodesScope which b id v.0 v.1) (IsScopeless which b id)
by_resource which b id (Ok v) e m = inr (inr (e, m))
by_resource which b id (Err w) e m = unfound resource_of (λ t. t.resource) which b id w m

scope_untold_of : (which : ℕ) (b : SetParts) (id : List ℕ) (w : Reason) → IsUtf8 id → IsScopeless which b id w
    → ((w ≡ reasons.BadArgument) × (3 ≤ which)) ⊎ IsUntoldAt (bound_body b id) id w
scope_untold_of which b id w u (inl m) = inr (inl (inl m))
scope_untold_of which b id w u (inr (inl h)) = inl h
scope_untold_of which b id w u (inr (inr h)) = inr (inr (h.0, u, h.1))

-- The reason why there is no constraint, for a valid id.
pub scope_untold : (which : ℕ) (b : SetParts) (i id : List ℕ) (w : Reason) → i ≡ id → IsUtf8 id
    → IsScopeless which b i w
    → ((w ≡ reasons.BadArgument) × (3 ≤ which)) ⊎ IsUntoldAt (bound_body b id) id w
scope_untold which b i id w is u h = scope_untold_of which b id w u (subst (λ n. IsScopeless which b n w) is h)
