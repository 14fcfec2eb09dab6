-- Laws of the equality, order and hash of effects.
use Rattle.std.specs.Prelude.{◌≡◌, true, refl}
use Rattle.std.proofs.Common.{ap}
use Rattle.std.specs.Bool.{Decides}
use Rattle.std.specs.Ordering.{as_partial_cmp, eq_by_cmp}
use Rattle.std.specs.Cmp.{IsEquivalence, IsTotalOrder, IsPartialOrder, on_equiv, on_total, nat_eq_equiv, nat_cmp_total}
use Rattle.std.specs.Cmp.{po}
use Rattle.cedar_body.specs.Effects.{effect_index, same_effect, effect_cmp, effect_hash}
use Rattle.cedar_body.specs.declared.effect.Effect.{Effect}
use Rattle.cedar_body.specs.declared.effect.Effect.TheVariants.{Permit, Forbid}

-- `==` is an equivalence.
pub same_effect_equiv : IsEquivalence same_effect
same_effect_equiv = on_equiv effect_index nat_eq_equiv

-- The order is total.
pub effect_cmp_total : IsTotalOrder effect_cmp
effect_cmp_total = on_total effect_index nat_cmp_total

-- Two effects are equal if the order reports `Equal`, and only then.
pub effect_ties : (x y : Effect) → same_effect x y ≡ eq_by_cmp effect_cmp x y
effect_ties Permit Permit = refl
effect_ties Permit Forbid = refl
effect_ties Forbid Permit = refl
effect_ties Forbid Forbid = refl

-- The order is a partial order.
pub effect_po : IsPartialOrder same_effect (as_partial_cmp effect_cmp)
effect_po = po effect_cmp_total effect_ties

-- `==` decides whether two effects are identical.
pub same_effect_decides : (x y : Effect) → Decides (same_effect x y) (x ≡ y)
same_effect_decides Permit Permit = (λ e. refl, λ e. refl)
same_effect_decides Permit Forbid = (λ e. absurd (cc), λ e. absurd (cc))
same_effect_decides Forbid Permit = (λ e. absurd (cc), λ e. absurd (cc))
same_effect_decides Forbid Forbid = (λ e. refl, λ e. refl)

-- Equal effects have equal hashes.
pub effect_hash_respects : (x y : Effect) → same_effect x y ≡ true → effect_hash x ≡ effect_hash y
effect_hash_respects x y e = ap effect_hash ((same_effect_decides x y).0 e)
