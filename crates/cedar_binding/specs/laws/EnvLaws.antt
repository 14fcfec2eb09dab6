-- Laws of the equality of bindings.
use Rattle.std.specs.Prelude.{◌≡◌, true, Option, Some, None, refl}
use Rattle.std.proofs.Common.{ap}
use Rattle.std.specs.Bool.{Decides}
use Rattle.std.specs.Option.{option_eq}
use Rattle.std.specs.Cmp.{IsEquivalence, decided}
use Rattle.std.specs.Cmp.Lexicographic.{options_equiv}
use Rattle.cedar_ids.specs.Uid.{UidParts, uid_eq}
use Rattle.cedar_ids.specs.laws.UidLaws.{uid_eq_equiv, uid_eq-Decides}
use Rattle.cedar_terms.specs.laws.SlotIdLaws.{of_each, at_each}
use Rattle.cedar_binding.specs.Bindings.{EnvParts}
use Rattle.cedar_binding.specs.EnvEquality.{same_env}

same_bound : (x y : Option UidParts) → option_eq uid_eq x y ≡ true → x ≡ y
same_bound None None e = refl
same_bound None (Some v) e = absurd (cc)
same_bound (Some u) None e = absurd (cc)
same_bound (Some u) (Some v) e = ap Some ((uid_eq-Decides u v).0 e)

bound_alike : (x y : Option UidParts) → x ≡ y → option_eq uid_eq x y ≡ true
bound_alike x y e = Rattle.std.proofs.Common.subst (λ z. option_eq uid_eq x z
    ≡ true) e ((options_equiv uid_eq_equiv).refl x)

-- `same_env` decides whether two bindings are identical.
pub same_env_decides : (x y : EnvParts) → Decides (same_env x y) (x ≡ y)
same_env_decides x y = (
  λ h i s. same_bound (x s) (y s) (at_each (λ t. option_eq uid_eq (x t) (y t)) h s) i,
  λ e. of_each (λ t. option_eq uid_eq (x t) (y t)) (λ s. bound_alike (x s) (y s) (λ i. e i s)),
)

-- `same_env` is an equivalence.
pub same_env_equiv : IsEquivalence same_env
same_env_equiv = decided same_env same_env_decides
