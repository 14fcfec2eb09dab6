-- The equality, order, hash and texts of effects.
use Rattle.std.specs.Prelude.{ℕ, List, Bool, nat_eq, codes}
use Rattle.std.specs.declared.cmp.Ordering.{Ordering}
use Rattle.std.specs.Ordering.{on, nat_cmp}
use Rattle.std.specs.Hash as fed
use Rattle.cedar_body.specs.declared.effect.Effect.{Effect}
use Rattle.cedar_body.specs.declared.effect.Effect.TheVariants.{Permit, Forbid}

-- The index of an effect. `Permit` has the smaller one.
abbrev pub effect_index : Effect → ℕ
effect_index Permit = 0
effect_index Forbid = 1

-- The result of `==` on two effects.
abbrev pub same_effect : Effect → Effect → Bool
same_effect = on effect_index nat_eq

-- The result of `cmp` on two effects.
abbrev pub effect_cmp : Effect → Effect → Ordering
effect_cmp = on effect_index nat_cmp

-- The input that an effect feeds to a hasher: its index.
abbrev pub effect_hash : Effect → List (List ℕ)
effect_hash e = fed.u8 (effect_index e)

-- The printed text of an effect.
abbrev pub effect_text : Effect → List ℕ
effect_text Permit = codes "permit"
effect_text Forbid = codes "forbid"
