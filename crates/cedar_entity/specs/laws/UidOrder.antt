-- Facts about two uids and their order.
use Rattle.std.specs.Prelude.{◌≡◌, true}
use Rattle.std.proofs.Common.{refl}
use Rattle.std.specs.Ordering.{is_lt, ordering_reverse}
use Rattle.std.specs.declared.cmp.Ordering.{Ordering}
use Rattle.std.specs.declared.cmp.Ordering.TheVariants.{Less, Equal, Greater}
use Rattle.cedar_ids.specs.UidOf.{uid_order}
use Rattle.cedar_ids.specs.laws.UidOfLaws.{uid_order_total}
use Rattle.cedar_ids.specs.declared.entity.EntityUID.{EntityUID}

self_less : (o : Ordering) → o ≡ ordering_reverse o → o ≡ Less → ⊥
self_less Less e h = cc
self_less Equal e h = cc
self_less Greater e h = cc

-- No uid is less than itself.
pub irreflexive : (u : EntityUID) → uid_order u u ≡ Less → ⊥
irreflexive u = self_less (uid_order u u) (uid_order_total.antisymm u u)

pub less : (o : Ordering) → is_lt o ≡ true → o ≡ Less
less Less h = refl
less Equal h = cc
less Greater h = cc
