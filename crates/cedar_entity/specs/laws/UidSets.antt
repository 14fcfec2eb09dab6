-- The members of a set after some were removed.
use Rattle.std.specs.Prelude.{◌≡◌, Bool, ◌&&◌, not}
use Rattle.std.proofs.Common.{ap, sym}
use Rattle.std.specs.FinSet as set
use Rattle.std.specs.declared.cmp.Ordering.TheVariants.{Equal}
use Rattle.cedar_ids.specs.UidOf.{uid_order}
use Rattle.cedar_ids.specs.declared.entity.EntityUID.{EntityUID}
use Rattle.cedar_uid_sets.specs.UidSets.{UidValues}
use Rattle.cedar_uid_sets.specs.laws.Sets.{one_equal}

respects : (p : EntityUID → Bool) (q x : EntityUID) → uid_order q x ≡ Equal → p x ≡ p q
respects p q x t = ap p (sym (one_equal q x t))

-- The remaining members are the members that are not removed.
pub kept_in : (s : UidValues) (gone : EntityUID → Bool) (q : EntityUID)
    → set.contains (set.retain s (λ p. not (gone p))) q ≡ (set.contains s q && not (gone q))
kept_in s gone q = set.contains-retain s (λ p. not (gone p)) q (respects (λ p. not (gone p)) q)
