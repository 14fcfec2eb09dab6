-- The effect of linking on a policy set that the result borrows.
use Rattle.std.specs.Prelude.{◌≡◌, Result}
use Rattle.std.specs.Borrow.{Fml, MutBor, RattleType, RestsIfErr}
use Rattle.std.specs.declared.hash.BuildHasher as builder
use Rattle.std.specs.declared.hash.Hasher as hasher
use Rattle.cedar_binding.specs.declared.err.LinkingError.{LinkingError}
use Rattle.cedar_policy_maps.specs.PolicySets.{SetParts}
use Rattle.cedar_policy_set.specs.declared.linked.Linked.{Linked}
use Rattle.cedar_policy_set.specs.contracts.policy_set.PolicySet.{the_row}

module _ (S T : RattleType) (b : builder.Ghosts S.Denot T.Denot) (w : hasher.Ghosts T.Denot) where
  -- Holds if linking leaves the borrowed set in the expected state. After an error the set is what it was before the
  -- call. If the result is a link, the final value of the set is the final value of that link's set. `S` is the type of
  -- the builder of hashers, `T` the type of its hashers, and `b` and `w` are their trait implementations.
  abbrev pub LeavesUnchangedIfErr : MutBor SetParts → Result (Linked S.Denot T.Denot b w) LinkingError → Fml
  LeavesUnchangedIfErr set result =
      RestsIfErr (the_row S T b w) set (λ l. l.set.ghost_name) result (λ after. after ≡ set.now)
