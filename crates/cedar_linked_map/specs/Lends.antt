-- The map after a mutable borrow of a value has ended.
use Rattle.std.specs.Prelude.{◌≡◌, Bool, Option, IsSome}
use Rattle.std.specs.Borrow.{Fml, RattleType, MutBor, LendsSo}
use Rattle.std.specs.HashMap.Lent.{HashMembers}
use Rattle.std.specs.Map.{lookup}
use Rattle.std.specs.Option.{option_copied_mut}
use Rattle.std.specs.declared.hash.Hasher as hasher
use Rattle.std.specs.declared.hash.BuildHasher as builder
use Rattle.indexmap.specs.IndexMap.{IndexMap, WritesThrough}
use Rattle.cedar_linked_map.specs.contracts.map.LinkedMap.{the_row}

module _ (K V S H : RattleType) (key : HashMembers K.Denot) (build : builder.Ghosts S.Denot H.Denot) (hash :
    hasher.Ghosts H.Denot) where
  -- The type of the map in the logic.
  abbrev pub map_row : RattleType
  map_row = the_row K V S H (record { eq = key.eq }) (record { hash_input = key.hash_input }) build hash

  -- The key that passes the test has the last value that was written through `r`. The map is unchanged if `r` is
  -- `None`.
  abbrev pub lends_get : MutBor (IndexMap K.Denot V.Denot S.Denot) → (K.Denot → Bool) → Option (MutBor V.Denot) → Fml
  lends_get m test r = LendsSo map_row V m r (λ n w. WritesThrough key.eq test m.now w n) (λ n. n ≡ m.now)

  -- Some key, whose value `r` borrows, has the last value that was written through `r`. The map is unchanged if `r` is
  -- `None`.
  abbrev pub lends_at : MutBor (IndexMap K.Denot V.Denot S.Denot) → Option (MutBor V.Denot) → Fml
  lends_at m r =
      LendsSo map_row V m r
      (λ n w. IsSome r → (k : K.Denot) × (lookup (key.eq k) m.now.entries ≡ option_copied_mut r)
      × WritesThrough key.eq (key.eq k) m.now w n)
      (λ n. n ≡ m.now)
