-- The commands on the store of entities, and the fields of each command. The fields of a line are separated by tabs.
use Rattle.std.specs.Prelude.{◌≡◌, ℕ, List, [], ◌∷◌, codes}
use Rattle.cedar_ids.specs.TextOf.{IsPrinted}
use Rattle.cedar_ids.specs.UidOf.{uid_parts}
use Rattle.cedar_ids.specs.declared.entity.EntityUID.{EntityUID}

-- A command on the store:
--
-- - `Ent`: queues an entity with this uid and these parents.
-- - `Build`: replaces the store by a store of the queued entities.
-- - `Add`: adds the queued entities to the store.
-- - `Upsert`: adds the queued entities, and replaces entities with the same uids.
-- - `Remove`: removes the entities with these uids.
-- - `Slice`: replaces the store by its slice at these uids.
-- - `Anc`: writes the ancestors of the entity with this uid.
pub data EntityCommand : Type 0 where
  Ent : EntityUID → List EntityUID → EntityCommand
  Build : EntityCommand
  Add : EntityCommand
  Upsert : EntityCommand
  Remove : List EntityUID → EntityCommand
  Slice : List EntityUID → EntityCommand
  Anc : EntityUID → EntityCommand

-- Whether these are the texts of the uids, in order. The eid of each uid is ASCII.
abbrev pub AreTexts : List EntityUID → List (List ℕ) → Type 0
AreTexts [] [] = Unit {0}
AreTexts [] (t ∷ ts) = ⊥
AreTexts (u ∷ us) [] = ⊥
AreTexts (u ∷ us) (t ∷ ts) = IsPrinted (uid_parts u) t × AreTexts us ts

-- Whether the fields are this word and then the texts of the uids.
abbrev pub AreFields : List ℕ → List EntityUID → List (List ℕ) → Type 0
AreFields word us [] = ⊥
AreFields word us (f ∷ fs) = (f ≡ word) × AreTexts us fs

-- Whether these fields are a line of this command. `remove` and `slice` have at least one uid. Example: the fields
-- `ent`, `A::"a"` and `A::"b"` queue the entity `A::"a"` with the parent `A::"b"`.
abbrev pub IsEntityCommand : EntityCommand → List (List ℕ) → Type 0
IsEntityCommand (Ent u ps) fs = AreFields (codes "ent") (u ∷ ps) fs
IsEntityCommand Build fs = AreFields (codes "build") [] fs
IsEntityCommand Add fs = AreFields (codes "add") [] fs
IsEntityCommand Upsert fs = AreFields (codes "upsert") [] fs
IsEntityCommand (Remove us) fs = AreFields (codes "remove") us fs × (us ≡ [] → ⊥)
IsEntityCommand (Slice us) fs = AreFields (codes "slice") us fs × (us ≡ [] → ⊥)
IsEntityCommand (Anc u) fs = AreFields (codes "anc") (u ∷ []) fs
