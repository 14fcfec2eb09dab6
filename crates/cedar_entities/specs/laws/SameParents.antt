-- Overwriting of entities whose parents stay the same.
use Rattle.std.specs.Prelude.{◌≡◌, ◌||◌, Option, Some, None}
use Rattle.std.specs.FinMap as finmap
use Rattle.cedar_ids.specs.declared.entity.EntityUID.{EntityUID}
use Rattle.cedar_entity.specs.View.{EntityView, has_ancestor, unchanged_parts}
use Rattle.cedar_entity_maps.specs.Modes.{ancestry}
use Rattle.cedar_entity_maps.specs.Plain.{EntityMap, HasNoIndirect}
use Rattle.cedar_entity_maps.specs.laws.Edits.{last_entity}
use Rattle.std.specs.Prelude.{List}
use Rattle.std.specs.Option.{option_or}

-- Holds if D has an entity at the uid of e, with the same parents, and e has no indirect ancestors.
pub record KeepsParents (D : EntityMap) (e : EntityView) : Type 0 where
  pub stored : EntityView
  pub found : finmap.get D e.uid ≡ Some stored
  pub parents : e.parents ≡ stored.parents
  pub bare : HasNoIndirect e

-- Holds if r is e with the ancestors of the entity that D has at its uid, in addition to its own.
pub record HasRowOf (D : EntityMap) (e r : EntityView) : Type 0 where
  pub parts : unchanged_parts r ≡ unchanged_parts e
  pub ancestors : (b : EntityUID) → has_ancestor r b ≡ (has_ancestor e b || ancestry D e.uid b)

-- Holds if there is neither e nor r, or if e has the uid q, and r is e with the ancestors that D has at q.
abbrev pub BothAt : EntityMap → EntityUID → Option EntityView → Option EntityView → Type 0
BothAt D q None None = Unit {0}
BothAt D q (Some e) (Some r) = (e.uid ≡ q) × HasRowOf D e r
BothAt D q None (Some r) = ⊥
BothAt D q (Some e) None = ⊥

-- Holds if N is D, overwritten with the entities of a list, each with the row that its uid has in D.
abbrev pub IsOverwrittenInPlace : EntityMap → EntityMap → List EntityView → Type 0
IsOverwrittenInPlace D N L = (q : EntityUID) → (r : Option EntityView) × BothAt D q (last_entity L q) r
    × (finmap.get N q ≡ option_or r (finmap.get D q))
