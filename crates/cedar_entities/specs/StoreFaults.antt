-- The validity of the entities of a store, and the error for an invalid store.
use Rattle.std.specs.Prelude.{◌≡◌, ⊤, Some}
use Rattle.std.specs.Option.{IfSome}
use Rattle.std.specs.FinMap as finmap
use Rattle.std.specs.declared.cmp.Ordering.TheVariants.{Less}
use Rattle.cedar_graph.specs.declared.err.TcError.{TcError}
use Rattle.cedar_ids.specs.UidOf.{uid_order}
use Rattle.cedar_ids.specs.declared.entity.EntityUID.{EntityUID}
use Rattle.cedar_entity_maps.specs.Modes.{IsSound, ReportsUnsound}
use Rattle.cedar_entity_maps.specs.Plain.{EntityMap}
use Rattle.cedar_entity.specs.Validity.{IsValid, IsFault}
use Rattle.cedar_entity.specs.View.{EntityView}
use Rattle.cedar_entity.specs.declared.err.EntitiesError.{EntitiesError}
use Rattle.cedar_entity.specs.declared.err.EntitiesError.TheVariants as errors

-- Holds if each entity is valid.
abbrev pub AreAllValid : EntityMap → Type 0
AreAllValid D = (q : EntityUID) → IfSome (finmap.get D q) IsValid

-- Holds if e is an invalid entity of D, and each entity with a lesser uid is valid.
pub record IsFirstFaulty (D : EntityMap) (e : EntityView) : Type 0 where
  pub entities : finmap.get D e.uid ≡ Some e
  pub faulty : IsValid e → ⊥
  pub before : (q : EntityUID) → uid_order q e.uid ≡ Less → IfSome (finmap.get D q) IsValid

-- Holds if r is a fault of the invalid entity with the least uid.
pub record IsFirstFault (D : EntityMap) (r : EntitiesError) : Type 0 where
  pub at : EntityView
  pub first : IsFirstFaulty D at
  pub fault : IsFault at r

-- Holds if the error of the closure satisfies C, or any other error satisfies F. `Memory` satisfies it always.
abbrev pub MatchStoreFault : EntitiesError → (TcError EntityUID → Type 0) → (EntitiesError → Type 0) → Type 0
MatchStoreFault (errors.TransitiveClosureError t) C F = C t
MatchStoreFault errors.Memory C F = ⊤
MatchStoreFault e C F = F e

-- Holds if the store is valid: the ancestors are closed, no entity is its own ancestor, and each entity is valid.
abbrev pub IsValidStore : EntityMap → Type 0
IsValidStore D = IsSound D × AreAllValid D

-- Holds if r is an error of an invalid store. It is a fault of the ancestors or, only if they have none, a fault of the
-- invalid entity with the least uid.
abbrev pub IsStoreFault : EntityMap → EntitiesError → Type 0
IsStoreFault D r = MatchStoreFault r (ReportsUnsound D) (λ f. IsSound D × IsFirstFault D f)
