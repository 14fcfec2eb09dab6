-- The error for an invalid store.
use Rattle.std.specs.Prelude.{◌≡◌, ◌⊎◌, Option, Some, None, if◌then◌else◌}
use Rattle.std.specs.Ordering.{is_lt}
use Rattle.cedar_graph.specs.declared.err.TcError.{TcError}
use Rattle.cedar_ids.specs.UidOf.{uid_order}
use Rattle.cedar_ids.specs.declared.entity.EntityUID.{EntityUID}
use Rattle.cedar_entity.specs.Validity.{IsValid}
use Rattle.cedar_entity.specs.View.{EntityView}
use Rattle.cedar_entity.specs.declared.err.EntitiesError.{EntitiesError}
use Rattle.cedar_entity.specs.declared.err.EntitiesError.TheVariants as errors
use Rattle.cedar_entities.specs.StoreFaults.{MatchStoreFault}

-- The lesser of an invalid entity and the least one so far.
abbrev pub lesser_of : EntityView → Option EntityView → Option EntityView
lesser_of e None = Some e
lesser_of e (Some a) = if is_lt (uid_order e.uid a.uid) then Some e else Some a

-- Holds if r is the least invalid entity after e was checked: o if e is valid, and the lesser of e and o otherwise.
abbrev pub TakesFaulty : EntityView → Option EntityView → Option EntityView → Type 0
TakesFaulty e o r = (IsValid e × (r ≡ o)) ⊎ ((IsValid e → ⊥) × (r ≡ lesser_of e o))

-- An error that satisfies F satisfies `MatchStoreFault`, if each closure error that satisfies F satisfies C.
pub other_fault : (C : TcError EntityUID → Type 0) (F : EntitiesError → Type 0)
    → ((t : TcError EntityUID) → F (errors.TransitiveClosureError t) → C t) → (e : EntitiesError) → F e
    → MatchStoreFault e C F
other_fault C F only (errors.Duplicate u) f = f
other_fault C F only (errors.TransitiveClosureError t) f = only t f
other_fault C F only (errors.SelfAncestor u) f = f
other_fault C F only (errors.DuplicateAncestor u a) f = f
other_fault C F only (errors.ActionParentIsNotAction u p) f = f
other_fault C F only (errors.ReservedKey k) f = f
other_fault C F only errors.Memory f = tt
