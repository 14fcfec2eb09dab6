-- The index of a store: whether the store is known to be plain, and the children of each uid.
use Rattle.std.specs.Prelude.{◌≡◌, Bool, true, false, IsTrue, Option, Some, None}
use Rattle.std.specs.Option.{IfSome, option_map}
use Rattle.std.specs.FinSet as set
use Rattle.std.specs.FinMap as finmap
use Rattle.cedar_ids.specs.declared.entity.EntityUID.{EntityUID}
use Rattle.cedar_entity.specs.View.{EntityView}
use Rattle.cedar_children.specs.Children.{is_child}
use Rattle.cedar_children.specs.declared.children.Children.{Children}
use Rattle.cedar_entity_maps.specs.Plain.{EntityMap, IsPlainStore, parts_of}
use Rattle.cedar_entity_maps.specs.InputStore.{InputStore, is_parent_in}
use Rattle.cedar_entity_maps.specs.declared.index.Index.{Index}
use Rattle.std.proofs.Common.{refl}

-- Whether there is an entity, and p is one of its parents.
abbrev pub is_parent_at : Option EntityView → EntityUID → Bool
is_parent_at None p = false
is_parent_at (Some e) p = set.contains e.parents p

-- Holds if D is the entity map of the plain store of some input store. What the store knows does not matter for that.
abbrev pub IsPlainHeld : EntityMap → Type 0
IsPlainHeld D = (W : InputStore) × IsPlainStore W (record { entities = D; partial = W.partial; known_plain = true })

-- Holds if p has the child q exactly if f states it.
abbrev pub HasChildren : {S H : Type 0} → (EntityUID → EntityUID → Bool) → Children S H → Type 0
HasChildren f c = (p q : EntityUID) → is_child c p q ≡ f p q

-- Whether there is an entity at q, and p is one of its parents.
abbrev pub parentage : (EntityUID → Option EntityView) → EntityUID → EntityUID → Bool
parentage g p q = is_parent_at (g q) p

-- Holds if the index is correct for D: D is plain if the index states it, and the listed children are the children in
-- D.
pub record IsIndexOf {S H : Type 0} (x : Index S H) (D : EntityMap) : Type 0 where
  pub plain : IsTrue x.plain → IsPlainHeld D
  pub children : IfSome x.children (HasChildren (parentage (finmap.get D)))

-- The parents in an entity map are the parents in the input store.
pub parent_held : (o : Option EntityView) (p : EntityUID) → is_parent_in (option_map parts_of o) p ≡ is_parent_at o p
parent_held None p = refl
parent_held (Some e) p = refl
