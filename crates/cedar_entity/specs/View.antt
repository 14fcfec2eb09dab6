-- An entity as contracts describe it. Source locations are not part of it.
use Rattle.std.specs.Prelude.{◌≡◌, Bool, ◌||◌, if◌then◌else◌}
use Rattle.std.specs.FinSet as set
use Rattle.cedar_ids.specs.declared.entity.EntityUID.{EntityUID}
use Rattle.cedar_entity.specs.Fields.{Fields}
use Rattle.cedar_uid_sets.specs.UidSets.{UidValues}

-- An entity: its uid, its attributes and its tags in the order of their keys, its parents, and its indirect ancestors.
pub record EntityView : Type 0 where
  pub uid : EntityUID
  pub attrs : Fields
  pub tags : Fields
  pub parents : UidValues
  pub indirect : UidValues

-- Whether q is an ancestor: a parent or an indirect ancestor.
abbrev pub has_ancestor : EntityView → EntityUID → Bool
has_ancestor e q = set.contains e.parents q || set.contains e.indirect q

-- The entity with one more indirect ancestor. It is unchanged if the uid is a parent.
abbrev pub with_indirect_ancestor : EntityView → EntityUID → EntityView
with_indirect_ancestor e q =
    record e { indirect = if set.contains e.parents q then e.indirect else set.insert e.indirect q }

-- Holds if two entities have the same uid, attributes, tags and ancestors. It does not matter which ancestors are
-- parents.
pub record IsDeepEqual (a b : EntityView) : Type 0 where
  pub uid : a.uid ≡ b.uid
  pub attrs : a.attrs ≡ b.attrs
  pub tags : a.tags ≡ b.tags
  pub ancestors : (q : EntityUID) → has_ancestor a q ≡ has_ancestor b q

-- Holds if the relation is reflexive, symmetric and transitive.
pub record IsEquivalenceRelation {A : Type 0} (R : A → A → Type 0) : Type 0 where
  pub itself : (a : A) → R a a
  pub turned : (a b : A) → R a b → R b a
  pub joined : (a b c : A) → R a b → R b c → R a c

-- Attributes, tags and parents.
abbrev pub Rest : Type 0
Rest = (Fields × Fields) × UidValues

-- The attributes, the tags and the parents of an entity: all parts except its uid and its indirect ancestors.
abbrev pub rest : EntityView → Rest
rest e = ((e.attrs, e.tags), e.parents)

-- The parents that are also indirect ancestors. Adding an ancestor never changes this set.
abbrev pub overlap : EntityView → UidValues
overlap e = set.intersection e.parents e.indirect

-- A uid, attributes, tags and parents, and a set of uids.
abbrev pub UnchangedParts : Type 0
UnchangedParts = EntityUID × (Rest × UidValues)

-- The content of an entity that adding an ancestor does not change.
abbrev pub unchanged_parts : EntityView → UnchangedParts
unchanged_parts e = (e.uid, (rest e, overlap e))
