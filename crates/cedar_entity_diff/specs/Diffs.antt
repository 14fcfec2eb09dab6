-- The difference of two stores, and the store that a difference leads to.
use Rattle.std.specs.Prelude.{◌≡◌, Bool, not, ◌&&◌, List, [], ◌++◌, map, Option, Some, None, is_some, cond}
use Rattle.std.proofs.Math.Bool.{beq}
use Rattle.std.specs.Cmp.Lexicographic.{pointwise}
use Rattle.std.specs.Option.{unwrap_or}
use Rattle.std.specs.FinSet as set
use Rattle.std.specs.FinMap as finmap
use Rattle.cedar_ids.specs.UidOf.{uid_order}
use Rattle.cedar_ids.specs.declared.entity.EntityUID.{EntityUID}
use Rattle.cedar_uid_sets.specs.UidSets.{Ascend, UidValues, same_uids}
use Rattle.cedar_entity.specs.View.{EntityView, overlap}
use Rattle.cedar_entity.specs.laws.Fields.{field_eq}
use Rattle.cedar_entity_maps.specs.Plain.{EntityMap, StoreView, keyed}

-- The ancestors of an entity: its parents and its indirect ancestors.
abbrev pub ancestors : EntityView → UidValues
ancestors e = set.union e.parents e.indirect

-- Whether two entities have the same content: the same attributes, tags and parents, and the same parents that are also
-- indirect ancestors. In a plain store no parent is an indirect ancestor.
abbrev pub same_content : EntityView → EntityView → Bool
same_content a b = (pointwise field_eq a.attrs b.attrs && pointwise field_eq a.tags b.tags)
    && (same_uids a.parents b.parents && same_uids (overlap a) (overlap b))

-- An entity before and after its content changed.
pub record ChangeView : Type 0 where
  pub before : EntityView
  pub after : EntityView

-- The ancestors that the entity with a uid gained, and the ancestors that it lost.
pub record AncestryView : Type 0 where
  pub uid : EntityUID
  pub gained : UidValues
  pub lost : UidValues

-- The difference of two stores.
--
-- - `removed`, `added`: the entities that only the first store has, and those that only the second has.
-- - `changed`: the entities that both have, with different content.
-- - `ancestry`: the ancestors gained and lost by the entities that both have.
-- - `partial`: whether the second store is partial, if only one of them is.
pub record DiffView : Type 0 where
  pub removed : List EntityView
  pub added : List EntityView
  pub changed : List ChangeView
  pub ancestry : List AncestryView
  pub partial : Option Bool

-- The uid of an entity.
abbrev pub uid_of : EntityView → EntityUID
uid_of e = e.uid

-- The entity after its content changed.
abbrev pub after_change : ChangeView → EntityView
after_change c = c.after

-- The uid of a changed entity.
abbrev pub changed_uid : ChangeView → EntityUID
changed_uid c = c.after.uid

-- The uid of an entity whose ancestors changed.
abbrev pub ancestry_uid : AncestryView → EntityUID
ancestry_uid c = c.uid

-- The first entity, if there is no second.
abbrev pub only_first : Option EntityView → Option EntityView → Option EntityView
only_first a None = a
only_first a (Some b) = None

-- Both entities, if their content differs.
abbrev pub changed_from : Option EntityView → Option EntityView → Option ChangeView
changed_from None b = None
changed_from (Some a) None = None
changed_from (Some a) (Some b) = cond (same_content a b) None (Some (record { before = a; after = b }))

-- The ancestors that only the second entity has, and those that only the first has, if there are any.
abbrev pub ancestry_from : Option EntityView → Option EntityView → Option AncestryView
ancestry_from None b = None
ancestry_from (Some a) None = None
ancestry_from (Some a) (Some b) = cond (same_uids (ancestors a) (ancestors b)) None (Some (record {
  uid = b.uid;
  gained = set.difference (ancestors b) (ancestors a);
  lost = set.difference (ancestors a) (ancestors b);
}))

-- The second value, if it differs from the first.
abbrev pub mode_from : Bool → Bool → Option Bool
mode_from a b = cond (beq a b) None (Some b)

-- The first value of a list that has a uid.
abbrev pub value_at : {X : Type 0} → (X → EntityUID) → List X → EntityUID → Option X
value_at key L q = finmap.find uid_order q (map (λ x. (key x, x)) L)

-- Holds if the list has exactly the values of f, each under its uid and once, in ascending order of uid.
pub record ListsAll {X : Type 0} (key : X → EntityUID) (f : EntityUID → Option X) (L : List X) : Type 0 where
  pub ascending : Ascend (map key L)
  pub at : (q : EntityUID) → value_at key L q ≡ f q

-- Holds if d is the difference of the stores S and T. Each list is in ascending order of uid, and has exactly these
-- values:
--
-- - `removed`: the entities of S whose uids are not in T.
-- - `added`: the entities of T whose uids are not in S.
-- - `changed`: the entities of S and T that have the same uid and different content.
-- - `ancestry`: for each uid that is in both, the ancestors gained and lost, unless there are none.
-- - `partial`: the mode of T, if it is not the mode of S.
pub record IsDiff (S T : StoreView) (d : DiffView) : Type 0 where
  pub removed : ListsAll uid_of (λ q. only_first (finmap.get S.entities q) (finmap.get T.entities q)) d.removed
  pub added : ListsAll uid_of (λ q. only_first (finmap.get T.entities q) (finmap.get S.entities q)) d.added
  pub changed : ListsAll changed_uid (λ q. changed_from (finmap.get S.entities q) (finmap.get T.entities q)) d.changed
  pub ancestry : ListsAll ancestry_uid (λ q. ancestry_from (finmap.get S.entities q) (finmap.get T.entities q)) d.ancestry
  pub partial : d.partial ≡ mode_from S.partial T.partial

-- The difference of a store and itself.
abbrev pub no_diff : DiffView
no_diff = record { removed = []; added = []; changed = []; ancestry = []; partial = None }

-- An entity after its ancestors changed. Its parents do not change.
abbrev pub with_ancestry : Option AncestryView → EntityView → EntityView
with_ancestry None e = e
with_ancestry (Some c) e = record e { indirect = set.difference (set.union e.indirect c.gained) c.lost }

-- An entry of an entity map after a difference changed its ancestors.
abbrev pub entry_with_ancestry : DiffView → EntityUID × EntityView → EntityUID × EntityView
entry_with_ancestry d e = (e.0, with_ancestry (value_at ancestry_uid d.ancestry e.0) e.1)

-- The entity map after a difference is applied: the added entities, the changed entities as they are afterwards, and
-- the other entities that are not removed, with their new ancestors.
abbrev pub applied_entities : DiffView → EntityMap → EntityMap
applied_entities d D = finmap.from_entries (map keyed d.added ++ (map (λ c. keyed (after_change c)) d.changed
    ++ map (entry_with_ancestry d)
    (finmap.entries (finmap.retain_keys D (λ q. not (is_some (value_at uid_of d.removed q)))))))

-- The store after a difference is applied.
abbrev pub applied : DiffView → StoreView → StoreView
applied d S = record S { entities = applied_entities d S.entities; partial = unwrap_or d.partial S.partial }
