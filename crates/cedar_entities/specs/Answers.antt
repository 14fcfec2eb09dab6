-- The results of the functions that read a store.
use Rattle.std.specs.Prelude.{◌≡◌, ◌∷◌, ℕ, Bool, true, false, List, [], Option, Some, None, map, length, Result, IfOk}
use Rattle.std.specs.Option.{IfSome, MatchOption}
use Rattle.std.specs.FinMap as finmap
use Rattle.cedar_ids.specs.Printed.{uid_output}
use Rattle.cedar_ids.specs.UidOf.{uid_parts}
use Rattle.cedar_ids.specs.declared.entity.EntityUID.{EntityUID}
use Rattle.cedar_terms.specs.ExprTree.{ExprTree, unknown_node}
use Rattle.cedar_entity_maps.specs.Plain.{StoreView, EntityMap, keyed}
use Rattle.cedar_entity.specs.View.{EntityView, IsDeepEqual}
use Rattle.cedar_entities.specs.declared.dereference.Dereference.{Dereference}
use Rattle.cedar_entities.specs.declared.dereference.Dereference.TheVariants as answers

-- Holds if a value was found.
abbrev pub HasData : {T : Type 0} → Dereference T → Type 0
HasData answers.NoSuchEntity = ⊥
HasData (answers.Residual e) = ⊥
HasData (answers.Data x) = Unit {0}

-- Holds if a value was found and satisfies P.
abbrev pub WithData : {T : Type 0} → Dereference T → (T → Type 0) → Type 0
WithData answers.NoSuchEntity P = ⊥
WithData (answers.Residual e) P = ⊥
WithData (answers.Data x) P = P x.now

-- Holds if e is the unknown for the uid u. Its type is the entity type of u. Its name is the printed uid, if the eid is
-- ASCII, and any text otherwise.
pub record IsUnknownOf (u : EntityUID) (e : ExprTree) : Type 0 where
  pub name : List ℕ
  pub node : e ≡ unknown_node (record { name = name; annotation = Some (uid_parts u).name })
  pub printed : IfSome (uid_output (uid_parts u)) (λ bs. name ≡ bs)

-- Holds for the result of looking up u, where o is the entity of the store at u. If there is an entity, it is the
-- result. If there is none, the result is an unknown in a partial store, and `NoSuchEntity` otherwise.
abbrev pub Finds : Option EntityView → Bool → EntityUID → Dereference EntityView → Type 0
Finds o partial u (answers.Data x) = o ≡ Some x.now
Finds o partial u answers.NoSuchEntity = (o ≡ None) × (partial ≡ false)
Finds o partial u (answers.Residual e) = (o ≡ None) × (partial ≡ true) × IsUnknownOf u e

-- Holds if the list has each entity of D once.
pub record ListsEntityMap (D : EntityMap) (es : List EntityView) : Type 0 where
  pub entities : finmap.from_entries (map keyed es) ≡ D
  pub once : length es ≡ finmap.len D

-- Holds if both lookups found nothing, or both found entities that are deeply equal.
abbrev pub HasDeepEqual : Option EntityView → Option EntityView → Type 0
HasDeepEqual None None = Unit {0}
HasDeepEqual None (Some b) = ⊥
HasDeepEqual (Some a) None = ⊥
HasDeepEqual (Some a) (Some b) = IsDeepEqual a b

-- Holds if both stores are partial or neither is, and they have deeply equal entities at the same uids.
pub record AreDeepEqual (S T : StoreView) : Type 0 where
  pub mode : S.partial ≡ T.partial
  pub entities : (q : EntityUID) → HasDeepEqual (finmap.get S.entities q) (finmap.get T.entities q)

-- Holds for the effect of taking the next item of an iterator. It returns `None` if the list is empty. Otherwise it
-- removes the first entity, and returns it or an allocation failure.
abbrev pub RemovesUids : {E : Type 0} → List EntityView → Option (Result EntityView E) → List EntityView → Type 0
RemovesUids s r t = MatchOption r ((s ≡ []) × (t ≡ [])) (λ x. (e : EntityView) × (s ≡ e ∷ t) × IfOk x (λ y. y ≡ e))
