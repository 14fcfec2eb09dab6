-- The first invalid entity of a store.
use Rattle.std.specs.Prelude.{◌≡◌, Bool, true, false, List, [], ◌∷◌, ◌++◌, Option, Some, None, MatchOption, map}
use Rattle.std.specs.Prelude.{if◌then◌else◌}
use Rattle.std.proofs.Common.{ap, sym, refl, subst, inl, inr, ◌∙◌}
use Rattle.std.proofs.lemmas.Bool.{false≢true}
use Rattle.std.proofs.lemmas.List.Elements.{All-push, All-weaker, All-map, All-same}
use Rattle.std.proofs.lemmas.Map.Entries.{All-lookup}
use Rattle.std.specs.List.{All}
use Rattle.std.specs.Option.{IfSome, option_map}
use Rattle.std.specs.Ordering.{is_lt}
use Rattle.std.specs.HashMap.{HashMap, get}
use Rattle.std.specs.Map.Iter.{deref_pair}
use Rattle.std.specs.Borrow.{Bor}
use Rattle.std.specs.FinMap as finmap
use Rattle.std.specs.declared.cmp.Ordering.TheVariants.{Less}
use Rattle.cedar_ids.specs.UidOf.{same_uid, uid_order}
use Rattle.cedar_ids.specs.laws.UidOfLaws.{uid_order_total}
use Rattle.cedar_ids.specs.declared.entity.EntityUID.{EntityUID}
use Rattle.cedar_entity.specs.declared.node.SharedEntity.{SharedEntity}
use Rattle.cedar_entity_maps.specs.laws.EntityMap.{entity_at, held_map, shared, UidsMatch}
use Rattle.cedar_entities.specs.StoreFaults.{AreAllValid, IsFirstFaulty, IsFirstFault, IsStoreFault}
use Rattle.cedar_entities.specs.laws.StoreFaults.{TakesFaulty, lesser_of, other_fault}
use Rattle.cedar_entity_maps.specs.Modes.{IsSound, ReportsUnsound}
use Rattle.cedar_entity_maps.specs.Plain.{EntityMap}
use Rattle.cedar_entity.specs.Validity.{IsValid}
use Rattle.cedar_entity.specs.declared.err.EntitiesError.{EntitiesError}
use Rattle.cedar_entity.specs.View.{EntityView}
use Rattle.cedar_entity.specs.laws.UidOrder.{irreflexive, less}
use Rattle.cedar_entities.proofs.StoreMaps.{seen_keyed}
use Rattle.cedar_entity_maps.specs.laws.Seen.{get_seen}

-- Holds if e is valid or its uid is not less than u.
abbrev ValidBefore : EntityUID → EntityView → Type 0
ValidBefore u e = uid_order e.uid u ≡ Less → IsValid e

-- Holds if the entity is the invalid one with the least uid among the entities of a list.
abbrev pub IsFirstOf : {Y : Type 0} → (EntityUID → Option EntityView) → (Y → EntityView) → List Y → Option EntityView
    → Type 0
IsFirstOf o entity ys None = All (λ y. IsValid (entity y)) ys
IsFirstOf o entity ys (Some a) = (o a.uid ≡ Some a) × (IsValid a → ⊥) × All (λ y. ValidBefore a.uid (entity y)) ys

module _ {Y : Type 0} (o : EntityUID → Option EntityView) (entity : Y → EntityView) (ys : List Y) (y : Y) where
  kept : (r : Option EntityView) → IsValid (entity y) → IsFirstOf o entity ys r → IsFirstOf o entity (ys ++ y ∷ []) r
  kept None v h = All-push (λ x. IsValid (entity x)) ys y h v
  kept (Some a) v h = (h.0, h.1, All-push (λ x. ValidBefore a.uid (entity x)) ys y h.2 (λ _. v))

  chosen : (a : EntityView) (b : Bool) → is_lt (uid_order (entity y).uid a.uid) ≡ b → o (entity y).uid ≡ Some (entity y)
      → (IsValid (entity y) → ⊥) → IsFirstOf o entity ys (Some a)
      → IsFirstOf o entity (ys ++ y ∷ []) (if b then Some (entity y) else Some a)
  chosen a true l at faulty h = (
    at,
    faulty,
    All-push (λ x. ValidBefore (entity y).uid (entity x)) ys y
        (All-weaker (λ x. ValidBefore a.uid (entity x)) (λ x. ValidBefore (entity y).uid (entity x))
        (λ x k g.
        k (uid_order_total.trans (entity x).uid (entity y).uid a.uid g
        (less (uid_order (entity y).uid a.uid) l))) ys h.2)
        (λ g. absurd (irreflexive (entity y).uid g)),
  )
  chosen a false l at faulty h =
      (h.0, h.1, All-push (λ x. ValidBefore a.uid (entity x)) ys y h.2 (λ g. absurd (false≢true (sym l ∙ ap is_lt g))))

  min_faulty : (r : Option EntityView) → o (entity y).uid ≡ Some (entity y) → (IsValid (entity y) → ⊥)
      → IsFirstOf o entity ys r → IsFirstOf o entity (ys ++ y ∷ []) (lesser_of (entity y) r)
  min_faulty None at faulty h = (
    at,
    faulty,
    All-push (λ x. ValidBefore (entity y).uid (entity x)) ys y
        (All-weaker (λ x. IsValid (entity x)) (λ x. ValidBefore (entity y).uid (entity x)) (λ x v _. v) ys h)
        (λ g. absurd (irreflexive (entity y).uid g)),
  )
  min_faulty (Some a) at faulty h = chosen a (is_lt (uid_order (entity y).uid a.uid)) refl at faulty h

  -- One more entity is checked.
  pub first_step : (r s : Option EntityView) → o (entity y).uid ≡ Some (entity y) → TakesFaulty (entity y) r s
      → IsFirstOf o entity ys r → IsFirstOf o entity (ys ++ y ∷ []) s
  first_step r s at (inl t) h = subst (IsFirstOf o entity (ys ++ y ∷ [])) (sym t.1) (kept r t.0 h)
  first_step r s at (inr t) h = subst (IsFirstOf o entity (ys ++ y ∷ [])) (sym t.1) (min_faulty r at t.0 h)

if_shared : (P : EntityView → Type 0) (o : Option SharedEntity) → IfSome o (λ n. P (shared n))
    → IfSome (option_map shared o) P
if_shared P None h = tt
if_shared P (Some n) h = h

before_at : (u q : EntityUID) (o : Option EntityView) → uid_order q u ≡ Less → IfSome o (λ e. e.uid ≡ q)
    → IfSome o (ValidBefore u) → IfSome o IsValid
before_at u q None l k h = tt
before_at u q (Some e) l k h = h (ap (λ x. uid_order x u) k ∙ l)

module _ {S : Type 0} (m : HashMap EntityUID SharedEntity S) where
  -- Each entity is at its own uid in the map.
  pub at_own_uid : UidsMatch m → (q : EntityUID) (n : SharedEntity) → get same_uid m q ≡ Some n
      → entity_at m (shared n).uid ≡ Some (shared n)
  at_own_uid match q n is =
      let at : entity_at m q ≡ Some (shared n) = ap (option_map shared) is in
      let key : (shared n).uid ≡ q = subst (λ o. IfSome o (λ e. e.uid ≡ q)) (get_seen m q ∙ at)
      (seen_keyed m match q) in
      ap (entity_at m) key ∙ at

  held_so : (P : EntityView → Type 0) (ys : List (Bor EntityUID × Bor SharedEntity)) → map deref_pair ys ≡ m.entries
      → All (λ p. P (shared p.1.now)) ys → (q : EntityUID) → IfSome (entity_at m q) P
  held_so P ys whole h q =
      let Q : EntityUID × SharedEntity → Type 0 = λ e. P (shared e.1) in
      if_shared P (get same_uid m q) (All-lookup (λ n. P (shared n)) (same_uid q) m.entries
      (All-same Q m.entries (map deref_pair ys) (sym whole) (All-map Q deref_pair ys h)))

  seen_so : (P : EntityView → Type 0) → ((q : EntityUID) → IfSome (entity_at m q) P) → (q : EntityUID)
      → IfSome (finmap.get (held_map m) q) P
  seen_so P h q = subst (λ o. IfSome o P) (sym (get_seen m q)) (h q)

  -- The first invalid entity of all entries.
  pub first_of_all : UidsMatch m → (ys : List (Bor EntityUID × Bor SharedEntity)) → map deref_pair ys ≡ m.entries
      → (r : Option EntityView) → IsFirstOf (entity_at m) (λ p. shared p.1.now) ys r
      → MatchOption r (AreAllValid (held_map m)) (IsFirstFaulty (held_map m))
  first_of_all match ys whole None h = seen_so IsValid (held_so IsValid ys whole h)
  first_of_all match ys whole (Some a) h = record {
    entities = get_seen m a.uid ∙ h.0;
    faulty = h.1;
    before =
        λ q l. before_at a.uid q (finmap.get (held_map m) q) l (seen_keyed m match q)
        (seen_so (ValidBefore a.uid) (held_so (ValidBefore a.uid) ys whole h.2) q);
  }

-- A fault of an entity is a fault of the store, if the ancestors have no fault.
pub told_of_first : (D : EntityMap) (r : EntitiesError) → IsSound D → IsFirstFault D r → IsStoreFault D r
told_of_first D r h f =
    other_fault (ReportsUnsound D) (λ e. IsSound D × IsFirstFault D e) (λ t g. absurd g.1.fault) r (h, f)
