-- Queries of an entity of a plain store.
use Rattle.std.specs.Prelude.{◌≡◌, ◌↔◌, ◌||◌, Bool, true, false, Some, List, ℕ}
use Rattle.std.proofs.Common.{ap, sym, refl, ◌∙◌, subst}
use Rattle.std.specs.Option.{option_map, IfSome}
use Rattle.std.specs.FinMap as finmap
use Rattle.std.specs.FinSet as set
use Rattle.std.specs.Set.{is_member}
use Rattle.cedar_entity.specs.View.{EntityView, has_ancestor}
use Rattle.cedar_entity_maps.specs.Plain.{StoreView, HasDisjointParents, IsPlainStore, parts_of}
use Rattle.cedar_entity_maps.specs.InputStore.{InputStore, graph, is_parent_in}
use Rattle.cedar_graph.specs.Graph.{Reach}
use Rattle.cedar_ids.specs.UidOf.{same_uid}
use Rattle.cedar_ids.specs.declared.entity.EntityUID.{EntityUID}
use Rattle.cedar_uid_sets.specs.UidSets.{Ascend}
use Rattle.cedar_c_lists.specs.Texts.{AreTextsOf, IsReadOf}
use Rattle.cedar_c_stores.specs.Reads.{IsIndirectAncestorIn, IsStoredAt, has_indirect}
use Rattle.cedar_c_stores.specs.Stores.{IsParent, ListsThose, has_parent}

-- In a plain store, the ancestors of an entity are the uids that it reaches.
pub above_held : (S : StoreView) (u v : EntityUID) (x : EntityView) → finmap.get S.entities u ≡ Some x → (W : InputStore)
    → IsPlainStore W S → (has_ancestor x v ≡ true) ↔ Reach (graph W) u v
above_held S u v x e W p =
    subst (λ o. IfSome o (λ y. (z : EntityUID) → (has_ancestor y z ≡ true) ↔ Reach (graph W) u z)) e (p.reached u) v

-- In a plain store, the parents of an entity are its parents in the input store.
pub parent_held : (S : StoreView) (u v : EntityUID) (x : EntityView) → finmap.get S.entities u ≡ Some x → (W : InputStore)
    → IsPlainStore W S → graph W u v ≡ set.contains x.parents v
parent_held S u v x e W p = ap (λ o. is_parent_in o v) (sym (p.holds u) ∙ ap (option_map parts_of) e)

-- If b is false whenever a is true, and b is true, then a is false.
first_is_false : (a b : Bool) → (a ≡ true → b ≡ false) → b ≡ true → a ≡ false
first_is_false false b apart second = refl
first_is_false true b apart second = sym second ∙ apart refl

second_is_enough : (a b : Bool) → b ≡ true → (a || b) ≡ true
second_is_enough true b second = refl
second_is_enough false b second = second

second_is_left : (a b : Bool) → (a || b) ≡ true → a ≡ false → b ≡ true
second_is_left true true either first = refl
second_is_left true false either first = sym first
second_is_left false b either first = either

-- In a plain store, the indirect ancestors of an entity are the uids that it reaches and that are not parents.
pub far_above_held : (S : StoreView) (u v : EntityUID) (x : EntityView) → finmap.get S.entities u ≡ Some x → (W : InputStore)
    → IsPlainStore W S → (has_indirect x v ≡ true) ↔ IsIndirectAncestorIn W u v
far_above_held S u v x e W p =
    let above = above_held S u v x e W p in
    let parent = parent_held S u v x e W p in
    let apart : HasDisjointParents x = subst (λ o. IfSome o HasDisjointParents) e (p.apart u) in (
      λ far. (
        above.0 (second_is_enough (set.contains x.parents v) (set.contains x.indirect v) far),
        parent ∙ first_is_false (set.contains x.parents v) (set.contains x.indirect v) (apart v) far,
      ),
      λ (reach, other). second_is_left (set.contains x.parents v) (set.contains x.indirect v) (above.1 reach)
          (sym parent ∙ other),
    )

-- In a plain store, the uids that the entity has as parents are its parents in the input store.
pub parents_held : (S : StoreView) (u v : EntityUID) (x : EntityView) → finmap.get S.entities u ≡ Some x → (W : InputStore)
    → IsPlainStore W S → (has_parent x v ≡ true) ↔ IsParent W u v
parents_held S u v x e W p = let same = parent_held S u v x e W p in (λ h. same ∙ h, λ g. sym same ∙ g)

-- A call that stores texts leaves the store, the last error, the nodes and the numbers unchanged.
pub answered : {A B C D E : Type 0} → A → B → C → D → E → A × B × C × D × E
answered a b c d e = (a, b, c, d, e)

-- The texts of the uids for which a test of the entity is true.
pub listed : (test : EntityView → EntityUID → Bool) (Related : InputStore → EntityUID → EntityUID → Type 0) (S : StoreView)
    (u : EntityUID) (x : EntityView) (uids : List EntityUID) (text : List ℕ) (texts : List (List ℕ))
    → ((S : StoreView) (u v : EntityUID) (x : EntityView) → finmap.get S.entities u ≡ Some x → (W : InputStore)
    → IsPlainStore W S → (test x v ≡ true) ↔ Related W u v)
    → IsReadOf u text → Some x ≡ finmap.get S.entities u → Ascend uids
    → ((q : EntityUID) → is_member same_uid uids q ≡ test x q) → AreTextsOf uids texts
    → (v : EntityUID) × IsReadOf v text × ListsThose test Related S v texts
listed test Related S u x uids text texts held read here ascend members written = (
  u,
  read,
  record {
    entity = x;
    entities = sym here;
    uids = uids;
    ascend = ascend;
    members = members;
    plain = λ W p q. subst (λ (b : Bool). (b ≡ true) ↔ Related W u q) (sym (members q)) (held S u q x (sym here) W p);
    are_texts = written;
  },
)

-- Texts of the entity with the uid in a text.
pub answered_at : (Are : EntityView → List (List ℕ) → Type 0) (S : StoreView) (u : EntityUID) (x : EntityView) (text : List ℕ)
    (texts : List (List ℕ)) → IsReadOf u text → Some x ≡ finmap.get S.entities u → Are x texts
    → (e : EntityView) × IsStoredAt S text e × Are e texts
answered_at Are S u x text texts read here are = (x, (u, read, sym here), are)

-- A test of the entity with the uid in a text, and of the uid in another text.
pub related : (test : EntityView → EntityUID → Bool) (S : StoreView) (u v : EntityUID) (x : EntityView) (child other : List ℕ)
    (b : Bool) → IsReadOf u child → Some x ≡ finmap.get S.entities u → IsReadOf v other → b ≡ test x v
    → (e : EntityView) × (w : EntityUID) × IsStoredAt S child e × IsReadOf w other × (b ≡ test e w)
related test S u v x child other b read here read_other told = (x, v, (u, read, sym here), read_other, told)
