-- Stores with the same uids.
use Rattle.std.specs.Prelude.{◌≡◌, ◌↔◌, Bool, true, is_some}
use Rattle.std.proofs.Common.{ap, sym, refl, ◌∙◌}
use Rattle.std.proofs.lemmas.Bool.{and_from, and_parts}
use Rattle.std.proofs.lemmas.Slice.Eq.{slice_eq-Decides}
use Rattle.std.proofs.Math.Bool.{beq}
use Rattle.std.specs.Bool.{Decides}
use Rattle.std.specs.Cmp.{booleans_Decides}
use Rattle.std.specs.Cmp.Lexicographic.{pointwise}
use Rattle.std.specs.HashMap.{HashMap, get}
use Rattle.std.specs.List.{list_any}
use Rattle.std.specs.Ordering.{eq_by_cmp}
use Rattle.std.specs.FinSet as set
use Rattle.std.specs.FinMap as finmap
use Rattle.cedar_ids.specs.UidOf.{same_uid, uid_order}
use Rattle.cedar_ids.specs.laws.UidOfLaws.{same_uid_decides, uid_order_total}
use Rattle.cedar_ids.specs.declared.entity.EntityUID.{EntityUID}
use Rattle.cedar_entity.specs.declared.node.SharedEntity.{SharedEntity}
use Rattle.cedar_entity_maps.specs.laws.EntityMap.{held_map}
use Rattle.cedar_entity_maps.specs.Plain.{StoreView, EntityMap}
use Rattle.cedar_entities.specs.SameUids.{uids_of_map, uids_in, same_uids_and_mode, HaveSameUids}
use Rattle.cedar_uid_sets.specs.laws.Sets.{one_equal}
use Rattle.cedar_entities.proofs.Adding.{same_bool}
use Rattle.cedar_entity_maps.specs.laws.Seen.{stored, some_shared}

contains_uid : (D : EntityMap) (q : EntityUID) → set.contains (uids_of_map D) q ≡ finmap.contains_key D q
contains_uid D q = set.contains-from_list uid_order_total (finmap.keys D) q ∙ sym (finmap.contains_key-keys D q)

listed : (S T : StoreView) → Decides (pointwise same_uid (uids_in S) (uids_in T)) (uids_in S ≡ uids_in T)
listed S T = slice_eq-Decides same_uid_decides (uids_in S) (uids_in T) (pointwise same_uid (uids_in S) (uids_in T)) refl

pub same_uids_told : (S T : StoreView) → (same_uids_and_mode S T ≡ true) ↔ HaveSameUids S T
same_uids_told S T = (
  λ h. record {
    mode =
        (booleans_Decides S.partial T.partial).0
        (and_parts (beq S.partial T.partial) (pointwise same_uid (uids_in S) (uids_in T)) h).0;
    uids = λ q.
        let same : uids_in S ≡ uids_in T = (listed S T).0
        (and_parts (beq S.partial T.partial) (pointwise same_uid (uids_in S) (uids_in T)) h).1 in
        sym (contains_uid S.entities q) ∙ set.contains-items (uids_of_map S.entities) q
        ∙ ap (list_any (eq_by_cmp uid_order q)) same
        ∙ sym (set.contains-items (uids_of_map T.entities) q) ∙ contains_uid T.entities q;
  },
  λ k. and_from (beq S.partial T.partial) (pointwise same_uid (uids_in S) (uids_in T))
      ((booleans_Decides S.partial T.partial).1 k.mode)
      ((listed S T).1
      (ap set.items (set.same_set uid_order_total one_equal (uids_of_map S.entities) (uids_of_map T.entities)
      (λ q. contains_uid S.entities q ∙ k.uids q ∙ sym (contains_uid T.entities q))))),
)

-- The result of a call that compares the uids of two stores.
pub answers_same : (r : Bool) (S T : StoreView) → (r ≡ true) ↔ HaveSameUids S T → r ≡ same_uids_and_mode S T
answers_same r S T h = same_bool r (same_uids_and_mode S T) h (same_uids_told S T)

key_held : {S : Type 0} (m : HashMap EntityUID SharedEntity S) (D : EntityMap) → held_map m ≡ D → (q : EntityUID)
    → finmap.contains_key D q ≡ is_some (get same_uid m q)
key_held m D is q = ap (λ f. is_some (f q)) (sym (stored m D is)) ∙ sym (some_shared (get same_uid m q))

module _ {S : Type 0} (m n : HashMap EntityUID SharedEntity S) (A B : StoreView) (is_m : held_map m ≡ A.entities)
    (is_n : held_map n ≡ B.entities) where
  pub to_same : A.partial ≡ B.partial
      → ((q : EntityUID) → is_some (get same_uid n q) ≡ true → is_some (get same_uid m q) ≡ true)
      → ((q : EntityUID) → is_some (get same_uid m q) ≡ true → is_some (get same_uid n q) ≡ true) → HaveSameUids A B
  to_same mode one other = record {
    mode = mode;
    uids =
        λ q. key_held m A.entities is_m q ∙ same_bool (is_some (get same_uid m q)) (is_some (get same_uid n q)) (
          other q,
          one q,
        ) (λ t. t, λ t. t) ∙ sym (key_held n B.entities is_n q);
  }

  pub same_back : HaveSameUids A B → (q : EntityUID) → is_some (get same_uid n q) ≡ true
      → is_some (get same_uid m q) ≡ true
  same_back k q t = sym (key_held m A.entities is_m q) ∙ k.uids q ∙ key_held n B.entities is_n q ∙ t

  pub same_forth : HaveSameUids A B → (q : EntityUID) → is_some (get same_uid m q) ≡ true
      → is_some (get same_uid n q) ≡ true
  same_forth k q t = sym (key_held n B.entities is_n q) ∙ sym (k.uids q) ∙ key_held m A.entities is_m q ∙ t
