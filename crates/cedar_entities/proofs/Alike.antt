-- Comparison and copying of the maps of stores.
use Rattle.std.specs.Prelude.{◌≡◌, Bool, true, false, cond, List, [], ◌∷◌, Option, Some, None, map, is_some, not}
use Rattle.std.proofs.Common.{ap, sym, refl, subst, ◌∙◌}
use Rattle.std.proofs.lemmas.Bool.{false≢true}
use Rattle.std.proofs.Math.Bool.{beq}
use Rattle.std.specs.Option.{option_map, IfSome}
use Rattle.std.specs.HashMap.{HashMap, get}
use Rattle.std.specs.List.{AllByRecursion, AllZip}
use Rattle.std.specs.Map.{lookup}
use Rattle.std.specs.FinMap as finmap
use Rattle.cedar_ids.specs.UidOf.{same_uid}
use Rattle.cedar_ids.specs.laws.UidOfLaws.{same_uid_decides}
use Rattle.cedar_ids.specs.declared.entity.EntityUID.{EntityUID}
use Rattle.cedar_entity.specs.declared.node.SharedEntity.{SharedEntity}
use Rattle.cedar_entities.specs.Answers.{HasDeepEqual, AreDeepEqual}
use Rattle.cedar_entity_maps.specs.laws.EntityMap.{entity_at, held_map, shared, UidsMatch}
use Rattle.cedar_entity_maps.specs.Plain.{StoreView, EntityMap}
use Rattle.cedar_entity.specs.View.{EntityView, IsEquivalenceRelation}
use Rattle.cedar_entity.specs.laws.Views.{deep_equality}
use Rattle.cedar_entity_maps.specs.laws.Seen.{stored, get_seen}
use Rattle.cedar_entity_maps.specs.laws.Keyed.{left_match}

module _ (o : EntityUID → Option EntityView) (q : EntityUID) where
  alike_at : (b : Bool) (e : EntityUID × SharedEntity) (rest : Option SharedEntity) → same_uid q e.0 ≡ b
      → HasDeepEqual (Some (shared e.1)) (o e.0)
      → IfSome (option_map shared rest) (λ x. HasDeepEqual (Some x) (o q))
      → IfSome (option_map shared (cond b (Some e.1) rest)) (λ x. HasDeepEqual (Some x) (o q))
  alike_at true e rest s h k =
      subst (λ x. HasDeepEqual (Some (shared e.1)) (o x)) (sym ((same_uid_decides q e.0).0 s)) h
  alike_at false e rest s h k = k

  -- If each entry of a list has a deeply equal entity, so has an entry that is found.
  pub found_alike : (es : List (EntityUID × SharedEntity))
      → AllByRecursion (λ e. HasDeepEqual (Some (shared e.1)) (o e.0)) es
      → IfSome (option_map shared (lookup (same_uid q) es)) (λ x. HasDeepEqual (Some x) (o q))
  found_alike [] h = tt
  found_alike (e ∷ es) h = alike_at (same_uid q e.0) e (lookup (same_uid q) es) refl h.0 (found_alike es h.1)

module _ (o : EntityUID → Option SharedEntity) (q : EntityUID) where
  key_at : (b : Bool) (e : EntityUID × SharedEntity) (rest : Option SharedEntity) → same_uid q e.0 ≡ b
      → is_some (o e.0) ≡ true
      → (is_some rest ≡ true → is_some (o q) ≡ true) → is_some (cond b (Some e.1) rest) ≡ true → is_some (o q) ≡ true
  key_at true e rest s h k t = ap (λ x. is_some (o x)) ((same_uid_decides q e.0).0 s) ∙ h
  key_at false e rest s h k t = k t

  -- If each entry of a list has its key in the other map, so has an entry that is found.
  pub found_key : (es : List (EntityUID × SharedEntity)) → AllByRecursion (λ e. is_some (o e.0) ≡ true) es
      → is_some (lookup (same_uid q) es) ≡ true → is_some (o q) ≡ true
  found_key [] h t = absurd (false≢true t)
  found_key (e ∷ es) h t = key_at (same_uid q e.0) e (lookup (same_uid q) es) refl h.0 (found_key es h.1) t

both_at : (o p : Option SharedEntity) → IfSome (option_map shared o) (λ e. HasDeepEqual (Some e) (option_map shared p))
    → (is_some p ≡ true → is_some o ≡ true) → HasDeepEqual (option_map shared o) (option_map shared p)
both_at None None h k = tt
both_at None (Some p) h k = absurd (false≢true (k refl))
both_at (Some o) p h k = h

first_at : (o p : Option SharedEntity) → HasDeepEqual (option_map shared o) (option_map shared p)
    → IfSome (option_map shared o) (λ e. HasDeepEqual (Some e) (option_map shared p))
first_at None p h = tt
first_at (Some o) p h = h

keys_at : (o p : Option SharedEntity) → HasDeepEqual (option_map shared o) (option_map shared p) → is_some p ≡ true
    → is_some o ≡ true
keys_at None None h t = t
keys_at None (Some p) h t = absurd h
keys_at (Some o) p h t = refl

module _ {S : Type 0} (m n : HashMap EntityUID SharedEntity S) (A B : StoreView) (is_m : held_map m ≡ A.entities)
    (is_n : held_map n ≡ B.entities) where
  pub to_deep : A.partial ≡ B.partial → ((q : EntityUID) → IfSome (entity_at m q) (λ e. HasDeepEqual (Some e) (entity_at n q)))
      → ((q : EntityUID) → is_some (get same_uid n q) ≡ true → is_some (get same_uid m q) ≡ true) → AreDeepEqual A B
  to_deep mode alike keys = record {
    mode = mode;
    entities = λ q. subst (λ f. HasDeepEqual (f q) (finmap.get B.entities q)) (stored m A.entities is_m)
        (subst (λ f. HasDeepEqual (entity_at m q) (f q)) (stored n B.entities is_n)
        (both_at (get same_uid m q) (get same_uid n q) (alike q) (keys q)));
  }

  alike_held : AreDeepEqual A B → (q : EntityUID) → HasDeepEqual (entity_at m q) (entity_at n q)
  alike_held d q =
      subst (λ f. HasDeepEqual (f q) (entity_at n q)) (sym (stored m A.entities is_m))
      (subst (λ f. HasDeepEqual (finmap.get A.entities q) (f q)) (sym (stored n B.entities is_n)) (d.entities q))

  pub deep_alike : AreDeepEqual A B → (q : EntityUID) → IfSome (entity_at m q) (λ e. HasDeepEqual (Some e) (entity_at n q))
  deep_alike d q = first_at (get same_uid m q) (get same_uid n q) (alike_held d q)

  pub deep_keys : AreDeepEqual A B → (q : EntityUID) → is_some (get same_uid n q) ≡ true
      → is_some (get same_uid m q) ≡ true
  deep_keys d q = keys_at (get same_uid m q) (get same_uid n q) (alike_held d q)

alike_itself : (o : Option EntityView) → HasDeepEqual o o
alike_itself None = tt
alike_itself (Some e) = deep_equality.itself e

alike_turned : (o p : Option EntityView) → HasDeepEqual o p → HasDeepEqual p o
alike_turned None None h = tt
alike_turned None (Some b) h = h
alike_turned (Some a) None h = h
alike_turned (Some a) (Some b) h = deep_equality.turned a b h

alike_joined : (o p r : Option EntityView) → HasDeepEqual o p → HasDeepEqual p r → HasDeepEqual o r
alike_joined None None r h k = k
alike_joined None (Some b) r h k = absurd h
alike_joined (Some a) None r h k = absurd h
alike_joined (Some a) (Some b) None h k = k
alike_joined (Some a) (Some b) (Some x) h k = deep_equality.joined a b x h k

pub deep_stores : IsEquivalenceRelation AreDeepEqual
deep_stores = record {
  itself = λ a. record { mode = refl; entities = λ q. alike_itself (finmap.get a.entities q) };
  turned =
      λ a b h. record {
        mode = sym h.mode;
        entities = λ q. alike_turned (finmap.get a.entities q) (finmap.get b.entities q) (h.entities q);
      };
  joined =
      λ a b c h g. record {
        mode = h.mode ∙ g.mode;
        entities = λ q. alike_joined (finmap.get a.entities q) (finmap.get b.entities q) (finmap.get c.entities q) (h.entities q)
            (g.entities q);
      };
}

-- An entry of a copied map.
abbrev pub pair_seen : EntityUID × SharedEntity → EntityUID × EntityView
pair_seen e = (e.0, shared e.1)

pub copied : (R : EntityUID × SharedEntity → EntityUID × SharedEntity → Type 0)
    → ((p q : EntityUID × SharedEntity) → R p q → (q.0 ≡ p.0) × (shared q.1 ≡ shared p.1))
    → (es fs : List (EntityUID × SharedEntity)) → AllZip R es fs → map pair_seen fs ≡ map pair_seen es
copied R k [] [] h = refl
copied R k [] (f ∷ fs) h = absurd h
copied R k (e ∷ es) [] h = absurd h
copied R k (e ∷ es) (f ∷ fs) h = let s = k e f h.0 in λ i. (s.0 i, s.1 i) ∷ copied R k es fs h.1 i

pub same_flag : (a b : Bool) → not (beq a b) ≡ false → a ≡ b
same_flag true true h = refl
same_flag true false h = absurd (false≢true (sym h))
same_flag false true h = absurd (false≢true (sym h))
same_flag false false h = refl

pub copied_match : {S : Type 0} (m n : HashMap EntityUID SharedEntity S) → held_map n ≡ held_map m → UidsMatch m
    → UidsMatch n
copied_match m n same h =
    left_match m n (λ _. false) (λ q. sym (get_seen n q) ∙ ap (λ (D : EntityMap). finmap.get D q) same ∙ get_seen m q) h
