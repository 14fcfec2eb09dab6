-- The listed children after changes at one uid after another, and the descendants of some uids.
use Rattle.std.specs.Prelude.{◌≡◌, ◌↔◌, Bool, true, false, not, ◌&&◌, ◌||◌, List, Result, Ok, Err}
use Rattle.std.specs.Prelude.{IfOk}
use Rattle.std.proofs.Common.{ap, sym, refl, subst, inl, inr, ◌∙◌}
use Rattle.std.proofs.lemmas.Bool.{or_left, or_right, or_cases}
use Rattle.std.specs.Option.{IfSome}
use Rattle.std.specs.Result.{result_ok}
use Rattle.std.specs.List.{list_any}
use Rattle.std.specs.Set.{is_member}
use Rattle.std.specs.FinMap as finmap
use Rattle.cedar_graph.specs.Graph.{Reach}
use Rattle.cedar_ids.specs.UidOf.{same_uid}
use Rattle.cedar_ids.specs.declared.entity.EntityUID.{EntityUID}
use Rattle.cedar_children.specs.Children.{IsDescendantOrSelf}
use Rattle.cedar_entity_maps.specs.Modes.{ancestry}
use Rattle.cedar_entity_maps.specs.Plain.{EntityMap}
use Rattle.cedar_entity_maps.specs.Affected.{is_affected}
use Rattle.cedar_entity_maps.specs.InputStore.{InputStore, graph, is_parent_in}
use Rattle.cedar_entity_maps.specs.laws.EntityMap.{entity_at}
use Rattle.cedar_entity_maps.specs.laws.Indexes.{IsPlainHeld, parentage, parent_held}
use Rattle.cedar_entity_maps.specs.laws.PlainAncestors.{ancestry_plain}
use Rattle.cedar_entity_maps.specs.laws.AnyOf.{any_found, any_member, same_bool}

-- One more uid of a list is inserted.
pub joined_more : (a m k x : Bool) → ((a || (m && x)) || (k && x)) ≡ (a || ((m || k) && x))
joined_more true m k x = refl
joined_more false true true true = refl
joined_more false true true false = refl
joined_more false true false true = refl
joined_more false true false false = refl
joined_more false false k x = refl

-- One more uid of a list is removed.
pub left_more : (a m k x : Bool) → ((a && not (m && x)) && not (k && x)) ≡ (a && not ((m || k) && x))
left_more false m k x = refl
left_more true true true true = refl
left_more true true true false = refl
left_more true true false true = refl
left_more true true false false = refl
left_more true false k x = refl

-- One more uid of a list is removed as a parent.
pub forgotten_more : (m k x : Bool) → (not k && (not m && x)) ≡ (not (m || k) && x)
forgotten_more true true x = refl
forgotten_more true false x = refl
forgotten_more false k x = refl

-- In a plain store, the descendants of some uids are the entities that an edit of the uids affects.
pub below_touched : (D : EntityMap) → IsPlainHeld D → (child : EntityUID → EntityUID → Bool)
    → ((p q : EntityUID) → child p q ≡ parentage (finmap.get D) p q)
    → (A : List EntityUID) (seen : EntityUID → Bool)
    → ((q : EntityUID) → (seen q ≡ true) ↔ IsDescendantOrSelf (λ a b. child b a) A q)
    → (q : EntityUID) → seen q ≡ is_affected D A q
below_touched D entity_at child is A seen all q = same_bool (seen q) (is_affected D A q)
    (λ t. elim ((all q).0 t) [
      | inl m ↦ or_left (is_member same_uid A q) (list_any (ancestry D q) A) m
      | inr r ↦ or_right (is_member same_uid A q) (list_any (ancestry D q) A)
          (any_member (ancestry D q) A r.0 r.1 ((plain q r.0).1 (subst (λ G. Reach G q r.0) same r.2)))
    ])
    (λ t. elim (or_cases (is_member same_uid A q) (list_any (ancestry D q) A) t) [
      | inl m ↦ (all q).1 (inl m)
      | inr k ↦ let f = any_found (ancestry D q) A k in
          (all q).1 (inr (f.0, f.1, subst (λ G. Reach G q f.0) (sym same) ((plain q f.0).0 f.2)))
    ])
  where
    W : InputStore
    W = entity_at.0

    plain : (a b : EntityUID) → (ancestry D a b ≡ true) ↔ Reach (graph W) a b
    plain = ancestry_plain W (record { entities = D; partial = W.partial; known_plain = true }) entity_at.1

    same : (λ a b. child b a) ≡ graph W
    same = λ i a b. (is b a ∙ sym (parent_held (finmap.get D a) b) ∙ ap (λ o. is_parent_in o b) (entity_at.1.holds a)) i

pub if_ok : {X E : Type 0} (P : X → Type 0) (r : Result X E) → IfOk r P → IfSome (result_ok r) P
if_ok P (Ok x) h = h
if_ok P (Err e) h = tt
