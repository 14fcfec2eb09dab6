-- An entity that an edit does not affect reaches the same uids before and after the edit.
use Rattle.std.specs.Prelude.{◌≡◌, ◌↔◌, ◌⊎◌, Bool, true, false, List}
use Rattle.std.proofs.Common.{ap, sym, refl, subst, ◌∙◌, inl, inr}
use Rattle.std.proofs.lemmas.Bool.{both_ways, false_from_ne_true, or_parts}
use Rattle.std.specs.List.{list_any}
use Rattle.std.specs.Set.{is_member}
use Rattle.cedar_graph.specs.Graph.{Reach}
use Rattle.cedar_graph.specs.laws.Reaches.{reach_edge, reach_trans}
use Rattle.cedar_ids.specs.UidOf.{same_uid}
use Rattle.cedar_ids.specs.declared.entity.EntityUID.{EntityUID}
use Rattle.cedar_entity_maps.specs.Affected.{is_affected}
use Rattle.cedar_entity_maps.specs.Modes.{ancestry}
use Rattle.cedar_entity_maps.specs.Plain.{StoreView, IsPlainStore}
use Rattle.cedar_entity_maps.specs.InputStore.{InputStore, graph}
use Rattle.cedar_entity_maps.specs.laws.AnyOf.{any_member}
use Rattle.cedar_entity_maps.specs.laws.PlainAncestors.{ancestry_plain}
use Rattle.cedar_entity_diff.proofs.United.{same_reach}

-- Holds if the edited uids A are the only ones whose edges change: each other uid has the same edges in both graphs, if
-- they do not lead to an edited uid.
abbrev pub ChangesOnly : (EntityUID → EntityUID → Bool) → (EntityUID → EntityUID → Bool) → List EntityUID → Type 0
ChangesOnly G H A = (a b : EntityUID) → is_member same_uid A a ≡ false
    → (G a b ≡ true → is_member same_uid A b ≡ false) → G a b ≡ H a b

module _ (W Y : InputStore) (S : StoreView) (plain : IsPlainStore W S) (A : List EntityUID)
    (same : ChangesOnly (graph W) (graph Y) A) where
  further : (q a b : EntityUID) → (q ≡ a) ⊎ Reach (graph W) q a → graph W a b ≡ true → Reach (graph W) q b
  further q a b (inl e) g = subst (λ x. Reach (graph W) x b) (sym e) (reach_edge (graph W) a b g)
  further q a b (inr r) g = reach_trans (graph W) q a b r (reach_edge (graph W) a b g)

  unedited : (q a : EntityUID) → is_affected S.entities A q ≡ false → (q ≡ a) ⊎ Reach (graph W) q a
      → is_member same_uid A a ≡ false
  unedited q a un (inl e) = ap (is_member same_uid A) (sym e)
      ∙ (or_parts (is_member same_uid A q) (list_any (ancestry S.entities q) A) un).0
  unedited q a un (inr r) = false_from_ne_true (is_member same_uid A a) (λ m.
      both_ways (list_any (ancestry S.entities q) A)
      (or_parts (is_member same_uid A q) (list_any (ancestry S.entities q) A) un).1
      (any_member (ancestry S.entities q) A a m ((ancestry_plain W S plain q a).1 r)))

  pub reach_kept : (q x : EntityUID) → is_affected S.entities A q ≡ false → Reach (graph Y) q x ↔ Reach (graph W) q x
  reach_kept q x un = same_reach (graph W) (graph Y) (λ a. (q ≡ a) ⊎ Reach (graph W) q a)
      (λ a b c. same a b (unedited q a un c) (λ g. unedited q b un (inr (further q a b c g))))
      (λ a b c g. inr (further q a b c g)) q x (inl refl)
