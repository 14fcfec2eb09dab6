-- The repair of a part of an edited entity map is the repair of the whole.
use Rattle.std.specs.Prelude.{◌≡◌, ◌↔◌, Bool, true, false, ◌||◌, List, Option, None}
use Rattle.std.proofs.Common.{ap, sym, refl, subst, ◌∙◌, inl, inr}
use Rattle.std.specs.Option.{option_map}
use Rattle.std.specs.FinMap as finmap
use Rattle.cedar_graph.specs.Graph.{Reach, KeepsEdges, AddsOnlyReached}
use Rattle.cedar_graph.specs.laws.Reaches.{reach_edge, reach_over_reach}
use Rattle.cedar_ids.specs.declared.entity.EntityUID.{EntityUID}
use Rattle.cedar_entity.specs.View.{EntityView, unchanged_parts}
use Rattle.cedar_entity_maps.specs.Affected.{is_affected, IsRepairOf, IsAcyclicAt}
use Rattle.cedar_entity_maps.specs.Modes.{ancestry, is_ancestor_in}
use Rattle.cedar_entity_maps.specs.Plain.{EntityMap}
use Rattle.cedar_dry_run.specs.laws.Parts.{passes_or_not, reach_out}

-- Holds if the entity of D at q is a repair of the entity of M at q.
pub record Leaves (D M : EntityMap) (A : List EntityUID) (q : EntityUID) : Type 0 where
  pub parts : option_map unchanged_parts (finmap.get D q) ≡ option_map unchanged_parts (finmap.get M q)
  pub alone : is_affected D A q ≡ false → finmap.get D q ≡ finmap.get M q
  pub stays : (b : EntityUID) → ancestry M q b ≡ true → ancestry D q b ≡ true
  pub only : (b : EntityUID) → ancestry D q b ≡ true → Reach (ancestry M) q b

-- An entity that the edit does not change is its own repair.
pub leaves_same : (D M : EntityMap) (A : List EntityUID) (q : EntityUID) → finmap.get M q ≡ finmap.get D q → Leaves D M A q
leaves_same D M A q is = record {
  parts = ap (option_map unchanged_parts) (sym is);
  alone = λ _. sym is;
  stays = λ b h. ap (λ o. is_ancestor_in o b) (sym is) ∙ h;
  only = λ b h. reach_edge (ancestry M) q b (ap (λ o. is_ancestor_in o b) is ∙ h);
}

-- D is an entity map, and M is D after an edit of the uids A. Q has the entities of M at the uids that pass a test, and
-- no others, and N is its repair. T has the entities of N at these uids, and those of D at the others. It is plain.
module _ (D P M Q N T : EntityMap) (A : List EntityUID) (test : EntityUID → Bool)
    (repair : IsRepairOf (is_affected P A) Q N)
    (affected : (q : EntityUID) → test q ≡ true → is_affected P A q ≡ is_affected D A q)
    (same : (q : EntityUID) → test q ≡ true → finmap.get Q q ≡ finmap.get M q)
    (none : (q : EntityUID) → test q ≡ false → finmap.get Q q ≡ None)
    (within : (q : EntityUID) → test q ≡ true → finmap.get T q ≡ finmap.get N q)
    (outside : (q : EntityUID) → test q ≡ false → finmap.get T q ≡ finmap.get D q)
    (leaves : (q : EntityUID) → test q ≡ false → Leaves D M A q)
    (G : EntityUID → EntityUID → Bool)
    (reached : (a b : EntityUID) → (ancestry T a b ≡ true) ↔ Reach G a b)
    (acyclic : (a : EntityUID) → Reach G a a → ⊥) where
  at : (q : EntityUID) (P : Type 0) → (test q ≡ true → P) → (test q ≡ false → P) → P
  at q P f g = elim (passes_or_not (test q)) [
    | inl t ↦ f t
    | inr n ↦ g n
  ]

  ancestors_within : (a b : EntityUID) → test a ≡ true → ancestry T a b ≡ ancestry N a b
  ancestors_within a b t = ap (λ o. is_ancestor_in o b) (within a t)

  ancestors_outside : (a b : EntityUID) → test a ≡ false → ancestry T a b ≡ ancestry D a b
  ancestors_outside a b f = ap (λ o. is_ancestor_in o b) (outside a f)

  stays : KeepsEdges (ancestry M) (ancestry T)
  stays a b h = at a (ancestry T a b ≡ true)
      (λ t. ancestors_within a b t ∙ repair.stays a b (ap (λ o. is_ancestor_in o b) (same a t) ∙ h))
      (λ f. ancestors_outside a b f ∙ (leaves a f).stays b h)

  only : AddsOnlyReached (ancestry M) (ancestry T)
  only a b h = at a (Reach (ancestry M) a b)
      (λ t. reach_out test (ancestry M) (ancestry Q) (λ x y s. ap (λ o. is_ancestor_in o y) (same x s))
      (λ x y n. ap (λ o. is_ancestor_in o y) (none x n)) a b (repair.only a b (sym (ancestors_within a b t) ∙ h)))
      (λ f. (leaves a f).only b (sym (ancestors_outside a b f) ∙ h))

  up : (a b : EntityUID) → Reach (ancestry M) a b → Reach G a b
  up a b r = reach_over_reach G (ancestry M) (λ x y h. (reached x y).0 (stays x y h)) a b r

  pub repaired : IsRepairOf (is_affected D A) M T × IsAcyclicAt (is_affected D A) M
  repaired = (
    record {
      parts = λ q. at q (option_map unchanged_parts (finmap.get T q) ≡ option_map unchanged_parts (finmap.get M q))
          (λ t. ap (option_map unchanged_parts) (within q t) ∙ repair.parts q
          ∙ ap (option_map unchanged_parts) (same q t))
          (λ f. ap (option_map unchanged_parts) (outside q f) ∙ (leaves q f).parts);
      alone = λ q un. at q (finmap.get T q ≡ finmap.get M q)
          (λ t. within q t ∙ repair.alone q (affected q t ∙ un) ∙ same q t)
          (λ f. outside q f ∙ (leaves q f).alone un);
      stays = stays;
      only = only;
      closed = λ _ _ a b. (only a b, λ r. (reached a b).1 (up a b r));
    },
    λ _ v _ r. acyclic v (up v v r),
  )
