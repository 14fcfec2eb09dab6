-- The ancestors in the plain store of an input store.
use Rattle.std.specs.Prelude.{◌≡◌, ◌↔◌, Bool, true, List, [], ◌∷◌, Option, Some, None, is_some}
use Rattle.std.proofs.Common.{ap, sym, refl, ◌∙◌}
use Rattle.std.proofs.lemmas.Bool.{false≢true}
use Rattle.std.specs.Option.{option_map, IfSome}
use Rattle.std.specs.FinMap as finmap
use Rattle.cedar_graph.specs.Graph.{Path, Reach}
use Rattle.cedar_ids.specs.declared.entity.EntityUID.{EntityUID}
use Rattle.cedar_entity.specs.View.{EntityView, has_ancestor}
use Rattle.cedar_entity_maps.specs.Modes.{ancestry, is_ancestor_in}
use Rattle.cedar_entity_maps.specs.Plain.{StoreView, IsPlainStore, parts_of}
use Rattle.cedar_entity_maps.specs.InputStore.{InputStore, Parts, graph, is_parent_in}

has_parts : (o : Option Parts) (b : EntityUID) → is_parent_in o b ≡ true → is_some o ≡ true
has_parts None b h = absurd (false≢true h)
has_parts (Some p) b h = refl

-- The first uid of a path has an entity in the input store.
pub first_key : (W : InputStore) (a b : EntityUID) (xs : List EntityUID) → Path (graph W) a xs b
    → finmap.contains_key W.entities a ≡ true
first_key W a b [] p = has_parts (finmap.get W.entities a) b p
first_key W a b (x ∷ xs) p = has_parts (finmap.get W.entities a) x p.0

module _ (W : InputStore) (S : StoreView) (plain : IsPlainStore W S) where
  ancestor_at : (a b : EntityUID) (o : Option EntityView) → finmap.get S.entities a ≡ o
      → IfSome o (λ e. (x : EntityUID) → (has_ancestor e x ≡ true) ↔ Reach (graph W) a x) → (is_ancestor_in o b ≡ true)
      ↔ Reach (graph W) a b
  ancestor_at a b (Some e) is h = h b
  ancestor_at a b None is h = (
    λ t. absurd (false≢true t),
    λ r. absurd (false≢true (sym (ap is_some (sym (plain.holds a) ∙ ap (option_map parts_of) is))
        ∙ first_key W a b r.0 r.1)),
  )

  -- The ancestors are exactly the uids that are reached over parents.
  pub ancestry_plain : (a b : EntityUID) → (ancestry S.entities a b ≡ true) ↔ Reach (graph W) a b
  ancestry_plain a b = ancestor_at a b (finmap.get S.entities a) refl (plain.reached a)

-- What a store knows does not affect whether it is plain.
pub plain_as : (W : InputStore) (S : StoreView) (k : Bool) → IsPlainStore W S
    → IsPlainStore W (record S { known_plain = k })
plain_as W S k p = record {
  partial = p.partial;
  holds = p.holds;
  keyed = p.keyed;
  reached = p.reached;
  apart = p.apart;
  acyclic = p.acyclic;
}
