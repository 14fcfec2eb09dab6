-- The queries of the plain store of an input store.
use Rattle.std.specs.Prelude.{◌≡◌, ◌↔◌, true, List, Option, Some, None, is_some}
use Rattle.std.proofs.Common.{ap, sym, subst, refl, ◌∙◌}
use Rattle.std.proofs.lemmas.Bool.{false≢true}
use Rattle.std.specs.FinMap as finmap
use Rattle.std.specs.Set.{is_member}
use Rattle.cedar_graph.specs.Graph.{Reach}
use Rattle.cedar_ids.specs.UidOf.{same_uid}
use Rattle.cedar_ids.specs.declared.entity.EntityUID.{EntityUID}
use Rattle.cedar_entity_maps.specs.InputStore.{InputStore, graph, is_parent_in}
use Rattle.cedar_entity_maps.specs.Modes.{ancestry}
use Rattle.cedar_entity_maps.specs.Plain.{StoreView, IsPlainStore}
use Rattle.cedar_entity_maps.specs.laws.Indexes.{parent_held}
use Rattle.cedar_entity_maps.specs.laws.PlainAncestors.{ancestry_plain}
use Rattle.cedar_queries.specs.Queries.{AreDescendants, FindsPath, parent_graph}

module _ (W : InputStore) (S : StoreView) (plain : IsPlainStore W S) where
  -- The parents in the store are the parents in the input store.
  same_parents : (a b : EntityUID) → parent_graph S.entities a b ≡ graph W a b
  same_parents a b = sym (parent_held (finmap.get S.entities a) b) ∙ ap (λ o. is_parent_in o b) (plain.holds a)

  -- The uids that are reached over parents are exactly the ancestors.
  pub reached_is_ancestor : (a b : EntityUID) → Reach (parent_graph S.entities) a b ↔ (ancestry S.entities a b ≡ true)
  reached_is_ancestor a b =
      let e = ancestry_plain W S plain a b in
      subst (λ G. Reach G a b ↔ (ancestry S.entities a b ≡ true)) (sym (λ i x y. same_parents x y i)) (e.1, e.0)

  -- A uid is a descendant of another exactly if the other is its ancestor.
  pub descendant_has_ancestor : (u : EntityUID) (us : List EntityUID) → AreDescendants S.entities u us
      → (q : EntityUID) → (is_member same_uid us q ≡ true) ↔ (ancestry S.entities q u ≡ true)
  descendant_has_ancestor u us d q =
      let m = d.members q in
      let r = reached_is_ancestor q u in
      (λ h. r.0 (m.0 h), λ h. m.1 (r.1 h))

  -- A path exists exactly to an ancestor.
  pub path_to_ancestor : (a b : EntityUID) (found : Option (List EntityUID)) → FindsPath S.entities a b found
      → (is_some found ≡ true) ↔ (ancestry S.entities a b ≡ true)
  path_to_ancestor a b None none = (λ h. absurd (false≢true h), λ h. absurd (none ((reached_is_ancestor a b).1 h)))
  path_to_ancestor a b (Some us) p =
      (λ h. (reached_is_ancestor a b).0 (p.path.between, p.path.edges), λ h. refl)
