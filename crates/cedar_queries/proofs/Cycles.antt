-- The descendants among a uid and its descendants: the uid itself is one of them exactly if it is on a cycle.
use Rattle.std.specs.Prelude.{◌≡◌, ◌↔◌, ◌⊎◌, Bool, true, false, not, ◌&&◌, List, [], ◌∷◌}
use Rattle.std.proofs.Common.{ap, sym, refl, ◌∙◌, inl, inr, subst}
use Rattle.std.proofs.lemmas.Bool.{false≢true, and_parts, and_from}
use Rattle.cedar_graph.specs.Graph.{Path, Reach}
use Rattle.cedar_ids.specs.UidOf.{same_uid}
use Rattle.cedar_ids.specs.laws.UidOfLaws.{same_uid_decides}
use Rattle.cedar_ids.specs.declared.entity.EntityUID.{EntityUID}
use Rattle.cedar_queries.specs.laws.Searches.{HasEdgeInto}

module _ (G : EntityUID → EntityUID → Bool) (u : EntityUID) (has : EntityUID → Bool)
    (says : (q : EntityUID) → (has q ≡ true) ↔ ((u ≡ q) ⊎ Reach G q u)) where
  cycle : (xs : List EntityUID) → Path G u xs u → HasEdgeInto G u has
  cycle [] p = (u, p, (says u).1 (inl refl))
  cycle (x ∷ xs) p = (x, p.0, (says x).1 (inr (xs, p.1)))

  -- The uid reaches itself exactly if it has a parent in the set.
  pub reaches_itself : HasEdgeInto G u has ↔ Reach G u u
  reaches_itself = (
    λ e. elim ((says e.0).0 e.2) [
      | inl same ↦ ([], ap (G u) same ∙ e.1)
      | inr r ↦ (e.0 ∷ r.0, (e.1, r.1))
    ],
    λ r. cycle r.0 r.1,
  )

  -- If the uid has a parent in the set, the set has exactly the descendants.
  pub with_itself : HasEdgeInto G u has → (q : EntityUID) → (has q ≡ true) ↔ Reach G q u
  with_itself e q = (
    λ h. elim ((says q).0 h) [
      | inl same ↦ subst (λ x. Reach G x u) same (reaches_itself.0 e)
      | inr r ↦ r
    ],
    λ r. (says q).1 (inr r),
  )

  off : (b : Bool) → not b ≡ true → b ≡ true → ⊥
  off true h k = false≢true h
  off false h k = false≢true k

  on : (b : Bool) → (b ≡ true → ⊥) → not b ≡ true
  on true h = absurd (h refl)
  on false h = refl

  -- If it has none, the set without the uid has exactly the descendants.
  pub without_itself : (HasEdgeInto G u has → ⊥) → (q : EntityUID)
      → ((has q && not (same_uid u q)) ≡ true) ↔ Reach G q u
  without_itself none q = (
    λ h. let p = and_parts (has q) (not (same_uid u q)) h in elim ((says q).0 p.0) [
      | inl same ↦ absurd (off (same_uid u q) p.1 ((same_uid_decides u q).1 same))
      | inr r ↦ r
    ],
    λ r. and_from (has q) (not (same_uid u q)) ((says q).1 (inr r)) (on (same_uid u q) (λ t.
        none (reaches_itself.1 (subst (λ x. Reach G x u) (sym ((same_uid_decides u q).0 t)) r)))),
  )
