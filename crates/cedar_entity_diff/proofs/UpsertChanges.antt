-- What overwriting a plain store changes, by a part that has the affected entities or whose parents do not change.
use Rattle.std.specs.Prelude.{◌≡◌, ◌⊎◌, List, map, Ok}
use Rattle.std.proofs.Common.{inl, inr}
use Rattle.cedar_entity.specs.View.{EntityView}
use Rattle.cedar_entities.specs.Changes.{UpsertsEntities, UpsertsPlain}
use Rattle.cedar_entity_maps.specs.InputStore.{InputStore}
use Rattle.cedar_entity_maps.specs.Plain.{StoreView, IsPlainStore, HaveNoIndirect, input_of}
use Rattle.cedar_entity_maps.specs.declared.modes.TCComputation.TheVariants.{ComputeNow}
use Rattle.cedar_entity_maps.specs.laws.Indexes.{IsPlainHeld}
use Rattle.cedar_entity_diff.specs.Diffs.{DiffView, IsDiff}
use Rattle.cedar_entity_diff.specs.WouldChange.{IsUpsertResult, WouldChange}
use Rattle.cedar_entity_diff.specs.laws.Parts.{IsUpsertPart}
use Rattle.cedar_entity_diff.proofs.AffectedParts.{leaves_unaffected, reach_unaffected}
use Rattle.cedar_entity_diff.proofs.SameParents.{leaves_others, reach_same}
use Rattle.cedar_entity_diff.proofs.Slicing.{plain_of_held}
use Rattle.cedar_entity_diff.proofs.UpsertParts.{upsert_change}

-- The difference of the part and the edited part is a difference that overwriting the store can make.
pub change_of_part : (S : StoreView) (L : List EntityView) (N : StoreView) → IsUpsertPart S L N → HaveNoIndirect L
    → IsPlainHeld S.entities → (R : StoreView) → UpsertsEntities ComputeNow N.entities L (Ok R)
    → ((V : InputStore) → IsPlainStore V N → HaveNoIndirect L → UpsertsPlain ComputeNow V (map input_of L) (Ok R))
    → R.partial ≡ N.partial → (d : DiffView) → IsDiff N R d → WouldChange S (IsUpsertResult ComputeNow S L) (Ok d)
change_of_part S L N p bare held R upserts plain mode d is = elim p.affected [
  | inl same ↦
      let W = plain_of_held S held in
      upsert_change S L N p.part bare (leaves_others S L N p.part same W.0 W.1)
      (λ Y y. reach_same S L N p.part same Y y) R upserts plain held mode d is
  | inr affected ↦
      upsert_change S L N p.part bare (leaves_unaffected S L N p.part affected)
      (reach_unaffected S L N p.part affected) R upserts plain held mode d is
]
