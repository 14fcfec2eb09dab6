-- The slices that are the parts of a store.
use Rattle.std.specs.Prelude.{◌≡◌, ◌⊎◌, true, false, ◌||◌, List, ◌++◌, Result, Ok, Err, IfOk}
use Rattle.std.proofs.Common.{ap, subst, ◌∙◌, inl, inr}
use Rattle.std.proofs.lemmas.Bool.{or_left, or_right}
use Rattle.std.specs.Set.{is_member}
use Rattle.cedar_ids.specs.UidOf.{same_uid}
use Rattle.cedar_ids.specs.declared.entity.EntityUID.{EntityUID}
use Rattle.cedar_uid_sets.specs.laws.Sets.{is_member-append}
use Rattle.cedar_entity.specs.View.{EntityView}
use Rattle.cedar_entity.specs.declared.err.EntitiesError.{EntitiesError}
use Rattle.cedar_entity_maps.specs.Affected.{is_affected}
use Rattle.cedar_entity_maps.specs.Edits.{uids_of}
use Rattle.cedar_entity_maps.specs.InputStore.{InputStore}
use Rattle.cedar_entity_maps.specs.Plain.{StoreView, IsPlainStore}
use Rattle.cedar_slice.specs.Slices.{sliced, IsPlainSlice}
use Rattle.cedar_dry_run.specs.laws.Found.{all_along}
use Rattle.cedar_dry_run.specs.laws.Requested.{AreAsked, IsAsked}
use Rattle.cedar_entity_diff.specs.laws.Parts.{HasAffected, HaveSameParents, IsEditPart, IsPartAt, IsUpsertPart}

module _ (S : StoreView) (requested edited affected all : List EntityUID) (joined : all ≡ requested ++ affected)
    (has : (q : EntityUID) → is_member same_uid affected q ≡ is_affected S.entities edited q) where
  member : (q : EntityUID)
      → is_member same_uid all q ≡ (is_member same_uid requested q || is_member same_uid affected q)
  member q = ap (λ l. is_member same_uid l q) joined ∙ is_member-append requested affected q

  -- The slice at the requested and the affected uids.
  pub part_of_slice : (r : Result StoreView EntitiesError)
      → IfOk r (λ s. s ≡ record { entities = sliced S.entities all; partial = false; known_plain = S.known_plain })
      → IfOk r (λ s. (W : InputStore) → IsPlainStore W S → IsPlainSlice W all s)
      → IfOk r (IsPartAt S requested edited)
  part_of_slice (Err e) is plain = tt
  part_of_slice (Ok s) is plain = record {
    uids = all;
    asked = λ q m. member q ∙ or_left (is_member same_uid requested q) (is_member same_uid affected q) m;
    affected = λ q t. member q ∙ or_right (is_member same_uid requested q) (is_member same_uid affected q) (has q ∙ t);
    entities = ap (λ (x : StoreView). x.entities) is;
    plain = plain;
  }

all_asked : (us vs : List EntityUID) → ((q : EntityUID) → is_member same_uid us q ≡ true → is_member same_uid vs q ≡ true)
    → (L : List EntityView) → AreAsked us L → AreAsked vs L
all_asked us vs more L a =
    all_along (IsAsked us) (IsAsked vs) (λ e h. (more e.uid h.0, λ p t. more p (h.1 p t))) L a

module _ (S : StoreView) (us edited : List EntityUID) (L : List EntityView) (asked : AreAsked us L) where
  -- A part that has the uids and the parents of a list.
  pub edit_part : (r : Result StoreView EntitiesError) → IfOk r (IsPartAt S us edited) → IfOk r (IsEditPart S edited L)
  edit_part (Err e) h = tt
  edit_part (Ok N) h = record {
    part = record {
      uids = h.uids;
      asked = all_asked us h.uids h.asked L asked;
      entities = h.entities;
      plain = h.plain;
    };
    affected = h.affected;
  }

  -- The same for overwriting, where no other entity is affected if the parents do not change.
  pub upsert_part : HaveSameParents S.entities L ⊎ (edited ≡ uids_of L) → (r : Result StoreView EntitiesError)
      → IfOk r (IsPartAt S us edited) → IfOk r (IsUpsertPart S L)
  upsert_part either (Err e) h = tt
  upsert_part either (Ok N) h = record {
    part = record {
      uids = h.uids;
      asked = all_asked us h.uids h.asked L asked;
      entities = h.entities;
      plain = h.plain;
    };
    affected = elim either [
      | inl same ↦ inl same
      | inr is ↦ inr (subst (λ A. HasAffected S.entities A h.uids) is h.affected)
    ];
  }
