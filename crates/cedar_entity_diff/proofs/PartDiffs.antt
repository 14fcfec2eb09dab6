-- The difference of a part and the edited part is the difference of the whole stores, if both agree elsewhere.
use Rattle.std.specs.Prelude.{◌≡◌, Bool, true, false, List, Option, None}
use Rattle.std.proofs.Common.{ap, sym, refl, ◌∙◌, inl, inr}
use Rattle.std.specs.FinMap as finmap
use Rattle.cedar_ids.specs.declared.entity.EntityUID.{EntityUID}
use Rattle.cedar_entity.specs.View.{EntityView}
use Rattle.cedar_entity_maps.specs.Plain.{StoreView}
use Rattle.cedar_dry_run.specs.laws.Parts.{passes_or_not}
use Rattle.cedar_entity_diff.specs.Diffs.{DiffView, IsDiff, ListsAll, ancestry_from, ancestry_uid, changed_from, changed_uid}
use Rattle.cedar_entity_diff.specs.Diffs.{mode_from, only_first, uid_of}
use Rattle.cedar_entity_diff.specs.laws.DiffLaws.{ancestry_itself, changed_itself, mode_itself, only_itself}

lists_as : {X : Type 0} (key : X → EntityUID) (f g : EntityUID → Option X) (L : List X) → ((q : EntityUID) → f q ≡ g q)
    → ListsAll key f L → ListsAll key g L
lists_as key f g L same l = record { ascending = l.ascending; at = λ q. l.at q ∙ same q }

-- N and R are the parts of S and T at the uids that pass a test. At the other uids, S and T have the same entities.
module _ (S T N R : StoreView) (test : EntityUID → Bool)
    (before : (q : EntityUID) → test q ≡ true → finmap.get N.entities q ≡ finmap.get S.entities q)
    (after : (q : EntityUID) → test q ≡ true → finmap.get T.entities q ≡ finmap.get R.entities q)
    (none_before : (q : EntityUID) → test q ≡ false → finmap.get N.entities q ≡ None)
    (none_after : (q : EntityUID) → test q ≡ false → finmap.get R.entities q ≡ None)
    (same : (q : EntityUID) → test q ≡ false → finmap.get T.entities q ≡ finmap.get S.entities q)
    (mode : T.partial ≡ S.partial) (mode_part : R.partial ≡ N.partial) where
  agree : {X : Type 0} (h : Option EntityView → Option EntityView → Option X)
      → ((o : Option EntityView) → h o o ≡ None) → (q : EntityUID)
      → h (finmap.get N.entities q) (finmap.get R.entities q) ≡ h (finmap.get S.entities q) (finmap.get T.entities q)
  agree h itself q = elim (passes_or_not (test q)) [
    | inl t ↦ ap (λ o. h o (finmap.get R.entities q)) (before q t) ∙ ap (h (finmap.get S.entities q)) (sym (after q t))
    | inr f ↦ ap (λ o. h o (finmap.get R.entities q)) (none_before q f) ∙ ap (h None) (none_after q f) ∙ itself None
        ∙ sym (itself (finmap.get S.entities q)) ∙ ap (h (finmap.get S.entities q)) (sym (same q f))
  ]

  pub diff_of_part : (d : DiffView) → IsDiff N R d → IsDiff S T d
  diff_of_part d is = record {
    removed = lists_as uid_of _ _ d.removed (agree only_first only_itself) is.removed;
    added = lists_as uid_of _ _ d.added (agree (λ a b. only_first b a) only_itself) is.added;
    changed = lists_as changed_uid _ _ d.changed (agree changed_from changed_itself) is.changed;
    ancestry = lists_as ancestry_uid _ _ d.ancestry (agree ancestry_from ancestry_itself) is.ancestry;
    partial =
        is.partial ∙ ap (mode_from N.partial) mode_part ∙ mode_itself N.partial ∙ sym (mode_itself S.partial)
        ∙ ap (mode_from S.partial) (sym mode);
  }
