-- The uids of one entity after another.
use Rattle.std.specs.Prelude.{◌≡◌, true, ◌||◌, List, [], ◌∷◌, ◌++◌}
use Rattle.std.proofs.Common.{◌∙◌}
use Rattle.std.proofs.lemmas.Bool.{or_left, or_right}
use Rattle.std.specs.Set.{is_member}
use Rattle.std.specs.FinSet as set
use Rattle.cedar_ids.specs.UidOf.{same_uid}
use Rattle.cedar_ids.specs.laws.UidOfLaws.{same_uid_equiv}
use Rattle.cedar_ids.specs.declared.entity.EntityUID.{EntityUID}
use Rattle.cedar_entity.specs.View.{EntityView}
use Rattle.cedar_entity_maps.specs.laws.Lists.{all_push}
use Rattle.cedar_dry_run.specs.laws.Requested.{AreAsked, IsAsked}
use Rattle.cedar_dry_run.specs.laws.Found.{all_along}

module _ (U V : List EntityUID) (e : EntityView) (grows : (q : EntityUID) → is_member same_uid V q
    ≡ (is_member same_uid U q || (same_uid q e.uid || set.contains e.parents q))) where
  stays : (q : EntityUID) → is_member same_uid U q ≡ true → is_member same_uid V q ≡ true
  stays q m = grows q ∙ or_left (is_member same_uid U q) (same_uid q e.uid || set.contains e.parents q) m

  comes : (q : EntityUID) → (same_uid q e.uid || set.contains e.parents q) ≡ true → is_member same_uid V q ≡ true
  comes q m = grows q ∙ or_right (is_member same_uid U q) (same_uid q e.uid || set.contains e.parents q) m

  -- The uids of one more entity are appended.
  pub asked_push : (done : List EntityView) → AreAsked U done → AreAsked V (done ++ e ∷ [])
  asked_push done a = all_push (IsAsked V) done e
      (all_along (IsAsked U) (IsAsked V) (λ x b. (stays x.uid b.0, λ p h. stays p (b.1 p h))) done a) (
        comes e.uid (or_left (same_uid e.uid e.uid) (set.contains e.parents e.uid) (same_uid_equiv.refl e.uid)),
        λ p h. comes p (or_right (same_uid p e.uid) (set.contains e.parents p) h),
      )
