-- Lists of uids with one more element.
use Rattle.std.specs.Prelude.{◌≡◌, Bool, true, false, cond, not, List, [], ◌∷◌, ◌++◌, filter}
use Rattle.std.proofs.Common.{ap, refl, ◌∙◌}
use Rattle.std.specs.FinMap as finmap
use Rattle.cedar_ids.specs.declared.entity.EntityUID.{EntityUID}
use Rattle.cedar_entity.specs.View.{EntityView}
use Rattle.cedar_entity_maps.specs.Affected.{inserted_in}
use Rattle.cedar_entity_maps.specs.Edits.{uids_of}
use Rattle.cedar_entity_maps.specs.Plain.{EntityMap}
use Rattle.cedar_entity_maps.specs.laws.Lists.{map_append_one}

kept_first : (b : Bool) (x : EntityUID) (l m : List EntityUID) → cond b (x ∷ (l ++ m)) (l ++ m) ≡ cond b (x ∷ l) l ++ m
kept_first true x l m = refl
kept_first false x l m = refl

-- The filtered list with one more uid.
pub filter_push : (f : EntityUID → Bool) (us : List EntityUID) (u : EntityUID)
    → filter f (us ++ u ∷ []) ≡ filter f us ++ filter f (u ∷ [])
filter_push f [] u = refl
filter_push f (x ∷ us) u = ap (λ l. cond (f x) (x ∷ l) l) (filter_push f us u)
    ∙ kept_first (f x) x (filter f us) (filter f (u ∷ []))

-- The uids of one more entity.
pub uids_push : (L : List EntityView) (e : EntityView) → uids_of (L ++ e ∷ []) ≡ uids_of L ++ e.uid ∷ []
uids_push L e = map_append_one (λ (x : EntityView). x.uid) L e

-- The inserted uids of one more entity.
pub inserted_push : (D : EntityMap) (L : List EntityView) (e : EntityView)
    → inserted_in D (L ++ e ∷ []) ≡ inserted_in D L ++ filter (λ u. not (finmap.contains_key D u)) (e.uid ∷ [])
inserted_push D L e = ap (filter (λ u. not (finmap.contains_key D u))) (uids_push L e)
    ∙ filter_push (λ u. not (finmap.contains_key D u)) (uids_of L) e.uid
