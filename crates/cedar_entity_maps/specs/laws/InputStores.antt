-- The input store at a uid after an edit.
use Rattle.std.specs.Prelude.{◌≡◌, Bool, true, false, cond, not, List, [], ◌∷◌, ◌++◌, Option, Some, None, map}
use Rattle.std.proofs.Common.{ap, sym, refl, ◌∙◌}
use Rattle.std.specs.Option.{option_or, option_map}
use Rattle.std.specs.FinMap as finmap
use Rattle.std.specs.Ordering.{eq_by_cmp}
use Rattle.cedar_ids.specs.UidOf.{uid_order}
use Rattle.cedar_ids.specs.laws.UidOfLaws.{uid_order_total}
use Rattle.cedar_ids.specs.declared.entity.EntityUID.{EntityUID}
use Rattle.cedar_uid_sets.specs.laws.Sets.{one_equal}
use Rattle.cedar_entity_maps.specs.InputStore.{InputStore, InputEntity, entry_of, first, added, overwritten, deleted, reversed, is_removed}
use Rattle.cedar_entity_maps.specs.InputStore.{without}

pub found_or : {X : Type 0} (b : Bool) (x : X) (o p : Option X)
    → cond b (Some x) (option_or o p) ≡ option_or (cond b (Some x) o) p
found_or true x o p = refl
found_or false x o p = refl

pub find-append : {X : Type 0} (es fs : List (EntityUID × X)) (q : EntityUID)
    → finmap.find uid_order q (es ++ fs) ≡ option_or (finmap.find uid_order q es) (finmap.find uid_order q fs)
find-append [] fs q = refl
find-append (e ∷ es) fs q =
    ap (cond (eq_by_cmp uid_order q e.0) (Some e.1)) (find-append es fs q)
    ∙ found_or (eq_by_cmp uid_order q e.0) e.1 (finmap.find uid_order q es) (finmap.find uid_order q fs)

-- In two appended lists of entries, the first entry with a uid is used.
pub get_joined : {X : Type 0} (es fs : List (EntityUID × X)) (q : EntityUID)
    → finmap.get (finmap.from_entries {R = uid_order} (es ++ fs)) q
    ≡ option_or (finmap.find uid_order q es) (finmap.find uid_order q fs)
get_joined es fs q = finmap.get-from_entries uid_order_total (es ++ fs) q ∙ find-append es fs q

-- After an addition, a uid has its entity in W or, if there is none, the first entity of the list.
pub get_added : (W : InputStore) (L : List InputEntity) (q : EntityUID)
    → finmap.get (added W L).entities q ≡ option_or (finmap.get W.entities q) (first L q)
get_added W L q = get_joined (finmap.entries W.entities) (map entry_of L) q
    ∙ ap (λ o. option_or o (first L q)) (sym (finmap.get-entries W.entities q))

-- After an overwriting, a uid has the last entity of the list or, if there is none, its entity in W.
pub get_overwritten : (W : InputStore) (L : List InputEntity) (q : EntityUID)
    → finmap.get (overwritten W L).entities q ≡ option_or (finmap.find uid_order q (reversed (map entry_of L)))
    (finmap.get W.entities q)
get_overwritten W L q = get_joined (reversed (map entry_of L)) (finmap.entries W.entities) q
    ∙ ap (option_or (finmap.find uid_order q (reversed (map entry_of L)))) (sym (finmap.get-entries W.entities q))

found_mapped : {X Y : Type 0} (f : X → Y) (b : Bool) (x : X) (o : Option X)
    → cond b (Some (f x)) (option_map f o) ≡ option_map f (cond b (Some x) o)
found_mapped f true x o = refl
found_mapped f false x o = refl

-- A lookup among entries whose values were changed.
pub find-mapped : {X Y : Type 0} (f : X → Y) (es : List (EntityUID × X)) (q : EntityUID)
    → finmap.find uid_order q (map (λ e. (e.0, f e.1)) es) ≡ option_map f (finmap.find uid_order q es)
find-mapped f [] q = refl
find-mapped f (e ∷ es) q = ap (cond (eq_by_cmp uid_order q e.0) (Some (f e.1))) (find-mapped f es q)
    ∙ found_mapped f (eq_by_cmp uid_order q e.0) e.1 (finmap.find uid_order q es)

-- A lookup after some keys were removed and the other values changed.
pub get_reduced : {X Y : Type 0} (f : X → Y) (m : finmap.FinMap uid_order X) (removed : EntityUID → Bool) (q : EntityUID)
    → finmap.get (finmap.from_entries {R = uid_order} (map (λ e. (e.0, f e.1))
    (finmap.entries (finmap.retain_keys m (λ k. not (removed k)))))) q
    ≡ option_map f (cond (not (removed q)) (finmap.get m q) None)
get_reduced f m removed q =
    let left = finmap.retain_keys m (λ k. not (removed k)) in
    finmap.get-from_entries uid_order_total (map (λ e. (e.0, f e.1)) (finmap.entries left)) q
    ∙ find-mapped f (finmap.entries left) q
    ∙ ap (option_map f) (sym (finmap.get-entries left q)
    ∙ finmap.get-retain_keys m (λ k. not (removed k)) q (λ x t. ap (λ k. not (removed k)) (sym (one_equal q x t))))

-- After a removal, a removed uid has no entity. Every other uid has its entity in W without the removed parents.
pub get_deleted : (W : InputStore) (U : List EntityUID) (q : EntityUID)
    → finmap.get (deleted W U).entities q ≡ option_map (λ p. (without (is_removed W U) (q, p)).1)
    (cond (not (is_removed W U q)) (finmap.get W.entities q) None)
get_deleted W U q = get_reduced (λ p. (without (is_removed W U) (q, p)).1) W.entities (is_removed W U) q
