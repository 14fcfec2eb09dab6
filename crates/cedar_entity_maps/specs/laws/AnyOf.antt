-- Tests on lists: whether an element passes, and results if none does.
use Rattle.std.specs.Prelude.{◌≡◌, Bool, true, false, cond, not, ◌&&◌, ◌||◌, List, [], ◌∷◌, ◌++◌, Option, Some, None}
use Rattle.std.specs.Prelude.{filter}
use Rattle.std.proofs.Common.{ap, sym, refl, ◌∙◌}
use Rattle.std.proofs.lemmas.Bool.{and_parts, both_ways, false_from_ne_true, or_parts, or_left, or_right}
use Rattle.std.specs.List.{list_any}
use Rattle.std.specs.Option.{option_map, is_some}
use Rattle.std.specs.Set.{is_member}
use Rattle.std.specs.HashMap.{HashMap, get}
use Rattle.std.specs.FinSet as set
use Rattle.std.specs.FinMap as finmap
use Rattle.cedar_ids.specs.UidOf.{same_uid, uid_order}
use Rattle.cedar_ids.specs.laws.UidOfLaws.{uid_order_total, same_uid_decides}
use Rattle.cedar_ids.specs.declared.entity.EntityUID.{EntityUID}
use Rattle.cedar_uid_sets.specs.UidSets.{UidValues}
use Rattle.cedar_uid_sets.specs.laws.Sets.{one_equal}
use Rattle.cedar_entity.specs.laws.UidSets.{kept_in}
use Rattle.cedar_entity.specs.View.{EntityView, has_ancestor}
use Rattle.cedar_entity_maps.specs.Edits.{is_stale, without_stale}
use Rattle.cedar_entity_maps.specs.Modes.{ancestry, is_ancestor_in}
use Rattle.cedar_entity_maps.specs.Plain.{EntityMap}
use Rattle.cedar_entity_maps.specs.laws.EntityMap.{entity_at, shared}
use Rattle.cedar_entity.specs.declared.node.SharedEntity.{SharedEntity}
use Rattle.std.proofs.Math.Bool.{and-true}

pub same_bool : (x y : Bool) → (x ≡ true → y ≡ true) → (y ≡ true → x ≡ true) → x ≡ y
same_bool true y f g = sym (f refl)
same_bool false true f g = g refl
same_bool false false f g = refl

pub is_none : {X : Type 0} (o : Option X) → is_some o ≡ false → o ≡ None
is_none None h = refl
is_none (Some x) h = absurd (both_ways true h refl)

pub and_turn : (x s t : Bool) → (x && (s && t)) ≡ ((s && x) && t)
and_turn true s t = ap (λ b. b && t) (sym (and_true s))
  where
    and_true : (s : Bool) → (s && true) ≡ s
    and_true true = refl
    and_true false = refl
and_turn false s t = sym (ap (λ b. b && t) (and_off s))
  where
    and_off : (s : Bool) → (s && false) ≡ false
    and_off true = refl
    and_off false = refl

-- If f implies g and no element passes g, no element passes f.
pub any_less : {X : Type 0} (f g : X → Bool) → ((x : X) → f x ≡ true → g x ≡ true) → (xs : List X)
    → list_any g xs ≡ false → list_any f xs ≡ false
any_less f g h [] k = refl
any_less f g h (x ∷ xs) k =
    let p = or_parts (g x) (list_any g xs) k in
    ap (λ b. b || list_any f xs) (false_from_ne_true (f x) (λ t. both_ways (g x) p.0 (h x t))) ∙ any_less f g h xs p.1

-- If a member passes, the list has an element that passes.
pub any_member : (f : EntityUID → Bool) (xs : List EntityUID) (u : EntityUID) → is_member same_uid xs u ≡ true
    → f u ≡ true → list_any f xs ≡ true
any_member f [] u m h = m
any_member f (x ∷ xs) u m h = at (same_uid u x) refl (λ k. any_member f xs u k h)
  where
    at : (b : Bool) → same_uid u x ≡ b → (is_member same_uid xs u ≡ true → list_any f xs ≡ true)
        → (f x || list_any f xs) ≡ true
    at true t k = or_left (f x) (list_any f xs) (ap f (sym ((same_uid_decides u x).0 t)) ∙ h)
    at false t k = or_right (f x) (list_any f xs) (k (ap (λ b. b || is_member same_uid xs u) (sym t) ∙ m))

-- If a list has an element that passes, a member passes.
pub any_found : (f : EntityUID → Bool) (xs : List EntityUID) → list_any f xs ≡ true
    → (u : EntityUID) × (is_member same_uid xs u ≡ true) × (f u ≡ true)
any_found f [] h = absurd (both_ways false refl h)
any_found f (x ∷ xs) h = at (f x) refl (λ k. any_found f xs k)
  where
    at : (b : Bool) → f x ≡ b
        → (list_any f xs ≡ true → (u : EntityUID) × (is_member same_uid xs u ≡ true) × (f u ≡ true))
        → (u : EntityUID) × (is_member same_uid (x ∷ xs) u ≡ true) × (f u ≡ true)
    at true t k = (x, or_left (same_uid x x) (is_member same_uid xs x) ((same_uid_decides x x).1 refl), t)
    at false t k = let r = k (ap (λ b. b || list_any f xs) (sym t) ∙ h) in
        (r.0, or_right (same_uid r.0 x) (is_member same_uid xs r.0) r.1, r.2)

-- Lists with the same members have the same result.
pub any_alike : (f : EntityUID → Bool) (xs ys : List EntityUID)
    → ((q : EntityUID) → is_member same_uid xs q ≡ is_member same_uid ys q) → list_any f xs ≡ list_any f ys
any_alike f xs ys same = same_bool (list_any f xs) (list_any f ys)
    (λ h. let r = any_found f xs h in any_member f ys r.0 (sym (same r.0) ∙ r.1) r.2)
    (λ h. let r = any_found f ys h in any_member f xs r.0 (same r.0 ∙ r.1) r.2)

-- An element of the filtered list passes if and only if an element passes both tests.
pub any_filter : {X : Type 0} (p f : X → Bool) (xs : List X) → list_any f (filter p xs) ≡ list_any (λ x. p x && f x) xs
any_filter p f [] = refl
any_filter p f (x ∷ xs) = at (p x) (any_filter p f xs)
  where
    at : (b : Bool) → list_any f (filter p xs) ≡ list_any (λ y. p y && f y) xs
        → list_any f (cond b (x ∷ filter p xs) (filter p xs)) ≡ ((b && f x) || list_any (λ y. p y && f y) xs)
    at true k = ap (λ b. f x || b) k
    at false k = k

-- Appending an element that is filtered out does not change the filtered list.
pub one_left_out : {X : Type 0} (p : X → Bool) (xs : List X) (x : X) → p x ≡ false
    → filter p xs ≡ filter p (xs ++ x ∷ [])
one_left_out p [] x h = sym (ap (λ b. cond b (x ∷ []) []) h)
one_left_out p (y ∷ ys) x h = ap (λ zs. cond (p y) (y ∷ zs) zs) (one_left_out p ys x h)

-- A key of the map is not absent.
pub not_absent : {S : Type 0} (m : HashMap EntityUID SharedEntity S) (u : EntityUID) → is_some (get same_uid m u) ≡ true
    → not (is_some (entity_at m u)) ≡ false
not_absent m u h = at (get same_uid m u) h
  where
    at : (o : Option SharedEntity) → is_some o ≡ true → not (is_some (option_map shared o)) ≡ false
    at None k = absurd (both_ways false refl k)
    at (Some e) k = refl

-- Removing nothing does not change a set.
pub retain_none : (s : UidValues) → set.retain s (λ p. not (is_member same_uid [] p)) ≡ s
retain_none s =
    set.same_set uid_order_total one_equal _ _ (λ q. kept_in s (is_member same_uid []) q ∙ and-true (set.contains s q))

-- Removing uids that are not in a set does not change it.
pub none_retained : (s : UidValues) (g : EntityUID → Bool) → ((x : EntityUID) → set.contains s x ≡ true → g x ≡ false)
    → set.retain s (λ p. not (g p)) ≡ s
none_retained s g h = set.same_set uid_order_total one_equal _ _ (λ x. kept_in s g x ∙ at x (set.contains s x) refl)
  where
    at : (x : EntityUID) (b : Bool) → set.contains s x ≡ b → (b && not (g x)) ≡ b
    at x true t = ap not (h x t)
    at x false t = refl

-- Removing every uid results in the empty set.
pub all_retained : (s : UidValues) (g : EntityUID → Bool) → ((x : EntityUID) → g x ≡ true)
    → set.empty ≡ set.retain s (λ p. not (g p))
all_retained s g h = set.same_set uid_order_total one_equal _ _ (λ x.
    set.contains-empty uid_order x
    ∙ sym (kept_in s g x ∙ ap (λ b. set.contains s x && not b) (h x) ∙ none (set.contains s x)))
  where
    none : (b : Bool) → (b && false) ≡ false
    none true = refl
    none false = refl
