-- The members of lists and sets of uids.
use Rattle.std.specs.Prelude.{◌≡◌, ◌<◌, ◌+◌, ℕ, Bool, true, false, cond, not, ◌&&◌, ◌||◌, List, [], ◌∷◌, ◌++◌, take, length}
use Rattle.std.specs.Prelude.{map}
use Rattle.std.proofs.Common.{ap, sym, refl, ◌∙◌, get_or, Bor}
use Rattle.std.proofs.lemmas.List.Folds.{list_any_more, list_any-append}
use Rattle.std.specs.Set.{is_member}
use Rattle.std.specs.FinSet as set
use Rattle.std.specs.HashSet.{HashSet, UpdatesBy, contains}
use Rattle.cedar_ids.specs.UidOf.{same_uid, uid_order}
use Rattle.cedar_ids.specs.laws.UidOfLaws.{same_uid_equiv}
use Rattle.cedar_ids.specs.declared.entity.EntityUID.{EntityUID}
use Rattle.cedar_uid_sets.specs.UidSets.{UidValues}
use Rattle.cedar_uid_sets.specs.laws.Sets.{contains_listed}

pub or_off : (b : Bool) → (b || false) ≡ b
or_off true = refl
or_off false = refl

pub and_on : (b : Bool) → (b && true) ≡ b
and_on true = refl
and_on false = refl

and_off : (b : Bool) → (b && false) ≡ false
and_off true = refl
and_off false = refl

-- Lists that create the same set have the same members.
pub same_members : (us vs : List EntityUID) → set.from_list {R = uid_order} us ≡ set.from_list vs → (q : EntityUID)
    → is_member same_uid us q ≡ is_member same_uid vs q
same_members us vs e q =
    sym (contains_listed us q) ∙ ap (λ (s : UidValues). set.contains s q) e ∙ contains_listed vs q

-- The members of a list with one more uid.
pub member_push : (us : List EntityUID) (u q : EntityUID)
    → is_member same_uid (us ++ u ∷ []) q ≡ (is_member same_uid us q || same_uid u q)
member_push us u q = list_any-append (same_uid q) us (u ∷ [])
    ∙ ap (λ b. is_member same_uid us q || b) (or_off (same_uid q u) ∙ sym (same_uid_equiv.symm u q))

-- The members of the first i + 1 uids of a list.
pub member_more : (xs : List EntityUID) (i : ℕ) (x q : EntityUID) → i < length xs → x ≡ get_or xs i x
    → is_member same_uid (take (i + 1) xs) q ≡ (is_member same_uid (take i xs) q || same_uid x q)
member_more xs i x q within is =
    list_any_more (same_uid q) xs i x within
    ∙ ap (λ b. is_member same_uid (take i xs) q || b) (ap (same_uid q) (sym is) ∙ same_uid_equiv.symm q x)

-- The members of a set after a removal.
pub removed : {S : Type 0} (s t : HashSet EntityUID S) (u : EntityUID) → UpdatesBy same_uid (same_uid u) s t false
    → (q : EntityUID) → contains same_uid t q ≡ (contains same_uid s q && not (same_uid u q))
removed s t u w q = w.0 q ∙ at (same_uid u q)
  where
    at : (b : Bool) → cond b false (contains same_uid s q) ≡ (contains same_uid s q && not b)
    at true = sym (and_off (contains same_uid s q))
    at false = sym (and_on (contains same_uid s q))

map_append_one : {X Y : Type 0} (f : X → Y) (xs : List X) (x : X) → map f (xs ++ x ∷ []) ≡ map f xs ++ f x ∷ []
map_append_one f [] x = refl
map_append_one f (y ∷ ys) x = ap (λ l. f y ∷ l) (map_append_one f ys x)

-- The members of the uids that an iterator has returned, with the next one.
pub member_next : (done : List (Bor EntityUID)) (x : Bor EntityUID) (q : EntityUID)
    → is_member same_uid (map (λ y. y.now) (done ++ x ∷ [])) q
    ≡ (is_member same_uid (map (λ y. y.now) done) q || same_uid x.now q)
member_next done x q = ap (λ l. is_member same_uid l q) (map_append_one (λ y. y.now) done x)
    ∙ member_push (map (λ y. y.now) done) x.now q
