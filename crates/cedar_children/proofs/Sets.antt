-- Steps of the lists and sets of a search.
use Rattle.std.specs.Prelude.{◌≡◌, ◌+◌, ◌<◌, ℕ, Bool, true, false, cond, not, ◌&&◌, ◌||◌, List, [], ◌∷◌, ◌++◌, Option}
use Rattle.std.specs.Prelude.{Some, map, take, length}
use Rattle.std.proofs.Common.{ap, sym, refl, ◌∙◌, get_or, Bor}
use Rattle.std.proofs.lemmas.List.Folds.{list_any_more, list_any-append}
use Rattle.std.specs.Set.{is_member}
use Rattle.std.specs.HashSet.{HashSet, Updates, UpdatesBy, contains}
use Rattle.cedar_ids.specs.UidOf.{same_uid}
use Rattle.cedar_ids.specs.laws.UidOfLaws.{same_uid_decides, same_uid_equiv}
use Rattle.cedar_ids.specs.declared.entity.EntityUID.{EntityUID}
use Rattle.cedar_children.specs.Children.{is_in}

pub or_off : (b : Bool) → (b || false) ≡ b
or_off true = refl
or_off false = refl

and_on : (b : Bool) → (b && true) ≡ b
and_on true = refl
and_on false = refl

pub and_off : (b : Bool) → (b && false) ≡ false
and_off true = refl
and_off false = refl

-- If u is not in f, removing the members of f does not remove u.
pub absent_alone : (f : EntityUID → Bool) (u q : EntityUID) → f u ≡ false → same_uid u q ≡ (not (f q) && same_uid u q)
absent_alone f u q absent = at (same_uid u q) refl
  where
    at : (b : Bool) → same_uid u q ≡ b → b ≡ (not (f q) && b)
    at true t = sym (ap (λ c. not c && true) (ap f (sym ((same_uid_decides u q).0 t)) ∙ absent))
    at false t = sym (and_off (not (f q)))

pub or_step : (a m s : Bool) → ((a || m) || s) ≡ (a || (m || s))
or_step true m s = refl
or_step false m s = refl

pub todo_step : (t a m s : Bool) → ((t || (not a && m)) || (not (a || m) && s)) ≡ (t || (not a && (m || s)))
todo_step true a m s = refl
todo_step false true m s = refl
todo_step false false true s = refl
todo_step false false false s = refl

-- The members of a list with one more uid.
pub member_push : (done : List EntityUID) (k q : EntityUID)
    → is_member same_uid (done ++ k ∷ []) q ≡ (is_member same_uid done q || same_uid k q)
member_push done k q = list_any-append (same_uid q) done (k ∷ [])
    ∙ ap (λ b. is_member same_uid done q || b) (or_off (same_uid q k) ∙ sym (same_uid_equiv.symm k q))

-- A member of the first i + 1 uids of a list is a member of the first i, or it is the uid at i.
pub member_more : (xs : List EntityUID) (i : ℕ) (x q : EntityUID) → i < length xs → x ≡ get_or xs i x
    → is_member same_uid (take (i + 1) xs) q ≡ (is_member same_uid (take i xs) q || same_uid x q)
member_more xs i x q within is =
    list_any_more (same_uid q) xs i x within
    ∙ ap (λ b. is_member same_uid (take i xs) q || b) (ap (same_uid q) (sym is) ∙ same_uid_equiv.symm q x)

-- The set of one parent is replaced by a set with one more child.
pub added_at : {S : Type 0} (f g : EntityUID → Option (HashSet EntityUID S)) (parent child : EntityUID)
    (t : HashSet EntityUID S)
    → ((p : EntityUID) → g p ≡ cond (same_uid parent p) (Some t) (f p))
    → ((q : EntityUID) → contains same_uid t q ≡ (is_in (f parent) q || same_uid child q))
    → (p q : EntityUID) → is_in (g p) q ≡ (is_in (f p) q || (same_uid parent p && same_uid child q))
added_at f g parent child t updates has p q = ap (λ o. is_in o q) (updates p) ∙ at (same_uid parent p) refl
  where
    at : (b : Bool) → same_uid parent p ≡ b
        → is_in (cond b (Some t) (f p)) q ≡ (is_in (f p) q || (b && same_uid child q))
    at true is = has q ∙ ap (λ u. is_in (f u) q || same_uid child q) ((same_uid_decides parent p).0 is)
    at false is = sym (or_off (is_in (f p) q))

-- The set of one parent is replaced by a set with one child less.
pub taken_at : {S : Type 0} (f g : EntityUID → Option (HashSet EntityUID S)) (parent child : EntityUID)
    (t : HashSet EntityUID S)
    → ((p : EntityUID) → g p ≡ cond (same_uid parent p) (Some t) (f p))
    → ((q : EntityUID) → contains same_uid t q ≡ (is_in (f parent) q && not (same_uid child q)))
    → (p q : EntityUID) → is_in (g p) q ≡ (is_in (f p) q && not (same_uid parent p && same_uid child q))
taken_at f g parent child t updates has p q = ap (λ o. is_in o q) (updates p) ∙ at (same_uid parent p) refl
  where
    at : (b : Bool) → same_uid parent p ≡ b
        → is_in (cond b (Some t) (f p)) q ≡ (is_in (f p) q && not (b && same_uid child q))
    at true is = has q ∙ ap (λ u. is_in (f u) q && not (same_uid child q)) ((same_uid_decides parent p).0 is)
    at false is = sym (and_on (is_in (f p) q))

or_on : (b : Bool) → true ≡ (b || true)
or_on true = refl
or_on false = refl

-- The members of a set after an insertion.
pub inserted : {S : Type 0} (s t : HashSet EntityUID S) (u : EntityUID) → Updates same_uid s t u true → (q : EntityUID)
    → contains same_uid t q ≡ (contains same_uid s q || same_uid u q)
inserted s t u w q = w.0 q ∙ at (same_uid u q)
  where
    at : (b : Bool) → cond b true (contains same_uid s q) ≡ (contains same_uid s q || b)
    at true = or_on (contains same_uid s q)
    at false = sym (or_off (contains same_uid s q))

-- The members of a set after a removal.
pub removed : {S : Type 0} (s t : HashSet EntityUID S) (u : EntityUID) → UpdatesBy same_uid (same_uid u) s t false
    → (q : EntityUID) → contains same_uid t q ≡ (contains same_uid s q && not (same_uid u q))
removed s t u w q = w.0 q ∙ at (same_uid u q)
  where
    at : (b : Bool) → cond b false (contains same_uid s q) ≡ (contains same_uid s q && not b)
    at true = sym (and_off (contains same_uid s q))
    at false = sym (and_on (contains same_uid s q))

pub more_parents : (a m s c : Bool) → ((a || (m && c)) || (s && c)) ≡ (a || ((m || s) && c))
more_parents true m s c = refl
more_parents false true true true = refl
more_parents false true true false = refl
more_parents false true false true = refl
more_parents false true false false = refl
more_parents false false s c = refl

pub fewer_parents : (a m s c : Bool) → ((a && not (m && c)) && not (s && c)) ≡ (a && not ((m || s) && c))
fewer_parents false m s c = refl
fewer_parents true true true true = refl
fewer_parents true true true false = refl
fewer_parents true true false true = refl
fewer_parents true true false false = refl
fewer_parents true false s c = refl

map_append_one : {X Y : Type 0} (f : X → Y) (xs : List X) (x : X) → map f (xs ++ x ∷ []) ≡ map f xs ++ f x ∷ []
map_append_one f [] x = refl
map_append_one f (y ∷ ys) x = ap (λ l. f y ∷ l) (map_append_one f ys x)

-- The members of the values that an iterator has returned, with the next value.
pub member_next : (done : List (Bor EntityUID)) (x : Bor EntityUID) (q : EntityUID)
    → is_member same_uid (map (λ y. y.now) (done ++ x ∷ [])) q
    ≡ (is_member same_uid (map (λ y. y.now) done) q || same_uid x.now q)
member_next done x q = ap (λ l. is_member same_uid l q) (map_append_one (λ y. y.now) done x)
    ∙ member_push (map (λ y. y.now) done) x.now q
