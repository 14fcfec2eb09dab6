-- Laws of lists with one more element, and of lists of uids.
use Rattle.std.specs.Prelude.{List, [], ◌∷◌, ◌++◌, ◌≡◌, ℕ, ◌+◌, ◌<◌, Bool, ◌||◌, map, take, length}
use Rattle.std.specs.List.{AllByRecursion, list_any}
use Rattle.std.proofs.Common.{ap, sym, refl, ◌∙◌, get_or, Bor}
use Rattle.std.proofs.Math.Bool.{or-false}
use Rattle.std.proofs.lemmas.List.{map-append}
use Rattle.std.proofs.lemmas.List.Folds.{list_any_more, list_any-append}
use Rattle.std.specs.Set.{is_member}
use Rattle.cedar_ids.specs.UidOf.{same_uid}
use Rattle.cedar_ids.specs.laws.UidOfLaws.{same_uid_equiv}
use Rattle.cedar_ids.specs.declared.entity.EntityUID.{EntityUID}

-- A property of all elements and of one more is a property of all elements of the longer list.
pub all_push : {X : Type 0} (P : X → Type 0) (xs : List X) (x : X) → AllByRecursion P xs → P x
    → AllByRecursion P (xs ++ x ∷ [])
all_push P [] x a p = (p, tt)
all_push P (y ∷ ys) x a p = (a.0, all_push P ys x a.1 p)

-- The members of a list with one more uid.
pub member_push : (done : List EntityUID) (k q : EntityUID)
    → is_member same_uid (done ++ k ∷ []) q ≡ (is_member same_uid done q || same_uid k q)
member_push done k q = list_any-append (same_uid q) done (k ∷ [])
    ∙ ap (λ b. is_member same_uid done q || b) (or-false (same_uid q k) ∙ sym (same_uid_equiv.symm k q))

-- The test of the first i + 1 uids of a list.
pub any_more : (T : EntityUID → Bool) (xs : List EntityUID) (i : ℕ) (k : EntityUID) → i < length xs → k ≡ get_or xs i k
    → list_any T (take (i + 1) xs) ≡ (list_any T (take i xs) || T k)
any_more T xs i k within is = list_any_more T xs i k within ∙ ap (λ x. list_any T (take i xs) || T x) (sym is)

pub member_more : (xs : List EntityUID) (i : ℕ) (k q : EntityUID) → i < length xs → k ≡ get_or xs i k
    → is_member same_uid (take (i + 1) xs) q ≡ (is_member same_uid (take i xs) q || same_uid k q)
member_more xs i k q within is = any_more (same_uid q) xs i k within is
    ∙ ap (λ b. is_member same_uid (take i xs) q || b) (same_uid_equiv.symm q k)

pub map_append_one : {X Y : Type 0} (f : X → Y) (xs : List X) (x : X) → map f (xs ++ x ∷ []) ≡ map f xs ++ f x ∷ []
map_append_one f [] x = refl
map_append_one f (y ∷ xs) x = ap (λ l. f y ∷ l) (map_append_one f xs x)

-- The members of the items of an iterator, with the next item.
pub member_next : (done : List (Bor EntityUID)) (x : Bor EntityUID) (q : EntityUID)
    → is_member same_uid (map (λ y. y.now) (done ++ x ∷ [])) q
    ≡ (is_member same_uid (map (λ y. y.now) done) q || same_uid x.now q)
member_next done x q = ap (λ l. is_member same_uid l q) (map-append (λ y. y.now) done (x ∷ []))
    ∙ member_push (map (λ y. y.now) done) x.now q

pub map_same : {X : Type 0} (xs : List X) → map (λ y. y) xs ≡ xs
map_same [] = refl
map_same (x ∷ xs) = ap (λ l. x ∷ l) (map_same xs)
