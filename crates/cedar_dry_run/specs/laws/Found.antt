-- Lookups in a list of entries, and tests of the elements of a list.
use Rattle.std.specs.Prelude.{◌≡◌, Bool, true, false, cond, ◌||◌, List, [], ◌∷◌, ◌++◌, Option, Some, None, map, filter}
use Rattle.std.proofs.Common.{ap, sym, refl, subst, ◌∙◌, inl, inr}
use Rattle.std.proofs.lemmas.Bool.{or_cases, or_left, or_right}
use Rattle.std.specs.List.{AllByRecursion, list_any}
use Rattle.std.specs.Option.{IfSome, option_or}
use Rattle.std.specs.Ordering.{eq_by_cmp}
use Rattle.std.specs.FinMap as finmap
use Rattle.cedar_ids.specs.UidOf.{uid_order}
use Rattle.cedar_ids.specs.laws.UidOfLaws.{uid_order_ties, same_uid_decides}
use Rattle.cedar_ids.specs.declared.entity.EntityUID.{EntityUID}
use Rattle.cedar_entity_maps.specs.InputStore.{reversed}
use Rattle.cedar_entity_maps.specs.laws.Lists.{all_push}

pub or_none : {X : Type 0} (o : Option X) → option_or o None ≡ o
or_none None = refl
or_none (Some x) = refl

found : {X : Type 0} (P : EntityUID → X → Type 0) (q : EntityUID) (e : EntityUID × X) (b : Bool) (o : Option X)
    → eq_by_cmp uid_order q e.0 ≡ b → P e.0 e.1 → IfSome o (P q) → IfSome (cond b (Some e.1) o) (P q)
found P q e true o is p h = subst (λ k. P k e.1) (sym ((same_uid_decides q e.0).0 (uid_order_ties q e.0 ∙ is))) p
found P q e false o is p h = h

-- A property of all entries is a property of the entry that is found.
pub find_holds : {X : Type 0} (P : EntityUID → X → Type 0) (es : List (EntityUID × X)) (q : EntityUID)
    → AllByRecursion (λ e. P e.0 e.1) es → IfSome (finmap.find uid_order q es) (P q)
find_holds P [] q a = tt
find_holds P (e ∷ es) q a =
    found P q e (eq_by_cmp uid_order q e.0) (finmap.find uid_order q es) refl a.0 (find_holds P es q a.1)

-- A property of all elements is a property of all elements of the reversed list.
pub all_reversed : {X : Type 0} (P : X → Type 0) (xs : List X) → AllByRecursion P xs → AllByRecursion P (reversed xs)
all_reversed P [] a = tt
all_reversed P (x ∷ xs) a = all_push P (reversed xs) x (all_reversed P xs a.1) a.0

pub all_mapped : {X Y : Type 0} (f : X → Y) (P : Y → Type 0) (xs : List X) → AllByRecursion (λ x. P (f x)) xs
    → AllByRecursion P (map f xs)
all_mapped f P [] a = tt
all_mapped f P (x ∷ xs) a = (a.0, all_mapped f P xs a.1)

-- A consequence of a property of each element.
pub all_along : {X : Type 0} (P Q : X → Type 0) → ((x : X) → P x → Q x) → (xs : List X) → AllByRecursion P xs
    → AllByRecursion Q xs
all_along P Q f [] a = tt
all_along P Q f (x ∷ xs) a = (f x a.0, all_along P Q f xs a.1)

-- A consequence of two properties of each element.
pub all_both : {X : Type 0} (P Q R : X → Type 0) → ((x : X) → P x → Q x → R x) → (xs : List X) → AllByRecursion P xs
    → AllByRecursion Q xs → AllByRecursion R xs
all_both P Q R f [] a b = tt
all_both P Q R f (x ∷ xs) a b = (f x a.0 b.0, all_both P Q R f xs a.1 b.1)

-- The elements before an element, and that element.
pub all_before : {X : Type 0} (P : X → Type 0) (xs : List X) (y : X) (ys : List X) → AllByRecursion P (xs ++ y ∷ ys)
    → AllByRecursion P xs × P y
all_before P [] y ys a = (tt, a.0)
all_before P (x ∷ xs) y ys a = let r = all_before P xs y ys a.1 in ((a.0, r.0), r.1)

-- Two tests with equal results for each element.
pub any_alike : {X : Type 0} (f g : X → Bool) (xs : List X) → AllByRecursion (λ x. f x ≡ g x) xs
    → list_any f xs ≡ list_any g xs
any_alike f g [] a = refl
any_alike f g (x ∷ xs) a = ap (λ b. b || list_any f xs) a.0 ∙ ap (λ b. g x || b) (any_alike f g xs a.1)

pub filter_alike : {X : Type 0} (f g : X → Bool) (xs : List X) → AllByRecursion (λ x. f x ≡ g x) xs
    → filter f xs ≡ filter g xs
filter_alike f g [] a = refl
filter_alike f g (x ∷ xs) a = ap (λ b. cond b (x ∷ filter f xs) (filter f xs)) a.0
    ∙ ap (λ l. cond (g x) (x ∷ l) l) (filter_alike f g xs a.1)

-- A weaker test.
pub any_more : {X : Type 0} (f g : X → Bool) → ((x : X) → f x ≡ true → g x ≡ true) → (xs : List X)
    → list_any f xs ≡ true → list_any g xs ≡ true
any_more f g more [] h = h
any_more f g more (x ∷ xs) h = elim (or_cases (f x) (list_any f xs) h) [
  | inl t ↦ or_left (g x) (list_any g xs) (more x t)
  | inr r ↦ or_right (g x) (list_any g xs) (any_more f g more xs r)
]
