-- Lists of places, and the items at the places.
use Rattle.std.proofs.Common.{◌≡◌, ◌∙◌, ◌<◌, ℕ, zero, suc, Bool, true, false, ◌||◌, nat_eq, List, [], ◌∷◌, ◌++◌}
use Rattle.std.proofs.Common.{length, Option, None, Some, slice_get, refl, sym, ap, subst, arith, true≢false}
use Rattle.std.specs.List.{list_any, cons_option}
use Rattle.std.specs.Option.{option_map_or}
use Rattle.std.proofs.lemmas.Bool.{or_parts, or_from, or_left, or_right, eqb-false, eqb-true, ne_eqb, eq-eqb}
use Rattle.cedar_linked_map.specs.Linked.{AreDistinct, IsPath, picked, walk}
use Rattle.cedar_linked_map.proofs.Paths.{is_either}

or_swap : (a b c : Bool) → (a || (b || c)) ≡ (b || (a || c))
or_swap true true c = refl
or_swap true false c = refl
or_swap false true c = refl
or_swap false false c = refl

pub eq_flip : (a b : ℕ) → nat_eq a b ≡ false → nat_eq b a ≡ false
eq_flip a b p = ne_eqb b a (λ h. eqb-false a b p (sym h))

pub any_mid : {X : Type 0} (t : X → Bool) (xs : List X) (x : X) (ys : List X)
    → list_any t (xs ++ x ∷ ys) ≡ (t x || list_any t (xs ++ ys))
any_mid t [] x ys = refl
any_mid t (y ∷ xs) x ys = ap (λ r. t y || r) (any_mid t xs x ys) ∙ or_swap (t y) (t x) (list_any t (xs ++ ys))

pub length_mid : {X : Type 0} (xs : List X) (x : X) (ys : List X) → length (xs ++ x ∷ ys) ≡ suc (length (xs ++ ys))
length_mid [] x ys = refl
length_mid (y ∷ xs) x ys = ap suc (length_mid xs x ys)

-- The position of a place in a list.
pub split_at : (i : ℕ) (o : List ℕ) → list_any (nat_eq i) o ≡ true → (xs : List ℕ) × (ys : List ℕ) × (o ≡ xs ++ i ∷ ys)
split_at i [] h = absurd (true≢false (sym h))
split_at i (x ∷ o) h = by (nat_eq i x) refl (λ g. split_at i o g)
  where
    by : (b : Bool) → nat_eq i x ≡ b → (list_any (nat_eq i) o ≡ true
        → (xs : List ℕ) × (ys : List ℕ) × (o ≡ xs ++ i ∷ ys))
        → (xs : List ℕ) × (ys : List ℕ) × (x ∷ o ≡ xs ++ i ∷ ys)
    by true k rest = ([], o, ap (λ z. z ∷ o) (sym (eqb-true i x k)))
    by false k rest =
        let r = rest (sym (ap (λ c. c || list_any (nat_eq i) o) k) ∙ h) in
        (x ∷ r.0, r.1, ap (λ l. x ∷ l) r.2)

-- An item of a part of a list is an item of the list.
pub any_left : {X : Type 0} (t : X → Bool) (xs ys : List X) → list_any t xs ≡ true → list_any t (xs ++ ys) ≡ true
any_left t [] ys h = absurd (true≢false (sym h))
any_left t (x ∷ xs) ys h = by (t x) h (any_left t xs ys)
  where
    by : (b : Bool) → (b || list_any t xs) ≡ true → (list_any t xs ≡ true → list_any t (xs ++ ys) ≡ true)
        → (b || list_any t (xs ++ ys)) ≡ true
    by true k rest = refl
    by false k rest = rest k

pub any_right : {X : Type 0} (t : X → Bool) (xs ys : List X) → list_any t ys ≡ true → list_any t (xs ++ ys) ≡ true
any_right t [] ys h = h
any_right t (x ∷ xs) ys h = or_right (t x) (list_any t (xs ++ ys)) (any_right t xs ys h)

pub apart_mid : (xs : List ℕ) (x : ℕ) (ys : List ℕ) → AreDistinct (xs ++ x ∷ ys)
    → (list_any (nat_eq x) (xs ++ ys) ≡ false) × AreDistinct (xs ++ ys)
apart_mid [] x ys h = h
apart_mid (y ∷ xs) x ys h =
    let both = or_parts (nat_eq y x) (list_any (nat_eq y) (xs ++ ys)) (sym (any_mid (nat_eq y) xs x ys) ∙ h.0) in
    let rest = apart_mid xs x ys h.1 in
    (or_from (nat_eq x y) (list_any (nat_eq x) (xs ++ ys)) (eq_flip y x both.0) rest.0, (both.1, rest.1))

pub mid_apart : (xs : List ℕ) (x : ℕ) (ys : List ℕ) → list_any (nat_eq x) (xs ++ ys) ≡ false
    → AreDistinct (xs ++ ys) → AreDistinct (xs ++ x ∷ ys)
mid_apart [] x ys h a = (h, a)
mid_apart (y ∷ xs) x ys h a =
    let both = or_parts (nat_eq x y) (list_any (nat_eq x) (xs ++ ys)) h in (
      any_mid (nat_eq y) xs x ys ∙ or_from (nat_eq y x) (list_any (nat_eq y) (xs ++ ys)) (eq_flip x y both.0) a.0,
      mid_apart xs x ys both.1 a.1,
    )

pub any_either : (i m : ℕ) (xs : List ℕ) → list_any (nat_eq i) xs ≡ false → list_any (nat_eq m) xs ≡ false
    → list_any (is_either i m) xs ≡ false
any_either i m [] h k = refl
any_either i m (x ∷ xs) h k =
    let a = or_parts (nat_eq i x) (list_any (nat_eq i) xs) h in
    let b = or_parts (nat_eq m x) (list_any (nat_eq m) xs) k in
    or_from (is_either i m x) (list_any (is_either i m) xs) (or_from (nat_eq i x) (nat_eq m x) a.0 b.0) (any_either i
    m xs a.1 b.1)

module _ {X : Type 0} where
  cons_append : (o : Option X) (xs ys : List X) → cons_option o (xs ++ ys) ≡ cons_option o xs ++ ys
  cons_append None xs ys = refl
  cons_append (Some x) xs ys = refl

  pub picked-append : (es : List X) (xs ys : List ℕ) → picked es (xs ++ ys) ≡ picked es xs ++ picked es ys
  picked-append es [] ys = refl
  picked-append es (x ∷ xs) ys =
      ap (cons_option (slice_get es x)) (picked-append es xs ys)
      ∙ cons_append (slice_get es x) (picked es xs) (picked es ys)

  pub picked_mid : (es : List X) (xs : List ℕ) (x : ℕ) (ys : List ℕ) (c : X) → slice_get es x ≡ Some c
      → picked es (xs ++ x ∷ ys) ≡ picked es xs ++ c ∷ picked es ys
  picked_mid es xs x ys c p = picked-append es xs (x ∷ ys) ∙ ap (λ o. picked es xs ++ cons_option o (picked es ys)) p

  pub picked_kept : (es fs : List X) (bad : ℕ → Bool) → ((u : ℕ) → bad u ≡ false
      → slice_get fs u ≡ slice_get es u) → (xs : List ℕ) → list_any bad xs ≡ false → picked fs xs ≡ picked es xs
  picked_kept es fs bad same [] h = refl
  picked_kept es fs bad same (x ∷ xs) h =
      let b = or_parts (bad x) (list_any bad xs) h in
      (λ j. cons_option (same x b.0 j) (picked_kept es fs bad same xs b.1 j))

  pub some_below : (es : List X) (u : ℕ) → u < length es → (c : X) × (slice_get es u ≡ Some c)
  some_below [] u h = absurd (omega (arith, h))
  some_below (e ∷ es) zero h = (e, refl)
  some_below (e ∷ es) (suc u) h = some_below es u (omega (arith, h))

  -- A walk along a path gives the items at its places.
  pub walk_picked : (es : List X) (A B N : ℕ → ℕ) → ((u : ℕ) → u < length es → N u ≡ A u)
      → (s : ℕ) (xs : List ℕ) (e : ℕ) → IsPath A B s xs e
      → ((u : ℕ) → list_any (nat_eq u) xs ≡ true → u < length es) → walk (length xs) es N (A s) ≡ picked es xs
  walk_picked es A B N agree s [] e p within = refl
  walk_picked es A B N agree s (x ∷ xs) e p within =
      let here : x < length es = within x (or_left (nat_eq x x) (list_any (nat_eq x) xs) (eq-eqb x x refl)) in
      let c = some_below es x here in
      let rest : walk (length xs) es N (A x) ≡ picked es xs = walk_picked es A B N agree x xs e p.1 (λ u h. within u
      (or_right (nat_eq u x) (list_any (nat_eq u) xs) h)) in
      ap (walk (suc (length xs)) es N) p.0.0
      ∙ ap (λ o. option_map_or (λ d. d ∷ walk (length xs) es N (N x)) o []) c.1
      ∙ ap (λ l. c.0 ∷ l) (ap (walk (length xs) es N) (agree x here) ∙ rest)
      ∙ ap (λ o. cons_option o (picked es xs)) (sym c.1)

-- The neighbours of the ends of a path are places or the end.
module _ (A B : ℕ → ℕ) (P : ℕ → Type 0) where
  pub before_is : (s : ℕ) (xs : List ℕ) (e : ℕ) → P s → ((u : ℕ) → list_any (nat_eq u) xs ≡ true → P u)
      → IsPath A B s xs e → P (B e)
  before_is s [] e ps all p = subst P (sym p.1) ps
  before_is s (x ∷ xs) e ps all p =
      before_is x xs e (all x (or_left (nat_eq x x) (list_any (nat_eq x) xs) (eq-eqb x x refl))) (λ u h. all u
      (or_right (nat_eq u x) (list_any (nat_eq u) xs) h)) p.1

  pub after_is : (s : ℕ) (xs : List ℕ) (e : ℕ) → P e → ((u : ℕ) → list_any (nat_eq u) xs ≡ true → P u)
      → IsPath A B s xs e → P (A s)
  after_is s [] e pe all p = subst P (sym p.0) pe
  after_is s (x ∷ xs) e pe all p = subst P (sym p.0.0) (all x (or_left (nat_eq x x) (list_any (nat_eq x) xs) (eq-eqb
      x x refl)))
