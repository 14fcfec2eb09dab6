-- Insertion into the cache changes the value of one text only. Rows of numbers of uids.
use Rattle.std.specs.Prelude.{◌≡◌, ◌++◌, ◌||◌, ℕ, zero, suc, List, [], ◌∷◌, Bool, true, false, Option, Some, None, nat_eq}
use Rattle.std.specs.Prelude.{if◌then◌else◌, slice_get}
use Rattle.std.proofs.Common.{refl, sym, subst, ap, ◌∙◌}
use Rattle.std.proofs.Math.Dec.{eqb-suc-suc, eqb-suc-zero, eqb-zero-suc}
use Rattle.std.proofs.lemmas.List.Folds.{list_any-append}
use Rattle.std.specs.Cmp.Lexicographic.{pointwise, bytes_decides, nat_list_eq_equiv}
use Rattle.std.specs.HashMap.{HashMap, UpdatesBy}
use Rattle.std.specs.List.{AllByRecursion, IsDistinct, list_any}
use Rattle.std.specs.Map.{AreApart, IsKeyTest, KeepsOthers, lookup}
use Rattle.std.specs.Option.{IfSome, option_map_or}
use Rattle.std.specs.Set.{is_member}
use Rattle.std.specs.declared.vec.Vec.{Vec}
use Rattle.cedar_ids.specs.UidOf.{same_uid}
use Rattle.cedar_ids.specs.declared.entity.EntityUID.{EntityUID}
use Rattle.cedar_ids.specs.laws.UidOfLaws.{same_uid_equiv}
use Rattle.cedar_entity.specs.View.{has_ancestor}
use Rattle.cedar_c_stores.specs.QueryCaches.{AreCached, AreNumbersOf, IsNumbered, IsNumberOfText, IsRowAt, KeepsNumbers, is_number_of}
use Rattle.cedar_c_stores.specs.QueryCaches.{cached_at}
use Rattle.cedar_c_stores.specs.Numbers.{uids_with}
use Rattle.cedar_entity_maps.specs.Plain.{StoreView}
use Rattle.cedar_c_stores.specs.declared.query_cache.QueryCache.{QueryCache}

-- ---- texts

-- Whether two keys have the same bytes.
abbrev same_key : {A : Type 0} → Vec ℕ A → Vec ℕ A → Bool
same_key x y = pointwise nat_eq x.items y.items

-- Whether a key has the bytes of a text.
abbrev is_at : {A : Type 0} → List ℕ → Vec ℕ A → Bool
is_at t k = pointwise nat_eq t k.items

finds_key : {A : Type 0} (t : List ℕ) → IsKeyTest (same_key {A = A}) (is_at t)
finds_key t x y e = nat_list_eq_equiv.congr t x.items y.items e

are_apart : {A : Type 0} (k : Vec ℕ A) (t : List ℕ) → pointwise nat_eq t k.items ≡ false → AreApart (same_key k) (is_at t)
are_apart k t e x same =
    subst (λ (s : List ℕ). pointwise nat_eq t s ≡ false) ((bytes_decides k.items x.items).0 same) e

put_by : {A X B : Type 0} (m n : HashMap (Vec ℕ A) X B) (k : Vec ℕ A) (x : X)
    → UpdatesBy same_key (same_key k) m n (Some x) → (P : List ℕ → Option X → Type 0) → P k.items (Some x) → (t : List ℕ)
    → P t (cached_at m t) → (b : Bool) → pointwise nat_eq t k.items ≡ b → P t (cached_at n t)
unfolding KeepsOthers
put_by m n k x updates P new t old true e =
    subst (λ (s : List ℕ). P s (cached_at n s)) (sym ((bytes_decides t k.items).0 e))
    (subst (P k.items) (sym updates.1) new)
put_by {A} {X} m n k x updates P new t old false e =
    let kept : KeepsOthers same_key (same_key k) m.entries n.entries = updates.3 in
    subst (P t) (sym (kept (is_at t) (finds_key t) (are_apart k t e))) old

-- If a property is true of all cached values and of the inserted one, it is true of all values after the insertion.
pub noted_put : {A X B : Type 0} (m n : HashMap (Vec ℕ A) X B) (k : Vec ℕ A) (x : X)
    → UpdatesBy same_key (same_key k) m n (Some x) → (P : List ℕ → Option X → Type 0) → P k.items (Some x)
    → ((t : List ℕ) → P t (cached_at m t)) → (t : List ℕ) → P t (cached_at n t)
noted_put m n k x updates P new old t = put_by m n k x updates P new t (old t) (pointwise nat_eq t k.items) refl

-- An implication for the value of an option.
pub some_then : {X : Type 0} (P Q : X → Type 0) → ((x : X) → P x → Q x) → (o : Option X) → IfSome o P → IfSome o Q
some_then P Q f (Some x) p = f x p
some_then P Q f None p = p

-- ---- numbers

none_is_not : (u : EntityUID) → None ≡ Some u → ⊥
none_is_not u e = cc

-- A uid keeps its number after more uids are appended.
pub still_given : (us more : List EntityUID) (n : ℕ) (u : EntityUID) → slice_get us n ≡ Some u
    → slice_get (us ++ more) n ≡ Some u
still_given [] more n u e = absurd (none_is_not u e)
still_given (x ∷ us) more zero u e = e
still_given (x ∷ us) more (suc n) u e = still_given us more n u e

all_given : (us more : List EntityUID) (row : List ℕ) → AllByRecursion (IsNumbered us) row
    → AllByRecursion (IsNumbered (us ++ more)) row
all_given us more [] a = a
all_given us more (n ∷ row) (g, a) = ((g.0, still_given us more n g.0 g.1), all_given us more row a)

-- Two tests that agree on each number of a row give the same result for the row.
any_alike : (us : List EntityUID) (p r : ℕ → Bool) (row : List ℕ) → AllByRecursion (IsNumbered us) row
    → ((n : ℕ) (u : EntityUID) → slice_get us n ≡ Some u → p n ≡ r n) → list_any p row ≡ list_any r row
any_alike us p r [] a alike = refl
any_alike us p r (n ∷ row) (g, a) alike =
    ap (λ b. b || list_any p row) (alike n g.0 g.1) ∙ ap (λ b. r n || b) (any_alike us p r row a alike)

-- A row is unchanged after more uids are appended.
pub row_kept : (us more : List EntityUID) (test : EntityUID → Bool) (row : List ℕ) → AreNumbersOf us test row
    → AreNumbersOf (us ++ more) test row
row_kept us more test row r = record {
  told = λ q. any_alike us (is_number_of (us ++ more) q) (is_number_of us q) row r.given
      (λ n u e. ap (λ o. option_map_or (same_uid q) o false) (still_given us more n u e ∙ sym e))
      ∙ r.told q;
  given = all_given us more row r.given;
}

-- A row of a test is a row of any equal test.
pub row_alike : (us : List EntityUID) (test other : EntityUID → Bool) (row : List ℕ) → ((q : EntityUID) → test q ≡ other q)
    → AreNumbersOf us test row → AreNumbersOf us other row
row_alike us test other row alike r = record { told = λ q. r.told q ∙ alike q; given = r.given }

or_off : (b : Bool) → (b || false) ≡ b
or_off true = refl
or_off false = refl

given_more : (us : List EntityUID) (row : List ℕ) (n : ℕ) → AllByRecursion (IsNumbered us) row → IsNumbered us n
    → AllByRecursion (IsNumbered us) (row ++ n ∷ [])
given_more us [] n a g = (g, a)
given_more us (m ∷ row) n (h, a) g = (h, given_more us row n a g)

-- A row extended by the number of a uid is the row of the extended list.
pub row_more : (us : List EntityUID) (done : List EntityUID) (row : List ℕ) (n : ℕ) (u : EntityUID)
    → AreNumbersOf us (is_member same_uid done) row → slice_get us n ≡ Some u
    → AreNumbersOf us (is_member same_uid (done ++ u ∷ [])) (row ++ n ∷ [])
row_more us done row n u r e = record {
  told = λ q.
      list_any-append (is_number_of us q) row (n ∷ [])
      ∙ ap (λ b. b || (is_number_of us q n || false)) (r.told q)
      ∙ ap (λ o. is_member same_uid done q || (option_map_or (same_uid q) o false || false)) e
      ∙ sym (list_any-append (same_uid q) done (u ∷ []));
  given = given_more us row n r.given (u, e);
}

all_at : (P : EntityUID → Type 0) (us : List EntityUID) (n : ℕ) (u : EntityUID) → AllByRecursion P us
    → slice_get us n ≡ Some u → P u
all_at P [] n u a e = absurd (none_is_not u e)
all_at P (x ∷ us) zero u (p, a) e = subst (λ o. IfSome o P) e p
all_at P (x ∷ us) (suc n) u (p, a) e = all_at P us n u a e

-- Two numbers are equal exactly if their uids are.
pub numbers_tell : (us : List EntityUID) → IsDistinct same_uid us → (m n : ℕ) (u v : EntityUID) → slice_get us m ≡ Some u
    → slice_get us n ≡ Some v → nat_eq m n ≡ same_uid v u
unfolding IsDistinct
numbers_tell [] d m n u v e f = absurd (none_is_not u e)
numbers_tell (x ∷ us) d zero zero u v e f =
    let same : IfSome (Some x) (λ y. same_uid y u ≡ true) =
    subst (λ o. IfSome o (λ y. same_uid x y ≡ true)) e (same_uid_equiv.refl x) in
    sym (subst (λ o. IfSome o (λ y. same_uid y u ≡ true)) f same)
numbers_tell (x ∷ us) d zero (suc n) u v e f =
    eqb-zero-suc n ∙ sym (subst (λ o. IfSome o (λ y. same_uid v y ≡ false)) e
    (same_uid_equiv.symm v x ∙ all_at (λ y. same_uid x y ≡ false) us n v d.0 f))
numbers_tell (x ∷ us) d (suc m) zero u v e f =
    eqb-suc-zero m ∙ sym (subst (λ o. IfSome o (λ y. same_uid y u ≡ false)) f (all_at (λ y. same_uid x y ≡ false) us m u d.0 e))
numbers_tell (x ∷ us) d (suc m) (suc n) u v e f = eqb-suc-suc m n ∙ numbers_tell us d.1 m n u v e f

-- A row contains the number of a uid exactly if the test is true of the uid.
pub row_tells : (us : List EntityUID) (test : EntityUID → Bool) (row : List ℕ) → IsDistinct same_uid us
    → AreNumbersOf us test row → (n : ℕ) (v : EntityUID) → slice_get us n ≡ Some v
    → list_any (λ m. nat_eq m n) row ≡ test v
row_tells us test row d r n v f =
    any_alike us (λ m. nat_eq m n) (is_number_of us v) row r.given
    (λ m u e. numbers_tell us d m n u v e f ∙ sym (ap (λ o. option_map_or (same_uid v) o false) e))
    ∙ r.told v

-- ---- numbering uids

append_none : (us : List EntityUID) → us ++ [] ≡ us
append_none [] = refl
append_none (x ∷ us) = ap (λ l. x ∷ l) (append_none us)

append_join : (us vs ws : List EntityUID) → (us ++ vs) ++ ws ≡ us ++ (vs ++ ws)
append_join [] vs ws = refl
append_join (x ∷ us) vs ws = ap (λ l. x ∷ l) (append_join us vs ws)

pub keeps_more : (us vs ws : List EntityUID) → KeepsNumbers us vs → KeepsNumbers vs ws → KeepsNumbers us ws
keeps_more us vs ws k l = (
  k.0 ++ l.0,
  l.1 ∙ ap (λ s. s ++ l.0) k.1 ∙ append_join us k.0 l.0,
  λ d. l.2 (k.2 d),
)

keeps_by : (b : Bool) (us : List EntityUID) (u : EntityUID) → (more : List EntityUID)
    × ((if b then us else us ++ u ∷ []) ≡ us ++ more)
keeps_by true us u = ([], sym (append_none us))
keeps_by false us u = (u ∷ [], refl)

pub keeps_with : (us ws : List EntityUID) (u : EntityUID) → ws ≡ uids_with us u → IsDistinct same_uid ws
    → KeepsNumbers us ws
keeps_with us ws u e d = let m = keeps_by (is_member same_uid us u) us u in (m.0, e ∙ m.1, λ _. d)

-- ---- the whole cache

pub row_stays : (S : StoreView) (us vs : List EntityUID) (t : List ℕ) (row : List ℕ) → KeepsNumbers us vs
    → IsRowAt S us t row → IsRowAt S vs t row
row_stays S us vs t row k (u, e, read, entity_at, r) = (
  u,
  e,
  read,
  entity_at,
  subst (λ s. AreNumbersOf s (has_ancestor e) row) (sym k.1) (row_kept us k.0 (has_ancestor e) row r),
)

pub name_stays : (us vs : List EntityUID) (t : List ℕ) (n : ℕ) → KeepsNumbers us vs → IsNumberOfText us t n → IsNumberOfText vs t n
name_stays us vs t n k (v, e, read) =
    (v, subst (λ (s : List EntityUID). slice_get s n ≡ Some v) (sym k.1) (still_given us k.0 n v e), read)

-- The cache is still correct after uids are numbered, if the maps are unchanged.
pub noted_stays : {B H : Type 0} (S : StoreView) (i j : QueryCache B H) → KeepsNumbers i.numbers j.numbers
    → j.above.entries ≡ i.above.entries → j.names.entries ≡ i.names.entries → AreCached S i → AreCached S j
noted_stays S i j k above names a = record {
  distinct = k.2 a.distinct;
  above = λ t.
      subst (λ es. IfSome (lookup (is_at t) es) (λ o. IfSome o (λ row. IsRowAt S j.numbers t row.items))) (sym above)
      (some_then _ _ (λ o. some_then _ _ (λ row. row_stays S i.numbers j.numbers t row.items k) o) (cached_at i.above t)
      (a.above t));
  names = λ t.
      subst (λ es. IfSome (lookup (is_at t) es) (IsNumberOfText j.numbers t)) (sym names)
      (some_then _ _ (λ n. name_stays i.numbers j.numbers t n k) (cached_at i.names t) (a.names t));
}
