-- Fields with ascending keys are equal if they have the same value at each key.
use Rattle.std.proofs.Common.{◌≡◌, ◌∙◌, ap, sym, refl, ℕ, List, [], ◌∷◌, Option, Some, None, Bool, true, false, cond}
use Rattle.std.proofs.lemmas.Cmp.{nat_list_cmp_total}
use Rattle.std.proofs.lemmas.Map.Lookups.{exact_bytes}
use Rattle.std.proofs.lemmas.Map.Text.{is_eq-slice_cmp}
use Rattle.std.proofs.lemmas.Slice.Eq.{bytes_eq-Decides}
use Rattle.std.specs.Cmp.Lexicographic.{slice_cmp, nat_list_eq_equiv}
use Rattle.std.specs.List.{AllByRecursion}
use Rattle.std.specs.List.Sorted.{IsStrictlySortedBy}
use Rattle.std.specs.Option.{option_or}
use Rattle.std.specs.Ordering.{is_eq, nat_cmp, ordering_reverse}
use Rattle.std.specs.Str.{bytes_eq}
use Rattle.std.specs.declared.cmp.Ordering.{Ordering}
use Rattle.std.specs.declared.cmp.Ordering.TheVariants.{Less, Equal, Greater}
use Rattle.cedar_terms.specs.declared.partial_value.PartialValue.{PartialValue}
use Rattle.cedar_entity.specs.Fields.{AreFieldsOf, Fields, KeysAscend, field_at, field_keys, last_at}

unequal_keys : (k key : List ℕ) → slice_cmp nat_cmp key k ≡ Less → bytes_eq k key ≡ false
unequal_keys k key h = nat_list_eq_equiv.symm k key ∙ sym (is_eq-slice_cmp key k) ∙ ap is_eq h

-- There is no value at a key that is less than all keys.
none_below : (key : List ℕ) (fs : Fields) → AllByRecursion (λ y. slice_cmp nat_cmp key y ≡ Less) (field_keys fs)
    → field_at key fs ≡ None
none_below key [] h = refl
none_below key (f ∷ fs) h =
    ap (λ b. cond b (Some f.1) (field_at key fs)) (unequal_keys f.0 key h.0) ∙ none_below key fs h.1

all_below : (key k : List ℕ) (ks : List (List ℕ)) → slice_cmp nat_cmp key k ≡ Less
    → AllByRecursion (λ y. slice_cmp nat_cmp k y ≡ Less) ks → AllByRecursion (λ y. slice_cmp nat_cmp key y ≡ Less) ks
all_below key k [] h a = tt
all_below key k (y ∷ ks) h a = (nat_list_cmp_total.trans key k y h a.0, all_below key k ks h a.1)

at_own : (f : List ℕ × PartialValue) (fs : Fields) → field_at f.0 (f ∷ fs) ≡ Some f.1
at_own f fs = ap (λ b. cond b (Some f.1) (field_at f.0 fs)) (nat_list_eq_equiv.refl f.0)

field_clash : (f g : List ℕ × PartialValue) (fs gs : Fields) → slice_cmp nat_cmp f.0 g.0 ≡ Less
    → AllByRecursion (λ y. slice_cmp nat_cmp g.0 y ≡ Less) (field_keys gs)
    → field_at f.0 (f ∷ fs) ≡ field_at f.0 (g ∷ gs) → ⊥
field_clash f g fs gs e b h =
    let n : Some f.1 ≡ None = sym (at_own f fs) ∙ h
    ∙ none_below f.0 (g ∷ gs) (e, all_below f.0 g.0 (field_keys gs) e b) in
    cc

same_key : (f g : List ℕ × PartialValue) (fs gs : Fields) (o : Ordering) → slice_cmp nat_cmp f.0 g.0 ≡ o
    → AllByRecursion (λ y. slice_cmp nat_cmp f.0 y ≡ Less) (field_keys fs)
    → AllByRecursion (λ y. slice_cmp nat_cmp g.0 y ≡ Less) (field_keys gs)
    → ((key : List ℕ) → field_at key (f ∷ fs) ≡ field_at key (g ∷ gs)) → f.0 ≡ g.0
same_key f g fs gs Less e a b h = absurd (field_clash f g fs gs e b (h f.0))
same_key f g fs gs Equal e a b h = exact_bytes f.0 g.0 e
same_key f g fs gs Greater e a b h =
    absurd (field_clash g f gs fs (nat_list_cmp_total.antisymm g.0 f.0 ∙ ap ordering_reverse e) a (sym (h g.0)))

same_rest : (key : List ℕ) (f g : List ℕ × PartialValue) (fs gs : Fields) (t : Bool) → bytes_eq f.0 key ≡ t
    → f.0 ≡ g.0
    → field_at f.0 fs ≡ None → field_at g.0 gs ≡ None
    → field_at key (f ∷ fs) ≡ field_at key (g ∷ gs) → field_at key fs ≡ field_at key gs
same_rest key f g fs gs true q e a b h =
    let r : f.0 ≡ key = (bytes_eq-Decides f.0 key).0 q in
    ap (λ x. field_at x fs) (sym r) ∙ a ∙ sym b ∙ ap (λ x. field_at x gs) (sym e ∙ r)
same_rest key f g fs gs false q e a b h =
    sym (ap (λ t. cond t (Some f.1) (field_at key fs)) q) ∙ h
    ∙ ap (λ t. cond t (Some g.1) (field_at key gs)) (ap (λ x. bytes_eq x key) (sym e) ∙ q)

-- Fields with ascending keys and with the same value at each key are equal.
same_fields : (fs gs : Fields) → IsStrictlySortedBy (slice_cmp nat_cmp) (field_keys fs)
    → IsStrictlySortedBy (slice_cmp nat_cmp) (field_keys gs)
    → ((key : List ℕ) → field_at key fs ≡ field_at key gs) → fs ≡ gs
unfolding IsStrictlySortedBy
same_fields [] [] s t h = refl
same_fields [] (g ∷ gs) s t h = let n : None ≡ Some g.1 = h g.0 ∙ at_own g gs in absurd (cc)
same_fields (f ∷ fs) [] s t h = let n : Some f.1 ≡ None = sym (at_own f fs) ∙ h f.0 in absurd (cc)
same_fields (f ∷ fs) (g ∷ gs) s t h =
    let e : f.0 ≡ g.0 = same_key f g fs gs (slice_cmp nat_cmp f.0 g.0) refl s.0 t.0 h in
    let q : Some f.1 ≡ Some g.1 = sym (at_own f fs) ∙ h f.0 ∙ ap (λ x. field_at x (g ∷ gs)) e ∙ at_own g gs in
    let r : f.1 ≡ g.1 = cc in
    let m : fs ≡ gs = same_fields fs gs s.1 t.1
    (λ key. same_rest key f g fs gs (bytes_eq f.0 key) refl e (none_below f.0 fs s.0) (none_below g.0 gs t.0) (h key)) in
    λ i. (e i, r i) ∷ m i

or_none : (o : Option PartialValue) → o ≡ option_or o None
or_none None = refl
or_none (Some v) = refl

last_by : (key : List ℕ) (f : List ℕ × PartialValue) (fs : Fields) (last : Option PartialValue) (t : Bool)
    → bytes_eq f.0 key ≡ t → field_at f.0 fs ≡ None → field_at key fs ≡ last
    → field_at key (f ∷ fs) ≡ option_or last (cond (bytes_eq f.0 key) (Some f.1) None)
last_by key f fs last true q a h =
    let r : f.0 ≡ key = (bytes_eq-Decides f.0 key).0 q in
    ap (λ t. cond t (Some f.1) (field_at key fs)) q
    ∙ ap (λ o. option_or o (Some f.1)) (sym a ∙ ap (λ x. field_at x fs) r ∙ h)
    ∙ ap (λ t. option_or last (cond t (Some f.1) None)) (sym q)
last_by key f fs last false q a h =
    ap (λ t. cond t (Some f.1) (field_at key fs)) q ∙ h ∙ or_none last
    ∙ ap (λ t. option_or last (cond t (Some f.1) None)) (sym q)

-- If keys are ascending, the first field with a key is also the last.
first_is_last : (key : List ℕ) (fs : Fields) → IsStrictlySortedBy (slice_cmp nat_cmp) (field_keys fs)
    → field_at key fs ≡ last_at key fs
unfolding IsStrictlySortedBy
first_is_last key [] s = refl
first_is_last key (f ∷ fs) s =
    last_by key f fs (last_at key fs) (bytes_eq f.0 key) refl (none_below f.0 fs s.0) (first_is_last key fs s.1)

-- Fields that are made from fields with ascending keys are equal to them.
pub made_same : (given fields copies : Fields) → KeysAscend fields → copies ≡ fields → AreFieldsOf copies given
    → given ≡ fields
made_same given fields copies ascending same made =
    same_fields given fields made.ascending ascending
    (λ key. made.last key ∙ ap (last_at key) same ∙ sym (first_is_last key fields ascending))
