-- Laws of the order, equality and hash of references and constraints.
use Rattle.std.specs.Prelude.{◌≡◌, true, Option, Some, None, refl}
use Rattle.std.proofs.Common.{ap, sym, ◌∙◌, subst}
use Rattle.std.specs.Bool.{Decides}
use Rattle.std.specs.declared.cmp.Ordering.{Ordering}
use Rattle.std.specs.declared.cmp.Ordering.TheVariants.{Equal}
use Rattle.std.specs.Option.{option_cmp}
use Rattle.std.specs.Ordering.{nat_cmp, is_eq}
use Rattle.std.specs.Cmp.{IsTotalOrder, IsEquivalence, on_total, then_total, nat_cmp_total, eq_by_cmp_equiv, Equal-is}
use Rattle.std.specs.Cmp.{tied_itself}
use Rattle.std.specs.Cmp.Lexicographic.{options_total}
use Rattle.cedar_ids.specs.Name.{NameParts, name_cmp}
use Rattle.cedar_ids.specs.laws.NameLaws.{name_cmp_total}
use Rattle.cedar_terms.specs.laws.KeyLaws.{key_cmp-Equal, key_cmp_total, right}
use Rattle.cedar_terms.specs.laws.Tied.{kinds_tied, then_tied}
use Rattle.cedar_terms.specs.Keys.{Key, fork, key_cmp, nat_key, name_key, uid_key}
use Rattle.cedar_terms.specs.laws.NameKeyLaws.{name_key-inj, name_key-cmp, uid_key-inj, uid_key-cmp}
use Rattle.cedar_scope.specs.Scope.{Reference, to_uid, to_slot, Constraint}
use Rattle.cedar_scope.specs.ScopeReads.{constraint_kind, stated_type, reference_in}
use Rattle.cedar_scope.specs.ScopeOrder.{reference_cmp, constraint_cmp, same_reference, same_constraint, reference_hash}
use Rattle.cedar_scope.specs.ScopeOrder.{constraint_hash}
use Rattle.cedar_scope.specs.Codes.{constraint_with, constraint_with-parts}

-- The key of a reference. The key of the slot is greater than those of all uids.
abbrev pub reference_key : Reference → Key
reference_key (to_uid u) = fork (nat_key 0) (uid_key u)
reference_key to_slot = fork (nat_key 1) (nat_key 0)

reference_key-inj : (x y : Reference) → reference_key x ≡ reference_key y → x ≡ y
reference_key-inj (to_uid u) (to_uid v) e = ap to_uid (uid_key-inj u v (right _ _ _ _ e))
reference_key-inj (to_uid u) to_slot e = absurd (cc)
reference_key-inj to_slot (to_uid v) e = absurd (cc)
reference_key-inj to_slot to_slot e = refl

reference_key-cmp : (x y : Reference) → key_cmp (reference_key x) (reference_key y) ≡ reference_cmp x y
reference_key-cmp (to_uid u) (to_uid v) = uid_key-cmp u v
reference_key-cmp (to_uid u) to_slot = refl
reference_key-cmp to_slot (to_uid v) = refl
reference_key-cmp to_slot to_slot = refl

-- The order of references is total.
pub reference_cmp_total : IsTotalOrder reference_cmp
reference_cmp_total = subst IsTotalOrder (λ i x y. reference_key-cmp x y i) (on_total reference_key key_cmp_total)

pub constraint_cmp_total : IsTotalOrder constraint_cmp
constraint_cmp_total =
    then_total (on_total constraint_kind nat_cmp_total)
    (then_total (on_total stated_type (options_total name_cmp_total))
    (on_total reference_in (options_total reference_cmp_total)))

-- The equality of references is an equivalence.
pub same_reference_equiv : IsEquivalence same_reference
same_reference_equiv = eq_by_cmp_equiv reference_cmp_total

pub same_constraint_equiv : IsEquivalence same_constraint
same_constraint_equiv = eq_by_cmp_equiv constraint_cmp_total

-- ---- Values that compare as `Equal` are identical

names_tied : (m n : NameParts) → name_cmp m n ≡ Equal → m ≡ n
names_tied m n e = name_key-inj m n (key_cmp-Equal (name_key m) (name_key n) (name_key-cmp m n ∙ e))

pub references_tied : (x y : Reference) → reference_cmp x y ≡ Equal → x ≡ y
references_tied x y e = reference_key-inj x y (key_cmp-Equal (reference_key x) (reference_key y) (reference_key-cmp x y
    ∙ e))

options_tied : {A : Type 0} (R : A → A → Ordering) → ((x y : A) → R x y ≡ Equal → x ≡ y) → (p q : Option A)
    → option_cmp R p q ≡ Equal → p ≡ q
options_tied R h None None e = refl
options_tied R h None (Some y) e = absurd (cc)
options_tied R h (Some x) None e = absurd (cc)
options_tied R h (Some x) (Some y) e = ap Some (h x y e)

pub constraints_tied : (x y : Constraint) → constraint_cmp x y ≡ Equal → x ≡ y
constraints_tied x y e =
    let p = then_tied (nat_cmp (constraint_kind x) (constraint_kind y)) _ e in
    let q = then_tied (option_cmp name_cmp (stated_type x) (stated_type y)) _ p.1 in
    let k : constraint_kind x ≡ constraint_kind y = kinds_tied _ _ p.0 in
    let t : stated_type x ≡ stated_type y = options_tied name_cmp names_tied _ _ q.0 in
    let r : reference_in x ≡ reference_in y = options_tied reference_cmp references_tied _ _ q.1 in
    sym (constraint_with-parts x) ∙ (λ i. constraint_with (k i) (t i) (r i)) ∙ constraint_with-parts y

-- `==` decides whether two references are identical.
pub same_reference_decides : (x y : Reference) → Decides (same_reference x y) (x ≡ y)
same_reference_decides x y = (
  λ e. references_tied x y ((Equal-is (reference_cmp x y)).0 e),
  λ e. ap (λ z. is_eq (reference_cmp x z)) (sym e) ∙ ap is_eq (tied_itself reference_cmp_total x),
)

pub same_constraint_decides : (x y : Constraint) → Decides (same_constraint x y) (x ≡ y)
same_constraint_decides x y = (
  λ e. constraints_tied x y ((Equal-is (constraint_cmp x y)).0 e),
  λ e. ap (λ z. is_eq (constraint_cmp x z)) (sym e) ∙ ap is_eq (tied_itself constraint_cmp_total x),
)

-- Equal references have equal hashes.
pub reference_hash_respects : (x y : Reference) → same_reference x y ≡ true → reference_hash x ≡ reference_hash y
reference_hash_respects x y e = ap reference_hash ((same_reference_decides x y).0 e)

pub constraint_hash_respects : (x y : Constraint) → same_constraint x y ≡ true → constraint_hash x ≡ constraint_hash y
constraint_hash_respects x y e = ap constraint_hash ((same_constraint_decides x y).0 e)
