-- Laws of the equality, order and hash of literals.
use Rattle.std.specs.Prelude.{◌≡◌, ℕ, zero, suc, pos, Bool, true, false, refl}
use Rattle.std.proofs.Common.{ap, sym, ◌∙◌, subst}
use Rattle.std.specs.Bool.{Decides}
use Rattle.std.specs.Ordering.{bool_cmp, is_eq, on}
use Rattle.std.specs.Cmp.{IsTotalOrder, IsEquivalence, on_total, eq_by_cmp_equiv, Equal-is, tied_itself}
use Rattle.cedar_terms.specs.laws.KeyLaws.{key_cmp-Equal, key_cmp_total, left_at, right_at, read_back, int_at, nat_at}
use Rattle.cedar_terms.specs.laws.KeyLaws.{text_at, text_at-text_key, text_key-cmp}
use Rattle.cedar_terms.specs.Keys.{Key, tip, key_cmp}
use Rattle.cedar_terms.specs.laws.NameKeyLaws.{uid_at, uid_at-uid_key, uid_key-cmp}
use Rattle.cedar_terms.specs.LiteralTree.{LiteralTree, bool_literal, long_literal, string_literal, uid_literal}
use Rattle.cedar_terms.specs.LiteralTree.{literal_cmp, same_literal}
use Rattle.cedar_terms.specs.ExprKeys.{bool_key, literal_key}
use Rattle.cedar_terms.specs.ValueHash.{literal_hash}
use Rattle.cedar_terms.specs.declared.literal.Literal.{Literal}
use Rattle.cedar_terms.specs.Views.{literal_tree}

-- The Boolean with this key.
abbrev pub bool_at : Key → Bool
bool_at (tip (pos zero)) = false
bool_at k = true

bool_at-bool_key : (b : Bool) → bool_at (bool_key b) ≡ b
bool_at-bool_key false = refl
bool_at-bool_key true = refl

bool_key-cmp : (a b : Bool) → key_cmp (bool_key a) (bool_key b) ≡ bool_cmp a b
bool_key-cmp false false = refl
bool_key-cmp false true = refl
bool_key-cmp true false = refl
bool_key-cmp true true = refl

-- The literal with this kind and the key of its content.
abbrev pub literal_of : ℕ → Key → LiteralTree
literal_of zero k = bool_literal (bool_at k)
literal_of (suc zero) k = long_literal (int_at k)
literal_of (suc (suc zero)) k = string_literal (text_at k)
literal_of n k = uid_literal (uid_at k)

-- The literal with this key.
abbrev pub literal_at : Key → LiteralTree
literal_at k = literal_of (nat_at (left_at k)) (right_at k)

-- Decoding the key of a literal gives the literal.
pub literal_at-literal_key : (x : LiteralTree) → literal_at (literal_key x) ≡ x
literal_at-literal_key (bool_literal b) = ap bool_literal (bool_at-bool_key b)
literal_at-literal_key (long_literal n) = refl
literal_at-literal_key (string_literal s) = ap string_literal (text_at-text_key s)
literal_at-literal_key (uid_literal u) = ap uid_literal (uid_at-uid_key u)

-- Literals with equal keys are equal.
pub literal_key-inj : (x y : LiteralTree) → literal_key x ≡ literal_key y → x ≡ y
literal_key-inj x y e = read_back literal_key literal_at literal_at-literal_key x y e

-- Literals are ordered as their keys.
pub literal_key-cmp : (x y : LiteralTree) → key_cmp (literal_key x) (literal_key y) ≡ literal_cmp x y
literal_key-cmp (bool_literal a) (bool_literal b) = bool_key-cmp a b
literal_key-cmp (bool_literal a) (long_literal b) = refl
literal_key-cmp (bool_literal a) (string_literal b) = refl
literal_key-cmp (bool_literal a) (uid_literal b) = refl
literal_key-cmp (long_literal a) (bool_literal b) = refl
literal_key-cmp (long_literal a) (long_literal b) = refl
literal_key-cmp (long_literal a) (string_literal b) = refl
literal_key-cmp (long_literal a) (uid_literal b) = refl
literal_key-cmp (string_literal a) (bool_literal b) = refl
literal_key-cmp (string_literal a) (long_literal b) = refl
literal_key-cmp (string_literal a) (string_literal b) = text_key-cmp a b
literal_key-cmp (string_literal a) (uid_literal b) = refl
literal_key-cmp (uid_literal a) (bool_literal b) = refl
literal_key-cmp (uid_literal a) (long_literal b) = refl
literal_key-cmp (uid_literal a) (string_literal b) = refl
literal_key-cmp (uid_literal a) (uid_literal b) = uid_key-cmp a b

-- The order of literals is total.
pub literal_cmp_total : IsTotalOrder literal_cmp
literal_cmp_total = subst IsTotalOrder (λ i x y. literal_key-cmp x y i) (on_total literal_key key_cmp_total)

-- `==` is an equivalence.
pub same_literal_equiv : IsEquivalence same_literal
same_literal_equiv = eq_by_cmp_equiv literal_cmp_total

-- `==` decides whether two literals are identical.
pub same_literal_decides : (x y : LiteralTree) → Decides (same_literal x y) (x ≡ y)
same_literal_decides x y = (
  λ e. literal_key-inj x y (key_cmp-Equal (literal_key x) (literal_key y) (literal_key-cmp x y
      ∙ (Equal-is (literal_cmp x y)).0 e)),
  λ e. ap (λ z. is_eq (literal_cmp x z)) (sym e) ∙ ap is_eq (tied_itself literal_cmp_total x),
)

-- Equal literals have equal hashes.
pub literal_hash_respects : (x y : Literal) → on literal_tree same_literal x y ≡ true
    → literal_hash (literal_tree x) ≡ literal_hash (literal_tree y)
literal_hash_respects x y e = ap literal_hash ((same_literal_decides (literal_tree x) (literal_tree y)).0 e)
