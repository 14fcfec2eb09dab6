-- Codes by which a proof distinguishes keys, values and expressions.
use Rattle.std.specs.Prelude.{◌≡◌}
use Rattle.std.proofs.Common.{ap}
use Rattle.std.specs.Coded.{Coded, coded_ℤ}
use base.Stored.{Gv, gnum, gcons, coded_via}
use Rattle.cedar_terms.specs.Keys.{Key, fork, tip}
use Rattle.cedar_terms.specs.ValueTree.{ValueTree}
use Rattle.cedar_terms.specs.laws.ValueLaws.{value_key, value_key-inj}
use Rattle.cedar_terms.specs.ExprKeys.{expr_key}
use Rattle.cedar_terms.specs.ExprTree.{ExprTree}
use Rattle.cedar_terms.specs.laws.ExprKeyLaws.{expr_key-inj}

-- The code of a key.
abbrev pub key_gv : Key → Gv
key_gv (tip a) = gcons (gnum 0) (coded_ℤ.code a)
key_gv (fork a b) = gcons (gnum 1) (gcons (key_gv a) (key_gv b))

-- Equal pairs have equal second parts.
pub second : (a b c d : Gv) → gcons a b ≡ gcons c d → b ≡ d
second a b c d e = cc

-- Equal pairs have equal first parts.
pub first : (a b c d : Gv) → gcons a b ≡ gcons c d → a ≡ c
first a b c d e = cc

-- Keys with equal codes are equal.
pub key_gv_inj : (x y : Key) → key_gv x ≡ key_gv y → x ≡ y
key_gv_inj (tip a) (tip b) e = ap tip (coded_ℤ.inj a b (second _ _ _ _ e))
key_gv_inj (tip a) (fork c d) e = absurd (cc)
key_gv_inj (fork a b) (tip c) e = absurd (cc)
key_gv_inj (fork a b) (fork c d) e =
    let s : gcons (key_gv a) (key_gv b) ≡ gcons (key_gv c) (key_gv d) = second _ _ _ _ e in
    let q : a ≡ c = key_gv_inj a c (first _ _ _ _ s) in
    let r : b ≡ d = key_gv_inj b d (second _ _ _ _ s) in
    λ i. fork (q i) (r i)

-- The code of keys.
abbrev pub key_code : Coded Key
key_code = record { code = key_gv; inj = key_gv_inj }

-- The code of values: that of their keys.
abbrev pub value_code : Coded ValueTree
value_code = coded_via key_code value_key value_key-inj

-- The code of expressions: that of their keys.
abbrev pub expr_code : Coded ExprTree
expr_code = coded_via key_code expr_key expr_key-inj
