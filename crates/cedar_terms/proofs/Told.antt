-- Equality of two nodes, from the equality of their contents.
use Rattle.std.proofs.Common.{◌≡◌, false, ◌&&◌, refl, sym, ap, ◌∙◌}
use Rattle.std.specs.Bool.{one_answer}
use Rattle.std.specs.Ordering.{is_eq}
use Rattle.cedar_ids.specs.Name.{NameParts, name_eq}
use Rattle.cedar_ids.specs.laws.NameLaws.{name_eq-Decides, is_eq-then, both}
use Rattle.cedar_terms.specs.LiteralTree.{LiteralTree, same_literal}
use Rattle.cedar_terms.specs.laws.LiteralLaws.{literal_key-cmp}
use Rattle.cedar_terms.specs.UnknownParts.{UnknownParts, same_unknown}
use Rattle.cedar_terms.specs.laws.UnknownLaws.{same_unknown_decides}
use Rattle.cedar_terms.specs.laws.KeyLaws.{key_cmp-Equal, key_cmp-itself}
use Rattle.cedar_terms.specs.Keys.{key_cmp, name_key}
use Rattle.cedar_terms.specs.laws.NameKeyLaws.{name_key-inj}
use Rattle.cedar_terms.specs.ExprTree.{ExprTree, val_node, unknown_node, call_node, is_node, ExprTrees}
use Rattle.cedar_terms.specs.ExprKeys.{expr_key, exprs_key}
use Rattle.cedar_terms.specs.laws.ExprLaws.{same_expr_decides}
use Rattle.cedar_terms.specs.ExprEquality.{same_expr, same_exprs}
use Rattle.std.specs.Cmp.{Equal-is}

in_val : (x y : LiteralTree) → val_node x ≡ val_node y → x ≡ y
in_val x y e = cc

in_unknown : (x y : UnknownParts) → unknown_node x ≡ unknown_node y → x ≡ y
in_unknown x y e = cc

pub literals_told : (x y : LiteralTree) → same_literal x y ≡ same_expr (val_node x) (val_node y)
literals_told x y = ap is_eq (sym (literal_key-cmp x y))

pub unknowns_told : (x y : UnknownParts) → same_unknown x y ≡ same_expr (unknown_node x) (unknown_node y)
unknowns_told x y =
    let d = same_unknown_decides x y in
    let k = same_expr_decides (unknown_node x) (unknown_node y) in
    one_answer (same_unknown x y) (same_expr (unknown_node x) (unknown_node y)) d
    (λ e. in_unknown x y (k.0 e), λ e. k.1 (ap unknown_node e))

names_told : (n m : NameParts) → is_eq (key_cmp (name_key n) (name_key m)) ≡ name_eq n m
names_told n m =
    one_answer (is_eq (key_cmp (name_key n) (name_key m))) (name_eq n m) (
      λ e. name_key-inj n m
          (key_cmp-Equal (name_key n) (name_key m) ((Equal-is (key_cmp (name_key n) (name_key m))).0 e)),
      λ e. ap (λ k. is_eq (key_cmp (name_key n) (name_key k))) (sym e) ∙ ap is_eq (key_cmp-itself (name_key n)),
    )
    (name_eq-Decides n m)

pub calls_told : (f g : NameParts) (xs ys : ExprTrees)
    → (name_eq f g && same_exprs xs ys) ≡ same_expr (call_node f xs) (call_node g ys)
calls_told f g xs ys = both _ _ _ _ (sym (names_told f g)) refl
    ∙ sym (is_eq-then (key_cmp (name_key f) (name_key g)) (key_cmp (exprs_key xs) (exprs_key ys)))

pub types_told : (x y : ExprTree) (t u : NameParts)
    → (same_expr x y && name_eq t u) ≡ same_expr (is_node x t) (is_node y u)
types_told x y t u = both _ _ _ _ refl (sym (names_told t u))
    ∙ sym (is_eq-then (key_cmp (expr_key x) (expr_key y)) (key_cmp (name_key t) (name_key u)))

pub functions_told : (f g : NameParts) (xs ys : ExprTrees) → name_eq f g ≡ false
    → same_expr (call_node f xs) (call_node g ys) ≡ false
functions_told f g xs ys e = sym (calls_told f g xs ys) ∙ ap (λ b. b && same_exprs xs ys) e
