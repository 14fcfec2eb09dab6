-- An encoded expression is decoded as itself, and as nothing else.
use Rattle.std.proofs.Common.{◌≡◌, ◌∙◌, ap, sym, refl, subst, ℕ, length, List, [], ◌∷◌, Option, Some, None, arith}
use Rattle.cedar_ids.specs.Name.{NameParts}
use Rattle.cedar_ids.specs.Printed.{printed_name}
use Rattle.cedar_ids.specs.TextOf.{IsNameText}
use Rattle.cedar_ids.specs.laws.NameTextLaws.{printed_name_injective}
use Rattle.cedar_terms.specs.ExprTree.{ExprTree, val_node, var_node, slot_node, unknown_node, set_node}
use Rattle.cedar_terms.specs.ExprTree.{call_node, not_node, binary_node, is_node, ExprTrees, no_exprs, expr_then}
use Rattle.cedar_terms.specs.ExprTree.{expr_trees}
use Rattle.cedar_terms.specs.LiteralTree.{bool_literal, long_literal, string_literal, uid_literal}
use Rattle.cedar_terms.specs.laws.Children.{expr_list}
use Rattle.cedar_c_trees.specs.Items.{Item, bool_item, long_item, text_item, uid_item, set_item, record_item, call_item}
use Rattle.cedar_c_trees.specs.Items.{var_item, slot_item, unknown_item, not_item, binary_item, is_item, BuildsExpr}
use Rattle.cedar_c_trees.specs.Items.{Tree, IsBuiltFrom, AreBuiltFrom, IsTypeOfOperand}
use Rattle.cedar_c_trees.specs.Plans.{expr_plan, exprs_plan, exprs_count, named_unknown, IsTyped, HasNames, HaveNames}
use Rattle.cedar_c_trees.specs.Plans.{IsReadBack}
use Rattle.cedar_c_trees.specs.Items.{Tree, IsBuiltFrom, AreBuiltFrom, IsTypeOfOperand}
use Rattle.cedar_c_trees.specs.Plans.{expr_plan, exprs_plan, exprs_count, named_unknown, IsTyped, HasNames, HaveNames}
use Rattle.cedar_c_trees.specs.Plans.{IsReadBack}
use Rattle.cedar_c_trees.proofs.Made.{one_made}
use Rattle.cedar_c_trees.proofs.Unique.{arity, full, one_tree_only}

type_arity : (t : Option NameParts) (n : ℕ) (es : List ExprTree) → IsTypeOfOperand t n es → length es ≡ n
type_arity None n es h = ap length h.1 ∙ sym h.0
type_arity (Some t) n es h = ap length h.2 ∙ sym h.1

pub joins_arity : (i : Item) (es : List ExprTree) (e : ExprTree) → BuildsExpr i es e → length es ≡ arity i
joins_arity (bool_item b) es e h = ap length h.0
joins_arity (long_item n) es e h = ap length h.0
joins_arity (text_item s) es e h = ap length h.0
joins_arity (uid_item u) es e h = ap length h.0
joins_arity (set_item n) es e h = h.0
joins_arity (record_item n) es e h = absurd h
joins_arity (call_item f n) es e h = h.0
joins_arity (var_item v) es e h = ap length h.0
joins_arity (slot_item s) es e h = ap length h.0
joins_arity (unknown_item s n) es e h = type_arity h.0 n es h.1
joins_arity not_item es e h = ap length h.1
joins_arity (binary_item o) es e h = ap length h.2
joins_arity (is_item t) es e h = ap length h.1

one_of : (x y : ExprTree) → x ∷ [] ≡ y ∷ [] → x ≡ y
one_of x y e = cc

first_of_two : (x y x' y' : ExprTree) → x ∷ y ∷ [] ≡ x' ∷ y' ∷ [] → x ≡ x'
first_of_two x y x' y' e = cc

second_of_two : (x y x' y' : ExprTree) → x ∷ y ∷ [] ≡ x' ∷ y' ∷ [] → y ≡ y'
second_of_two x y x' y' e = cc

one_text : (a b : List ℕ) → val_node (string_literal a) ∷ [] ≡ val_node (string_literal b) ∷ [] → a ≡ b
one_text a b e = cc

none_or_one : (n : ℕ) → n ≡ 0 → n ≡ 1 → ⊥
none_or_one n z o = omega arith

same_type : (t u : Option NameParts) (n : ℕ) (es : List ExprTree) → IsTypeOfOperand t n es → IsTypeOfOperand u n es → t ≡ u
same_type None None n es h g = refl
same_type None (Some u) n es h g = absurd (none_or_one n h.0 g.1)
same_type (Some t) None n es h g = absurd (none_or_one n g.0 h.1)
same_type (Some t) (Some u) n es h g =
    ap Some (printed_name_injective t u h.0 h.3 (subst (IsNameText u) (one_text g.0 h.0 (sym g.2 ∙ h.2)) g.3))

-- A node builds one expression from its operands.
joins_one : (i : Item) (es : List ExprTree) (d e : ExprTree) → BuildsExpr i es d → BuildsExpr i es e → d ≡ e
joins_one (bool_item b) es d e h g = h.1 ∙ sym g.1
joins_one (long_item n) es d e h g = h.1 ∙ sym g.1
joins_one (text_item s) es d e h g = h.1 ∙ sym g.1
joins_one (uid_item u) es d e h g = h.1 ∙ sym g.1
joins_one (set_item n) es d e h g = h.1 ∙ sym g.1
joins_one (record_item n) es d e h g = absurd h
joins_one (call_item f n) es d e h g = h.1 ∙ sym g.1
joins_one (var_item v) es d e h g = h.1 ∙ sym g.1
joins_one (slot_item s) es d e h g = h.1 ∙ sym g.1
joins_one (unknown_item s n) es d e h g =
    h.2 ∙ ap (λ (t : Option NameParts). unknown_node (record { name = s; annotation = t })) (same_type h.0 g.0 n es h.1 g.1)
    ∙ sym g.2
joins_one not_item es d e h g = h.2 ∙ ap not_node (one_of h.0 g.0 (sym h.1 ∙ g.1)) ∙ sym g.2
joins_one (binary_item o) es d e h g =
    h.3 ∙ ap (λ (x : ExprTree). binary_node o x h.1) (first_of_two h.0 h.1 g.0 g.1 (sym h.2 ∙ g.2))
    ∙ ap (λ (y : ExprTree). binary_node o g.0 y) (second_of_two h.0 h.1 g.0 g.1 (sym h.2 ∙ g.2)) ∙ sym g.3
joins_one (is_item t) es d e h g =
    h.2 ∙ ap (λ (x : ExprTree). is_node x t) (one_of h.0 g.0 (sym h.1 ∙ g.1)) ∙ sym g.2

listed : (es : ExprTrees) → expr_trees (expr_list es) ≡ es
listed no_exprs = refl
listed (expr_then e es) = ap (expr_then e) (listed es)

length_listed : (es : ExprTrees) → length (expr_list es) ≡ exprs_count es
length_listed no_exprs = refl
length_listed (expr_then e es) = omega (arith, length_listed es)

unknown_planned : (name : List ℕ) (t : Option NameParts) → IsTyped t
    → IsBuiltFrom BuildsExpr (named_unknown name t) (unknown_node (record { name = name; annotation = t }))
unknown_planned name None h = ([], tt, (None, (refl, refl), refl))
unknown_planned name (Some t) h = (
  val_node (string_literal (printed_name t)) ∷ [],
  (([], tt, (refl, refl)), tt),
  (Some t, (printed_name t, refl, refl, (h, refl)), refl),
)

mutual
  -- An expression is built from its tree.
  pub planned : (e : ExprTree) → HasNames e → IsBuiltFrom BuildsExpr (expr_plan e) e
  planned (val_node (bool_literal b)) h = ([], tt, (refl, refl))
  planned (val_node (long_literal n)) h = ([], tt, (refl, refl))
  planned (val_node (string_literal s)) h = ([], tt, (refl, refl))
  planned (val_node (uid_literal u)) h = ([], tt, (refl, refl))
  planned (var_node v) h = ([], tt, (refl, refl))
  planned (slot_node s) h = ([], tt, (refl, refl))
  planned (unknown_node u) h = unknown_planned u.name u.annotation h
  planned (set_node es) h = (expr_list es, all_planned es h, (length_listed es, ap set_node (sym (listed es))))
  planned (call_node f es) h = (expr_list es, all_planned es h, (length_listed es, ap (call_node f) (sym (listed es))))
  planned (not_node e) h = (e ∷ [], (planned e h, tt), (e, refl, refl))
  planned (binary_node o x y) h = (x ∷ y ∷ [], (planned x h.0, (planned y h.1, tt)), (x, y, refl, refl))
  planned (is_node e t) h = (e ∷ [], (planned e h, tt), (e, refl, refl))

  all_planned : (es : ExprTrees) → HaveNames es → AreBuiltFrom BuildsExpr (exprs_plan es) (expr_list es)
  all_planned no_exprs h = tt
  all_planned (expr_then e es) h = (planned e h.0, all_planned es h.1)

-- An encoded expression is decoded as itself.
pub read_back : (e : ExprTree) → HasNames e → IsReadBack e
read_back e h = record {
  planned = planned e h;
  only =
      λ t d f m.
      let s : t ≡ expr_plan e = one_tree_only t (expr_plan e) (full BuildsExpr joins_arity t d m)
      (full BuildsExpr joins_arity (expr_plan e) e (planned e h)) f in
      one_made BuildsExpr joins_one (expr_plan e) d e (subst (λ (u : Tree). IsBuiltFrom BuildsExpr u d) s m) (planned e h);
}
