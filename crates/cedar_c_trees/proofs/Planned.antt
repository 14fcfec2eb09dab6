-- Decoded nodes have a valid shape.
use Rattle.std.proofs.Common.{◌≡◌, ◌∙◌, ap, refl, subst, ℕ, length, List, [], ◌∷◌, map, Bool, true, inl, inr, Option, Some, None}
use Rattle.std.proofs.lemmas.List.{length-map}
use Rattle.cedar_ids.specs.Name.{NameParts}
use Rattle.cedar_terms.specs.ExprTree.{ExprTree}
use Rattle.cedar_terms.specs.ValueTree.{ValueTree}
use Rattle.cedar_c_trees.specs.Items.{Item, bool_item, long_item, text_item, uid_item, set_item, record_item, call_item}
use Rattle.cedar_c_trees.specs.Items.{var_item, slot_item, unknown_item, not_item, binary_item, is_item}
use Rattle.cedar_c_trees.specs.Items.{Tree, node, Trees, no_trees, tree_then, flat, IsBuiltFrom, AreBuiltFrom, Combines, BuildsExpr}
use Rattle.cedar_c_trees.specs.Items.{IsTypeOfOperand, pairs_listed}
use Rattle.cedar_c_trees.specs.Reads.{IsReadAs}
use Rattle.cedar_c_trees.specs.Refusals.{IsPlanned}
use Rattle.cedar_c_trees.specs.Shapes.{is_text, keyed, are_texts, IsPlan, ArePlans, IsAllowedInExpr, IsAllowedInValue}
use Rattle.cedar_c_trees.specs.laws.Stacks.{is_text_expr, is_text_value}
use Rattle.cedar_c_trees.specs.declared.node.Node.{Node}
use Rattle.cedar_c_trees.proofs.ExprMisfits.{joins_marked}
use Rattle.cedar_c_trees.proofs.Refusing.{all_fit}
use Rattle.cedar_c_trees.proofs.ValueMisfits.{combines_marked}

texts_made : {V : Type 0} (C : Item → List V → V → Type 0) (q : V → Bool)
    → ((i : Item) (vs : List V) (v : V) → C i vs v → q v ≡ is_text i) → (ts : Trees) (vs : List V) → AreBuiltFrom C ts vs
    → map q vs ≡ are_texts ts
texts_made C q m no_trees [] h = refl
texts_made C q m no_trees (v ∷ vs) h = absurd h
texts_made C q m (tree_then t ts) [] h = absurd h
texts_made C q m (tree_then (node i us) ts) (v ∷ vs) h =
    λ k. m i h.0.0 v h.0.2 k ∷ texts_made C q m ts vs h.1 k

mutual
  made_planned : {V : Type 0} (C : Item → List V → V → Type 0) (q : V → Bool) (S : Item → List Bool → Type 0)
      → ((i : Item) (vs : List V) (v : V) → C i vs v → q v ≡ is_text i)
      → ((i : Item) (vs : List V) (v : V) → C i vs v → S i (map q vs)) → (t : Tree) (v : V) → IsBuiltFrom C t v → IsPlan S t
  made_planned C q S m s (node i ts) v h =
      (subst (S i) (texts_made C q m ts h.0 h.1) (s i h.0 v h.2), all_planned C q S m s ts h.0 h.1)

  all_planned : {V : Type 0} (C : Item → List V → V → Type 0) (q : V → Bool) (S : Item → List Bool → Type 0)
      → ((i : Item) (vs : List V) (v : V) → C i vs v → q v ≡ is_text i)
      → ((i : Item) (vs : List V) (v : V) → C i vs v → S i (map q vs)) → (ts : Trees) (vs : List V) → AreBuiltFrom C ts vs
      → ArePlans S ts
  all_planned C q S m s no_trees [] h = tt
  all_planned C q S m s no_trees (v ∷ vs) h = tt
  all_planned C q S m s (tree_then t ts) [] h = absurd h
  all_planned C q S m s (tree_then t ts) (v ∷ vs) h =
      (made_planned C q S m s t v h.0, all_planned C q S m s ts vs h.1)

keyed_texts : (ps : List (List ℕ × ValueTree))
    → map is_text_value (pairs_listed ps) ≡ keyed (map (λ (p : List ℕ × ValueTree). is_text_value p.1) ps)
keyed_texts [] = refl
keyed_texts (p ∷ ps) = ap (λ (l : List Bool). true ∷ is_text_value p.1 ∷ l) (keyed_texts ps)

value_stands : (i : Item) (vs : List ValueTree) (v : ValueTree) → Combines i vs v → IsAllowedInValue i (map is_text_value vs)
value_stands (bool_item b) vs v h = ap (map is_text_value) h.0
value_stands (long_item n) vs v h = ap (map is_text_value) h.0
value_stands (text_item s) vs v h = ap (map is_text_value) h.0
value_stands (uid_item u) vs v h = ap (map is_text_value) h.0
value_stands (set_item n) vs v h = length-map vs is_text_value ∙ h.0
value_stands (record_item n) vs v h = (
  map (λ (p : List ℕ × ValueTree). is_text_value p.1) h.0,
  length-map h.0 (λ (p : List ℕ × ValueTree). is_text_value p.1) ∙ h.2,
  ap (map is_text_value) h.1 ∙ keyed_texts h.0,
)
value_stands (call_item f n) vs v h = (h.1, ap (map is_text_value) h.2)
value_stands i vs v h = absurd h

type_stands : (t : Option NameParts) (s : List ℕ) (n : ℕ) (es : List ExprTree) → IsTypeOfOperand t n es
    → IsAllowedInExpr (unknown_item s n) (map is_text_expr es)
type_stands None s n es h = inl (h.0, ap (map is_text_expr) h.1)
type_stands (Some t) s n es h = inr (h.1, ap (map is_text_expr) h.2)

expr_stands : (i : Item) (es : List ExprTree) (e : ExprTree) → BuildsExpr i es e → IsAllowedInExpr i (map is_text_expr es)
expr_stands (bool_item b) es e h = ap (map is_text_expr) h.0
expr_stands (long_item n) es e h = ap (map is_text_expr) h.0
expr_stands (text_item s) es e h = ap (map is_text_expr) h.0
expr_stands (uid_item u) es e h = ap (map is_text_expr) h.0
expr_stands (set_item n) es e h = length-map es is_text_expr ∙ h.0
expr_stands (record_item n) es e h = absurd h
expr_stands (call_item f n) es e h = length-map es is_text_expr ∙ h.0
expr_stands (var_item v) es e h = ap (map is_text_expr) h.0
expr_stands (slot_item s) es e h = ap (map is_text_expr) h.0
expr_stands (unknown_item s n) es e h = type_stands h.0 s n es h.1
expr_stands not_item es e h = length-map es is_text_expr ∙ ap length h.1
expr_stands (binary_item o) es e h = length-map es is_text_expr ∙ ap length h.2
expr_stands (is_item t) es e h = length-map es is_text_expr ∙ ap length h.1

read_planned : {V : Type 0} (C : Item → List V → V → Type 0) (q : V → Bool) (S : Item → List Bool → Type 0)
    → ((i : Item) (vs : List V) (v : V) → C i vs v → q v ≡ is_text i)
    → ((i : Item) (vs : List V) (v : V) → C i vs v → S i (map q vs)) → (text : List ℕ) (ns : List Node) (v : V)
    → IsReadAs C text ns v → IsPlanned S text ns
read_planned C q S m s text ns v r = record {
  tree = r.tree;
  plan = made_planned C q S m s r.tree v r.value;
  fits = all_fit text ns (flat r.tree) r.says;
  levels = r.levels;
}

pub value_planned : (text : List ℕ) (ns : List Node) (v : ValueTree) → IsReadAs Combines text ns v
    → IsPlanned IsAllowedInValue text ns
value_planned = read_planned Combines is_text_value IsAllowedInValue combines_marked value_stands

pub expr_planned : (text : List ℕ) (ns : List Node) (e : ExprTree) → IsReadAs BuildsExpr text ns e
    → IsPlanned IsAllowedInExpr text ns
expr_planned = read_planned BuildsExpr is_text_expr IsAllowedInExpr joins_marked expr_stands
