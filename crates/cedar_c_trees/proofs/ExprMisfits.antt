-- The reasons why nodes do not build an expression on top of a stack.
use Rattle.std.proofs.Common.{◌≡◌, ◌∙◌, ap, sym, refl, subst, ℕ, ◌+◌, ◌<◌, length, List, [], ◌∷◌, ◌++◌, arith}
use Rattle.std.proofs.Common.{take, Bool, append_assoc, inl, inr, Some, slice_get}
use mathlib.Core.List.{append-nil}
use Rattle.std.proofs.Math.ListN.{get_or}
use Rattle.std.proofs.lemmas.List.{length_push, length-take, get_or-take, get_or_at}
use Rattle.std.proofs.lemmas.Option.{slice_get-get_or}
use Rattle.cedar_ids.specs.Reads.{IsTextOfNone}
use Rattle.cedar_ids.specs.TextOf.{IsNameText}
use Rattle.cedar_terms.specs.ExprTree.{ExprTree, val_node}
use Rattle.cedar_terms.specs.LiteralTree.{string_literal}
use Rattle.cedar_c_lists.specs.declared.reason.Reason.{Reason}
use Rattle.cedar_c_lists.specs.declared.reason.Reason.TheVariants.{NotAName}
use Rattle.cedar_c_trees.specs.Items.{Item, bool_item, long_item, text_item, uid_item, set_item, record_item, call_item}
use Rattle.cedar_c_trees.specs.Items.{var_item, slot_item, unknown_item, not_item, binary_item, is_item, BuildsExpr}
use Rattle.cedar_c_trees.specs.Items.{Tree, node, Trees, no_trees, tree_then, flat, flats, IsBuiltFrom, AreBuiltFrom}
use Rattle.cedar_c_trees.specs.laws.Levels.{arity}
use Rattle.cedar_c_trees.specs.Reads.{Decodes, AllDecode}
use Rattle.cedar_c_trees.specs.Refusals.{IsRefused}
use Rattle.cedar_c_trees.specs.Shapes.{is_text, IsAllowedInExpr}
use Rattle.cedar_c_trees.specs.laws.Stacks.{is_text_expr, IsUnjoined, IsNoType}
use Rattle.cedar_c_trees.specs.declared.node.Node.{Node}
use Rattle.cedar_c_trees.proofs.ExprBack.{joins_arity}
use Rattle.cedar_c_trees.proofs.Leads.{SharedAndNew, parted, Alone, lone}
use Rattle.cedar_c_trees.proofs.Refusing.{IsLanguage, Reading, unmade}
use Rattle.cedar_c_trees.proofs.Stacks.{Stacked}

pub expr_arity : (i : Item) (under : List Bool) → IsAllowedInExpr i under → length under ≡ arity i
expr_arity (bool_item b) under h = ap length h
expr_arity (long_item z) under h = ap length h
expr_arity (text_item s) under h = ap length h
expr_arity (uid_item u) under h = ap length h
expr_arity (set_item k) under h = h
expr_arity (record_item k) under h = absurd h
expr_arity (call_item f k) under h = h
expr_arity (var_item v) under h = ap length h
expr_arity (slot_item s) under h = ap length h
expr_arity (unknown_item s k) under (inl h) = ap length h.1 ∙ sym h.0
expr_arity (unknown_item s k) under (inr h) = ap length h.1 ∙ sym h.0
expr_arity not_item under h = h
expr_arity (binary_item o) under h = h
expr_arity (is_item t) under h = h

pub joins_marked : (i : Item) (es : List ExprTree) (e : ExprTree) → BuildsExpr i es e → is_text_expr e ≡ is_text i
joins_marked (bool_item b) es e h = ap is_text_expr h.1
joins_marked (long_item n) es e h = ap is_text_expr h.1
joins_marked (text_item s) es e h = ap is_text_expr h.1
joins_marked (uid_item u) es e h = ap is_text_expr h.1
joins_marked (set_item n) es e h = ap is_text_expr h.1
joins_marked (record_item n) es e h = absurd h
joins_marked (call_item f n) es e h = ap is_text_expr h.1
joins_marked (var_item v) es e h = ap is_text_expr h.1
joins_marked (slot_item s) es e h = ap is_text_expr h.1
joins_marked (unknown_item s n) es e h = ap is_text_expr h.2
joins_marked not_item es e h = ap is_text_expr h.2
joins_marked (binary_item o) es e h = ap is_text_expr h.3
joins_marked (is_item t) es e h = ap is_text_expr h.2

-- Expressions satisfy the conditions of `IsLanguage`.
pub exprs : IsLanguage BuildsExpr is_text_expr IsAllowedInExpr
exprs = record { made_arity = joins_arity; plan_arity = expr_arity; marked = joins_marked }

-- Only a node of a text builds a text.
makes_text : (i : Item) (es : List ExprTree) (s : List ℕ) → BuildsExpr i es (val_node (string_literal s))
    → (i ≡ text_item s) × (es ≡ [])
makes_text (bool_item b) es s h = absurd (cc h.1)
makes_text (long_item n) es s h = absurd (cc h.1)
makes_text (text_item t) es s h = (cc h.1, h.0)
makes_text (uid_item u) es s h = absurd (cc h.1)
makes_text (set_item n) es s h = absurd (cc h.1)
makes_text (record_item n) es s h = absurd h
makes_text (call_item f n) es s h = absurd (cc h.1)
makes_text (var_item v) es s h = absurd (cc h.1)
makes_text (slot_item t) es s h = absurd (cc h.1)
makes_text (unknown_item t n) es s h = absurd (cc h.2)
makes_text not_item es s h = absurd (cc h.2)
makes_text (binary_item o) es s h = absurd (cc h.3)
makes_text (is_item t) es s h = absurd (cc h.2)

no_more : (us : Trees) (es : List ExprTree) → AreBuiltFrom BuildsExpr us es → es ≡ [] → us ≡ no_trees
no_more no_trees es h e = refl
no_more (tree_then t us) [] h e = absurd h
no_more (tree_then t us) (x ∷ es) h e = cc

-- The last of some nodes is a text.
record LastText (text : List ℕ) (ns : List Node) (s : List ℕ) : Type 0 where
  before : List Node
  last : Node
  whole : ns ≡ before ++ last ∷ []
  says : Decodes text last (text_item s)

one_text : (text : List ℕ) (ns : List Node) (t : Tree) (s : List ℕ) → AllDecode text ns (flat t)
    → IsBuiltFrom BuildsExpr t (val_node (string_literal s)) → LastText text ns s
one_text text ns (node i us) s a h =
    let m : (i ≡ text_item s) × (h.0 ≡ []) = makes_text i h.0 s h.2 in
    let p : SharedAndNew (Decodes text) ns (flats us) (i ∷ []) = parted (Decodes text) ns (flats us) (i ∷ []) a in
    let o : Alone (Decodes text) p.after i = lone (Decodes text) p.after i p.after_fit in
    record {
      before = p.before;
      last = o.one;
      whole = p.whole ∙ ap (λ (l : List Node). p.before ++ l) o.is;
      says = subst (Decodes text o.one) m.0 o.fits;
    }

last_text : (text : List ℕ) (ns : List Node) (ts : Trees) (less : List ExprTree) (s : List ℕ)
    → AllDecode text ns (flats ts) → AreBuiltFrom BuildsExpr ts (less ++ val_node (string_literal s) ∷ []) → LastText text ns s
last_text text ns no_trees [] s a h = absurd h
last_text text ns no_trees (x ∷ less) s a h = absurd h
last_text text ns (tree_then t no_trees) [] s a h = one_text text ns t s (subst (AllDecode text ns) (append-nil (flat t)) a) h.0
last_text text ns (tree_then t (tree_then u ts)) [] s a h = absurd h.1
last_text text ns (tree_then t ts) (x ∷ less) s a h =
    let p : SharedAndNew (Decodes text) ns (flat t) (flats ts) = parted (Decodes text) ns (flat t) (flats ts) a in
    let r : LastText text p.after s = last_text text p.after ts less s p.after_fit h.1 in
    record {
      before = p.before ++ r.before;
      last = r.last;
      whole =
          p.whole ∙ ap (λ (l : List Node). p.before ++ l) r.whole ∙ sym (append_assoc p.before r.before (r.last ∷ []));
      says = r.says;
    }

-- The name of the type of an unknown is invalid.
no_type : (text : List ℕ) (ns : List Node) (k : ℕ) (d : Node) (es : List ExprTree) → k < length ns
    → Stacked BuildsExpr text (take k ns) es → IsNoType (get_or ns k d) es → IsRefused IsAllowedInExpr text ns NotAName
no_type text ns k d es lt r h =
    let l : LastText text (take k ns) h.text =
    last_text text (take k ns) r.trees h.less h.text r.says (subst (AreBuiltFrom BuildsExpr r.trees) h.stack r.values) in
    let j : length l.before + 1 ≡ k =
    omega (arith, ap length l.whole, length_push l.before l.last, length-take k ns) in
    let is : get_or ns (length l.before) d ≡ l.last =
    sym (get_or-take k ns (length l.before) d (omega arith))
    ∙ ap (λ (ms : List Node). get_or ms (length l.before) d) l.whole
    ∙ get_or_at l.before l.last [] d (length l.before) refl in (
      length l.before,
      l.last,
      slice_get-get_or ns (length l.before) d (omega arith) ∙ ap Some is,
      (
        inr (inr (
          l.says.0,
          (
            get_or ns k d,
            ap (slice_get ns) j ∙ slice_get-get_or ns k d lt,
            h.kind,
            h.len,
          ),
        )),
        (l.says.1.0, subst (λ (t : List ℕ). IsTextOfNone IsNameText t) l.says.1.2 h.none),
      ),
    )

-- If a node builds no expression, the nodes are not decoded.
pub unjoined : (text : List ℕ) (ns : List Node) (k : ℕ) (d : Node) (es : List ExprTree) (w : Reason) → k < length ns
    → Reading BuildsExpr is_text_expr IsAllowedInExpr text ns k es → IsUnjoined IsAllowedInExpr text (get_or ns k d) es w
    → IsRefused IsAllowedInExpr text ns w
unjoined text ns k d es w lt r (inl h) = unmade BuildsExpr is_text_expr IsAllowedInExpr text ns k d es w lt r h
unjoined text ns k d es w lt r (inr h) =
    subst (IsRefused IsAllowedInExpr text ns) (sym h.0) (no_type text ns k d es lt r.stacked h.1)
