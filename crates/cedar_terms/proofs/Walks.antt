-- The traversal of an expression with a stack of pending expressions.
use Rattle.std.proofs.lemmas.List.{map-append}
use Rattle.std.specs.Borrow.{Bor}
use Rattle.std.proofs.Common.{◌≡◌, ℕ, ◌+◌, ◌<◌, length, List, [], ◌∷◌, ◌++◌, map, refl, sym, ap, ◌∙◌, append_assoc}
use Rattle.std.proofs.Common.{arith}
use mathlib.Core.List.{append-nil}
use Rattle.cedar_terms.specs.ExprTree.{ExprTree, val_node, var_node, slot_node, unknown_node, set_node, call_node}
use Rattle.cedar_terms.specs.ExprTree.{not_node, binary_node, is_node, ExprTrees, no_exprs, expr_then, expr_trees}
use Rattle.cedar_terms.specs.ExprTree.{expr_size, exprs_size}
use Rattle.cedar_terms.specs.Walk.{walk, walk_back}
use Rattle.cedar_terms.specs.laws.Children.{children, expr_list}

-- The nodes of the expressions on a stack, from the top of the stack.
unfoldable pub walks : List ExprTree → List ExprTree
walks [] = []
walks (e ∷ es) = walks es ++ walk e

-- The number of nodes on a stack.
unfoldable pub nodes : List ExprTree → ℕ
nodes [] = 0
nodes (e ∷ es) = expr_size e + nodes es

pub walks-push : (es : List ExprTree) (e : ExprTree) → walks (es ++ e ∷ []) ≡ walk e ++ walks es
unfolding walks
walks-push [] e = sym (append-nil (walk e))
walks-push (d ∷ es) e = ap (λ z. z ++ walk d) (walks-push es e) ∙ append_assoc (walk e) (walks es) (walk d)

pub walks-append : (es fs : List ExprTree) → walks (es ++ fs) ≡ walks fs ++ walks es
unfolding walks
walks-append [] fs = sym (append-nil (walks fs))
walks-append (e ∷ es) fs = ap (λ z. z ++ walk e) (walks-append es fs) ∙ append_assoc (walks fs) (walks es) (walk e)

walks-list : (es : ExprTrees) → walks (expr_list es) ≡ walk_back es
unfolding walks
walks-list no_exprs = refl
walks-list (expr_then e es) = ap (λ z. z ++ walk e) (walks-list es)

-- The traversal of an expression is its root node, followed by the traversals of its children, from the last.
pub walk-children : (e : ExprTree) → walk e ≡ e ∷ walks (children e)
unfolding walks
walk-children (val_node l) = refl
walk-children (var_node v) = refl
walk-children (slot_node s) = refl
walk-children (unknown_node u) = refl
walk-children (set_node es) = ap (λ z. set_node es ∷ z) (sym (walks-list es))
walk-children (call_node f es) = ap (λ z. call_node f es ∷ z) (sym (walks-list es))
walk-children (not_node e) = refl
walk-children (binary_node o x y) = refl
walk-children (is_node e t) = refl

pub nodes-append : (es fs : List ExprTree) → nodes (es ++ fs) ≡ nodes es + nodes fs
unfolding nodes
nodes-append [] fs = omega arith
nodes-append (e ∷ es) fs = omega (arith, nodes-append es fs)

nodes-list : (es : ExprTrees) → nodes (expr_list es) ≡ exprs_size es
unfolding nodes
nodes-list no_exprs = refl
nodes-list (expr_then e es) = ap (λ n. expr_size e + n) (nodes-list es)

-- The size of an expression is one more than the number of nodes of its children.
pub nodes-children : (e : ExprTree) → nodes (children e) + 1 ≡ expr_size e
unfolding nodes
nodes-children (val_node l) = refl
nodes-children (var_node v) = refl
nodes-children (slot_node s) = refl
nodes-children (unknown_node u) = refl
nodes-children (set_node es) = omega (arith, nodes-list es)
nodes-children (call_node f es) = omega (arith, nodes-list es)
nodes-children (not_node e) = omega arith
nodes-children (binary_node o x y) = omega arith
nodes-children (is_node e t) = omega arith

pub nodes-one : (e : ExprTree) → nodes (e ∷ []) ≡ expr_size e
unfolding nodes
nodes-one e = omega arith

pub exprs_listed : (es : List ExprTree) → expr_list (expr_trees es) ≡ es
exprs_listed [] = refl
exprs_listed (e ∷ es) = ap (λ z. e ∷ z) (exprs_listed es)

-- The contents of a list of references.
abbrev pub contents : List (Bor ExprTree) → List ExprTree
contents rs = map (λ r. r.now) rs

-- The state before the first step of the traversal.
pub walk_begins : (e : Bor ExprTree) (pending met : List (Bor ExprTree)) → pending ≡ e ∷ [] → met ≡ []
    → contents met ++ walks (contents pending) ≡ walk e.now
unfolding walks
walk_begins e pending met p q = rw (p, q) refl

-- The step of the traversal: a node is visited and its children are pushed onto the stack.
pub walk_goes_on : (e : Bor ExprTree) (met met' pending pending' : List (Bor ExprTree)) (more whole : List ExprTree)
    → pending ≡ pending' ++ e ∷ [] → met' ≡ met ++ e ∷ [] → more ≡ contents pending' ++ children e.now
    → contents met ++ walks (contents pending) ≡ whole → contents met' ++ walks more ≡ whole
walk_goes_on e met met' pending pending' more whole p q r h =
    ap (λ z. contents z ++ walks more) q
    ∙ ap (λ z. z ++ walks more) (map-append (λ (x : Bor ExprTree). x.now) met (e ∷ []))
    ∙ append_assoc (contents met) (e.now ∷ []) (walks more)
    ∙ ap (λ z. contents met ++ e.now ∷ walks z) r
    ∙ ap (λ z. contents met ++ e.now ∷ z) (walks-append (contents pending') (children e.now))
    ∙ ap (λ z. contents met ++ (z ++ walks (contents pending'))) (sym (walk-children e.now))
    ∙ ap (λ z. contents met ++ z) (sym (walks-push (contents pending') e.now))
    ∙ ap (λ z. contents met ++ walks z) (sym (map-append (λ (x : Bor ExprTree). x.now) pending' (e ∷ [])))
    ∙ ap (λ z. contents met ++ walks (contents z)) (sym p)
    ∙ h

-- The step reduces the number of pending nodes.
pub fewer_nodes : (e : Bor ExprTree) (pending pending' : List (Bor ExprTree)) (more : List ExprTree)
    → pending ≡ pending' ++ e ∷ [] → more ≡ contents pending' ++ children e.now → nodes more < nodes (contents pending)
fewer_nodes e pending pending' more p r =
    let a : nodes more ≡ nodes (contents pending') + nodes (children e.now) = ap nodes r
    ∙ nodes-append (contents pending') (children e.now) in
    let b : nodes (contents pending) ≡ nodes (contents pending') + nodes (e.now ∷ []) = ap (λ z. nodes (contents z)) p
    ∙ ap nodes (map-append (λ (x : Bor ExprTree). x.now) pending' (e ∷ []))
    ∙ nodes-append (contents pending') (e.now ∷ []) in
    omega (arith, a, b, nodes-one e.now, nodes-children e.now)

-- The traversal is complete when the stack is empty.
pub walk_ends : (met pending : List (Bor ExprTree)) (whole : List ExprTree) → pending ≡ []
    → contents met ++ walks (contents pending) ≡ whole → contents met ≡ whole
unfolding walks
walk_ends met pending whole p h = sym (append-nil (contents met)) ∙ ap (λ z. contents met ++ walks (contents z)) (sym p)
    ∙ h

pub none_left : (pending : List (Bor ExprTree)) → length pending ≡ 0 → pending ≡ []
none_left [] l = refl
none_left (e ∷ es) l = absurd (cc)
