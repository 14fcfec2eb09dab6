-- The slots of an expression, in terms of the slots of its parts.
use mathlib.Core.List.{append-nil}
use Rattle.std.specs.Prelude.{◌≡◌, List, [], ◌∷◌, ◌++◌, reverse, refl}
use Rattle.std.proofs.Common.{ap, sym, ◌∙◌}
use Rattle.std.specs.List.{filter_map, flat_map}
use Rattle.std.proofs.lemmas.List.{reverse-append}
use Rattle.std.proofs.lemmas.List.Concat.{flat_map-append}
use Rattle.std.proofs.lemmas.List.Elements.{filter_map-append}
use Rattle.cedar_ids.specs.Name.{NameParts}
use Rattle.cedar_terms.specs.ExprTree.{Operator, ExprTree, set_node, call_node, not_node, binary_node, and_node}
use Rattle.cedar_terms.specs.ExprTree.{eq_node, in_node, is_node, expr_trees}
use Rattle.cedar_terms.specs.Walk.{walk, walk_back, slot_of, slots_of}

-- The slots of a binary node: those in the second operand, followed by those in the first.
pub slots_of-binary : (o : Operator) (x y : ExprTree) → slots_of (binary_node o x y) ≡ slots_of y ++ slots_of x
slots_of-binary o x y = filter_map-append slot_of (walk y) (walk x)

pub slots_of-and : (x y : ExprTree) → slots_of (and_node x y) ≡ slots_of y ++ slots_of x
slots_of-and x y = filter_map-append slot_of (walk y) (walk x)

pub slots_of-eq : (x y : ExprTree) → slots_of (eq_node x y) ≡ slots_of y ++ slots_of x
slots_of-eq x y = filter_map-append slot_of (walk y) (walk x)

pub slots_of-in : (x y : ExprTree) → slots_of (in_node x y) ≡ slots_of y ++ slots_of x
slots_of-in x y = filter_map-append slot_of (walk y) (walk x)

pub slots_of-not : (e : ExprTree) → slots_of (not_node e) ≡ slots_of e
slots_of-not e = refl

pub slots_of-is : (e : ExprTree) (t : NameParts) → slots_of (is_node e t) ≡ slots_of e
slots_of-is e t = refl

slots_back : (es : List ExprTree) → filter_map slot_of (walk_back (expr_trees es)) ≡ flat_map slots_of (reverse es)
slots_back [] = refl
slots_back (e ∷ es) =
    filter_map-append slot_of (walk_back (expr_trees es)) (walk e)
    ∙ (λ i. slots_back es i ++ sym (append-nil (slots_of e)) i)
    ∙ sym (flat_map-append slots_of (reverse es) (e ∷ []))
    ∙ ap (flat_map slots_of) (sym (reverse-append (e ∷ []) es))

-- The slots of a set: those in its expressions, from the last expression to the first.
pub slots_of-set : (es : List ExprTree) → slots_of (set_node (expr_trees es)) ≡ flat_map slots_of (reverse es)
slots_of-set es = slots_back es

pub slots_of-call : (f : NameParts) (es : List ExprTree)
    → slots_of (call_node f (expr_trees es)) ≡ flat_map slots_of (reverse es)
slots_of-call f es = slots_back es
