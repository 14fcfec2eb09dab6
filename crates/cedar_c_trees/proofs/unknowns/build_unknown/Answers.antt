use Rattle.std.proofs.Common.{arith, refl, sym, ap, ◌∙◌, [], ◌∷◌, string_bytes, None, Some}
use mathlib.Core.List.{append-nil}
use Rattle.cedar_terms.specs.ExprTree.{ExprTree, unknown_node}
use Rattle.cedar_terms.specs.TypeViews.{entity_name}
use Rattle.cedar_c_trees.specs.Items.{unknown_item}
use Rattle.cedar_c_trees.proofs.unknowns.build_unknown.Goals as goal

pub returns-in_ok-made-in-0 : goal.returns-in_ok-made-in-0
returns-in_ok-made-in-0 c = record {
  item = unknown_item (string_bytes c.in_ok-name-in-0.name) 0;
  below = [];
  says = (omega arith, omega arith, c.in_ok-name-in-0.ensures);
  stack = sym (append-nil c.args.stack.now.items);
  combines = (
    None,
    (refl, refl),
    c.in_ok-made-in-0.ensures ∙ ap unknown_node c.new_untyped-unknown.ensures,
  );
}

pub returns-in_ok-made-in-1 : goal.returns-in_ok-made-in-1
returns-in_ok-made-in-1 c =
    let t = c.in_ok-ty-in-1.ensures in
    record {
      item = unknown_item (string_bytes c.in_ok-name-in-1.name) 1;
      below = t.0 ∷ [];
      says = (omega arith, omega arith, c.in_ok-name-in-1.ensures);
      stack = t.1;
      combines = (
        Some (entity_name c.in_ok-ty-in-1.ty),
        (t.2.0, refl, ap (λ (e : ExprTree). e ∷ []) t.2.1, t.2.2),
        c.in_ok-made-in-1.ensures ∙ ap unknown_node c.new_with_type-unknown.ensures,
      );
    }
