use Rattle.std.proofs.Common.{arith, refl, ◌∙◌, [], ◌∷◌, string_bytes, map}
use Rattle.std.proofs.lemmas.Result.{err_from_is_err_and}
use Rattle.cedar_terms.specs.LiteralTree.{string_literal}
use Rattle.cedar_terms.specs.ValueTree.{literal_value}
use Rattle.cedar_terms.specs.ValueViews.{named_pairs}
use Rattle.cedar_c_trees.specs.Items.{set_item, record_item, call_item, pairs_listed}
use Rattle.cedar_c_trees.specs.Shapes.{IsAllowedInValue}
use Rattle.cedar_c_trees.specs.laws.Stacks.{is_text_value}
use Rattle.cedar_c_trees.proofs.Misfits.{literal_unmade}
use Rattle.cedar_c_trees.proofs.Stacks.{length_named, makes}
use Rattle.cedar_c_trees.proofs.ValueMisfits.{record_unmade}
use Rattle.cedar_c_trees.proofs.reading.made.Goals as goal

pub returns-in_err-literal-in-0-to-3 : goal.returns-in_err-literal-in-0-to-3
returns-in_err-literal-in-0-to-3 c =
    let p = err_from_is_err_and c.from_residual-in_err-literal-in-0-to-3.result c.from_residual-in_err-literal-in-0-to-3.ensures.1 in
    rw (p.1, p.2)
    (literal_unmade IsAllowedInValue c.args.text.now c.args.node.now (map is_text_value c.args.stack.now.items) _
    (omega arith) c.in_err-literal-in-0-to-3.ensures)

pub returns-in_ok-set-in-4 : goal.returns-in_ok-set-in-4
returns-in_ok-set-in-4 c =
    makes _ _ _ _ _ _ (set_item c.args.node.now.len) c.in_ok-values-in-4.values.items (omega arith, refl)
    c.in_ok-values-in-4.ensures.0 (c.in_ok-values-in-4.ensures.1, c.in_ok-set-in-4.ensures)

pub returns-in_ok-fields-in-5 : goal.returns-in_ok-fields-in-5
returns-in_ok-fields-in-5 c = record {
  item = record_item c.args.node.now.len;
  below = pairs_listed (named_pairs c.in_ok-pairs-in-5.pairs.items);
  says = (omega arith, refl);
  stack = c.in_ok-pairs-in-5.ensures.0;
  combines = (
    named_pairs c.in_ok-pairs-in-5.pairs.items,
    refl,
    length_named c.in_ok-pairs-in-5.pairs.items ∙ c.in_ok-pairs-in-5.ensures.1,
    c.in_ok-fields-in-5.ensures,
  );
}

pub returns-in_ok-call-in-6 : goal.returns-in_ok-call-in-6
returns-in_ok-call-in-6 c = record {
  item = call_item c.in_ok-func-in-6.func c.args.node.now.len;
  below = literal_value (string_literal (string_bytes c.in_ok-arg-in-6.arg)) ∷ [];
  says = (omega arith, refl, c.in_ok-func-in-6.ensures);
  stack = c.in_ok-arg-in-6.ensures;
  combines = (string_bytes c.in_ok-arg-in-6.arg, omega arith, refl, c.in_ok-call-in-6.ensures);
}

pub returns-in_err-pairs-in-5 : goal.returns-in_err-pairs-in-5
returns-in_err-pairs-in-5 c =
    let p = err_from_is_err_and c.from_residual-in_err-pairs-in-5.result c.from_residual-in_err-pairs-in-5.ensures.1 in
    rw (p.1, p.2)
    (record_unmade c.args.text.now c.args.node.now (map is_text_value c.args.stack.now.items) _ (omega arith)
    c.in_err-pairs-in-5.ensures)
