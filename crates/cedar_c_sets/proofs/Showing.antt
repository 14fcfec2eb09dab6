-- The encoded expressions of the policy or template with an id.
use Rattle.std.specs.Prelude.{◌≡◌, ℕ, List, Option, Some}
use Rattle.std.proofs.Common.{subst, sym, ◌∙◌}
use Rattle.std.specs.Str.{IsUtf8}
use Rattle.cedar_terms.specs.ExprTree.{ExprTree}
use Rattle.cedar_body.specs.Bodies.{BodyParts}
use Rattle.cedar_c_trees.specs.Writes.{IsExprWritten}
use Rattle.cedar_c_trees.specs.declared.node.Node.{Node}
use Rattle.cedar_c_sets.specs.Clauses.{IsEncodedExpr, Shows}
use Rattle.cedar_c_sets.specs.Reads.{bound_body}
use Rattle.cedar_c_sets.specs.declared.set_state.SetState.{SetState}
use Rattle.cedar_c_sets.proofs.Reading.{found}

-- The stored expression of the policy or template with a valid id.
pub shows : {B H : Type 0} (of : BodyParts → Option ExprTree) (i id : List ℕ) (old new : SetState B H) (t : BodyParts)
    (e : ExprTree) (answer : List (List ℕ)) (nodes : List Node) → i ≡ id → IsUtf8 id → Some t ≡ bound_body old.set i
    → of t ≡ Some e → IsEncodedExpr e answer nodes → new.set ≡ old.set → new.refusal.items ≡ old.refusal.items
    → new.answer ≡ answer → new.nodes.items ≡ nodes → Shows of id old new
shows of i id old new t e answer nodes is utf8 bound has shown set refusal kept all = record {
  set = set;
  refusal = refusal;
  utf8 = utf8;
  body = t;
  bound = found bound_body old.set i id t is bound;
  expr = e;
  found = has;
  shown = record {
    bytes = shown.bytes;
    one = kept ∙ shown.one;
    written =
        subst (λ (ns : List Node). IsExprWritten e (record { bytes = shown.bytes; nodes = ns })) (sym all) shown.written;
  };
}
