-- The results of reading a clause or a condition.
use Rattle.std.specs.Prelude.{◌≡◌, ℕ, List, [], ◌∷◌, Bool, true, false, Option, Some, None, Result, Ok, Err}
use Rattle.std.specs.Str.{IsUtf8}
use Rattle.cedar_terms.specs.ExprTree.{ExprTree}
use Rattle.cedar_body.specs.Bodies.{BodyParts, condition}
use Rattle.cedar_c_lists.specs.declared.reason.Reason.{Reason}
use Rattle.cedar_c_trees.specs.Writes.{IsExprWritten}
use Rattle.cedar_c_trees.specs.declared.node.Node.{Node}
use Rattle.cedar_c_sets.specs.Reads.{IsUntoldAt, bound_body}
use Rattle.cedar_c_sets.specs.declared.set_state.SetState.{SetState}

-- Holds if the expression is encoded as nodes, and `answer` has their text.
pub record IsEncodedExpr (e : ExprTree) (answer : List (List ℕ)) (nodes : List Node) : Type 0 where
  pub bytes : List ℕ
  pub one : answer ≡ bytes ∷ []
  pub written : IsExprWritten e (record { bytes = bytes; nodes = nodes })

-- Holds if an expression of the body with an id was encoded and stored. The set and the last error do not change.
pub record Shows {B H : Type 0} (of : BodyParts → Option ExprTree) (id : List ℕ) (i j : SetState B H) : Type 0 where
  pub set : j.set ≡ i.set
  pub refusal : j.refusal.items ≡ i.refusal.items
  pub utf8 : IsUtf8 id
  pub body : BodyParts
  pub bound : bound_body i.set id ≡ Some body
  pub expr : ExprTree
  pub found : of body ≡ Some expr
  pub shown : IsEncodedExpr expr j.answer j.nodes.items

-- Holds for the effect of reading a clause. If there is one, it is encoded and stored. If there is none, or after an
-- error, nothing changes.
abbrev pub AnswersClause : {B H : Type 0} → List ℕ → Result Bool Reason → SetState B H → SetState B H → Type 0
AnswersClause id (Ok true) i j = Shows (λ t. t.clause) id i j
AnswersClause id (Ok false) i j =
    (j ≡ i) × IsUtf8 id × ((t : BodyParts) × (bound_body i.set id ≡ Some t) × (t.clause ≡ None))
AnswersClause id (Err w) i j = (j ≡ i) × IsUntoldAt (bound_body i.set id) id w

-- Holds for the effect of reading a condition. It is encoded and stored. After an error nothing changes.
abbrev pub AnswersCondition : {A B H : Type 0} → List ℕ → Result A Reason → SetState B H → SetState B H → Type 0
AnswersCondition id (Ok a) i j = Shows (λ t. Some (condition t)) id i j
AnswersCondition id (Err w) i j = (j ≡ i) × IsUntoldAt (bound_body i.set id) id w
