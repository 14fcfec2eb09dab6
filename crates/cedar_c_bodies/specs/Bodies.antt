-- Bodies that a caller passes as numbers, parts of a text, and nodes over the text.
use Rattle.std.specs.Prelude.{◌≡◌, ℕ, List, [], Option, Some, None}
use Rattle.std.specs.Str.{IsUtf8}
use Rattle.cedar_terms.specs.ExprTree.{ExprTree}
use Rattle.cedar_body.specs.Bodies.{BodyParts}
use Rattle.cedar_body.specs.declared.effect.Effect.{Effect}
use Rattle.cedar_body.specs.declared.effect.Effect.TheVariants.{Permit, Forbid}
use Rattle.cedar_c_lists.specs.Texts.{IsNoId}
use Rattle.cedar_c_lists.specs.declared.layout.Span.{Span}
use Rattle.cedar_c_lists.specs.declared.reason.Reason.{Reason}
use Rattle.cedar_c_lists.specs.declared.reason.Reason.TheVariants as reasons
use Rattle.cedar_c_trees.specs.Items.{BuildsExpr}
use Rattle.cedar_c_trees.specs.Reads.{IsReadAs}
use Rattle.cedar_c_trees.specs.Refusals.{IsRefused}
use Rattle.cedar_c_trees.specs.Shapes.{IsAllowedInExpr}
use Rattle.cedar_c_trees.specs.declared.node.Node.{Node}
use Rattle.cedar_c_bodies.specs.Annotated.{AreAnnotationsAt, AreNoAnnotationsAt}
use Rattle.cedar_c_bodies.specs.Scopes.{IsConstraintAt, IsNoConstraintAt, IsNoRuleAt, IsRuleAt}
use Rattle.cedar_c_bodies.specs.declared.layout.AnnotationAt.{AnnotationAt}
use Rattle.cedar_c_bodies.specs.declared.layout.Body.{Body}
use Rattle.cedar_c_bodies.specs.declared.layout.BodyLists.{BodyLists}

-- The input of a caller: a text, numbers and spans, annotations, the uids of an action, and the nodes of a clause.
pub record BodyInput : Type 0 where
  pub text : List ℕ
  pub body : Body
  pub annotations : List AnnotationAt
  pub uids : List Span
  pub nodes : List Node

-- The input in the lists of a caller.
abbrev pub input_of_lists : BodyLists → BodyInput
input_of_lists l = record {
  text = l.text.now;
  body = l.body;
  annotations = l.annotations.now;
  uids = l.uids.now;
  nodes = l.nodes.now;
}

-- The number of each effect.
abbrev pub IsEffect : ℕ → Effect → Type 0
IsEffect n Permit = n ≡ 0
IsEffect n Forbid = n ≡ 1

-- Holds if the number is not the number of an effect; the reason is `BadArgument`.
abbrev pub IsNoEffect : ℕ → Reason → Type 0
IsNoEffect n w = (w ≡ reasons.BadArgument) × ((e : Effect) → IsEffect n e → ⊥)

-- The clause of the nodes: none if there are no nodes, and otherwise the decoded expression.
abbrev pub IsClauseAt : List ℕ → List Node → Option ExprTree → Type 0
IsClauseAt text nodes None = nodes ≡ []
IsClauseAt text nodes (Some e) = IsReadAs BuildsExpr text nodes e

-- Holds if w is the reason why the nodes are not decoded.
abbrev pub IsNoClauseAt : List ℕ → List Node → Reason → Type 0
IsNoClauseAt text nodes w = (nodes ≡ [] → ⊥) × IsRefused IsAllowedInExpr text nodes w

-- Holds if b is the body in the input of a caller, with these bytes as its id.
pub record IsBodyOfInput (id : List ℕ) (G : BodyInput) (b : BodyParts) : Type 0 where
  pub utf8 : IsUtf8 id
  pub named : b.id ≡ id
  pub annotations : AreAnnotationsAt G.text G.annotations b.annotations
  pub effect : IsEffect G.body.effect b.effect
  pub principal : IsConstraintAt G.text G.body.principal b.principal
  pub action : IsRuleAt G.text G.uids G.body.action b.action
  pub resource : IsConstraintAt G.text G.body.resource b.resource
  pub clause : IsClauseAt G.text G.nodes b.clause

-- The reasons why the input of a caller is not a body.
pub data IsInvalidInput (id : List ℕ) (G : BodyInput) (w : Reason) : Type 0 where
  no_memory : w ≡ reasons.NoMemory → IsInvalidInput id G w
  no_effect : IsNoEffect G.body.effect w → IsInvalidInput id G w
  no_id : IsNoId id w → IsInvalidInput id G w
  no_annotations : AreNoAnnotationsAt G.text G.annotations w → IsInvalidInput id G w
  no_principal : IsNoConstraintAt G.text G.body.principal w → IsInvalidInput id G w
  no_action : IsNoRuleAt G.text G.uids G.body.action w → IsInvalidInput id G w
  no_resource : IsNoConstraintAt G.text G.body.resource w → IsInvalidInput id G w
  no_clause : IsNoClauseAt G.text G.nodes w → IsInvalidInput id G w
