-- The decoding of nodes over a text as partial values, and its errors.
use Rattle.std.specs.Prelude.{◌≡◌, ◌⊎◌, ℕ, List, [], ◌∷◌, ◌++◌}
use Rattle.cedar_terms.specs.declared.partial_value.PartialValue.{PartialValue}
use Rattle.cedar_terms.specs.declared.partial_value.PartialValue.TheVariants as partials
use Rattle.cedar_c_lists.specs.declared.reason.Reason.{Reason}
use Rattle.cedar_c_trees.specs.Items.{Combines, BuildsExpr}
use Rattle.cedar_c_trees.specs.Reads.{IsReadAs}
use Rattle.cedar_c_trees.specs.Refusals.{IsRefused}
use Rattle.cedar_c_trees.specs.Shapes.{IsAllowedInExpr, IsAllowedInValue}
use Rattle.cedar_c_trees.specs.declared.node.Node.{Node}

-- Holds if the nodes are the nodes `ms` followed by the mark of a residual.
pub record IsLeftOver (ns ms : List Node) : Type 0 where
  pub mark : Node
  pub marked : ns ≡ ms ++ mark ∷ []
  pub kind : mark.kind ≡ 15
  pub len : mark.len ≡ 1

-- Holds if the nodes are decoded as this partial value: a value, or a residual from the nodes before the mark.
abbrev pub IsPartialReadAs : List ℕ → List Node → PartialValue → Type 0
IsPartialReadAs text ns (partials.Value v) = IsReadAs Combines text ns v
IsPartialReadAs text ns (partials.Residual e) = (ms : List Node) × IsLeftOver ns ms × IsReadAs BuildsExpr text ms e

-- Holds if w is the reason why the nodes are not decoded. The nodes before the mark are not an expression, or there is
-- no mark and the nodes are not a value.
abbrev pub IsPartialRefused : List ℕ → List Node → Reason → Type 0
IsPartialRefused text ns w =
    ((ms : List Node) × IsLeftOver ns ms × IsRefused IsAllowedInExpr text ms w)
    ⊎ (((ms : List Node) → IsLeftOver ns ms → ⊥) × IsRefused IsAllowedInValue text ns w)
