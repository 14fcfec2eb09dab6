use Rattle.std.proofs.Common.{◌∙◌}
use Rattle.cedar_ids.specs.UidOf.{uid_order}
use Rattle.cedar_uid_sets.proofs.Abbreviations.{by_kinds, by_fronts, by_eids}
use Rattle.cedar_uid_sets.proofs.fronts.order_of.Goals as goal

-- The kinds decide.
pub returns-then-one-other : goal.returns-then-one-other
returns-then-one-other c =
    c.cmp-then-one-other.ensures
    ∙ by_kinds _ _ _ _ _ _ c.one.invariant c.other.invariant c.if-one-eq0.false c.if-other-eq0.false c.if-one-other.true
    ∙ λ i. uid_order (c.one.view_is i) (c.other.view_is i)

-- The fronts decide.
pub returns-then-one-other-2 : goal.returns-then-one-other-2
returns-then-one-other-2 c =
    c.cmp-then-one-other-2.ensures
    ∙ by_fronts _ _ _ _ _ _ c.one.invariant c.other.invariant c.if-one-eq0.false c.if-other-eq0.false
    c.if-one-other.false c.if-one-other-2.true
    ∙ λ i. uid_order (c.one.view_is i) (c.other.view_is i)

-- The eids decide.
pub returns : goal.returns
returns c =
    c.order_of_eids.ensures
    ∙ by_eids _ _ _ _ _ _ c.one.invariant c.other.invariant c.if-one-eq0.false c.if-other-eq0.false c.if-one-other.false
    ∙ λ i. uid_order (c.one.view_is i) (c.other.view_is i)
