use Rattle.std.proofs.Common.{◌∙◌}
use Rattle.cedar_ids.specs.UidOf.{same_uid}
use Rattle.cedar_uid_sets.proofs.Abbreviations.{apart_by_numbers, same_by_eids}
use Rattle.cedar_uid_sets.proofs.fronts.are_same.Goals as goal
use Rattle.cedar_uid_sets.proofs.fronts.are_same.Goals.{then-one-other-via-then-one-other}
use Rattle.cedar_uid_sets.proofs.fronts.are_same.Goals.{then-one-other-via-else-one-other+then-one-other-2}

pub returns-then-one-other : goal.returns-then-one-other
returns-then-one-other c =
    elim c.then-one-other.branch [
      | then-one-other-via-then-one-other w ↦
          apart_by_numbers _ _ _ _ _ _ c.one.invariant c.other.invariant (λ e _. w.if-one-other.true e)
      | then-one-other-via-else-one-other+then-one-other-2 w ↦
          apart_by_numbers _ _ _ _ _ _ c.one.invariant c.other.invariant (λ _ e. w.if-one-other-2.true e)
    ]
    ∙ λ i. same_uid (c.one.view_is i) (c.other.view_is i)

-- The names are equal, so the eids decide.
pub returns : goal.returns
returns c =
    c.have_one_eid.ensures
    ∙ same_by_eids _ _ _ _ _ _ c.one.invariant c.other.invariant c.if-one-eq0.false c.if-other-eq0.false
    c.if-one-other-2.false
    ∙ λ i. same_uid (c.one.view_is i) (c.other.view_is i)
