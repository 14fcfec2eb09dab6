use Rattle.std.specs.Option.{option_copied}
use Rattle.std.proofs.Common.{inl, subst}
use Rattle.std.specs.Prelude.{Some, None}
use Rattle.cedar_entity.specs.laws.Least.{LeastOf}
use Rattle.cedar_entity.specs.Validity.{is_non_action_parent, is_non_action_ancestor}
use Rattle.cedar_entity.specs.View.{EntityView}
use Rattle.cedar_entity.proofs.LeastUids.{non_action_ancestor}
use Rattle.cedar_entity.proofs.entity.Entity.least_non_action_ancestor.Goals as goal

pub returns-in-Some : goal.returns-in-Some
returns-in-Some c =
    inl (subst (λ (e : EntityView). LeastOf (is_non_action_parent e) (Some c.in-Some.parent.now)) c.self.view_is
    c.in-Some.ensures)

pub returns-in-None : goal.returns-in-None
returns-in-None c =
    let parents = subst (λ (e : EntityView). LeastOf (is_non_action_parent e) None) c.self.view_is c.in-None.ensures in
    let others =
    subst (λ (e : EntityView). LeastOf (is_non_action_ancestor e) (option_copied c.least_non_action-in-None.result))
    c.self.view_is c.least_non_action-in-None.ensures in
    non_action_ancestor c.args.self.now (option_copied c.least_non_action-in-None.result) parents others
