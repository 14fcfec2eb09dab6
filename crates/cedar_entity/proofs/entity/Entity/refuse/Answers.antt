use Rattle.std.proofs.Common.{rules, ◌≡◌, ◌∙◌, ap, subst, sym}
use Rattle.cedar_entity.specs.Validity.{IsLeastNonAction}
use Rattle.cedar_entity.specs.View.{EntityView}
use Rattle.cedar_entity.specs.laws.Faults.{IsFound}
use Rattle.cedar_entity.proofs.entity.Entity.refuse.Goals as goal

pub returns-in_ok-uid-in-ActionParentIsNotAction-clause-err :
    goal.returns-in_ok-uid-in-ActionParentIsNotAction-clause-err
returns-in_ok-uid-in-ActionParentIsNotAction-clause-err c found =
    let f = subst (IsFound c.args.self.now) c.in-ActionParentIsNotAction.is found in
    let uid : c.in_ok-uid-in-ActionParentIsNotAction.uid ≡ c.self.inside.uid = search rules in
    let parent : c.in_ok-parent-in-ActionParentIsNotAction.parent ≡ c.in-ActionParentIsNotAction.parent.now =
    search rules in (
      uid ∙ ap (λ (e : EntityView). e.uid) c.self.view_is,
      f.0,
      f.1,
      subst (IsLeastNonAction c.args.self.now) (sym parent) f.2,
    )
