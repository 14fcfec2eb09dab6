use Rattle.std.proofs.Common.{sym, subst}
use Rattle.std.proofs.lemmas.Result.{err_from_is_err_and}
use Rattle.cedar_c_bodies.specs.Bodies.{IsBodyOfInput, input_of_lists, no_memory, no_effect, no_id, no_annotations}
use Rattle.cedar_c_bodies.specs.Scopes.{IsConstraintAt}
use Rattle.cedar_c_bodies.specs.Bodies.{no_principal, no_action, no_resource, no_clause}
use Rattle.cedar_c_bodies.proofs.bodies.template_of.Goals as goal

pub returns-in_err-effect : goal.returns-in_err-effect
returns-in_err-effect c =
    let p = err_from_is_err_and c.from_residual.result c.from_residual.ensures.1 in
    rw (p.1, p.2) (no_effect c.in_err-effect.ensures)

pub returns-in_err-id : goal.returns-in_err-id
returns-in_err-id c =
    let p = err_from_is_err_and c.from_residual-in_err-id.result c.from_residual-in_err-id.ensures.1 in
    rw (p.1, p.2) (no_id c.in_err-id.ensures)

pub returns-in_err-annotations : goal.returns-in_err-annotations
returns-in_err-annotations c =
    let p = err_from_is_err_and c.from_residual-in_err-annotations.result c.from_residual-in_err-annotations.ensures.1 in
    rw (p.1, p.2) (no_annotations c.in_err-annotations.ensures)

pub returns-in_err-principal : goal.returns-in_err-principal
returns-in_err-principal c =
    let p = err_from_is_err_and c.from_residual-in_err-principal.result c.from_residual-in_err-principal.ensures.1 in
    rw (p.1, p.2) (no_principal c.in_err-principal.ensures)

pub returns-in_err-action : goal.returns-in_err-action
returns-in_err-action c =
    let p = err_from_is_err_and c.from_residual-in_err-action.result c.from_residual-in_err-action.ensures.1 in
    rw (p.1, p.2) (no_action c.in_err-action.ensures)

pub returns-in_err-resource : goal.returns-in_err-resource
returns-in_err-resource c =
    let p = err_from_is_err_and c.from_residual-in_err-resource.result c.from_residual-in_err-resource.ensures.1 in
    rw (p.1, p.2) (no_resource c.in_err-resource.ensures)

pub returns-in_err-clause : goal.returns-in_err-clause
returns-in_err-clause c =
    let p = err_from_is_err_and c.from_residual-in_err-clause.result c.from_residual-in_err-clause.ensures.1 in
    rw (p.1, p.2) (no_clause c.in_err-clause.ensures)

pub returns-in_err-template : goal.returns-in_err-template
returns-in_err-template c =
    let p = err_from_is_err_and c.from_residual-in_err-template.result c.from_residual-in_err-template.ensures.1 in
    rw p.1 (no_memory p.2)

pub returns : goal.returns
returns c =
    subst (IsBodyOfInput c.args.id.now (input_of_lists c.args.lists)) (sym c.in_ok-template.ensures)
    (record {
      utf8 = c.in_ok-id.ensures.0;
      named = c.in_ok-id.ensures.1;
      annotations = c.in_ok-annotations.ensures;
      effect = c.in_ok-effect.ensures;
      principal =
          subst (IsConstraintAt c.args.lists.text.now c.args.lists.body.principal) (sym c.new.ensures)
          c.in_ok-principal.ensures;
      action = c.in_ok-action.ensures;
      resource =
          subst (IsConstraintAt c.args.lists.text.now c.args.lists.body.resource) (sym c.new-2.ensures)
          c.in_ok-resource.ensures;
      clause = c.in_ok-clause.ensures;
    })
