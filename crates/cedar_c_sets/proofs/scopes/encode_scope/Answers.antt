use Rattle.std.proofs.Common.{arith}
use Rattle.cedar_c_sets.proofs.Found.{by_action, by_principal, by_resource}
use Rattle.cedar_c_sets.proofs.scopes.encode_scope.Goals as goal

pub returns-in-0 : goal.returns-in-0
returns-in-0 g c = by_principal c.args.which c.args.set.now c.args.id.now c.encode_principal.result (omega arith)
    c.encode_principal.ensures

pub returns-in-1 : goal.returns-in-1
returns-in-1 g c = by_action c.args.which c.args.set.now c.args.id.now c.encode_action.result (omega arith)
    c.encode_action.ensures

pub returns-in-2 : goal.returns-in-2
returns-in-2 g c = by_resource c.args.which c.args.set.now c.args.id.now c.encode_resource.result (omega arith)
    c.encode_resource.ensures
