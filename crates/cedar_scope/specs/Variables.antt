-- The variables whose constraints have the shared type.
use Rattle.std.specs.Prelude.{Result, Ok, Err}
use Rattle.cedar_terms.specs.declared.var.Var.{Var}
use Rattle.cedar_terms.specs.declared.var.Var.TheVariants as vars
use Rattle.cedar_scope.specs.declared.variable.PrincipalOrResource.{PrincipalOrResource}
use Rattle.cedar_scope.specs.declared.variable.PrincipalOrResource.TheVariants.{Principal, Resource}

-- The conversion of a variable: the principal or the resource. Any other variable is returned as the error.
abbrev pub variable_of : Var → Result PrincipalOrResource Var
variable_of vars.Principal = Ok Principal
variable_of vars.Action = Err vars.Action
variable_of vars.Resource = Ok Resource
variable_of vars.Context = Err vars.Context
