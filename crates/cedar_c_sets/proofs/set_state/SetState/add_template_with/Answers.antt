use Rattle.std.proofs.Common.{inl, refl}
use Rattle.std.proofs.lemmas.Result.{err_from_is_err_and}
use Rattle.cedar_c_sets.proofs.set_state.SetState.add_template_with.Goals as goal

pub returns-in_err-template : goal.returns-in_err-template
returns-in_err-template g c =
    let p = err_from_is_err_and c.from_residual.result c.from_residual.ensures.1 in
    rw (p.1, p.2) (inl (c.in_err-template.ensures, refl))
