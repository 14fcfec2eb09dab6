use Rattle.std.proofs.Common.{arith, sym, ap, ◌∙◌, map}
use Rattle.std.specs.List.{filter}
use Rattle.std.proofs.lemmas.Result.{err_from_is_err_and}
use Rattle.cedar_ids.specs.UidOf.{uid_parts}
use Rattle.cedar_action.specs.RuleReads.{is_no_action}
use Rattle.cedar_action.proofs.Passing.{one_passes}
use Rattle.cedar_action.proofs.action.non_actions.Goals as goal

pub returns-in_err-clone-clause-err : goal.returns-in_err-clone-clause-err
returns-in_err-clone-clause-err c =
    let p = err_from_is_err_and c.from_residual.result c.from_residual.ensures.1 in
    rw p.1
    (λ none. one_passes (λ u. uid_parts u.value) is_no_action c.deref-euid-items.result.now c.loop-euid.euid-index
    c.euid-item.result (omega arith) c.euid-item.is
    (ap (λ u. is_no_action (uid_parts u)) (sym c.deref.ensures) ∙ sym c.is_no_action.ensures ∙ c.if-is_no_action.true)
    (ap (λ us. filter is_no_action (map (λ u. uid_parts u.value) us)) c.deref-euid-items.ensures.value ∙ none))

pub returns-in_err-push-clause-err : goal.returns-in_err-push-clause-err
returns-in_err-push-clause-err c =
    let p = err_from_is_err_and c.from_residual-in_err-push.result c.from_residual-in_err-push.ensures.1 in
    rw p.1
    (λ none. one_passes (λ u. uid_parts u.value) is_no_action c.deref-euid-items.result.now c.loop-euid.euid-index
    c.euid-item.result (omega arith) c.euid-item.is
    (ap (λ u. is_no_action (uid_parts u)) (sym c.deref.ensures) ∙ sym c.is_no_action.ensures ∙ c.if-is_no_action.true)
    (ap (λ us. filter is_no_action (map (λ u. uid_parts u.value) us)) c.deref-euid-items.ensures.value ∙ none))
