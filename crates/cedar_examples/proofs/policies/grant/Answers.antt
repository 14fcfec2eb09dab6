use Rattle.std.proofs.Common.{◌≡◌, ap, rules, subst, sym, ◌∙◌}
use Rattle.cedar_ids.specs.UidOf.{uid_parts}
use Rattle.cedar_terms.specs.declared.slot.SlotId.{SlotId}
use Rattle.cedar_terms.specs.declared.slot.SlotId.TheVariants.{Principal}
use Rattle.cedar_binding.specs.Bindings.{EnvParts, no_env}
use Rattle.cedar_binding.specs.Views.{env_of}
use Rattle.cedar_policy_lines.specs.PolicyCommand.{bound_more}
use Rattle.cedar_policy_set.specs.Refusals.{Steps, linking_error_of}
use Rattle.cedar_policy_set.specs.Steps.{link_step}
use Rattle.cedar_examples.proofs.Granted.{granted}
use Rattle.cedar_examples.proofs.policies.grant.Goals as goal

pub returns-in_err-_link-clause-step : goal.returns-in_err-_link-clause-step
returns-in_err-_link-clause-step c =
    let at : (s : SlotId) → env_of c.insert.new.self s
    ≡ bound_more (env_of c.no_bindings-values.result) Principal (uid_parts c.args.user) s = λ s. search rules in
    let env : env_of c.insert.new.self ≡ bound_more no_env Principal (uid_parts c.args.user) = (λ i s. at s i)
    ∙ ap (λ d. bound_more d Principal (uid_parts c.args.user)) c.no_bindings-values.ensures in
    let P : EnvParts
    → Type 0 =
    λ e. Steps linking_error_of c.from_residual-in_err-_link.result c.args.policies.now c.link.follows.lender-at-none
    (link_step c.args.policies.now c.args.template c.args.id e) in
    subst P env (search rules)

pub returns-clause-step : goal.returns-clause-step
returns-clause-step c =
    let at : (s : SlotId) → env_of c.insert.new.self s
    ≡ bound_more (env_of c.no_bindings-values.result) Principal (uid_parts c.args.user) s = λ s. search rules in
    let env : env_of c.insert.new.self ≡ bound_more no_env Principal (uid_parts c.args.user) = (λ i s. at s i)
    ∙ ap (λ d. bound_more d Principal (uid_parts c.args.user)) c.no_bindings-values.ensures in
    ap (λ e. link_step c.args.policies.now c.args.template c.args.id e) (sym env) ∙ search rules

pub returns-clause-bound : goal.returns-clause-bound
returns-clause-bound c =
    granted c.args.policies.now _ c.args.template c.args.id (bound_more no_env Principal (uid_parts c.args.user))
    (returns-clause-step c)
