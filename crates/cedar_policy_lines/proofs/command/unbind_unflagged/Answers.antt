use Rattle.std.proofs.Common.{◌≡◌, ◌∙◌, sym}
use Rattle.cedar_ids.specs.UidOf.{uid_parts}
use Rattle.cedar_terms.specs.declared.slot.SlotId.TheVariants.{Principal, Action, Resource}
use Rattle.cedar_binding.specs.Views.{env_of}
use Rattle.cedar_policy_lines.specs.laws.SlotFlagLaws.{bound_if, others_unbound, all_named}
use Rattle.cedar_policy_lines.proofs.command.unbind_unflagged.Goals as goal

pub returns-then-has_all_flags : goal.returns-then-has_all_flags
returns-then-has_all_flags c =
    let all = sym c.has_all_flags.ensures ∙ c.if-has_all_flags.true in
    λ i s. all_named uid_parts c.args.named c.args.values.now.entries all s i

pub returns : goal.returns
returns c =
    let n = c.args.named in
    let e = env_of c.args.values.now in
    let first : env_of c.unbind_unless.new.values ≡ bound_if n.principal Principal e =
    c.unbind_unless.ensures ∙ (λ i. bound_if (c.has.ensures i) Principal e) in
    let second : env_of c.unbind_unless-2.new.values ≡ bound_if n.action Action (bound_if n.principal Principal e) =
    c.unbind_unless-2.ensures ∙ (λ i. bound_if (c.has-2.ensures i) Action (first i)) in
    c.unbind_unless-3.ensures ∙ (λ i. bound_if (c.has-3.ensures i) Resource (second i)) ∙ others_unbound n e
