use Rattle.std.specs.Prelude.{Some, ◌∷◌, []}
use Rattle.std.proofs.Common.{◌∙◌, sym, ap, subst}
use Rattle.std.specs.Option.{option_map}
use Rattle.cedar_policy_maps.specs.PolicySets.{IsPolicySet}
use Rattle.cedar_policy_maps.specs.Lists.{ids_in}
use Rattle.cedar_policy_maps.specs.laws.MapLaws.{on_template, link_ids, static_ids}
use Rattle.cedar_policy_maps.proofs.policy_maps.PolicyMaps.linked_ids.Goals as goal

pub returns-in-None-links_of : goal.returns-in-None-links_of
returns-in-None-links_of g c =
    let b = c.args.self.now in
    c.in-None-links_of.ensures
    ∙ ap (option_map (λ t. ids_in t.id b.policies)) (on_template b c.args.id.now (sym c.in-None.ensures))

pub returns-in-Some-links_of : goal.returns-in-Some-links_of
returns-in-Some-links_of g c =
    let b = c.args.self.now in
    ap Some (c.of.ensures ∙ c.iter.ensures.rest) ∙ c.in-Some-links_of.ensures
    ∙ ap (option_map (λ t. ids_in t.id b.policies)) (on_template b c.args.id.now (sym c.in-None.ensures))

pub returns-then-is_link : goal.returns-then-is_link
returns-then-is_link g c =
    link_ids c.args.self.now c.args.id.now c.in-Some.policy.now (subst IsPolicySet c.self.view_is
    c.self.invariant.policy_set)
    (sym c.in-Some.ensures) (sym c.is_link.ensures ∙ c.if-is_link.true)

pub returns-else-is_link : goal.returns-else-is_link
returns-else-is_link g c =
    ap Some (c.of_one.ensures ∙ ap (λ i. i ∷ []) c.id.ensures)
    ∙ static_ids c.args.self.now c.args.id.now c.in-Some.policy.now
    (subst IsPolicySet c.self.view_is c.self.invariant.policy_set) (sym c.in-Some.ensures) (sym c.is_link.ensures
    ∙ c.if-is_link.false)
