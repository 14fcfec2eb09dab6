use Rattle.std.proofs.Common.{◌∙◌, sym, ap, refl, true, false}
use Rattle.std.specs.Map.{keys_of}
use Rattle.std.proofs.lemmas.Result.{on_ok_weaker}
use Rattle.cedar_body.specs.Bodies.{BodyParts}
use Rattle.cedar_policy_maps.specs.Maps.{lists_of}
use Rattle.cedar_policy_maps.proofs.Entries.{link_listed, link_gathered, static_gathered}
use Rattle.cedar_policy_maps.proofs.maps.list_if_link.Goals as goal

pub returns-then-is_link-clause-listed : goal.returns-then-is_link-clause-listed
returns-then-is_link-clause-listed g c =
    on_ok_weaker c.list_in_either.result
    (λ k. k ∙ link_listed true c.args.policy.now c.id.result.now c.id-then-is_link.result.now
    (lists_of c.args.listed.now.entries) (sym c.is_link.ensures ∙ c.if-is_link.true)
    (c.id.ensures ∙ ap (λ (t : BodyParts). t.id) c.template.ensures) c.id-then-is_link.ensures)
    c.list_in_either.ensures.listed

pub returns-then-is_link-clause-grown : goal.returns-then-is_link-clause-grown
returns-then-is_link-clause-grown g c =
    on_ok_weaker c.list_in_either.result
    (λ k. k ∙ link_gathered c.args.policy.now c.id.result.now c.id-then-is_link.result.now
    (keys_of c.args.listed.now.entries) (lists_of c.args.grown.now.entries)
    (sym c.is_link.ensures ∙ c.if-is_link.true)
    (c.id.ensures ∙ ap (λ (t : BodyParts). t.id) c.template.ensures) c.id-then-is_link.ensures)
    c.list_in_either.ensures.grown

pub returns-else-is_link-clause-listed : goal.returns-else-is_link-clause-listed
returns-else-is_link-clause-listed g c =
    link_listed false c.args.policy.now c.args.policy.now.template.id _
    (lists_of c.args.listed.now.entries) (sym c.is_link.ensures ∙ c.if-is_link.false) refl refl

pub returns-else-is_link-clause-grown : goal.returns-else-is_link-clause-grown
returns-else-is_link-clause-grown g c =
    static_gathered c.args.policy.now (keys_of c.args.listed.now.entries) (lists_of c.args.grown.now.entries)
    (sym c.is_link.ensures ∙ c.if-is_link.false)
