use Rattle.std.proofs.Common.{◌∙◌, All, subst, sym}
use Rattle.std.specs.List.{IsDistinct}
use Rattle.cedar_ids.specs.Texts.{same_text}
use Rattle.cedar_policy_maps.specs.Maps.{DoAgree, maps_of, shared_of, lists_of}
use Rattle.cedar_policy_maps.specs.laws.RawMaps.{IsWhole, raw_agree, shared_keys}
use Rattle.cedar_policy_maps.proofs.Entries.{lists_kept}
use Rattle.cedar_policy_maps.proofs.policy_maps.PolicyMaps.from_raw_components.Goals as goal

pub invariant_of-result : goal.invariant_of-result
invariant_of-result g c =
    subst DoAgree
    (λ j. record {
      bodies = shared_of (sym c.in_ok-templates.ensures.entries j);
      policies = sym c.in_ok-links.ensures.entries j;
      listed = sym c.in_ok-template_to_links_map.ensures j;
    })
    (raw_agree (maps_of c.args.templates.entries c.args.links.entries c.args.template_to_links_map.entries)
    (lists_of c.filter_templates.new.map.entries)
    (subst (IsDistinct same_text) (shared_keys c.args.templates.entries) c.len-bodies.ensures.unique)
    c.len-policies.ensures.unique
    (subst (All IsWhole) (c.as_slice.ensures ∙ c.values.ensures.rest) c.read_policies.ensures) c.requires
    (lists_kept c.args.template_to_links_map.entries c.filter_templates.new.map.entries c.args.links.entries
    c.requires.policies_by_id c.filter_templates.ensures))
