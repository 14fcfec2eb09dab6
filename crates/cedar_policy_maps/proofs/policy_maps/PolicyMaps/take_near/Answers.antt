use Rattle.std.specs.Prelude.{◌≡◌, ℕ, List, true, false, Option, Some, None, IfSome, is_some}
use Rattle.std.proofs.Common.{◌∙◌, ap, sym, refl}
use Rattle.std.specs.Map.{lookup}
use Rattle.cedar_policy.specs.Policies.{PolicyParts}
use Rattle.std.specs.List.{find}
use Rattle.std.specs.Option.{option_map}
use Rattle.cedar_ids.specs.Texts.{same_text}
use Rattle.cedar_policy_maps.specs.PolicySets.{SetParts, is_body_at, is_policy_at, has_links, without_id}
use Rattle.cedar_policy_maps.specs.Maps.{Maps, maps_of, set_in, shared_of, lists_of}
use Rattle.cedar_policy_maps.specs.laws.MapLaws.{taken_kept, unlisted}
use Rattle.cedar_policy_maps.proofs.Entries.{body_read, policy_read, policy_known, read_removed, policy_unkeyed, link_unkeyed}
use Rattle.cedar_policy_maps.proofs.policy_maps.PolicyMaps.take_near.Goals as goal

pub invariant_of-self : goal.invariant_of-self
invariant_of-self g c =
    let m : Maps =
    maps_of c.self.inside.templates.entries c.self.inside.links.entries
    c.self.inside.template_to_links_map.entries in
    let i = c.args.id.now in
    let n : has_links (set_in m) i ≡ false = ap (λ (b : SetParts). has_links b i) c.self.view_is ∙ c.requires in
    let o = c.shift_remove_near-policy.result in
    (taken_kept m i o _ _ _ c.self.invariant n (c.shift_remove_near-policy.ensures.value ∙ policy_read m i c.self.invariant)
    (ap shared_of c.remove_body-template.ensures.bodies
    ∙ read_removed (λ v. v.value) (same_text i) c.self.inside.templates.entries)
    c.shift_remove_near-policy.ensures.entries
    (c.unlist.ensures ∙ ap (unlisted o i) (ap lists_of c.remove_body-template.ensures.lists
    ∙ read_removed (λ v. v.keys) (same_text i) c.self.inside.template_to_links_map.entries))).0

pub returns-clause-body : goal.returns-clause-body
returns-clause-body g c =
    let m : Maps =
    maps_of c.self.inside.templates.entries c.self.inside.links.entries
    c.self.inside.template_to_links_map.entries in
    let i = c.args.id.now in
    ap (option_map (λ t. t.value)) c.remove_body-template.ensures.value
    ∙ body_read m c.self.inside.templates.entries i c.self.invariant refl
    ∙ ap (λ (b : SetParts). find (is_body_at i) b.bodies) c.self.view_is

pub returns-clause-policy : goal.returns-clause-policy
returns-clause-policy g c =
    let m : Maps =
    maps_of c.self.inside.templates.entries c.self.inside.links.entries
    c.self.inside.template_to_links_map.entries in
    let i = c.args.id.now in
    c.shift_remove_near-policy.ensures.value ∙ policy_read m i c.self.invariant
    ∙ ap (λ (b : SetParts). find (is_policy_at i) b.policies) c.self.view_is

pub returns-clause-taken : goal.returns-clause-taken
returns-clause-taken g c =
    let m : Maps =
    maps_of c.self.inside.templates.entries c.self.inside.links.entries
    c.self.inside.template_to_links_map.entries in
    let i = c.args.id.now in
    let n : has_links (set_in m) i ≡ false = ap (λ (b : SetParts). has_links b i) c.self.view_is ∙ c.requires in
    let o = c.shift_remove_near-policy.result in
    (taken_kept m i o _ _ _ c.self.invariant n (c.shift_remove_near-policy.ensures.value ∙ policy_read m i c.self.invariant)
    (ap shared_of c.remove_body-template.ensures.bodies
    ∙ read_removed (λ v. v.value) (same_text i) c.self.inside.templates.entries)
    c.shift_remove_near-policy.ensures.entries
    (c.unlist.ensures ∙ ap (unlisted o i) (ap lists_of c.remove_body-template.ensures.lists
    ∙ read_removed (λ v. v.keys) (same_text i) c.self.inside.template_to_links_map.entries))).1
    ∙ ap (λ (b : SetParts). without_id b i) c.self.view_is

pub remove_body-template-requires-clause-list : goal.remove_body-template-requires-clause-list
remove_body-template-requires-clause-list g c = by c.shift_remove_near-policy.result c.shift_remove_near-policy.ensures.value
  where
    m : Maps
    m = maps_of c.self.inside.templates.entries c.self.inside.links.entries
        c.self.inside.template_to_links_map.entries

    i : List ℕ
    i = c.args.id.now

    by : (o : Option PolicyParts) → o ≡ lookup (same_text i) m.policies
        → IfSome o (λ p. lookup (same_text i) c.self.inside.template_to_links_map.entries ≡ None)
    by None e = tt
    by (Some p) e =
        policy_unkeyed m c.self.inside.template_to_links_map.entries i c.self.invariant refl
        (sym (policy_known m i c.self.invariant) ∙ ap is_some (sym e))

pub remove_body-template-requires-clause-link : goal.remove_body-template-requires-clause-link
remove_body-template-requires-clause-link g c = by c.shift_remove_near-policy.result c.shift_remove_near-policy.ensures.value
  where
    m : Maps
    m = maps_of c.self.inside.templates.entries c.self.inside.links.entries
        c.self.inside.template_to_links_map.entries

    i : List ℕ
    i = c.args.id.now

    by : (o : Option PolicyParts) → o ≡ lookup (same_text i) m.policies
        → IfSome o (λ p. is_some p.link ≡ true → lookup (same_text i) c.self.inside.templates.entries ≡ None)
    by None e = tt
    by (Some p) e = λ s.
        link_unkeyed m c.self.inside.templates.entries i p c.self.invariant refl
        (sym (policy_read m i c.self.invariant) ∙ sym e) s
