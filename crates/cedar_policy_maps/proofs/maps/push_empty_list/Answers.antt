use Rattle.std.specs.Prelude.{◌∷◌, []}
use Rattle.std.proofs.Common.{◌∙◌, ap}
use Rattle.std.specs.List.{list_any}
use Rattle.std.specs.Map.{values_of}
use Rattle.std.proofs.lemmas.Result.{on_ok_weaker}
use Rattle.cedar_body.specs.Bodies.{BodyParts}
use Rattle.cedar_policy_maps.specs.PolicySets.{is_policy_at}
use Rattle.cedar_policy_maps.specs.Maps.{ids_by_body, templates_in}
use Rattle.cedar_policy_maps.proofs.Entries.{known_by, no_list, one_list, none_listed, one_listed}
use Rattle.cedar_policy_maps.proofs.maps.push_empty_list.Goals as goal

pub returns-then-contains_key : goal.returns-then-contains_key
returns-then-contains_key g c =
    let known = c.args.known.now.entries in
    let t = c.args.template.now.value in
    none_listed c.args.map.now.entries (ids_by_body (templates_in (values_of known) (t ∷ [])) [])
    (no_list (values_of known) t c.contains_key.result c.if-contains_key.true (c.contains_key.ensures
    ∙ known_by known c.id.result.now c.requires.keyed
    ∙ ap (λ k. list_any (is_policy_at k) (values_of known)) (c.id.ensures
    ∙ ap (λ (t : BodyParts). t.id) c.deref.ensures)))

pub returns : goal.returns
returns g c =
    let known = c.args.known.now.entries in
    let t = c.args.template.now.value in
    on_ok_weaker c.insert_new.result
    (λ k. one_listed c.args.map.now.entries c.insert_new.new.map.entries c.in_ok-clone.field-0 t.id
    c.with_hasher-ids.result (ids_by_body (templates_in (values_of known) (t ∷ [])) []) k
    (c.in_ok-clone.ensures.cases ∙ c.id-2.ensures
    ∙ ap (λ (t : BodyParts). t.id) c.deref-2.ensures) c.with_hasher-ids.ensures.empty
    (one_list (values_of known) t c.contains_key.result c.if-contains_key.false
    (c.contains_key.ensures ∙ known_by known c.id.result.now c.requires.keyed
    ∙ ap (λ k. list_any (is_policy_at k) (values_of known)) (c.id.ensures
    ∙ ap (λ (t : BodyParts). t.id) c.deref.ensures))))
    c.insert_new.ensures
