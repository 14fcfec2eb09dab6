use Rattle.std.specs.Prelude.{◌≡◌}
use Rattle.std.proofs.Common.{◌∙◌, sym, ap}
use Rattle.std.specs.Map.{keys_of, values_of}
use Rattle.cedar_policy_maps.specs.Maps.{lists_of}
use Rattle.cedar_policy_maps.specs.Views.{bodies_of}
use Rattle.cedar_policy_maps.specs.laws.GatherLaws.{gathered, elsewhere_in, links_in, links_listed, all_listed_keys}
use Rattle.cedar_policy_maps.specs.laws.BulkInsertSteps.{listed_keys}
use Rattle.cedar_policy_maps.specs.laws.MapLaws.{all_listed}
use Rattle.cedar_policy_maps.proofs.maps.ids_by_template.Goals as goal

pub returns-clause-listed : goal.returns-clause-listed
returns-clause-listed g c =
    c.in_ok-list_links.ensures.listed
    ∙ (λ j. all_listed (c.in_ok-listed.ensures j) (links_in ((c.as_slice.ensures ∙ c.values.ensures.rest) j)))
    ∙ links_listed (bodies_of c.args.bodies.now) (values_of c.args.policies.now.entries) c.requires.bodies
    c.requires.policies

pub returns-clause-grown : goal.returns-clause-grown
returns-clause-grown g c =
    let keys : keys_of c.in_ok-listed.listed.entries ≡ keys_of c.list_links.new.listed.entries =
    sym (listed_keys c.in_ok-listed.listed.entries)
    ∙ sym (all_listed_keys (lists_of c.in_ok-listed.listed.entries) (links_in c.as_slice.result.now))
    ∙ ap keys_of (sym c.in_ok-list_links.ensures.listed) ∙ listed_keys c.list_links.new.listed.entries in
    c.in_ok-list_links.ensures.grown
    ∙ (λ j. gathered (lists_of (c.with_hasher-grown.ensures.empty j)) (elsewhere_in (keys j)
    ((c.as_slice.ensures ∙ c.values.ensures.rest) j)))
