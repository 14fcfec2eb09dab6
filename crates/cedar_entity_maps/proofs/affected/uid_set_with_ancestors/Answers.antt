use Rattle.std.proofs.Common.{◌≡◌, ◌∙◌, ap, arith, length}
use Rattle.std.proofs.lemmas.Result.{IfOk-weaker}
use Rattle.std.specs.FinSet as set
use Rattle.std.specs.Set.{is_member}
use Rattle.cedar_ids.specs.UidOf.{same_uid}
use Rattle.cedar_ids.specs.declared.entity.EntityUID.{EntityUID}
use Rattle.cedar_uid_sets.specs.laws.Sets.{contains_listed}
use Rattle.cedar_entity_maps.specs.laws.EntityMap.{entity_at}
use Rattle.cedar_entity_maps.specs.laws.StaleUids.{takes}
use Rattle.cedar_entity_maps.specs.laws.StaleUidLaws.{any_one}
use Rattle.cedar_entity_maps.proofs.affected.uid_set_with_ancestors.Goals as goal

pub returns-then-uids-eq1 : goal.returns-then-uids-eq1
returns-then-uids-eq1 g c =
    let T = λ (w u : EntityUID). takes (entity_at c.args.entities.now) u w in
    let one : length c.args.uids.now ≡ 1 = omega arith in
    IfOk-weaker c.from_pointers.result _ _ (λ s is w.
    ap (λ t. set.contains t w) is ∙ contains_listed c.in_ok-with_ancestors_at.field-0.items w
    ∙ c.in_ok-with_ancestors_at.ensures w
    ∙ any_one (T w) c.args.uids.now c.index-uids-0.result one c.index-uids-0.is) c.from_pointers.ensures

pub returns : goal.returns
returns g c =
    let T = λ (w u : EntityUID). takes (entity_at c.args.entities.now) u w in
    IfOk-weaker c.from_pointers-2.result _ _ (λ s is w.
    ap (λ t. set.contains t w) is ∙ contains_listed c.in_ok-listed.field-0.items w
    ∙ ap (λ l. is_member same_uid l w) c.in_ok-listed.ensures ∙ c.in_ok-lost.ensures w) c.from_pointers-2.ensures
