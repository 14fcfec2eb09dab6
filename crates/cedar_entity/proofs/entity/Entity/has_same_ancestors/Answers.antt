use Rattle.std.proofs.Common.{ap, sym, ◌∙◌, List}
use Rattle.std.proofs.lemmas.Slice.Eq.{slice_eq-Decides}
use Rattle.std.specs.Set.{is_member}
use Rattle.cedar_ids.specs.UidOf.{same_uid}
use Rattle.cedar_ids.specs.laws.UidOfLaws.{same_uid_decides}
use Rattle.cedar_ids.specs.declared.entity.EntityUID.{EntityUID}
use Rattle.cedar_entity.proofs.UidSteps.{same_ascending}
use Rattle.cedar_entity.proofs.entity.Entity.has_same_ancestors.Goals as goal

pub returns : goal.returns
returns c =
    let us : List EntityUID = c.ancestors_in_order.result in
    let vs : List EntityUID = c.ancestors_in_order-2.result in
    let d = slice_eq-Decides same_uid_decides us vs c.give_same.result c.give_same.ensures in (
      λ t q. sym (c.ancestors_in_order.ensures.members q) ∙ ap (λ (l : List EntityUID). is_member same_uid l q) (d.0 t)
          ∙ c.ancestors_in_order-2.ensures.members q,
      λ h. d.1 (same_ascending us vs c.ancestors_in_order.ensures.ascending c.ancestors_in_order-2.ensures.ascending
          (λ q. c.ancestors_in_order.ensures.members q ∙ h q ∙ sym (c.ancestors_in_order-2.ensures.members q))),
    )
