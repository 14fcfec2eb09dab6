use Rattle.std.proofs.Common.{ap, ◌∙◌, List}
use Rattle.std.proofs.lemmas.Result.{IfOk-weaker}
use Rattle.std.specs.FinSet as set
use Rattle.std.specs.Set.{is_member}
use Rattle.cedar_ids.specs.UidOf.{same_uid}
use Rattle.cedar_ids.specs.declared.entity.EntityUID.{EntityUID}
use Rattle.cedar_entity.specs.View.{EntityView}
use Rattle.cedar_entity.proofs.shared_node.SharedEntityTCNodeSharedUid.direct_edges.Goals as goal

pub returns : goal.returns
returns c =
    record {
      exact = IfOk-weaker c.listed_pointers.result _ _
          (λ v h q. ap (λ (l : List EntityUID). is_member same_uid l q) h
          ∙ c.shared_parents.ensures.lists.members q ∙ ap (λ (e : EntityView). set.contains e.parents q) c.deref.ensures)
          c.listed_pointers.ensures;
    }
