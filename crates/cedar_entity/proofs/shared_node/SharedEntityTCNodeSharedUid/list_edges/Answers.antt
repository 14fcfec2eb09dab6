use Rattle.std.proofs.Common.{ap, ◌∙◌, List}
use Rattle.std.proofs.lemmas.Result.{on_ok_weaker}
use Rattle.std.specs.Set.{is_member}
use Rattle.cedar_ids.specs.UidOf.{same_uid}
use Rattle.cedar_ids.specs.declared.entity.EntityUID.{EntityUID}
use Rattle.cedar_entity.specs.View.{has_ancestor}
use Rattle.cedar_entity.proofs.shared_node.SharedEntityTCNodeSharedUid.list_edges.Goals as goal

pub returns : goal.returns
returns c =
    on_ok_weaker c.relist.result (λ e q. ap (λ (l : List EntityUID). is_member same_uid l q) e
    ∙ c.ancestors_parents_last.ensures q ∙ ap (λ e. has_ancestor e q) c.deref.ensures) c.relist.ensures
