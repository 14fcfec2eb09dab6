use Rattle.std.proofs.Common.{ap, ◌∙◌, List}
use Rattle.std.proofs.lemmas.Result.{IfOk-weaker}
use Rattle.std.specs.Set.{is_member}
use Rattle.cedar_ids.specs.UidOf.{same_uid}
use Rattle.cedar_ids.specs.declared.entity.EntityUID.{EntityUID}
use Rattle.cedar_entity.specs.View.{has_ancestor}
use Rattle.cedar_entity.specs.laws.Views.{members_of_both}
use Rattle.cedar_entity.proofs.shared_node.SharedEntityTCNodeSharedUid.out_edges.Goals as goal

pub returns : goal.returns
returns c =
    IfOk-weaker c.listed_pointers.result _ _ (λ v h q. ap (λ (l : List EntityUID). is_member same_uid l q) h
    ∙ members_of_both c.shared_ancestors.ensures q ∙ ap (λ e. has_ancestor e q) c.deref.ensures) c.listed_pointers.ensures
