use Rattle.std.proofs.Common.{ap, ◌∙◌, List}
use Rattle.std.proofs.lemmas.Result.{IfOk-weaker}
use Rattle.std.specs.Set.{is_member}
use Rattle.cedar_ids.specs.UidOf.{same_uid}
use Rattle.cedar_ids.specs.declared.entity.EntityUID.{EntityUID}
use Rattle.cedar_entity.specs.laws.Views.{ancestors_listed}
use Rattle.cedar_entity.proofs.node.EntityTCNodeEntityUID.out_edges.Goals as goal

pub returns : goal.returns
returns c =
    IfOk-weaker c.listed.result _ _ (λ v h q. ap (λ (l : List EntityUID). is_member same_uid l q) h
    ∙ ancestors_listed c.args.self.now c.ancestors.result c.ancestors.ensures q) c.listed.ensures
