use Rattle.std.proofs.Common.{◌∙◌, ◌++◌, ◌∷◌, [], ap}
use Rattle.cedar_ids.specs.declared.entity.EntityUID.{EntityUID}
use Rattle.cedar_entity_diff.proofs.UidsFound.{pushed}
use Rattle.cedar_entity_diff.proofs.differing.push_unless_stored.Goals as goal

pub returns : goal.returns
returns g c =
    pushed c.args.uids.now.items c.args.entity.now.uid _ c.push.new.self.items (c.in_ok-push.ensures.items
    ∙ ap (λ (u : EntityUID). c.args.uids.now.items ++ u ∷ []) (c.in_ok-copy_of.ensures ∙ c.uid-2.ensures))
