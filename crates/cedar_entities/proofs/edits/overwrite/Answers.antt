use Rattle.std.proofs.Common.{ap, ◌∙◌}
use Rattle.cedar_entity.specs.View.{EntityView}
use Rattle.cedar_entities.proofs.Versions.{overwrite, put_keys}
use Rattle.cedar_entities.proofs.edits.overwrite.Goals as goal

pub returns-clause-keys : goal.returns-clause-keys
returns-clause-keys g c =
    put_keys c.args.entities.now c.insert.new.self c.incoming.inside.uid _ c.incoming.invariant
    c.in_ok-insert.ensures.updates.0 c.requires

pub returns-clause-ok : goal.returns-clause-ok
returns-clause-ok g c = overwrite c.args.entities.now c.insert.new.self c.incoming.inside.uid _ c.args.incoming
    (c.incoming.invariant ∙ ap (λ (e : EntityView). e.uid) c.incoming.view_is) c.incoming.view_is
    c.in_ok-insert.ensures.updates.0
