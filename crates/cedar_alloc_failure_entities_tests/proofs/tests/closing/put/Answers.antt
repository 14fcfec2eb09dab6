use Rattle.cedar_ids.specs.laws.UidOfLaws.{same_uid_decides}
use Rattle.cedar_alloc_failure_entities_tests.proofs.NodesAtKeys.{put_keys}
use Rattle.cedar_alloc_failure_entities_tests.proofs.tests.closing.put.Goals as goal

pub returns-in-Ok-insert : goal.returns-in-Ok-insert
returns-in-Ok-insert c =
    put_keys (λ n. n.0.value.uid) c.args.nodes.now c.insert.new.self c.in-Ok.key c.args.node
    ((same_uid_decides c.args.node.0.value.uid c.in-Ok.key).0 c.in-Ok.ensures)
    c.in-Ok-insert.ensures.updates.0 c.requires
