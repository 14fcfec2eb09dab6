use Rattle.std.specs.Prelude.{map}
use Rattle.cedar_entity_maps.specs.Plain.{entities_in, input_of}
use Rattle.cedar_entity_maps.specs.InputStore.{empty_input}
use Rattle.cedar_replay.proofs.EntityReplays.{add_makes, add_passes, add_refuses, remove_makes, remove_refuses}
use Rattle.cedar_replay.proofs.EntityReplays.{upsert_makes, upsert_passes, upsert_refuses}
use Rattle.cedar_replay.proofs.entities.replay_one.Goals as goal

pub returns-in-From-clause-passes : goal.returns-in-From-clause-passes
returns-in-From-clause-passes g c =
    let bare = rw c.in-From.is at c.requires in
    rw c.in-From.is (add_passes c.args.store (λ _. empty_input) (map input_of c.in-From.list.items)
    c.from_entities_with_hasher.result (λ W h. c.from_entities_with_hasher.ensures.plain bare))

pub returns-in-From-clause-ok : goal.returns-in-From-clause-ok
returns-in-From-clause-ok g c =
    let bare = rw c.in-From.is at c.requires in
    rw c.in-From.is (add_makes c.args.store (λ _. empty_input) (map input_of c.in-From.list.items)
    c.from_entities_with_hasher.result (λ W h. c.from_entities_with_hasher.ensures.plain bare))

pub returns-in-From-clause-err : goal.returns-in-From-clause-err
returns-in-From-clause-err g c =
    let bare = rw c.in-From.is at c.requires in
    rw c.in-From.is (add_refuses c.args.store (λ _. empty_input) (map input_of c.in-From.list.items)
    c.from_entities_with_hasher.result (λ W h. c.from_entities_with_hasher.ensures.plain bare))

pub returns-in-Add-clause-passes : goal.returns-in-Add-clause-passes
returns-in-Add-clause-passes g c =
    let bare = rw c.in-Add.is at c.requires in
    rw c.in-Add.is (add_passes c.args.store (λ W. W) (map input_of (entities_in c.in-Add.list.items))
    c.add_entities.result (λ W h. c.add_entities.ensures.plain W h bare))

pub returns-in-Add-clause-ok : goal.returns-in-Add-clause-ok
returns-in-Add-clause-ok g c =
    let bare = rw c.in-Add.is at c.requires in
    rw c.in-Add.is (add_makes c.args.store (λ W. W) (map input_of (entities_in c.in-Add.list.items))
    c.add_entities.result (λ W h. c.add_entities.ensures.plain W h bare))

pub returns-in-Add-clause-err : goal.returns-in-Add-clause-err
returns-in-Add-clause-err g c =
    let bare = rw c.in-Add.is at c.requires in
    rw c.in-Add.is (add_refuses c.args.store (λ W. W) (map input_of (entities_in c.in-Add.list.items))
    c.add_entities.result (λ W h. c.add_entities.ensures.plain W h bare))

pub returns-in-Upsert-clause-passes : goal.returns-in-Upsert-clause-passes
returns-in-Upsert-clause-passes g c =
    let bare = rw c.in-Upsert.is at c.requires in
    rw c.in-Upsert.is (upsert_passes c.args.store (map input_of (entities_in c.in-Upsert.list.items))
    c.upsert_entities.result (λ W h. c.upsert_entities.ensures.plain W h bare))

pub returns-in-Upsert-clause-ok : goal.returns-in-Upsert-clause-ok
returns-in-Upsert-clause-ok g c =
    let bare = rw c.in-Upsert.is at c.requires in
    rw c.in-Upsert.is (upsert_makes c.args.store (map input_of (entities_in c.in-Upsert.list.items))
    c.upsert_entities.result (λ W h. c.upsert_entities.ensures.plain W h bare))

pub returns-in-Upsert-clause-err : goal.returns-in-Upsert-clause-err
returns-in-Upsert-clause-err g c =
    let bare = rw c.in-Upsert.is at c.requires in
    rw c.in-Upsert.is (upsert_refuses c.args.store (map input_of (entities_in c.in-Upsert.list.items))
    c.upsert_entities.result (λ W h. c.upsert_entities.ensures.plain W h bare))

pub returns-in-Remove-clause-ok : goal.returns-in-Remove-clause-ok
returns-in-Remove-clause-ok g c =
    rw c.in-Remove.is (remove_makes c.args.store c.in-Remove.list.items c.remove_entities.result
    c.remove_entities.ensures.plain)

pub returns-in-Remove-clause-err : goal.returns-in-Remove-clause-err
returns-in-Remove-clause-err g c =
    rw c.in-Remove.is (remove_refuses c.args.store c.in-Remove.list.items c.remove_entities.result
    c.remove_entities.ensures.plain)

pub returns-in-Partial-clause-ok : goal.returns-in-Partial-clause-ok
returns-in-Partial-clause-ok g c = rw c.in-Partial.is c.partial.ensures.plain
