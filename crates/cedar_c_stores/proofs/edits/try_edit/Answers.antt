use Rattle.std.proofs.Common.{ap}
use Rattle.cedar_entity_maps.specs.Plain.{entities_in}
use Rattle.cedar_c_stores.proofs.Editing.{adding_passed, adding_refused, removing_passed, upserting_passed}
use Rattle.cedar_c_stores.proofs.Editing.{upserting_refused}
use Rattle.cedar_c_stores.proofs.edits.try_edit.Goals as goal

pub returns-in-Add-clause-refused : goal.returns-in-Add-clause-refused
returns-in-Add-clause-refused g c =
    adding_refused c.args.mode c.args.edit.now c.in-Add.list (entities_in c.deref.result.now) c.args.store.now c.in-Add.is
    (ap entities_in c.deref.ensures.value) c.requires.keeps c.would_add.result c.would_add.ensures.refused
    c.would_add.ensures.plain

pub returns-in-Add-clause-passes : goal.returns-in-Add-clause-passes
returns-in-Add-clause-passes g c =
    adding_passed c.args.mode c.args.edit.now c.in-Add.list (entities_in c.deref.result.now) c.args.store.now c.in-Add.is
    (ap entities_in c.deref.ensures.value) c.requires.keeps c.requires.plain c.would_add.result
    c.would_add.ensures.plain

pub returns-in-Upsert-clause-refused : goal.returns-in-Upsert-clause-refused
returns-in-Upsert-clause-refused g c =
    upserting_refused c.args.mode c.args.edit.now c.in-Upsert.list (entities_in c.deref-in-Upsert.result.now)
    c.args.store.now c.in-Upsert.is (ap entities_in c.deref-in-Upsert.ensures.value) c.requires.keeps
    c.would_upsert.result c.would_upsert.ensures.refused c.would_upsert.ensures.plain

pub returns-in-Upsert-clause-passes : goal.returns-in-Upsert-clause-passes
returns-in-Upsert-clause-passes g c =
    upserting_passed c.args.mode c.args.edit.now c.in-Upsert.list (entities_in c.deref-in-Upsert.result.now)
    c.args.store.now c.in-Upsert.is (ap entities_in c.deref-in-Upsert.ensures.value) c.requires.keeps
    c.requires.plain c.would_upsert.result c.would_upsert.ensures.plain

pub returns-in-Remove-clause-passes : goal.returns-in-Remove-clause-passes
returns-in-Remove-clause-passes g c =
    removing_passed c.args.mode c.args.edit.now c.in-Remove.field-0 c.args.store.now c.in-Remove.is c.requires.plain
