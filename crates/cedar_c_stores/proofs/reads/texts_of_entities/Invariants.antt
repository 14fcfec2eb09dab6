use Rattle.std.specs.Prelude.{◌≡◌, ◌++◌, List, map}
use Rattle.cedar_ids.specs.declared.entity.EntityUID.{EntityUID}
use Rattle.cedar_c_lists.specs.Texts.{AreTextsOf}
use Rattle.cedar_c_stores.specs.Reads.{uid_held}
use Rattle.cedar_c_stores.proofs.reads.texts_of_entities.Given as goal

abbrev pub invariant-loop-entity : goal.invariant-loop-entity
invariant-loop-entity l =
    (done : List EntityUID) × (done ++ map uid_held l.entity-iterator ≡ map uid_held l.fn.entities)
    × AreTextsOf done l.answer
