use Rattle.std.specs.Prelude.{◌≡◌, ◌++◌, List, drop}
use Rattle.cedar_ids.specs.declared.entity.EntityUID.{EntityUID}
use Rattle.cedar_c_lists.specs.Texts.{AreTextsOf}
use Rattle.cedar_c_stores.proofs.queries.texts_of_uids.Given as goal

abbrev pub invariant-loop-uid : goal.invariant-loop-uid
invariant-loop-uid l =
    (done : List EntityUID) × (done ++ drop l.uid-index l.uids ≡ l.uids) × AreTextsOf done l.answer
