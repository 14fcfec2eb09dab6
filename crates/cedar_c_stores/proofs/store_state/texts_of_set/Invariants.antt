use Rattle.std.specs.Prelude.{◌≡◌, ◌++◌, List}
use Rattle.cedar_ids.specs.declared.entity.EntityUID.{EntityUID}
use Rattle.cedar_c_lists.specs.Texts.{AreTextsOf}
use Rattle.cedar_c_stores.proofs.store_state.texts_of_set.Given as goal

abbrev pub invariant-loop-uid : goal.invariant-loop-uid
invariant-loop-uid l = (done : List EntityUID) × (done ++ l.uid-iterator ≡ l.fn.uids) × AreTextsOf done l.answer
