use Rattle.cedar_c_lists.specs.laws.Zipping.{texts_next}
use Rattle.cedar_c_stores.proofs.store_state.texts_of_union.Goals as goal

pub loop-uid-preserved : goal.loop-uid-preserved
loop-uid-preserved c =
    texts_next c.args.uids c.loop-uid.uid-iterator c.next.new.self c.in-Some.uid.now c.loop-uid.answer
    c.in_ok-answer.answer c.in-Some.ensures.steps c.loop-uid.invariant c.in_ok-answer.ensures
