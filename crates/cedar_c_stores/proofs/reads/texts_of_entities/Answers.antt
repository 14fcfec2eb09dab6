use Rattle.std.proofs.Common.{◌∙◌, ◌∷◌, ap, sym}
use Rattle.std.specs.Prelude.{map}
use Rattle.cedar_c_stores.specs.Reads.{uid_held}
use Rattle.cedar_c_lists.specs.laws.Zipping.{texts_next}
use Rattle.cedar_c_stores.proofs.reads.texts_of_entities.Goals as goal

pub loop-entity-preserved : goal.loop-entity-preserved
loop-entity-preserved c =
    let rest = map uid_held c.next.new.self in
    texts_next (map uid_held c.args.entities) (map uid_held c.loop-entity.entity-iterator) rest c.uid.result.now
    c.loop-entity.answer c.in_ok-answer.answer
    (ap (map uid_held) c.in-Some.ensures.steps ∙ ap (λ u. u ∷ rest) (sym c.uid.ensures)) c.loop-entity.invariant
    c.in_ok-answer.ensures
