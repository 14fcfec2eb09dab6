use Rattle.std.proofs.Common.{◌∙◌, ◌∷◌, ◌+◌, ap, arith, sym}
use Rattle.std.proofs.lemmas.List.{drop_more}
use Rattle.std.specs.Prelude.{drop}
use Rattle.cedar_c_lists.specs.laws.Zipping.{texts_next}
use Rattle.cedar_c_stores.proofs.queries.texts_of_uids.Goals as goal

pub loop-uid-preserved : goal.loop-uid-preserved
loop-uid-preserved c =
    let uids = c.args.uids.now in
    let i = c.loop-uid.uid-index in
    texts_next uids (drop i uids) (drop (i + 1) uids) c.uid.result.now c.loop-uid.answer c.in_ok-answer.answer
    (drop_more uids i c.uid-item.result (omega arith)
    ∙ ap (λ u. u ∷ drop (i + 1) uids) (sym c.uid-item.is ∙ sym c.uid.ensures))
    c.loop-uid.invariant c.in_ok-answer.ensures
