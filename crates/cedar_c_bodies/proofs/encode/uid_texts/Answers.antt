use Rattle.std.proofs.Common.{arith, subst}
use Rattle.cedar_ids.specs.UidOf.{uid_parts}
use Rattle.cedar_ids.specs.declared.entity.EntityUID.{EntityUID}
use Rattle.cedar_c_bodies.specs.Encoded.{IsUidText}
use Rattle.cedar_c_bodies.proofs.Zipping.{told_next}
use Rattle.cedar_c_bodies.proofs.encode.uid_texts.Goals as goal

pub loop-uid-preserved : goal.loop-uid-preserved
loop-uid-preserved c =
    let told = c.in_ok-answer.ensures in
    rw told.2
    (told_next IsUidText (λ u. uid_parts u.value) c.args.uids.now c.loop-uid.answer c.loop-uid.uid-index
    c.uid-item.result told.0
    (omega arith) c.loop-uid.invariant
    (subst (λ v. IsUidText (uid_parts v.value) told.0) c.uid-item.is
    (subst (λ (u : EntityUID). IsUidText (uid_parts u) told.0) c.deref.ensures told.1)))
