use Rattle.std.proofs.Common.{◌∙◌, ◌<◌, ◌++◌, ap, arith, length, option_to_list, sym}
use Rattle.std.specs.FinMap as finmap
use Rattle.cedar_ids.specs.declared.entity.EntityUID.{EntityUID}
use Rattle.cedar_entity_diff.specs.Diffs.{only_first}
use Rattle.cedar_entity_diff.proofs.Lookups.{found_more}
use Rattle.cedar_entity_diff.proofs.store_diff.only_in.Goals as goal

pub loop-uid-preserved : goal.loop-uid-preserved
loop-uid-preserved g c =
    let us = c.args.uids.now in
    let i = c.loop-uid.uid-index in
    let uid : EntityUID = c.uid-item.result in
    let within : i < length us = omega arith in
    let at = λ (q : EntityUID).
    only_first (finmap.get c.args.store.now.entities q) (finmap.get c.args.other.now.entities q) in
    c.in_ok-push_if_only.ensures
    ∙ ap (λ (u : EntityUID). c.loop-uid.list.items ++ option_to_list (at u)) c.uid.ensures
    ∙ ap (λ l. l ++ option_to_list (at uid)) c.loop-uid.invariant
    ∙ sym (found_more at us i uid within c.uid-item.is)
