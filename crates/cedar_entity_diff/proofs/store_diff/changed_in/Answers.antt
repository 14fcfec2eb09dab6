use Rattle.std.proofs.Common.{◌≡◌, ◌∙◌, ◌<◌, ◌++◌, ap, arith, length, option_to_list, sym}
use Rattle.std.specs.FinMap as finmap
use Rattle.std.specs.Option.{option_copied}
use Rattle.cedar_ids.specs.declared.entity.EntityUID.{EntityUID}
use Rattle.cedar_entity_diff.specs.Diffs.{changed_from}
use Rattle.cedar_entity_diff.proofs.Lookups.{found_more}
use Rattle.cedar_entity_diff.proofs.store_diff.changed_in.Goals as goal

pub loop-uid-preserved : goal.loop-uid-preserved
loop-uid-preserved g c =
    let us = c.args.uids.now in
    let i = c.loop-uid.uid-index in
    let uid : EntityUID = c.uid-item.result in
    let within : i < length us = omega arith in
    let old = finmap.get c.args.store.now.entities in
    let new = finmap.get c.args.other.now.entities in
    let before : option_copied c.stored.result ≡ old uid = c.stored.ensures.value ∙ ap old c.uid.ensures in
    let after : option_copied c.stored-in-loop-uid.result ≡ new uid =
    c.stored-in-loop-uid.ensures.value ∙ ap new c.uid-in-loop-uid.ensures in
    let at = λ (q : EntityUID). changed_from (old q) (new q) in
    c.in_ok-push_if_changed.ensures
    ∙ (λ k. c.loop-uid.list.items ++ option_to_list (changed_from (before k) (after k)))
    ∙ ap (λ l. l ++ option_to_list (at uid)) c.loop-uid.invariant
    ∙ sym (found_more at us i uid within c.uid-item.is)
