use Rattle.std.proofs.Common.{◌∙◌, ap, filter_map}
use Rattle.std.specs.FinMap as finmap
use Rattle.cedar_ids.specs.declared.entity.EntityUID.{EntityUID}
use Rattle.cedar_entity_diff.specs.Diffs.{ancestry_from, changed_from, only_first}
use Rattle.cedar_entity_diff.proofs.Differences.{is_diff}
use Rattle.cedar_entity_diff.proofs.store_diff.diff.Goals as goal

pub returns : goal.returns
returns g c =
    let old = finmap.get c.args.store.now.entities in
    let new = finmap.get c.args.other.now.entities in
    is_diff c.args.store.now c.args.other.now c.in_ok-uids.ensures.keyed c.in_ok-uids.uids.items
    c.in_ok-uids.ensures.ascending c.in_ok-uids.ensures.others c.in_ok-removed.removed.items
    c.in_ok-added.added.items c.in_ok-changed.changed.items c.in_ok-ancestry.ancestry.items c.changed_mode.result
    (c.in_ok-removed.ensures ∙ ap (filter_map (λ (q : EntityUID). only_first (old q) (new q))) c.deref.ensures.value)
    (c.in_ok-added.ensures ∙ ap (filter_map (λ (q : EntityUID). only_first (new q) (old q))) c.deref-2.ensures.value)
    (c.in_ok-changed.ensures ∙ ap (filter_map (λ (q : EntityUID). changed_from (old q) (new q))) c.deref-3.ensures.value)
    (c.in_ok-ancestry.ensures
    ∙ ap (filter_map (λ (q : EntityUID). ancestry_from (old q) (new q))) c.deref-4.ensures.value)
    c.changed_mode.ensures
