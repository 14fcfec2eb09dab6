use Rattle.std.proofs.Common.{ap, rules, ◌∙◌}
use Rattle.std.specs.FinSet as set
use Rattle.std.proofs.lemmas.Fn.{filter_same}
use Rattle.std.proofs.lemmas.List.Kept.{IsStrictlySortedBy-filter}
use Rattle.cedar_ids.specs.UidOf.{uid_order}
use Rattle.cedar_uid_sets.proofs.Filtered.{is_other, set_difference}
use Rattle.cedar_uid_sets.proofs.uid_set.UidSet.retain_unlisted.Goals as goal

-- A filter does not change the order.
pub invariant_of-self : goal.invariant_of-self
invariant_of-self c =
    rw (filter_same _ (is_other c.args.others.now) _ (λ x b f' k. search rules) _ _ c.retain.ensures.filtered)
    (IsStrictlySortedBy-filter uid_order (is_other c.args.others.now) _ c.self.invariant)

pub returns : goal.returns
returns c =
    ap (λ us. set.from_list us) (filter_same _ (is_other c.args.others.now) _
    (λ x b f' k. search rules) _ _ c.retain.ensures.filtered)
    ∙ set_difference c.self.inside.uids.items c.args.others.now
    ∙ ap (λ s. set.difference s c.args.others.now) c.self.view_is
