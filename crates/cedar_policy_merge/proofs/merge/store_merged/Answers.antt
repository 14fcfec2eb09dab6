use Rattle.std.proofs.Common.{sym, subst, ap, ◌∙◌}
use Rattle.cedar_body.specs.Bodies.{BodyParts}
use Rattle.cedar_policy_maps.specs.PolicySets.{AreOnce}
use Rattle.cedar_policy_maps.specs.Views.{bodies_of}
use Rattle.cedar_policy_merge.specs.laws.MergeLaws.{AreAll}
use Rattle.cedar_policy_merge.specs.laws.SharedLaws.{IsOnJoined, all_on_joined, once_joined}
use Rattle.cedar_policy_merge.specs.Merge.{new_id}
use Rattle.cedar_policy_merge.specs.laws.MergeInserts.{takes_in}
use Rattle.cedar_policy_merge.specs.laws.RenamingLaws.{renames, new_are_free}
use Rattle.cedar_policy_merge.proofs.merge.store_merged.Goals as goal

pub parted_bodies-requires : goal.parted_bodies-requires
parted_bodies-requires g c = new_are_free c.args.here.now c.args.other.now c.args.renaming.now.entries c.requires

pub parted_policies-requires-clause-free : goal.parted_policies-requires-clause-free
parted_policies-requires-clause-free g c = new_are_free c.args.here.now c.args.other.now c.args.renaming.now.entries c.requires

pub parted_policies-requires-clause-once : goal.parted_policies-requires-clause-once
parted_policies-requires-clause-once g c =
    let h = c.args.here.now in
    let o = c.args.other.now in
    let r = c.args.renaming.now.entries in
    subst (AreOnce (λ (t : BodyParts). t.id)) (sym (ap bodies_of c.deref.ensures.value ∙ c.in_ok-bodies.ensures.join))
    (once_joined h o (new_id r) (renames h o r c.requires) c.is_empty-2.ensures.policy_set)

pub parted_policies-requires-clause-on : goal.parted_policies-requires-clause-on
parted_policies-requires-clause-on g c =
    let h = c.args.here.now in
    let o = c.args.other.now in
    let r = c.args.renaming.now.entries in
    subst (λ js. AreAll (IsOnJoined js (new_id r)) o.policies)
    (sym (ap bodies_of c.deref.ensures.value ∙ c.in_ok-bodies.ensures.join))
    (all_on_joined h o (new_id r) o.policies (renames h o r c.requires) c.is_empty-2.ensures.policy_set.held)

pub insert_bulk-requires : goal.insert_bulk-requires
insert_bulk-requires g c =
    let h = c.args.here.now in
    let o = c.args.other.now in
    let r = c.args.renaming.now.entries in
    let k = takes_in h o (new_id r) (renames h o r c.requires) c.is_empty.ensures.policy_set
    c.is_empty-2.ensures.policy_set in
    rw (c.in_ok-bodies.ensures.stand, c.in_ok-bodies.ensures.join, c.in_ok-parted.ensures) k
