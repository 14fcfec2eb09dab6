use Rattle.std.proofs.Common.{◌++◌, ◌∷◌, [], sym, ap, ◌∙◌, subst}
use Rattle.std.proofs.lemmas.List.{append_assoc}
use Rattle.cedar_policy_maps.specs.Views.{bodies_of}
use Rattle.cedar_policy_merge.specs.Merge.{new_id}
use Rattle.cedar_policy_merge.specs.laws.MergeLaws.{AreAll}
use Rattle.cedar_policy_merge.specs.laws.MergeSteps.{joined_policy_step}
use Rattle.cedar_policy_merge.specs.laws.SharedLaws.{IsOnJoined}
use Rattle.cedar_policy_merge.proofs.merge.part_policies.Goals as goal

pub part_policy-requires-clause-on : goal.part_policy-requires-clause-on
part_policy-requires-clause-on g c =
    (subst (AreAll (IsOnJoined (bodies_of c.args.joined.now) (new_id c.args.renaming.now.entries)))
    c.in-Some.ensures.steps c.loop-policy.invariant.on).0

pub loop-policy-preserved : goal.loop-policy-preserved
loop-policy-preserved g c =
    let p = c.in-Some.policy.now in
    let before = c.loop-policy.invariant in
    record {
      done = before.done ++ p ∷ [];
      is_part = append_assoc before.done (p ∷ []) c.next.new.self
          ∙ ap (λ ps. before.done ++ ps) (sym c.in-Some.ensures.steps) ∙ before.is_part;
      on = (subst (AreAll (IsOnJoined (bodies_of c.args.joined.now) (new_id c.args.renaming.now.entries)))
          c.in-Some.ensures.steps before.on).1;
      join =
          joined_policy_step c.args.here.now (new_id c.args.renaming.now.entries) before.done p
          c.args.parted.now.policies.join.items c.loop-policy.parted.policies.join.items
          c.part_policy.new.parted.policies.join.items before.join c.in_ok-part_policy.ensures;
    }
