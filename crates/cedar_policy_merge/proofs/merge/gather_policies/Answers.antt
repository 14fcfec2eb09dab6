use Rattle.std.proofs.Common.{◌≡◌, ◌++◌, ◌∷◌, [], Some, cond, sym, ap, ◌∙◌}
use Rattle.std.specs.List.{find}
use Rattle.std.proofs.lemmas.List.{append_assoc}
use Rattle.indexmap.specs.IndexSet.{insert_all}
use Rattle.cedar_ids.specs.Texts.{same_text}
use Rattle.cedar_policy.specs.Policies.{policy_id}
use Rattle.cedar_policy_maps.specs.PolicySets.{is_policy_at}
use Rattle.cedar_policy_merge.specs.laws.GatherLaws.{Policies, Templates, conflicting_policies}
use Rattle.cedar_policy_merge.specs.laws.GatherSteps.{gathered_policy_step, listed_policy_step, policy_within}
use Rattle.cedar_policy_merge.specs.laws.LookedAtLaws.{clashes_is, lies_over_is}
use Rattle.cedar_policy_merge.specs.laws.TemplatesAlike.{template_stands}
use Rattle.cedar_policy_merge.proofs.merge.gather_policies.Goals as goal

pub gather_policy-requires : goal.gather_policy-requires
gather_policy-requires g c =
    let h = c.args.here.now in
    let o = c.args.other.now in
    let q = c.in-Some.policy.now in
    let before = c.loop-policy.invariant in
    let found : find (is_policy_at (policy_id q)) o.policies ≡ Some q =
    policy_within o before.done q c.next.new.self
    (ap (λ ps. before.done ++ ps) (sym c.in-Some.ensures.steps) ∙ before.is_part)
    c.is_empty-2.ensures.policy_set.policies_once in
    template_stands h o q c.args.ids.now.keys c.loop-policy.ids.keys (conflicting_policies Policies h o before.done)
    c.is_empty-2.ensures.policy_set found c.requires before.ids

pub loop-policy-preserved : goal.loop-policy-preserved
loop-policy-preserved g c =
    let h = c.args.here.now in
    let o = c.args.other.now in
    let q = c.in-Some.policy.now in
    let before = c.loop-policy.invariant in
    let found : find (is_policy_at (policy_id q)) o.policies ≡ Some q =
    policy_within o before.done q c.next.new.self
    (ap (λ ps. before.done ++ ps) (sym c.in-Some.ensures.steps) ∙ before.is_part)
    c.is_empty-2.ensures.policy_set.policies_once in
    record {
      done = before.done ++ q ∷ [];
      is_part = append_assoc before.done (q ∷ []) c.next.new.self
          ∙ ap (λ ps. before.done ++ ps) (sym c.in-Some.ensures.steps) ∙ before.is_part;
      ids =
          gathered_policy_step Policies h o before.done q c.args.ids.now.keys c.loop-policy.ids.keys
          c.gather_policy.new.ids.keys before.ids
          (c.in_ok-gather_policy.ensures.ids
          ∙ (λ j. insert_all same_text c.loop-policy.ids.keys
          (cond (clashes_is h o q c.is_empty.ensures.policy_set c.is_empty-2.ensures.policy_set found j)
          (policy_id q ∷ []) [])));
      templates =
          listed_policy_step Templates h o before.done q c.args.templates.now.items
          c.loop-policy.templates.items c.gather_policy.new.templates.items before.templates
          (c.in_ok-gather_policy.ensures.templates
          ∙ (λ j. c.loop-policy.templates.items ++ cond (lies_over_is h o q c.is_empty.ensures.policy_set
          c.is_empty-2.ensures.policy_set found j) (policy_id q ∷ []) []));
    }
