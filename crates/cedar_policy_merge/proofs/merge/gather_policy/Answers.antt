use Rattle.std.proofs.Common.{◌≡◌, ◌++◌, ◌∷◌, [], cond, sym, ap, ◌∙◌, Some, None}
use Rattle.std.proofs.lemmas.List.{append-nil}
use Rattle.std.proofs.lemmas.Result.{on_ok_weaker}
use Rattle.std.specs.List.{find}
use Rattle.indexmap.specs.IndexSet.{insert_all}
use Rattle.cedar_ids.specs.Texts.{same_text}
use Rattle.cedar_policy.specs.Policies.{policy_id}
use Rattle.cedar_policy_maps.specs.PolicySets.{is_policy_at}
use Rattle.cedar_policy_merge.specs.Merge.{has_body}
use Rattle.cedar_policy_merge.specs.laws.LookedAtLaws.{clashes_with, clashes, lies_over, over_body, not_over}
use Rattle.cedar_policy_merge.specs.laws.TemplatesAlike.{one_id, templates_same}
use Rattle.cedar_policy_merge.proofs.merge.gather_policy.Goals as goal

pub is_different_policy-clashes-requires-clause-id : goal.is_different_policy-clashes-requires-clause-id
is_different_policy-clashes-requires-clause-id g c =
    let h = c.args.here.now in
    let q = c.args.policy.now in
    let stands : Some c.in-Some.stands.now ≡ find (is_policy_at (policy_id q)) h.policies = c.in-Some.ensures
    ∙ ap (λ j. find (is_policy_at j) h.policies) c.id-own.ensures in
    one_id h c.in-Some.stands.now q stands

pub is_different_policy-clashes-requires-clause-alike : goal.is_different_policy-clashes-requires-clause-alike
is_different_policy-clashes-requires-clause-alike g c =
    let h = c.args.here.now in
    let q = c.args.policy.now in
    let stands : Some c.in-Some.stands.now ≡ find (is_policy_at (policy_id q)) h.policies = c.in-Some.ensures
    ∙ ap (λ j. find (is_policy_at j) h.policies) c.id-own.ensures in
    templates_same h c.in-Some.stands.now q c.args.ids.now.keys c.is_empty-policy_set.ensures.policy_set stands
    c.requires

pub returns-in-None-clause-ids : goal.returns-in-None-clause-ids
returns-in-None-clause-ids g c =
    let h = c.args.here.now in
    let q = c.args.policy.now in
    let none : None ≡ find (is_policy_at (policy_id q)) h.policies = c.in-None.ensures
    ∙ ap (λ j. find (is_policy_at j) h.policies) c.id-own.ensures in
    on_ok_weaker c.list_id.result
    (λ e j. insert_all same_text c.args.ids.now.keys (cond (clashes_with (none j) q) (policy_id q ∷ []) []))
    c.list_id.ensures

pub returns-in-None-clause-templates : goal.returns-in-None-clause-templates
returns-in-None-clause-templates g c =
    let h = c.args.here.now in
    let q = c.args.policy.now in
    let none : None ≡ find (is_policy_at (policy_id q)) h.policies = c.in-None.ensures
    ∙ ap (λ j. find (is_policy_at j) h.policies) c.id-own.ensures in
    let over : c.has_body.result ≡ lies_over h q = c.has_body.ensures ∙ ap (has_body h) c.id-own.ensures
    ∙ over_body h q none in
    on_ok_weaker c.list_id.result
    (λ e. e ∙ (λ j. c.args.templates.now.items ++ cond (over j) (c.id-own.ensures j ∷ []) []))
    c.list_id.ensures

pub returns-in-Some-clause-ids : goal.returns-in-Some-clause-ids
returns-in-Some-clause-ids g c =
    let h = c.args.here.now in
    let q = c.args.policy.now in
    let stands : Some c.in-Some.stands.now ≡ find (is_policy_at (policy_id q)) h.policies = c.in-Some.ensures
    ∙ ap (λ j. find (is_policy_at j) h.policies) c.id-own.ensures in
    let told : c.is_different_policy-clashes.result ≡ clashes h q = c.is_different_policy-clashes.ensures
    ∙ ap (λ r. clashes_with r q) stands in
    on_ok_weaker c.gather_id.result
    (λ e. e ∙ (λ j. insert_all same_text c.args.ids.now.keys (cond (told j) (c.id-own.ensures j ∷ []) [])))
    c.gather_id.ensures

pub returns-in-Some-clause-templates : goal.returns-in-Some-clause-templates
returns-in-Some-clause-templates g c =
    let h = c.args.here.now in
    let q = c.args.policy.now in
    let stands : Some c.in-Some.stands.now ≡ find (is_policy_at (policy_id q)) h.policies = c.in-Some.ensures
    ∙ ap (λ j. find (is_policy_at j) h.policies) c.id-own.ensures in
    let old = c.args.templates.now.items in
    on_ok_weaker c.gather_id.result
    (λ e. sym (append-nil old)
    ∙ (λ j. old ++ cond (not_over h q c.in-Some.stands.now stands j) (policy_id q ∷ []) []))
    c.gather_id.ensures
