use Rattle.std.proofs.Common.{◌≡◌, ◌++◌, ◌∷◌, [], cond, sym, ap, ◌∙◌, Some, None, ◌&&◌, not}
use Rattle.std.proofs.lemmas.List.{append-nil}
use Rattle.std.proofs.lemmas.Result.{on_ok_weaker}
use Rattle.std.specs.List.{find}
use Rattle.indexmap.specs.IndexSet.{insert_all}
use Rattle.cedar_ids.specs.Texts.{same_text}
use Rattle.cedar_policy_maps.specs.PolicySets.{is_body_at}
use Rattle.cedar_policy_merge.specs.Merge.{has_policy, is_same_at}
use Rattle.cedar_policy_merge.specs.laws.GatherLaws.{looked_at, Bodies, Links}
use Rattle.cedar_policy_merge.specs.laws.LookedAtLaws.{bodies_differ, no_body_looked, link_here, no_link_looked}
use Rattle.cedar_policy_merge.proofs.merge.gather_body.Goals as goal

pub returns-in-None-clause-ids : goal.returns-in-None-clause-ids
returns-in-None-clause-ids g c =
    let h = c.args.here.now in
    let o = c.args.other.now in
    let i = c.args.template.now.id in
    let none : None ≡ find (is_body_at i) h.bodies = c.in-None.ensures
    ∙ ap (λ j. find (is_body_at j) h.bodies) c.id-own.ensures in
    on_ok_weaker c.list_id.result
    (λ e j. insert_all same_text c.args.ids.now.keys (cond (no_body_looked h o i none j) (i ∷ []) []))
    c.list_id.ensures

pub returns-in-None-clause-links : goal.returns-in-None-clause-links
returns-in-None-clause-links g c =
    let h = c.args.here.now in
    let o = c.args.other.now in
    let t = c.args.template.now in
    let none : None ≡ find (is_body_at t.id) h.bodies = c.in-None.ensures
    ∙ ap (λ j. find (is_body_at j) h.bodies) c.id-own.ensures in
    let clashes : c.has_policy.result ≡ (looked_at Links h o t.id && not (is_same_at h o t.id)) =
    c.has_policy.ensures ∙ ap (has_policy h) c.id-own.ensures ∙ link_here h o t.id t c.is_empty.ensures.policy_set
    c.is_empty-2.ensures.policy_set none c.requires in
    on_ok_weaker c.list_id.result
    (λ e. e ∙ (λ j. c.args.links.now.items ++ cond (clashes j) (c.id-own.ensures j ∷ []) []))
    c.list_id.ensures

pub returns-in-Some-clause-ids : goal.returns-in-Some-clause-ids
returns-in-Some-clause-ids g c =
    let h = c.args.here.now in
    let o = c.args.other.now in
    let t = c.args.template.now in
    let s = c.in-Some.stands.now in
    let stands : find (is_body_at t.id) h.bodies ≡ Some s = sym (c.in-Some.ensures
    ∙ ap (λ j. find (is_body_at j) h.bodies) c.id-own.ensures) in
    let clashes : c.is_different_body-clashes.result ≡ (looked_at Bodies h o t.id && not (is_same_at h o t.id)) =
    c.is_different_body-clashes.ensures
    ∙ sym (bodies_differ h o t.id s t c.is_empty.ensures.policy_set c.is_empty-2.ensures.policy_set stands c.requires) in
    on_ok_weaker c.gather_id.result
    (λ e. e ∙ (λ j. insert_all same_text c.args.ids.now.keys (cond (clashes j) (c.id-own.ensures j ∷ []) [])))
    c.gather_id.ensures

pub returns-in-Some-clause-links : goal.returns-in-Some-clause-links
returns-in-Some-clause-links g c =
    let h = c.args.here.now in
    let o = c.args.other.now in
    let t = c.args.template.now in
    let stands : Some c.in-Some.stands.now ≡ find (is_body_at t.id) h.bodies = c.in-Some.ensures
    ∙ ap (λ j. find (is_body_at j) h.bodies) c.id-own.ensures in
    let old = c.args.links.now.items in
    on_ok_weaker c.gather_id.result
    (λ e. sym (append-nil old)
    ∙ (λ j. old ++ cond (no_link_looked h o t.id c.in-Some.stands.now stands j) (t.id ∷ []) []))
    c.gather_id.ensures
