use Rattle.std.proofs.Common.{◌≡◌, ◌∙◌, not, ap, sym, subst, List, ℕ, false, Option, IfSome}
use Rattle.std.proofs.lemmas.Result.{on_ok_weaker}
use Rattle.std.specs.Map.{lookup}
use Rattle.std.specs.Option.{unwrap_or, option_copied}
use Rattle.cedar_ids.specs.Texts.{same_text}
use Rattle.cedar_body.specs.Bodies.{BodyParts, with_id}
use Rattle.cedar_policy_maps.specs.PolicySets.{is_bound}
use Rattle.cedar_policy_merge.specs.Merge.{new_id, renamed_body}
use Rattle.cedar_policy_merge.proofs.SharedAndNew.{body_parted}
use Rattle.cedar_policy_merge.proofs.merge.part_body.Goals as goal

pub is_bound_in_target-stands-requires : goal.is_bound_in_target-stands-requires
is_bound_in_target-stands-requires g c =
    let t = c.args.template.now.value in
    let own : c.id.result.now ≡ t.id = c.id.ensures ∙ ap (λ (b : BodyParts). b.id) c.deref.ensures in
    let looked = c.new_of-new.ensures ∙ ap (λ i. lookup (same_text i) c.args.renaming.now.entries) own in
    subst (λ (o : Option (List ℕ)). IfSome o (λ v. is_bound c.args.here.now v ≡ false)) (sym looked)
    (c.requires t.id)

pub returns-clause-stand : goal.returns-clause-stand
returns-clause-stand g c =
    let t = c.args.template.now.value in
    let N = new_id c.args.renaming.now.entries t.id in
    let own : c.id.result.now ≡ t.id = c.id.ensures ∙ ap (λ (b : BodyParts). b.id) c.deref.ensures in
    let own2 : c.id-2.result.now ≡ t.id = c.id-2.ensures ∙ ap (λ (b : BodyParts). b.id) c.deref-2.ensures in
    let looked = c.new_of-new.ensures ∙ ap (λ i. lookup (same_text i) c.args.renaming.now.entries) own in
    let given : unwrap_or (option_copied c.new_of-new.result) t.id ≡ N = ap (λ o. unwrap_or o t.id) looked in
    let bound : c.is_bound_in_target-stands.result ≡ is_bound c.args.here.now N = c.is_bound_in_target-stands.ensures
    ∙ ap (is_bound c.args.here.now) (ap (unwrap_or (option_copied c.new_of-new.result)) own2 ∙ given) in
    let made : c.in_ok-renamed_body.field-0.value ≡ renamed_body (new_id c.args.renaming.now.entries) t =
    c.in_ok-renamed_body.ensures ∙ ap (λ i. with_id i t) given in
    on_ok_weaker c.part.result
    (λ e. body_parted c.is_bound_in_target-stands.result
    (is_bound c.args.here.now N) c.args.parted.now.stand.items c.part.new.parted.stand.items
    c.in_ok-renamed_body.field-0 (renamed_body (new_id c.args.renaming.now.entries) t) bound e made)
    c.part.ensures.stand

pub returns-clause-join : goal.returns-clause-join
returns-clause-join g c =
    let t = c.args.template.now.value in
    let N = new_id c.args.renaming.now.entries t.id in
    let own : c.id.result.now ≡ t.id = c.id.ensures ∙ ap (λ (b : BodyParts). b.id) c.deref.ensures in
    let own2 : c.id-2.result.now ≡ t.id = c.id-2.ensures ∙ ap (λ (b : BodyParts). b.id) c.deref-2.ensures in
    let looked = c.new_of-new.ensures ∙ ap (λ i. lookup (same_text i) c.args.renaming.now.entries) own in
    let given : unwrap_or (option_copied c.new_of-new.result) t.id ≡ N = ap (λ o. unwrap_or o t.id) looked in
    let bound : c.is_bound_in_target-stands.result ≡ is_bound c.args.here.now N = c.is_bound_in_target-stands.ensures
    ∙ ap (is_bound c.args.here.now) (ap (unwrap_or (option_copied c.new_of-new.result)) own2 ∙ given) in
    let made : c.in_ok-renamed_body.field-0.value ≡ renamed_body (new_id c.args.renaming.now.entries) t =
    c.in_ok-renamed_body.ensures ∙ ap (λ i. with_id i t) given in
    on_ok_weaker c.part.result
    (λ e. body_parted (not c.is_bound_in_target-stands.result)
    (not (is_bound c.args.here.now N)) c.args.parted.now.join.items c.part.new.parted.join.items
    c.in_ok-renamed_body.field-0 (renamed_body (new_id c.args.renaming.now.entries) t) (ap not bound) e made)
    c.part.ensures.join
