use Rattle.std.proofs.Common.{refl, ap, sym, ◌∙◌, ◌≡◌, Ok, Err, if◌then◌else◌}
use Rattle.std.specs.Option.{unwrap_or}
use Rattle.cedar_policy.specs.Policies.{policy_id}
use Rattle.cedar_policy_maps.specs.PolicySets.{SetParts, is_bound, with_policy}
use Rattle.cedar_policy_set.specs.Steps.{id_conflict}
use Rattle.cedar_policy_set.proofs.policy_set.PolicySet.insert_link.Goals as goal

pub returns-then-occupied : goal.returns-then-occupied
returns-then-occupied g c =
    let link = c.args.policy in
    let kept = with_policy c.args.self.now link in
    let same : policy_id link ≡ c.single_id_of.result =
    ap (λ o. unwrap_or o link.template.id) (sym c.single_id_of.ensures) in (
      refl,
      ap (λ (b : SetParts). if is_bound b (policy_id link) then Err (id_conflict (policy_id link)) else Ok kept)
          (sym c.self.view_is)
          ∙ ap (λ i. if is_bound c.self.inside.maps i then Err (id_conflict (policy_id link)) else Ok kept)
          (sym c.id.ensures)
          ∙ ap (λ b. if b then Err (id_conflict (policy_id link)) else Ok kept) (sym c.if-occupied.ensures)
          ∙ ap (λ i. Err (id_conflict i)) same,
    )

pub returns : goal.returns
returns g c =
    let link = c.args.policy in
    let kept = with_policy c.args.self.now link in
    ap (λ (b : SetParts). if is_bound b (policy_id link) then Err (id_conflict (policy_id link)) else Ok kept)
    (sym c.self.view_is)
    ∙ ap (λ i. if is_bound c.self.inside.maps i then Err (id_conflict (policy_id link)) else Ok kept)
    (sym c.id.ensures)
    ∙ ap (λ b. if b then Err (id_conflict (policy_id link)) else Ok kept) (sym c.if-occupied.ensures)
    ∙ ap Ok (ap (λ b. with_policy b link) (sym c.self.view_is) ∙ sym c.in_ok-insert_policy.ensures.ok)
