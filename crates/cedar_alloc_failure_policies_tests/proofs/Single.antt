-- Maps of one policy and its template.
use Rattle.std.specs.Prelude.{◌≡◌, ℕ, List, [], ◌∷◌, ◌||◌, Bool, true, false, Option, Some, None, refl, map}
use Rattle.std.proofs.Common.{cond, sym, ap, ◌∙◌}
use Rattle.std.specs.List.{find}
use Rattle.std.specs.Option.{unwrap_or}
use Rattle.cedar_ids.specs.Texts.{same_text}
use Rattle.cedar_ids.specs.laws.TextLaws.{same_text_equiv, same_text_decides}
use Rattle.cedar_policy.specs.Policies.{PolicyParts, policy_id}
use Rattle.cedar_policy_maps.specs.PolicySets.{SetParts, HasDistinctId, is_body_at}
use Rattle.cedar_policy_maps.specs.Maps.{CanMakeSet, IsPlacedBy}

other_id : (i j : List ℕ) (v : Bool) → same_text i j ≡ v → (Some i ≡ Some j → ⊥) → v ≡ false
other_id i j true e n = absurd (n (ap Some ((same_text_decides i j).0 e)))
other_id i j false e n = refl

abbrev set_of : PolicyParts → SetParts
set_of p = record { bodies = p.template ∷ []; policies = p ∷ [] }

stands : (p : PolicyParts) → find (is_body_at p.template.id) (p.template ∷ []) ≡ Some p.template
stands p = ap (λ v. cond v (Some p.template) None) (same_text_equiv.refl p.template.id)

placed : (o : Option (List ℕ)) (p : PolicyParts) → o ≡ p.link → (o ≡ Some p.template.id → ⊥)
    → IsPlacedBy o (set_of p) p
placed None p e own = stands p
placed (Some l) p e own =
    let apart = other_id l p.template.id (same_text l p.template.id) refl own in
    let is : policy_id p ≡ l = ap (λ o. unwrap_or o p.template.id) (sym e) in (
      ap (λ v. v || false) apart,
      stands p,
      (λ j. same_text p.template.id (is j) || false)
          ∙ ap (λ v. v || false) (same_text_equiv.symm p.template.id l ∙ apart),
    )

-- The maps of one policy agree if a link has another id than its template.
pub one_makes : (p : PolicyParts) → HasDistinctId p →
    CanMakeSet (record {
      bodies = (p.template.id, p.template) ∷ [];
      policies = (policy_id p, p) ∷ [];
      listed = (p.template.id, policy_id p ∷ []) ∷ [];
    })
one_makes p own = record {
  placed = (placed p.link p refl own, tt);
  bodies_by_id = refl;
  policies_by_id = refl;
  all_listed =
      sym (ap (λ v. (p.template.id, map policy_id (cond v (p ∷ []) [])) ∷ []) (same_text_equiv.refl p.template.id));
}
