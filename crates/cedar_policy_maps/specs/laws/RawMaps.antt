-- Maps from a caller agree, by the properties of every map and every policy.
use Rattle.std.specs.Prelude.{◌≡◌, ℕ, List, [], ◌∷◌, Bool, false, not, ◌||◌, Option, Some, None, All, refl, map}
use Rattle.std.proofs.Common.{sym, ap, ◌∙◌, subst}
use Rattle.std.specs.List.{AllByRecursion, IsDistinct, filter, list_any}
use Rattle.std.proofs.lemmas.List.Elements.{recursion_from_All}
use Rattle.std.specs.Map.{keys_of, values_of}
use Rattle.std.specs.declared.rc.Rc.{Rc}
use Rattle.std.specs.declared.alloc.Global.{Global}
use Rattle.cedar_ids.specs.Texts.{same_text}
use Rattle.cedar_body.specs.Bodies.{BodyParts, body_slots}
use Rattle.cedar_binding.specs.Bindings.{FitsSlots}
use Rattle.cedar_policy.specs.Policies.{PolicyParts, policy_id, static_policy}
use Rattle.cedar_policy_maps.specs.PolicySets.{SetParts, AreOnce, AreHeld, IsHeldBy, is_policy_at}
use Rattle.cedar_policy_maps.specs.Maps.{Maps, set_in, shared_of, ArePlaced, IsPlacedBy, CanMakeSet, DoAgree}
use Rattle.cedar_policy_maps.specs.laws.OnceLaws.{any-map}
use Rattle.cedar_policy_maps.specs.laws.TemplateLaws.{templates_listed}

-- The properties of a policy that its accessors state. A policy without a link is the static policy of its template,
-- which has no slots. The bindings fit the slots.
pub record IsWhole (p : PolicyParts) : Type 0 where
  pub whole : p.link ≡ None → p ≡ static_policy p.template
  pub slotless : p.link ≡ None → body_slots p.template ≡ []
  pub fits : FitsSlots (body_slots p.template) p.env

placed_held : (o : Option (List ℕ)) (b : SetParts) (p : PolicyParts) → o ≡ p.link → IsWhole p → IsPlacedBy o b p
    → IsHeldBy o b p
placed_held None b p e w k = (w.whole (sym e), w.slotless (sym e), k)
placed_held (Some l) b p e w k = (k.0, k.1, k.2, w.fits)

all_held : (b : SetParts) (ps : List PolicyParts) → AllByRecursion IsWhole ps → ArePlaced b ps → AreHeld b ps
all_held b [] w k = tt
all_held b (p ∷ ps) w k = (placed_held p.link b p refl w.0 k.0, all_held b ps w.1 k.1)

neither : (a c : Bool) → a ≡ false → c ≡ false → (a || c) ≡ false
neither a c p q = cc

none_alike : (i : List ℕ) (ks : List (List ℕ)) → AllByRecursion (λ k. same_text i k ≡ false) ks
    → list_any (same_text i) ks ≡ false
none_alike i [] h = refl
none_alike i (k ∷ ks) h = neither (same_text i k) (list_any (same_text i) ks) h.0 (none_alike i ks h.1)

-- If the ids of values are distinct as keys, no two values have the same id.
distinct_once : {A : Type 0} (id : A → List ℕ) (xs : List A) → IsDistinct same_text (map id xs) → AreOnce id xs
unfolding IsDistinct
distinct_once id [] h = tt
distinct_once id (x ∷ xs) h = (
  sym (any-map id (same_text (id x)) xs)
      ∙ none_alike (id x) (map id xs) h.0,
  distinct_once id xs h.1,
)

-- Shared values have the same keys.
pub shared_keys : (es : List (List ℕ × Rc BodyParts Global)) → keys_of es ≡ keys_of (shared_of es)
shared_keys [] = refl
shared_keys (e ∷ es) = ap (λ ks. e.0 ∷ ks) (shared_keys es)

-- Maps from a caller agree after the lists of static policies are removed, if their keys are distinct and the policies
-- have their properties.
pub raw_agree : (m : Maps) (ls : List (List ℕ × List (List ℕ))) → IsDistinct same_text (keys_of m.bodies)
    → IsDistinct same_text (keys_of m.policies) → All IsWhole (values_of m.policies) → CanMakeSet m →
    ls ≡ filter (λ e. not (list_any (is_policy_at e.0) (values_of m.policies))) m.listed
    → DoAgree (record { bodies = m.bodies; policies = m.policies; listed = ls })
raw_agree m ls d e w h q = record {
  policy_set = record {
    bodies_once = distinct_once (λ (t : BodyParts). t.id) (values_of m.bodies)
        (subst (IsDistinct same_text) h.bodies_by_id d);
    policies_once = distinct_once policy_id (values_of m.policies) (subst (IsDistinct same_text) h.policies_by_id e);
    held = all_held (set_in m) (values_of m.policies) (recursion_from_All IsWhole (values_of m.policies) w) h.placed;
  };
  bodies_by_id = h.bodies_by_id;
  policies_by_id = h.policies_by_id;
  all_listed =
      q ∙ ap (filter (λ e. not (list_any (is_policy_at e.0) (values_of m.policies)))) h.all_listed
      ∙ templates_listed (values_of m.bodies) (values_of m.policies) (values_of m.policies);
}
