-- Lookups by a valid id, and of an annotation by a valid key.
use Rattle.std.proofs.Common.{◌≡◌, ℕ, List, [], ◌∷◌, true, false, refl, subst, sym}
use Rattle.std.specs.Prelude.{Option, Some, None}
use Rattle.cedar_ids.specs.TextOf.{IsIdentifierText}
use Rattle.cedar_annotation.specs.Annotations.{AnnotationsView, value_at}
use Rattle.cedar_policy_maps.specs.PolicySets.{SetParts}
use Rattle.cedar_c_sets.specs.Reads.{IsValueEncoded}

-- A lookup by a valid id is a lookup by its bytes.
pub found : {X : Type 0} (at : SetParts → List ℕ → Option X) (b : SetParts) (i id : List ℕ) (x : X) → i ≡ id
    → Some x ≡ at b i → at b id ≡ Some x
found at b i id x is f = sym (subst (λ n. Some x ≡ at b n) is f)

-- A valid key is its text.
pub own_key : (k text : List ℕ) → IsIdentifierText k text → IsIdentifierText text text
own_key k text r = subst (λ t. IsIdentifierText t t) (sym r.1) (r.0, refl)

-- The texts for an annotation with a valid key.
pub told_none : (key k : List ℕ) (a : AnnotationsView) (texts : List (List ℕ)) → key ≡ k → None ≡ value_at k a
    → texts ≡ [] → IsValueEncoded (value_at key a) false texts
told_none key k a texts is f p =
    subst (λ o. IsValueEncoded o false texts) (subst (λ n. None ≡ value_at n a) (sym is) f) (refl, p)

pub told_one : (key k v : List ℕ) (a : AnnotationsView) (texts : List (List ℕ)) → key ≡ k → Some v ≡ value_at k a
    → texts ≡ v ∷ [] → IsValueEncoded (value_at key a) true texts
told_one key k v a texts is f p =
    subst (λ o. IsValueEncoded o true texts) (subst (λ n. Some v ≡ value_at n a) (sym is) f) (refl, p)
